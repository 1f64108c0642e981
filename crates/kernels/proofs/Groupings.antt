-- One group of a list: its fill, and the codes in front of the fill.
use Rattle.std.proofs.Common.{◌≡◌, ℕ, zero, suc, ◌-◌, ◌≤◌, min, true, List, [], ◌∷◌, ◌++◌, length, get_or, take, drop, replicate, ℤ, pos, negsuc, Some, None, Option, sym, refl, ap, ◌∙◌, subst, inl, inr, arith}
use Rattle.std.specs.List.{AllByRecursion}
use Rattle.std.proofs.lemmas.List.{length-append, length-replicate, length-drop, length-take, append-nil, take_all, take_at, drop_all, drop_at, take-append-drop}
use Rattle.std.proofs.ByRecursion.{All-append, All-take}
use Rattle.std.proofs.lemmas.Bool.{cases_lt, cases_Bool, and_parts, cond-true, cond-false, eqb-true, false≢true}
use Rattle.codes.specs.declared.shape.Shape.{Shape}
use Rattle.codes.specs.declared.side.Side.{Side}
use Rattle.codes.specs.Codes.{Within}
use Rattle.codes.specs.Shapes.{ends_on}
use Rattle.codes.proofs.Extremes.{all_replicate}
use Rattle.kernels.specs.Groups.{Packing, Unpacking, Packs, Unpacks, Group, filled}
use Rattle.kernels.specs.Lists.{is_zero, all_zero, first_codes}

-- ---- the fill

fill_zero : (k : ℕ) → all_zero (replicate k (pos 0)) ≡ true
fill_zero zero = refl
fill_zero (suc k) = fill_zero k

pub zero_is : (x : ℤ) → is_zero x ≡ true → x ≡ pos 0
zero_is (pos n) h = ap pos (eqb-true n 0 h)
zero_is (negsuc n) h = absurd (false≢true h)

all_zero_is : (xs : List ℤ) → all_zero xs ≡ true → xs ≡ replicate (length xs) (pos 0)
all_zero_is [] h = refl
all_zero_is (x ∷ xs) h =
    let p = and_parts (is_zero x) (all_zero xs) h in
    ap (λ y. y ∷ xs) (zero_is x p.0) ∙ ap (λ ys. pos 0 ∷ ys) (all_zero_is xs p.1)

pub length_filled : (m : ℕ) (xs : List ℤ) → length xs ≤ m → length (filled m xs) ≡ m
length_filled m xs l = simp (length-append, length-replicate) (omega arith)

-- a full group needs no fill
pub filled_full : (m : ℕ) (xs : List ℤ) → length xs ≡ m → filled m xs ≡ xs
filled_full m xs e =
    let z : m - length xs ≡ 0 = omega arith in
    ap (λ k. xs ++ replicate k (pos 0)) z ∙ append-nil xs

-- the places of the fill read 0, as those past the codes do
pub code_filled : (n place : ℕ) (codes : List ℤ) → get_or (codes ++ replicate n (pos 0)) place (pos 0) ≡ get_or codes place (pos 0)
code_filled zero place [] = refl
code_filled (suc n) zero [] = refl
code_filled (suc n) (suc place) [] = code_filled n place []
code_filled n zero (code ∷ codes) = refl
code_filled n (suc place) (code ∷ codes) = code_filled n place codes

-- ---- the codes in front of the fill

tail_zero : (m n : ℕ) (xs : List ℤ) → length xs ≡ min m n → all_zero (drop n (filled m xs)) ≡ true
tail_zero m n xs e =
    elim (cases_lt n m) [
      | inl l ↦ ap all_zero (drop_at xs (replicate (m - length xs) (pos 0)) n (omega arith)) ∙ fill_zero (m - length xs)
      | inr l ↦ ap all_zero (drop_all n (filled m xs) (omega (arith, length_filled m xs (omega arith))))
    ]

front_is : (m n : ℕ) (xs : List ℤ) → length xs ≡ min m n → take n (filled m xs) ≡ xs
front_is m n xs e =
    elim (cases_lt n m) [
      | inl l ↦ take_at xs (replicate (m - length xs) (pos 0)) n (omega arith)
      | inr l ↦ take_all n (filled m xs) (omega (arith, length_filled m xs (omega arith))) ∙ filled_full m xs (omega arith)
    ]

pub first_of_filled : (m n : ℕ) (xs : List ℤ) → length xs ≡ min m n → first_codes n (Some (filled m xs)) ≡ Some xs
first_of_filled m n xs e = cond-true _ _ _ (tail_zero m n xs e) ∙ ap Some (front_is m n xs e)

-- a group whose codes behind the first n are 0 is the first n, filled up
pub filled_first : (m n : ℕ) (codes : List ℤ) → length codes ≡ m → all_zero (drop n codes) ≡ true → filled m (take n codes) ≡ codes
filled_first m n codes e z =
    let k : m - length (take n codes) ≡ length (drop n codes) = simp (length-take, length-drop) (omega arith) in
    ap (λ i. take n codes ++ replicate i (pos 0)) k ∙ ap (λ ys. take n codes ++ ys) (sym (all_zero_is (drop n codes) z)) ∙ take-append-drop n codes

-- what the first n codes of a group come from
pub record FirstOf (n : ℕ) (o : Option (List ℤ)) (codes : List ℤ) : Type 0 where
  pub group : List ℤ
  pub is : o ≡ Some group
  pub rest : all_zero (drop n group) ≡ true
  pub front : codes ≡ take n group

some_same : {X : Type 0} (x y : X) → Some x ≡ Some y → x ≡ y
some_same x y e = cc

pub first_from : (n : ℕ) (o : Option (List ℤ)) (codes : List ℤ) → first_codes n o ≡ Some codes → FirstOf n o codes
first_from n None codes h = absurd (let z : ◌≡◌ {A = ℕ} 0 1 = cc in omega arith)
first_from n (Some group) codes h =
    elim (cases_Bool (all_zero (drop n group))) [
      | inl z ↦ record { group = group; is = refl; rest = z; front = some_same codes (take n group) (sym h ∙ cond-true _ _ _ z) }
      | inr z ↦ absurd (let e : None ≡ Some codes = sym (cond-false _ _ _ z) ∙ h in let y : ◌≡◌ {A = ℕ} 0 1 = cc in omega arith)
    ]

-- ---- a group and its packing

module _ (packed : Packing) (unpacked : Unpacking) (s : Shape) (side : Side) (packs : Packs packed unpacked s) (unpacks : Unpacks packed unpacked s) where
  pub filled_group : (codes : List ℤ) → Within (ends_on s side) (pos 0) → length codes ≤ s.group → AllByRecursion (Within (ends_on s side)) codes → Group s side (filled s.group codes)
  filled_group codes z l w =
      record {
        full = length_filled s.group codes l;
        within = All-append (Within (ends_on s side)) codes _ w (all_replicate (Within (ends_on s side)) (s.group - length codes) (pos 0) z);
      }

  -- the words that pack codes and their fill give these codes
  pub group_first : (n : ℕ) (words : List ℕ) (codes : List ℤ) → Within (ends_on s side) (pos 0) → length codes ≡ min s.group n → AllByRecursion (Within (ends_on s side)) codes
      → words ≡ packed side (filled s.group codes) → first_codes n (unpacked side words) ≡ Some codes
  group_first n words codes z l w e =
      ap (λ ws. first_codes n (unpacked side ws)) e
      ∙ ap (first_codes n) (packs side (filled s.group codes) (filled_group codes z (omega arith) w)).1
      ∙ first_of_filled s.group n codes l

  -- and words that give codes pack them
  pub group_packs : (n : ℕ) (words : List ℕ) (codes : List ℤ) → first_codes n (unpacked side words) ≡ Some codes
      → (length codes ≡ min s.group n) × AllByRecursion (Within (ends_on s side)) codes × (words ≡ packed side (filled s.group codes))
  group_packs n words codes h =
      let f = first_from n (unpacked side words) codes h in
      let u = unpacks side words f.group f.is in (
        ap length f.front ∙ length-take n f.group ∙ omega (arith, u.0.full),
        subst (AllByRecursion (Within (ends_on s side))) (sym f.front) (All-take (Within (ends_on s side)) n f.group u.0.within),
        sym u.1 ∙ ap (packed side) (sym (filled_first s.group n f.group u.0.full f.rest) ∙ ap (filled s.group) (sym f.front)),
      )
