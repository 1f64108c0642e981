-- The loops that read the places of one group.
use Rattle.std.proofs.Common.{◌≡◌, ℕ, zero, suc, ◌+◌, ◌-◌, ◌<◌, ◌≤◌, Bool, true, false, cond, ◌&&◌, eqb, ltb, List, [], ◌∷◌, ◌++◌, length, get_or, take, drop, set, ℤ, pos, is_some, is_ok, is_err, Some, None, Ok, Option, Result, sym, refl, ap, ◌∙◌, subst, inl, inr, arith}
use Rattle.std.proofs.lemmas.List.{take_more, take_more_set}
use Rattle.std.specs.List.{list_all, range_with_len}
use Rattle.std.proofs.lemmas.List.Folds.{list_all_at}
use Rattle.std.proofs.lemmas.List.FromFn.{length-range_with_len, get_or-range_with_len}
use Rattle.std.proofs.lemmas.Bool.{cases_Bool, cond-true, cond-false, and_left, and_right, lt-ltb, eq-eqb, true≢false}
use Rattle.codes.specs.declared.shape.Shape.{Shape}
use Rattle.codes.specs.declared.side.Side.{Side}
use Rattle.codes.specs.Shapes.{words_on}
use Rattle.kernels.specs.declared.refusal.CodeRefusal.{CodeRefusal}
use Rattle.kernels.specs.declared.refusal.CodeRefusal.TheVariants.{Place, Length}
use Rattle.kernels.specs.Groups.{Packing as PackingOf, Unpacking, Packs, Unpacks}
use Rattle.kernels.specs.Answers.{ask, code_in}
use Rattle.kernels.specs.Lists.{is_zero, all_zero, first_codes}
use Rattle.kernels.specs.Reads.{reads_zero}
use Rattle.kernels.proofs.Groupings.{zero_is}
use Rattle.kernels.proofs.ListLoops.{asked}

-- words that are a packing are as many as the group takes
pub packing_length : (packed : PackingOf) (unpacked : Unpacking) (s : Shape) (side : Side) → Packs packed unpacked s → Unpacks packed unpacked s
    → (words : List ℕ) (codes : List ℤ) → unpacked side words ≡ Some codes → length words ≡ words_on s side
packing_length packed unpacked s side packs unpacks words codes h =
    let u = unpacks side words codes h in ap length (sym u.1) ∙ (packs side codes u.0).0

-- what reading a place answers, where the words unpack to o
abbrev pub read_at : Shape → Side → (words : ℕ) → Option (List ℤ) → (place : ℕ) → Result ℤ CodeRefusal
read_at s side words o place = ask (ltb place s.group) Place (ask (eqb words (words_on s side)) Length (code_in o place))

pub reads : (s : Shape) (side : Side) (words : ℕ) (codes : List ℤ) (place : ℕ) → place < s.group → words ≡ words_on s side → read_at s side words (Some codes) place ≡ Ok (get_or codes place (pos 0))
reads s side words codes place l e = cond-true _ _ _ (lt-ltb place s.group l) ∙ cond-true _ _ _ (eq-eqb words (words_on s side) e)

pub read_in : (s : Shape) (side : Side) (words : ℕ) (o : Option (List ℤ)) (place : ℕ) (code : ℤ) → Ok code ≡ read_at s side words o place → Ok code ≡ code_in o place
read_in s side words o place code h = asked (eqb words (words_on s side)) Length (code_in o place) code (asked (ltb place s.group) Place _ code h)

-- ---- the fill

-- words that unpack, and code 0 at each place from one to another
abbrev pub Zeros : Option (List ℤ) → (from to : ℕ) → Type 0
Zeros None from to = ⊥
Zeros (Some codes) from to = (q : ℕ) → from ≤ q → q < to → get_or codes q (pos 0) ≡ pos 0

pub all_are_zero : (codes : List ℤ) (used : ℕ) → ((q : ℕ) → used ≤ q → q < length codes → get_or codes q (pos 0) ≡ pos 0) → all_zero (drop used codes) ≡ true
all_are_zero [] zero h = refl
all_are_zero [] (suc used) h = refl
all_are_zero (c ∷ codes) zero h =
    ap (λ x. is_zero x && all_zero codes) (h 0 (omega arith) (omega arith)) ∙ all_are_zero codes zero (λ q l k. h (suc q) (omega arith) (omega arith))
all_are_zero (c ∷ codes) (suc used) h = all_are_zero codes used (λ q l k. h (suc q) (omega arith) (omega arith))

pub some_not_zero : (codes : List ℤ) (used place : ℕ) → used ≤ place → is_zero (get_or codes place (pos 0)) ≡ false → all_zero (drop used codes) ≡ false
some_not_zero [] used place l h = absurd (true≢false h)
some_not_zero (c ∷ codes) zero zero l h = and_left (is_zero c) (all_zero codes) h
some_not_zero (c ∷ codes) zero (suc place) l h = and_right (is_zero c) (all_zero codes) (some_not_zero codes zero place (omega arith) h)
some_not_zero (c ∷ codes) (suc used) zero l h = absurd (omega arith)
some_not_zero (c ∷ codes) (suc used) (suc place) l h = some_not_zero codes used place (omega arith) h

-- all of the fill reads 0
pub zeros_all : (o : Option (List ℤ)) (used place : ℕ) → ((codes : List ℤ) → o ≡ Some codes → length codes ≤ place) → Zeros o used place → true ≡ is_some (first_codes used o)
zeros_all None used place full i = absurd i
zeros_all (Some codes) used place full i =
    let l = full codes refl in
    sym (ap (λ b. is_some (cond b (Some (take used codes)) None)) (all_are_zero codes used (λ q k u. i q k (omega arith))))

-- a place of the fill does not
pub zeros_fail : (read : Result ℤ CodeRefusal) (s : Shape) (side : Side) (words : ℕ) (o : Option (List ℤ)) (used place : ℕ) → read ≡ read_at s side words o place → false ≡ reads_zero read
    → used ≤ place → place < s.group → ((codes : List ℤ) → o ≡ Some codes → words ≡ words_on s side) → false ≡ is_some (first_codes used o)
zeros_fail read s side words None used place h z l u law = refl
zeros_fail read s side words (Some codes) used place h z l u law =
    let here : is_zero (get_or codes place (pos 0)) ≡ false = sym (z ∙ ap reads_zero (h ∙ reads s side words codes place u (law codes refl))) in
    sym (ap (λ b. is_some (cond b (Some (take used codes)) None)) (some_not_zero codes used place l here))

-- the first place is not read
pub none_read : (read : Result ℤ CodeRefusal) (s : Shape) (side : Side) (words : ℕ) (o : Option (List ℤ)) (used : ℕ) → read ≡ read_at s side words o 0 → true ≡ is_err read → 1 ≤ s.group
    → ((codes : List ℤ) → o ≡ Some codes → words ≡ words_on s side) → false ≡ is_some (first_codes used o)
none_read read s side words None used h z l law = refl
none_read read s side words (Some codes) used h z l law = absurd (true≢false (z ∙ ap is_err (h ∙ reads s side words codes 0 l (law codes refl))))

-- a test of all elements, at one of them
all_at : {X : Type 0} (test : X → Bool) (xs : List X) → list_all test xs ≡ true → (k : ℕ) (d : X) → k < length xs → test (get_or xs k d) ≡ true
all_at test xs all k d l =
    elim (cases_Bool (test (get_or xs k d))) [
      | inl holds ↦ holds
      | inr fails ↦ absurd (true≢false (sym all ∙ list_all_at test xs k d l fails))
    ]

one_fails : {X : Type 0} (test : X → Bool) (xs : List X) → list_all test xs ≡ false → (k : ℕ) × (k < length xs) × ((d : X) → test (get_or xs k d) ≡ false)
one_fails test [] h = absurd (true≢false h)
one_fails test (x ∷ xs) h =
    elim (cases_Bool (test x)) [
      | inr fails ↦ (0, omega arith, λ d. fails)
      | inl holds ↦
          let later = one_fails test xs (sym (ap (λ b. b && list_all test xs) holds) ∙ h) in
          (suc later.0, omega (arith, later.1), later.2)
    ]

-- words of which a place is read
pub record IsGroup (o : Option (List ℤ)) : Type 0 where
  pub codes : List ℤ
  pub is : o ≡ Some codes

pub some_read : (s : Shape) (side : Side) (words : ℕ) (o : Option (List ℤ)) (place : ℕ) → true ≡ is_ok (read_at s side words o place) → IsGroup o
some_read s side words None place h =
    absurd
    (elim (cases_Bool (ltb place s.group)) [
      | inr k ↦ true≢false (h ∙ ap is_ok (cond-false _ _ _ k))
      | inl k ↦ elim (cases_Bool (eqb words (words_on s side))) [
        | inr j ↦ true≢false (h ∙ ap is_ok (cond-true _ _ _ k ∙ cond-false _ _ _ j))
        | inl j ↦ true≢false (h ∙ ap is_ok (cond-true _ _ _ k ∙ cond-true _ _ _ j))
      ]
    ])
some_read s side words (Some codes) place h = record { codes = codes; is = refl }

-- each place of the fill of a packing is asked whether it reads 0
pub fill_asked : (s : Shape) (side : Side) (words : ℕ) (o : Option (List ℤ)) (used : ℕ) → IsGroup o → ((codes : List ℤ) → o ≡ Some codes → (length codes ≡ s.group) × (words ≡ words_on s side))
    → list_all (λ place. reads_zero (read_at s side words o place)) (range_with_len used (s.group - used)) ≡ is_some (first_codes used o)
fill_asked s side words o used group law =
    let codes : List ℤ = group.codes in
    let l = law codes group.is in
    let places : List ℕ = range_with_len used (s.group - used) in
    let test : ℕ → Bool = λ place. reads_zero (read_at s side words o place) in
    elim (cases_Bool (list_all test places)) [
      | inl all ↦
          let zero : (q : ℕ) → used ≤ q → q < s.group → get_or codes q (pos 0) ≡ pos 0 = λ q from to.
          let at : get_or places (q - used) 0 ≡ q = get_or-range_with_len used (s.group - used) (q - used) 0 (omega arith) ∙ omega arith in
          let asked : test q ≡ true = subst (λ (i : ℕ). test i ≡ true) at (all_at test places all (q - used) 0 (omega (arith, length-range_with_len used (s.group - used)))) in
          zero_is _ (sym (ap reads_zero (ap (λ x. read_at s side words x q) group.is ∙ reads s side words codes q to l.1)) ∙ asked) in
          all ∙ zeros_all o used s.group (λ cs is. omega (arith, (law cs is).0)) (subst (λ (x : Option (List ℤ)). Zeros x used s.group) (sym group.is) zero)
      | inr some ↦
          let k = one_fails test places some in
          let there : k.0 < s.group - used = omega (arith, k.1, length-range_with_len used (s.group - used)) in
          let asked : test (used + k.0) ≡ false = subst (λ (i : ℕ). test i ≡ false) (get_or-range_with_len used (s.group - used) k.0 0 there) (k.2 0) in
          some ∙ zeros_fail (read_at s side words o (used + k.0)) s side words o used (used + k.0) refl (sym asked) (omega arith) (omega (arith, there)) (λ codes is. (law codes is).1)
    ]

-- ---- the codes

-- the code that is read at a place
pub code_read : (s : Shape) (side : Side) (words : ℕ) (codes : List ℤ) (place : ℕ) (code : ℤ) → Ok code ≡ read_at s side words (Some codes) place → code ≡ get_or codes place (pos 0)
code_read s side words codes place code h = let k = read_in s side words (Some codes) place code h in cc

-- one code more
pub place_more : (codes all : List ℤ) (place : ℕ) (code : ℤ) → place < length codes → place < length all → code ≡ get_or all place (pos 0) → take place codes ≡ take place all
    → take (place + 1) (set codes place code) ≡ take (place + 1) all
place_more codes all place code l k e inv =
    take_more_set codes place code l ∙ ap (λ xs. xs ++ code ∷ []) inv ∙ ap (λ x. take place all ++ x ∷ []) e ∙ sym (take_more all place (pos 0) k)
