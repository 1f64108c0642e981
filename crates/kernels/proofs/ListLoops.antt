-- The loops that pack and unpack a list: one group more, and all of them.
use Rattle.std.proofs.Common.{◌≡◌, ℕ, suc, ◌+◌, ◌-◌, ◌*◌, ◌<◌, ◌≤◌, Bool, true, false, cond, ◌&&◌, eqb, leb, List, ◌++◌, length, take, drop, ℤ, is_ok, Some, None, Ok, Option, Result, sym, refl, ap, ◌∙◌, subst, append_assoc, add-mul, one-mul, zero-mul, arith}
use borrow.Rule.Slice.PartMut.{put_mid}
use Rattle.std.specs.List.{AllByRecursion}
use Rattle.std.proofs.lemmas.Nat.{mul-le}
use Rattle.std.proofs.lemmas.List.{take_all, append-nil, drop-drop}
use Rattle.std.proofs.lemmas.Slice.{take-put_mid}
use Rattle.std.proofs.lemmas.Bool.{cond-true, and_from, le-leb, eq-eqb}
use Rattle.codes.specs.declared.shape.Shape.{Shape}
use Rattle.codes.specs.declared.side.Side.{Side}
use Rattle.codes.specs.Codes.{Within}
use Rattle.codes.specs.Shapes.{ends_on, words_on}
use Rattle.codes.proofs.Outside.{none_outside_from, first_place}
use Rattle.kernels.specs.declared.refusal.PackRefusal.{PackRefusal}
use Rattle.kernels.specs.declared.refusal.PackRefusal.TheVariants.{Count, Words}
use Rattle.kernels.specs.Groups.{filled}
use Rattle.kernels.specs.Answers.{ask, none_outside, pack_answer, group_answer}
use Rattle.kernels.specs.Lists.{packed_groups}

-- ---- packing

-- a packing that no question refuses
pack_ok : (most needed : ℕ) (s : Shape) (side : Side) (codes : List ℤ) (words : ℕ) → 1 ≤ length codes → length codes ≤ most → words ≡ needed → AllByRecursion (Within (ends_on s side)) codes
    → pack_answer most needed s side codes words ≡ Ok tt
pack_ok most needed s side codes words l u e w =
    cond-true _ _ _ (and_from (leb 1 (length codes)) (leb (length codes) most) (le-leb 1 (length codes) l) (le-leb (length codes) most u))
    ∙ cond-true _ _ _ (eq-eqb words needed e)
    ∙ ap none_outside (none_outside_from 0 (ends_on s side) codes w)

-- what a group's words hold after a packing that no question refuses
pub group_written : (s : Shape) (side : Side) (codes : List ℤ) (words : ℕ) (r : Result (Unit {0}) PackRefusal) (new written before : List ℕ)
    → 1 ≤ length codes → length codes ≤ s.group → words ≡ words_on s side → AllByRecursion (Within (ends_on s side)) codes
    → r ≡ group_answer s side codes words → new ≡ cond (is_ok r) written before → new ≡ written
group_written s side codes words r new written before l u e w answer after =
    after ∙ ap (λ x. cond (is_ok x) written before) (answer ∙ pack_ok s.group (words_on s side) s side codes words l u e w)

-- one group more
pub write_more : (p : List ℤ → List ℕ) (m w : ℕ) (codes : List ℤ) (words ys whole : List ℕ) (g n k : ℕ) → g < n → g * w ≤ length words → length ys ≡ w
    → ys ≡ p (filled m (take m (drop (g * m) codes)))
    → take (g * w) words ++ packed_groups p m (n - g) (drop (g * m) codes) ≡ whole
    → take ((g + 1) * w) (put_mid (g * w) k words ys) ++ packed_groups p m (n - (g + 1)) (drop ((g + 1) * m) codes) ≡ whole
write_more p m w codes words ys whole g n k h fits long is inv =
    let rest : List ℕ = packed_groups p m (n - (g + 1)) (drop ((g + 1) * m) codes) in
    let left : n - g ≡ suc (n - (g + 1)) = omega arith in
    let end : (g + 1) * w ≡ g * w + length ys = omega (arith, add-mul g 1 w, one-mul w) in
    let on : (g + 1) * m ≡ g * m + m = omega (arith, add-mul g 1 m, one-mul m) in
    ap (λ t. t ++ rest) (take-put_mid (g * w) k words ys ((g + 1) * w) end fits)
    ∙ append_assoc (take (g * w) words) ys rest
    ∙ ap (λ y. take (g * w) words ++ (y ++ rest)) is
    ∙ ap (λ xs. take (g * w) words ++ (p (filled m (take m (drop (g * m) codes))) ++ packed_groups p m (n - (g + 1)) xs)) (ap (λ i. drop i codes) on ∙ sym (drop-drop m (g * m) codes))
    ∙ ap (λ j. take (g * w) words ++ packed_groups p m j (drop (g * m) codes)) (sym left)
    ∙ inv

-- the same at a turn of the loop, where its numbers are known by other names
pub write_turn : (p : List ℤ → List ℕ) (m w width : ℕ) (codes : List ℤ) (words ys whole : List ℕ) (g before after n k : ℕ) → w ≡ width → g ≡ before → after ≡ g + 1 → g < n → g * w ≤ length words → length ys ≡ w
    → ys ≡ p (filled m (take m (drop (g * m) codes)))
    → take (before * width) words ++ packed_groups p m (n - before) (drop (before * m) codes) ≡ whole
    → take (after * width) (put_mid (g * w) k words ys) ++ packed_groups p m (n - after) (drop (after * m) codes) ≡ whole
write_turn p m w width codes words ys whole g before after n k same at next h fits long is inv =
    let P : ℕ → ℕ → List ℕ → Type 0 = λ i x ws. take (i * x) ws ++ packed_groups p m (n - i) (drop (i * m) codes) ≡ whole in
    let here : P g w words = subst (λ (i : ℕ). P i w words) (sym at) (subst (λ (x : ℕ). P before x words) (sym same) inv) in
    let more : P (g + 1) w (put_mid (g * w) k words ys) = write_more p m w codes words ys whole g n k h fits long is here in
    subst (λ (i : ℕ). P i width (put_mid (g * w) k words ys)) (sym next) (subst (λ (x : ℕ). P (g + 1) x (put_mid (g * w) k words ys)) same more)

-- no group yet
pub write_none : (p : List ℤ → List ℕ) (m w : ℕ) (codes : List ℤ) (words : List ℕ) (n : ℕ) → take (0 * w) words ++ packed_groups p m (n - 0) (drop (0 * m) codes) ≡ packed_groups p m n codes
write_none p m w codes words n =
    let z : n - 0 ≡ n = omega arith in
    ap (λ i. take i words ++ packed_groups p m (n - 0) (drop (0 * m) codes)) (zero-mul w)
    ∙ ap (λ i. packed_groups p m (n - 0) (drop i codes)) (zero-mul m)
    ∙ ap (λ i. packed_groups p m i codes) z

-- all groups
pub write_all : (p : List ℤ → List ℕ) (m w : ℕ) (codes : List ℤ) (words whole : List ℕ) (g n : ℕ) → n ≤ g → length words ≡ n * w
    → take (g * w) words ++ packed_groups p m (n - g) (drop (g * m) codes) ≡ whole → words ≡ whole
write_all p m w codes words whole g n e l inv =
    let z : n - g ≡ 0 = omega arith in
    let t : take (g * w) words ≡ words = take_all (g * w) words (omega (arith, l, mul-le n w g w e (omega arith))) in
    sym (ap (λ j. take (g * w) words ++ packed_groups p m j (drop (g * m) codes)) z ∙ (append-nil (take (g * w) words) ∙ t)) ∙ inv

-- a question that was answered with yes
pub asked : {T E : Type 0} (test : Bool) (e : E) (next : Result T E) (x : T) → Ok x ≡ ask test e next → Ok x ≡ next
asked true e next x h = h
asked false e next x h = absurd (let z : ◌≡◌ {A = ℕ} 0 1 = cc in omega arith)

no_place : (o : Option ℕ) → Ok tt ≡ none_outside o → None ≡ o
no_place None h = refl
no_place (Some place) h = absurd (let z : ◌≡◌ {A = ℕ} 0 1 = cc in omega arith)

-- all codes that are packed lie within their ends
pub packed_within : (most needed : ℕ) (s : Shape) (side : Side) (codes : List ℤ) (words : ℕ) → Ok tt ≡ pack_answer most needed s side codes words → AllByRecursion (Within (ends_on s side)) codes
packed_within most needed s side codes words h =
    first_place (ends_on s side) codes None (no_place _ (asked (eqb words needed) Words _ tt (asked (leb 1 (length codes) && leb (length codes) most) Count _ tt h)))
