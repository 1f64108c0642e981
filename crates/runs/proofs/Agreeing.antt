-- Reads after the same columns give the same sum.
use Rattle.std.proofs.Common.{◌≡◌, ℕ, zero, suc, ◌<◌, List, [], ◌∷◌, length, get_or, set, ℤ, ◌+ℤ◌, sym, refl, ap, ◌∙◌, inl, inr, arith, length-set, get_or-set_other, get_or-set_same}
use Rattle.std.specs.List.{swap}
use Rattle.std.specs.List.Sorted.{IsPermutation}
use Rattle.std.proofs.lemmas.Int.{ints}
use Rattle.std.proofs.lemmas.List.Sorted.{IsPermutation-keeps}
use Rattle.std.proofs.lemmas.Bool.{cases_eq}
use Rattle.codes.specs.declared.facts.Facts.{Facts}
use Rattle.codes.specs.declared.zero_points.ZeroPoints.{ZeroPoints}
use Rattle.codes.specs.Sums.{sum_of, term, pair_at, row_of, exact_sum}
use Rattle.kernels.specs.Groups.{Unpacking}
use Rattle.runs.specs.declared.calls.Call.{Call}
use Rattle.runs.specs.declared.calls.Answer.{Answer}
use Rattle.runs.specs.Stories.{columns_of}
use Rattle.runs.specs.Law.{open_at, ReadsExact, Agree}
use Rattle.runs.proofs.Totals.{sum_map}

-- ---- sums of lists in another order

lin_set : (a b c s t : ℤ) → t +ℤ b ≡ s +ℤ a → (c +ℤ t) +ℤ b ≡ (c +ℤ s) +ℤ a
lin_set a b c s t e = omega (arith, ints)

lin_here : (x a s : ℤ) → (a +ℤ s) +ℤ x ≡ (x +ℤ s) +ℤ a
lin_here x a s = omega (arith, ints)

sum_set : {X : Type 0} (h : X → ℤ) (l : List X) (i : ℕ) (a d : X) → i < length l → sum_of h (set l i a) +ℤ h (get_or l i d) ≡ sum_of h l +ℤ h a
sum_set h [] i a d k = absurd (let no : i < 0 = k in omega arith)
sum_set h (x ∷ l) zero a d k = lin_here (h x) (h a) (sum_of h l)
sum_set h (x ∷ l) (suc i) a d k = let k' : suc i < suc (length l) = k in lin_set (h a) (h (get_or l i d)) (h x) (sum_of h l) (sum_of h (set l i a)) (sum_set h l i a d (omega arith))

lin_swap : (l w v a b : ℤ) → w +ℤ a ≡ l +ℤ b → v +ℤ b ≡ w +ℤ a → v ≡ l
lin_swap l w v a b e f = omega (arith, ints)

sum_exchanged : {X : Type 0} (f : X → ℤ) (l : List X) (i j : ℕ) → i < length l → j < length l → sum_of f (swap l i j) ≡ sum_of f l
sum_exchanged f [] i j p q = refl
sum_exchanged {X} f (d ∷ ys) i j p q =
    let l : List X = d ∷ ys in
    let w : List X = set (d ∷ ys) i (get_or (d ∷ ys) j d) in
    let long : length w ≡ length l = length-set l i (get_or l j d) in
    let there : get_or w j d ≡ get_or l j d = elim (cases_eq j i) [ inl e ↦ ap (λ n. get_or w n d) e ∙ get_or-set_same l i (get_or l j d) d p | inr n ↦ get_or-set_other l i j (get_or l j d) d n ] in
    let first = sum_set f l i (get_or l j d) d p in
    let second = sum_set f w j (get_or l i d) d (omega arith) in
    let second' : sum_of f (set w j (get_or l i d)) +ℤ f (get_or l j d) ≡ sum_of f w +ℤ f (get_or l i d) = ap (λ (z : X). sum_of f (set w j (get_or l i d)) +ℤ f z) (sym there) ∙ second in
    lin_swap (sum_of f l) (sum_of f w) (sum_of f (set w j (get_or l i d))) (f (get_or l i d)) (f (get_or l j d)) first second'

sum_shuffled : {X : Type 0} (f : X → ℤ) (xs ys : List X) → IsPermutation xs ys → sum_of f ys ≡ sum_of f xs
sum_shuffled f xs ys = IsPermutation-keeps xs (λ l. sum_of f l ≡ sum_of f xs) refl (λ l i j p q h. sum_exchanged f l i j p q ∙ h) ys

-- ---- two runs

pub agree : (f g : Facts) (u v : Unpacking) (calls others : List Call) (answers replies : List Answer) → ReadsExact f u calls answers (open_at []) → ReadsExact g v others replies (open_at []) → Agree f u calls answers g v others replies
agree f g u v calls others answers replies A B same row x y steps drains steps' drains' s t R S shuffled =
    (A row x steps drains s R).exact
    ∙ ap (λ (z : ZeroPoints). exact_sum z (row_of row (columns_of s))) same.zeros
    ∙ sum_map (term g.zeros) (pair_at row) (columns_of s)
    ∙ sym (sum_shuffled (λ c. term g.zeros (pair_at row c)) (columns_of s) (columns_of t) shuffled)
    ∙ sym (sum_map (term g.zeros) (pair_at row) (columns_of t))
    ∙ sym (B row y steps' drains' t S).exact
