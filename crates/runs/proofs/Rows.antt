-- The rows of a feed, one after another.
use Rattle.std.proofs.Common.{◌≡◌, ℕ, zero, suc, ◌+◌, ◌-◌, ◌*◌, ◌<◌, ◌≤◌, ◌⊎◌, List, length, get_or, take, drop, set, ℤ, pos, Some, None, Ok, Err, Option, Result, sym, refl, ap, ◌∙◌, subst, inl, inr, mul-le-mul_right, mul-le-mul, suc-add, zero-add, zero-mul, add-one, arith, get_or-set_other, get_or-set_same}
use Rattle.std.proofs.lemmas.Bool.{cases_eq}
use Rattle.codes.specs.declared.facts.Facts.{Facts}
use Rattle.codes.specs.declared.side.Side.TheVariants.{Weights}
use Rattle.codes.specs.Codes.{groups}
use Rattle.kernels.specs.Lists.{words_for}
use Rattle.kernels.proofs.ListSizes.{groups_hold, span_is}
use Rattle.runs.specs.Feeds.{row_words, bad_in, or_else, first_bad_row, codes_of}
use Rattle.runs.specs.Passes.{codes_total, list_total}

-- ---- sizes

pub words_few : (count width : ℕ) → count ≤ 65536 → width ≤ 8 → count * width ≤ 524288
words_few count width l k = mul-le-mul {n₂ = 65536} {m₂ = 8} l k

pub rows_few : (rows count width : ℕ) → rows ≤ 64 → count ≤ 65536 → width ≤ 8 → rows * (count * width) ≤ 33554432
rows_few rows count width i l k = mul-le-mul {n₂ = 64} {m₂ = 524288} i (words_few count width l k)

-- the words of a row lie within the words of all rows
pub row_ends : (row rows size : ℕ) → row < rows → row * size + size ≤ rows * size
row_ends row rows size l = let p : suc row * size ≤ rows * size = mul-le-mul_right size l in omega (arith, p)

-- the words of a row as they are cut by place
pub row_part : (f F : Facts) (n size row : ℕ) (weights : List ℕ) → size ≡ words_for f.shape Weights n → f ≡ F
    → take ((row * size + size) - row * size) (drop (row * size) weights) ≡ row_words F.shape n weights row
row_part f F n size row weights es e =
    span_is weights (row * size) size ∙ ap (λ i. take i (drop (row * i) weights)) (es ∙ ap (λ (x : Facts). words_for x.shape Weights n) e)

-- the words of a row of some codes are some
pub row_some : (f : Facts) (n : ℕ) → 1 ≤ n → 1 ≤ words_for f.shape Weights n
row_some f n l =
    let g : ℕ = groups f.shape.group n in
    let hold = groups_hold f.shape.group n f.shape_rules.2.0 in
    let none : 0 * f.shape.group ≡ 0 = zero-mul f.shape.group in
    let some : 1 ≤ g = elim (cases_eq (groups f.shape.group n) 0) [ inl z ↦ absurd (omega (arith, hold, ap (λ i. i * f.shape.group) z, none)) | inr ne ↦ omega arith ] in
    mul-le-mul {n₁ = 1} {m₁ = 1} some f.shape_rules.3.0.0

-- ---- the first bad row

abbrev pair_or : Option (ℕ × ℕ) → ℕ × ℕ
pair_or None = (0, 0)
pair_or (Some x) = x

some_pair : (a b c d : ℕ) → ◌≡◌ {A = Option (ℕ × ℕ)} (Some (a, c)) (Some (b, d)) → (a ≡ b) × (c ≡ d)
some_pair a b c d h = (ap (λ (o : Option (ℕ × ℕ)). (pair_or o).0) h, ap (λ (o : Option (ℕ × ℕ)). (pair_or o).1) h)

row_stays : (codes : ℕ → Result (List ℤ) ℕ) (row : ℕ) (at : ℕ × ℕ) (more : ℕ) → first_bad_row codes row ≡ Some at → first_bad_row codes (more + row) ≡ Some at
row_stays codes row at zero h = ap (first_bad_row codes) (zero-add row) ∙ h
row_stays codes row at (suc more) h = ap (first_bad_row codes) (suc-add more row) ∙ ap (λ o. or_else o (bad_in (more + row) (codes (more + row)))) (row_stays codes row at more h)

pub row_bad : (codes : ℕ → Result (List ℤ) ℕ) (row group rows : ℕ) → first_bad_row codes row ≡ None → codes row ≡ Err group → row < rows → first_bad_row codes rows ≡ Some (row, group)
row_bad codes row group rows h e l =
    let here : first_bad_row codes (suc row) ≡ Some (row, group) = ap (λ o. or_else o (bad_in row (codes row))) h ∙ ap (bad_in row) e in
    let all : (rows - suc row) + suc row ≡ rows = omega arith in
    subst (λ (n : ℕ). first_bad_row codes n ≡ Some (row, group)) all (row_stays codes (suc row) (row, group) (rows - suc row) here)

pub row_good : (codes : ℕ → Result (List ℤ) ℕ) (row : ℕ) → first_bad_row codes row ≡ None → bad_in row (codes row) ≡ None → first_bad_row codes (row + 1) ≡ None
row_good codes row h e = subst (λ (n : ℕ). first_bad_row codes n ≡ None) (sym (add-one row)) (ap (λ o. or_else o (bad_in row (codes row))) h ∙ e)

-- and back: the first bad row is bad, and those before it are not
pub record FirstBadRow (codes : ℕ → Result (List ℤ) ℕ) (rows row group : ℕ) : Type 0 where
  pub there : row < rows
  pub bad : codes row ≡ Err group
  pub before : first_bad_row codes row ≡ None

bad_here : (row : ℕ) (r : Result (List ℤ) ℕ) (at group : ℕ) → bad_in row r ≡ Some (at, group) → (row ≡ at) × (r ≡ Err group)
bad_here row (Ok codes) at group h = absurd (let z : ◌≡◌ {A = ℕ} 0 1 = cc in omega arith)
bad_here row (Err bad) at group h = let e = some_pair row at bad group h in (e.0, ap Err e.1)

some_or : (a b : Option (ℕ × ℕ)) (at : ℕ × ℕ) → or_else a b ≡ Some at → (a ≡ Some at) ⊎ ((a ≡ None) × (b ≡ Some at))
some_or None b at h = inr (refl, h)
some_or (Some x) b at h = inl h

pub first_bad : (codes : ℕ → Result (List ℤ) ℕ) (rows row group : ℕ) → first_bad_row codes rows ≡ Some (row, group) → FirstBadRow codes rows row group
first_bad codes zero row group h = absurd (let z : ◌≡◌ {A = ℕ} 0 1 = cc in omega arith)
first_bad codes (suc rows) row group h =
    elim (some_or (first_bad_row codes rows) (bad_in rows (codes rows)) (row, group) h) [
      | inl e ↦ let b = first_bad codes rows row group e in record { there = omega (arith, b.there); bad = b.bad; before = b.before }
      | inr e ↦
          let b = bad_here rows (codes rows) row group e.1 in
          record { there = omega (arith, b.0); bad = subst (λ (i : ℕ). codes i ≡ Err group) b.0 b.1; before = subst (λ (i : ℕ). first_bad_row codes i ≡ None) b.0 e.0 }
    ]

-- ---- sums

pub record Totalled (row : ℕ) (r : Result (List ℤ) ℕ) (sum : ℤ) : Type 0 where
  pub good : bad_in row r ≡ None
  pub codes_are : r ≡ Ok (codes_of r)
  pub sum_is : sum ≡ codes_total (codes_of r)

ok_same : {X E : Type 0} (x y : X) → ◌≡◌ {A = Result X E} (Ok x) (Ok y) → x ≡ y
ok_same x y e = cc

err_same : {X E : Type 0} (x y : E) → ◌≡◌ {A = Result X E} (Err x) (Err y) → x ≡ y
err_same x y e = cc

pub totalled : (row : ℕ) (r : Result (List ℤ) ℕ) (sum : ℤ) → Ok sum ≡ list_total r → Totalled row r sum
totalled row (Ok codes) sum h = record { good = refl; codes_are = refl; sum_is = ok_same sum (codes_total codes) h }
totalled row (Err group) sum h = absurd (let z : ◌≡◌ {A = ℕ} 0 1 = cc in omega arith)

pub not_totalled : (r : Result (List ℤ) ℕ) (group : ℕ) → Err group ≡ list_total r → r ≡ Err group
not_totalled (Ok codes) group h = absurd (let z : ◌≡◌ {A = ℕ} 0 1 = cc in omega arith)
not_totalled (Err bad) group h = ap Err (err_same bad group (sym h))

-- one row more
pub rows_more : (codes : ℕ → Result (List ℤ) ℕ) (at row next : ℕ) (sum written : ℤ) (sums : List ℤ) → at ≡ row → next ≡ row + 1 → written ≡ sum → row < length sums → Ok sum ≡ list_total (codes row)
    → first_bad_row codes row ≡ None → ((r : ℕ) → r < row → get_or sums r (pos 0) ≡ codes_total (codes_of (codes r)))
    → (first_bad_row codes next ≡ None) × ((r : ℕ) → r < next → get_or (set sums at written) r (pos 0) ≡ codes_total (codes_of (codes r)))
rows_more codes at row next sum written sums here after e l h good before =
    let t = totalled row (codes row) sum h in (
      ap (first_bad_row codes) after ∙ row_good codes row good t.good,
      λ r k.
          ap (λ i. get_or (set sums i written) r (pos 0)) here
          ∙ elim (cases_eq r row) [
            | inl same ↦ subst (λ (i : ℕ). get_or (set sums row written) i (pos 0) ≡ codes_total (codes_of (codes i))) (sym same) (get_or-set_same sums row written (pos 0) l ∙ e ∙ t.sum_is)
            | inr other ↦ get_or-set_other sums row r written (pos 0) other ∙ before r (omega arith)
          ],
    )
