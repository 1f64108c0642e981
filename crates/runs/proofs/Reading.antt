-- What a read of a settled run gives.
use Rattle.std.proofs.Common.{◌≡◌, ℕ, suc, ◌+◌, ◌-◌, ◌*◌, ◌/◌, ◌^◌, ◌<◌, ◌≤◌, ◌⊎◌, List, [], ◌∷◌, length, ℤ, pos, negsuc, ◌+ℤ◌, ◌-ℤ◌, ◌*ℤ◌, neg_ℤ, sym, refl, ap, ◌∙◌, inl, inr, mul-le-mul_left, arith, w32, w64, SFits}
use lib.IntN.{zero-*ℤ, *ℤ-zero, suc_ℤ-*ℤ}
use lib.ListN.{length-map}
use Rattle.std.specs.List.{AllByRecursion}
use Rattle.std.specs.Int.{int_wrap}
use Rattle.std.proofs.lemmas.Int.{ints, int_wrap_fits}
use Rattle.std.proofs.lemmas.Bool.{cases_lt}
use Rattle.codes.specs.declared.facts.Facts.{Facts}
use Rattle.codes.specs.declared.zero_points.ZeroPoints.{ZeroPoints}
use Rattle.codes.specs.Codes.{Outside}
use Rattle.codes.specs.Sums.{Column, pair_at, row_of, exact_sum}
use Rattle.codes.specs.Shapes.{PairWithin}
use Rattle.kernels.specs.Meanings.{Meaning}
use Rattle.runs.specs.declared.kept.Kept.{Kept}
use Rattle.runs.specs.Stories.{Story, columns_of, steps_of, settles_of, drains_of}
use Rattle.runs.specs.Feeds.{weight_at, ColumnWithin}
use Rattle.runs.specs.Tells.{TellsSettled, ReadTrue, products, sum_of_weights, sum_of_activations, record_at}
use Rattle.runs.specs.Passes.{minus_product, corrected_sum}
use Rattle.runs.proofs.Bounds.{weight_within}
use Rattle.runs.proofs.Counts.{drains_bound}
use Rattle.runs.proofs.Products.{over_sum, out, lin_more, wraps_once}
use Rattle.runs.proofs.Starts.{settled_rows}

-- ---- the exact sum from the sums of products, of weight codes and of activation codes

abbrev correct : ZeroPoints → (products weights activations : ℤ) → (n : ℕ) → ℤ
correct z p w a n = ((p -ℤ (z.activation *ℤ w)) -ℤ (z.weight *ℤ a)) +ℤ (pos n *ℤ (z.weight *ℤ z.activation))

exact_is : (z : ZeroPoints) (row : ℕ) (columns : List Column) → correct z (products row columns) (sum_of_weights row columns) (sum_of_activations columns) (length columns) ≡ exact_sum z (row_of row columns)
exact_is z row [] =
    let e₀ = *ℤ-zero z.activation in
    let e₁ = *ℤ-zero z.weight in
    let e₂ = zero-*ℤ (z.weight *ℤ z.activation) in
    omega (arith, ints, e₀, e₁, e₂)
exact_is z row (c ∷ cs) =
    let zw = z.weight in
    let za = z.activation in
    let w = weight_at row c in
    let a = c.activation in
    let e₀ = over_sum za w (sum_of_weights row cs) in
    let e₁ = over_sum zw a (sum_of_activations cs) in
    let e₂ : pos (suc (length cs)) *ℤ (zw *ℤ za) ≡ (pos (length cs) *ℤ (zw *ℤ za)) +ℤ (zw *ℤ za) = suc_ℤ-*ℤ (pos (length cs)) (zw *ℤ za) in
    let P = (w *ℤ a) +ℤ products row cs in
    ap (λ (x : ℤ). ((P -ℤ x) -ℤ (zw *ℤ (a +ℤ sum_of_activations cs))) +ℤ (pos (suc (length cs)) *ℤ (zw *ℤ za))) e₀
    ∙ ap (λ (x : ℤ). ((P -ℤ ((za *ℤ w) +ℤ (za *ℤ sum_of_weights row cs))) -ℤ x) +ℤ (pos (suc (length cs)) *ℤ (zw *ℤ za))) e₁
    ∙ ap (λ (x : ℤ). ((P -ℤ ((za *ℤ w) +ℤ (za *ℤ sum_of_weights row cs))) -ℤ ((zw *ℤ a) +ℤ (zw *ℤ sum_of_activations cs))) +ℤ x) e₂
    ∙ lin_more (w *ℤ a) (za *ℤ w) (zw *ℤ a) (zw *ℤ za) (products row cs) (za *ℤ sum_of_weights row cs) (zw *ℤ sum_of_activations cs) (pos (length cs) *ℤ (zw *ℤ za))
    ∙ ap (λ (x : ℤ). x +ℤ correct z (products row cs) (sum_of_weights row cs) (sum_of_activations cs) (length cs)) (sym (out w zw a za))
    ∙ ap (λ (x : ℤ). ((w -ℤ zw) *ℤ (a -ℤ za)) +ℤ x) (exact_is z row cs)

-- the three wraps on the way are one
once : (z : ZeroPoints) (p w a : ℤ) (n : ℕ) → corrected_sum z p w a n ≡ int_wrap w64 (correct z p w a n)
once z p w a n =
    wraps_once p (z.activation *ℤ w) (z.weight *ℤ a) (pos n *ℤ (z.weight *ℤ z.activation)) (minus_product p z.activation w) (minus_product (minus_product p z.activation w) z.weight a) refl refl

-- ---- the sum fits, since no at most longest columns overflow it

fits_or : (z : ℤ) → SFits w32 z ⊎ Outside (neg_ℤ (pos (2 ^ 31))) (pos (2 ^ 31 - 1)) z
fits_or (pos n) = elim (cases_lt n 2147483648) [ inl l ↦ inl (record { sfits = l }) | inr l ↦ inr (inr (omega (arith, ints))) ]
fits_or (negsuc n) = elim (cases_lt n 2147483648) [ inl l ↦ inl (record { sfits = l }) | inr l ↦ inr (inl (omega (arith, ints))) ]

pairs_within : (f : Facts) (row : ℕ) (columns : List Column) → row < f.rows → AllByRecursion (ColumnWithin f) columns → AllByRecursion (PairWithin f.shape.weight_ends f.shape.activation_ends) (row_of row columns)
pairs_within f row [] l w = tt
pairs_within f row (c ∷ cs) l w = (record { weight = weight_within f row c l w.0; activation = w.0.activation }, pairs_within f row cs l w.1)

sum_fits : (f : Facts) (row : ℕ) (columns : List Column) → row < f.rows → AllByRecursion (ColumnWithin f) columns → length columns ≤ f.longest → SFits w32 (exact_sum f.zeros (row_of row columns))
sum_fits f row columns l w few =
    elim (fits_or (exact_sum f.zeros (row_of row columns))) [
      | inl fits ↦ fits
      | inr o ↦ absurd (f.sum_rule (record { pairs = row_of row columns; few = omega (arith, few, length-map columns (pair_at row)); within = pairs_within f row columns l w; outside = o }))
    ]

wider : (z : ℤ) → SFits w32 z → SFits w64 z
wider (pos n) h = record { sfits = omega (arith, h.sfits) }
wider (negsuc n) h = record { sfits = omega (arith, h.sfits) }

-- ---- a read

module _ (m : Meaning) (k : Kept) (s : Story) (row : ℕ) (h : TellsSettled m k s) (l : row < m.facts.rows) where
  pub row_fits : SFits w32 (exact_sum m.facts.zeros (row_of row (columns_of s)))
  row_fits = sum_fits m.facts row (columns_of s) l h.tells.within h.tells.few

  pub row_fits_wide : SFits w64 (exact_sum m.facts.zeros (row_of row (columns_of s)))
  row_fits_wide = wider _ row_fits

  -- what is kept gives the exact sum
  pub sum_exact : (sum : ℤ) → sum ≡ corrected_sum m.facts.zeros (record_at k row).drained (record_at k row).weight_sum k.activation_sum k.accepted
      → sum ≡ exact_sum m.facts.zeros (row_of row (columns_of s))
  sum_exact sum e =
      let t = h.tells in
      let z : ZeroPoints = m.facts.zeros in
      let p : (record_at k row).drained ≡ products row (columns_of s) = omega (arith, ints, t.drained row l, (settled_rows m k s h row l).0) in
      e ∙ once z (record_at k row).drained (record_at k row).weight_sum k.activation_sum k.accepted
      ∙ ap (λ (x : ℤ). int_wrap w64 (correct z x (record_at k row).weight_sum k.activation_sum k.accepted)) p
      ∙ ap (λ (x : ℤ). int_wrap w64 (correct z (products row (columns_of s)) x k.activation_sum k.accepted)) (t.weights row l)
      ∙ ap (λ (x : ℤ). int_wrap w64 (correct z (products row (columns_of s)) (sum_of_weights row (columns_of s)) x k.accepted)) t.activation
      ∙ ap (λ (x : ℕ). int_wrap w64 (correct z (products row (columns_of s)) (sum_of_weights row (columns_of s)) (sum_of_activations (columns_of s)) x)) t.accepted
      ∙ ap (int_wrap w64) (exact_is z row (columns_of s))
      ∙ int_wrap_fits w64 _ row_fits_wide

  pub reads_true : (sum : ℤ) → sum ≡ exact_sum m.facts.zeros (row_of row (columns_of s)) → ReadTrue m.facts s row sum k.steps k.drains
  reads_true sum e =
      let t = h.tells in
      let f : Facts = m.facts in
      let each = drains_bound f.shape.group f.interval f.shape_rules.2.0 f.interval_rule.0 s in
      let all : f.rows * drains_of f.shape.group f.interval s ≤ f.rows * (steps_of f.shape.group s / f.interval + settles_of s) = mul-le-mul_left f.rows each in
      record { there = l; exact = e; steps_are = t.all_steps; drains_are = t.all_drains; drains_few = omega (arith, t.all_drains, all) }
