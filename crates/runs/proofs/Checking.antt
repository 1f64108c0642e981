-- The questions of a feed, one after another.
use Rattle.std.proofs.Common.{◌≡◌, ℕ, ◌+◌, ◌*◌, ◌≤◌, Bool, true, false, eqb, leb, List, length, ℤ, Some, None, Ok, Err, Option, Result, sym, refl, ap, ◌∙◌, arith}
use Rattle.std.proofs.lemmas.Bool.{leb-true, eqb-true}
use Rattle.codes.specs.declared.facts.Facts.{Facts}
use Rattle.codes.specs.declared.side.Side.TheVariants.{Weights as OfWeights, Activations as OfActivations}
use Rattle.kernels.specs.Groups.{Unpacking}
use Rattle.kernels.specs.Answers.{ask}
use Rattle.kernels.specs.Lists.{words_for, unpacked_list}
use Rattle.runs.specs.declared.refusal.FeedRefusal.{FeedRefusal}
use Rattle.runs.specs.declared.refusal.FeedRefusal.TheVariants.{NoColumns, TooMany, WeightLength, ActivationLength, Weights, Activations}
use Rattle.runs.specs.Feeds.{row_codes, first_bad_row, ask_sizes, ask_groups, feed_answer, codes_of}

abbrev Answer : Type 0
Answer = Result (Unit {0}) FeedRefusal

passed : (test : Bool) (e : FeedRefusal) (next : Answer) → Ok tt ≡ ask test e next → (test ≡ true) × (Ok tt ≡ next)
passed true e next h = (refl, h)
passed false e next h = absurd (let z : ◌≡◌ {A = ℕ} 0 1 = cc in omega arith)

-- a question on a number that is answered with no, whatever comes next
still_refused : (test : Bool) (e f : FeedRefusal) (next next' : Answer) → (Err e ≡ next → Err e ≡ next') → Err e ≡ ask test f next → Err e ≡ ask test f next'
still_refused true e f next next' on h = on h
still_refused false e f next next' on h = h

err_same : (x y : FeedRefusal) → ◌≡◌ {A = Answer} (Err x) (Err y) → x ≡ y
err_same x y e = cc

refused_later : (test : Bool) (f e : FeedRefusal) (next : Answer) → (f ≡ e → ⊥) → Err e ≡ ask test f next → (test ≡ true) × (Err e ≡ next)
refused_later true f e next ne h = (refl, h)
refused_later false f e next ne h = absurd (ne (sym (err_same e f h)))

abbrev places_of : FeedRefusal → ℕ × ℕ
places_of NoColumns = (0, 0)
places_of TooMany = (0, 0)
places_of WeightLength = (0, 0)
places_of ActivationLength = (0, 0)
places_of (Weights row group) = (row, group)
places_of (Activations group) = (0, group)

same_place : (row group : ℕ) (at : ℕ × ℕ) → ◌≡◌ {A = Answer} (Err (Weights row group)) (Err (Weights at.0 at.1)) → ◌≡◌ {A = ℕ × ℕ} (row, group) at
same_place row group at h = ap places_of (err_same (Weights row group) (Weights at.0 at.1) h)

same_group : (a b : ℕ) → ◌≡◌ {A = Answer} (Err (Activations a)) (Err (Activations b)) → a ≡ b
same_group a b h = ap (λ e. (places_of e).1) (err_same (Activations a) (Activations b) h)

-- what a yes to the questions on the numbers says
pub record SizesFit (f : Facts) (accepted n weights activations : ℕ) : Type 0 where
  pub some : 1 ≤ n
  pub few : accepted + n ≤ f.longest
  pub weight_words : weights ≡ f.rows * words_for f.shape OfWeights n
  pub activation_words : activations ≡ words_for f.shape OfActivations n

module _ (f : Facts) (accepted n weights activations : ℕ) where
  pub sizes_fit : (next : Answer) → Ok tt ≡ ask_sizes f accepted n weights activations next → SizesFit f accepted n weights activations × (Ok tt ≡ next)
  sizes_fit next h =
      let a = passed (leb 1 n) NoColumns _ h in
      let b = passed (leb (accepted + n) f.longest) TooMany _ a.1 in
      let c = passed (eqb weights (f.rows * words_for f.shape OfWeights n)) WeightLength _ b.1 in
      let d = passed (eqb activations (words_for f.shape OfActivations n)) ActivationLength _ c.1 in
      (record { some = leb-true _ _ a.0; few = leb-true _ _ b.0; weight_words = eqb-true _ _ c.0; activation_words = eqb-true _ _ d.0 }, d.1)

  ask_through : (test : Bool) (e : FeedRefusal) (next next' : Answer) → Ok tt ≡ ask test e next → ask test e next' ≡ next'
  ask_through true e next next' h = refl
  ask_through false e next next' h = absurd (let z : ◌≡◌ {A = ℕ} 0 1 = cc in omega arith)

  -- once the numbers have got a yes, the next questions answer
  pub sizes_through : (next : Answer) → Ok tt ≡ ask_sizes f accepted n weights activations (Ok tt) → ask_sizes f accepted n weights activations next ≡ next
  sizes_through next h =
      let a = passed (leb 1 n) NoColumns _ h in
      let b = passed (leb (accepted + n) f.longest) TooMany _ a.1 in
      let c = passed (eqb weights (f.rows * words_for f.shape OfWeights n)) WeightLength _ b.1 in
      ask_through (leb 1 n) NoColumns _ _ h
      ∙ ask_through (leb (accepted + n) f.longest) TooMany _ _ a.1
      ∙ ask_through (eqb weights (f.rows * words_for f.shape OfWeights n)) WeightLength _ _ b.1
      ∙ ask_through (eqb activations (words_for f.shape OfActivations n)) ActivationLength _ next c.1

  -- a refusal that is none of these comes from the next questions
  pub sizes_passed : (e : FeedRefusal) (next : Answer) → (NoColumns ≡ e → ⊥) → (TooMany ≡ e → ⊥) → (WeightLength ≡ e → ⊥) → (ActivationLength ≡ e → ⊥)
      → Err e ≡ ask_sizes f accepted n weights activations next → SizesFit f accepted n weights activations × (Err e ≡ next)
  sizes_passed e next n₁ n₂ n₃ n₄ h =
      let a = refused_later (leb 1 n) NoColumns e _ n₁ h in
      let b = refused_later (leb (accepted + n) f.longest) TooMany e _ n₂ a.1 in
      let c = refused_later (eqb weights (f.rows * words_for f.shape OfWeights n)) WeightLength e _ n₃ b.1 in
      let d = refused_later (eqb activations (words_for f.shape OfActivations n)) ActivationLength e _ n₄ c.1 in
      (record { some = leb-true _ _ a.0; few = leb-true _ _ b.0; weight_words = eqb-true _ _ c.0; activation_words = eqb-true _ _ d.0 }, d.1)

  -- and a no stays one
  pub sizes_refuse : (e : FeedRefusal) (next : Answer) → Err e ≡ ask_sizes f accepted n weights activations (Ok tt) → Err e ≡ ask_sizes f accepted n weights activations next
  sizes_refuse e next h =
      still_refused (leb 1 n) e NoColumns _ _ (still_refused (leb (accepted + n) f.longest) e TooMany _ _
      (still_refused (eqb weights (f.rows * words_for f.shape OfWeights n)) e WeightLength _ _
      (still_refused (eqb activations (words_for f.shape OfActivations n)) e ActivationLength (Ok tt) next (λ k. absurd (let z : ◌≡◌ {A = ℕ} 0 1 = cc in omega arith))))) h

module _ (u : Unpacking) (f : Facts) (accepted n : ℕ) (weights activations : List ℕ) where
  abbrev rows : ℕ → Result (List ℤ) ℕ
  rows = row_codes u f.shape n weights

  abbrev codes : Result (List ℤ) ℕ
  codes = unpacked_list u f.shape OfActivations n activations

  pub refused_sizes : (e : FeedRefusal) → Err e ≡ ask_sizes f accepted n (length weights) (length activations) (Ok tt) → feed_answer u f accepted n weights activations ≡ Err e
  unfolding feed_answer
  refused_sizes e h = sym (sizes_refuse f accepted n (length weights) (length activations) e _ h)

  on_groups : Ok tt ≡ ask_sizes f accepted n (length weights) (length activations) (Ok tt) → feed_answer u f accepted n weights activations ≡ ask_groups (first_bad_row rows f.rows) codes
  unfolding feed_answer
  on_groups h = sizes_through f accepted n (length weights) (length activations) _ h

  pub refused_row : (at : ℕ × ℕ) → Ok tt ≡ ask_sizes f accepted n (length weights) (length activations) (Ok tt) → first_bad_row rows f.rows ≡ Some at → feed_answer u f accepted n weights activations ≡ Err (Weights at.0 at.1)
  refused_row at h e = on_groups h ∙ ap (λ o. ask_groups o codes) e

  pub refused_group : (group : ℕ) → Ok tt ≡ ask_sizes f accepted n (length weights) (length activations) (Ok tt) → first_bad_row rows f.rows ≡ None → codes ≡ Err group → feed_answer u f accepted n weights activations ≡ Err (Activations group)
  refused_group group h e bad = on_groups h ∙ ap (λ o. ask_groups o codes) e ∙ ap (ask_groups None) bad

  pub fed_ok : (list : List ℤ) → Ok tt ≡ ask_sizes f accepted n (length weights) (length activations) (Ok tt) → first_bad_row rows f.rows ≡ None → codes ≡ Ok list → feed_answer u f accepted n weights activations ≡ Ok tt
  fed_ok list h e good = on_groups h ∙ ap (λ o. ask_groups o codes) e ∙ ap (ask_groups None) good

  -- what an accepted feed has found
  pub record FeedFound : Type 0 where
    pub sizes : SizesFit f accepted n (length weights) (length activations)
    pub no_row : first_bad_row rows f.rows ≡ None
    pub codes_are : codes ≡ Ok (codes_of codes)

  groups_found : (o : Option (ℕ × ℕ)) (r : Result (List ℤ) ℕ) → Ok tt ≡ ask_groups o r → (o ≡ None) × (r ≡ Ok (codes_of r))
  groups_found None (Ok list) h = (refl, refl)
  groups_found None (Err group) h = absurd (let z : ◌≡◌ {A = ℕ} 0 1 = cc in omega arith)
  groups_found (Some at) r h = absurd (let z : ◌≡◌ {A = ℕ} 0 1 = cc in omega arith)

  pub feed_found : feed_answer u f accepted n weights activations ≡ Ok tt → FeedFound
  unfolding feed_answer
  feed_found h =
      let s = sizes_fit f accepted n (length weights) (length activations) _ (sym h) in
      let g = groups_found (first_bad_row rows f.rows) codes s.1 in
      record { sizes = s.0; no_row = g.0; codes_are = g.1 }

  -- what a refusal of a group has found
  pub record RefusedRow (row group : ℕ) : Type 0 where
    pub sizes : SizesFit f accepted n (length weights) (length activations)
    pub first : first_bad_row rows f.rows ≡ Some (row, group)

  pub record RefusedGroup (group : ℕ) : Type 0 where
    pub sizes : SizesFit f accepted n (length weights) (length activations)
    pub no_row : first_bad_row rows f.rows ≡ None
    pub bad : codes ≡ Err group

  row_refused : (o : Option (ℕ × ℕ)) (r : Result (List ℤ) ℕ) (row group : ℕ) → Err (Weights row group) ≡ ask_groups o r → o ≡ Some (row, group)
  row_refused None (Ok list) row group h = absurd (let z : ◌≡◌ {A = ℕ} 0 1 = cc in omega arith)
  row_refused None (Err bad) row group h = absurd (let z : ◌≡◌ {A = ℕ} 0 1 = cc in omega arith)
  row_refused (Some at) r row group h = ap Some (sym (same_place row group at h))

  group_refused : (o : Option (ℕ × ℕ)) (r : Result (List ℤ) ℕ) (group : ℕ) → Err (Activations group) ≡ ask_groups o r → (o ≡ None) × (r ≡ Err group)
  group_refused None (Ok list) group h = absurd (let z : ◌≡◌ {A = ℕ} 0 1 = cc in omega arith)
  group_refused None (Err bad) group h = (refl, ap Err (sym (same_group group bad h)))
  group_refused (Some at) r group h = absurd (let z : ◌≡◌ {A = ℕ} 0 1 = cc in omega arith)

  pub refused_at : (row group : ℕ) → feed_answer u f accepted n weights activations ≡ Err (Weights row group) → RefusedRow row group
  unfolding feed_answer
  refused_at row group h =
      let s = sizes_passed f accepted n (length weights) (length activations) (Weights row group) (ask_groups (first_bad_row rows f.rows) codes) (λ x. absurd (let z : ◌≡◌ {A = ℕ} 0 1 = cc in omega arith)) (λ x. absurd (let z : ◌≡◌ {A = ℕ} 0 1 = cc in omega arith)) (λ x. absurd (let z : ◌≡◌ {A = ℕ} 0 1 = cc in omega arith)) (λ x. absurd (let z : ◌≡◌ {A = ℕ} 0 1 = cc in omega arith)) (sym h) in
      record { sizes = s.0; first = row_refused (first_bad_row rows f.rows) codes row group s.1 }

  pub refused_in : (group : ℕ) → feed_answer u f accepted n weights activations ≡ Err (Activations group) → RefusedGroup group
  unfolding feed_answer
  refused_in group h =
      let s = sizes_passed f accepted n (length weights) (length activations) (Activations group) (ask_groups (first_bad_row rows f.rows) codes) (λ x. absurd (let z : ◌≡◌ {A = ℕ} 0 1 = cc in omega arith)) (λ x. absurd (let z : ◌≡◌ {A = ℕ} 0 1 = cc in omega arith)) (λ x. absurd (let z : ◌≡◌ {A = ℕ} 0 1 = cc in omega arith)) (λ x. absurd (let z : ◌≡◌ {A = ℕ} 0 1 = cc in omega arith)) (sym h) in
      let g = group_refused (first_bad_row rows f.rows) codes group s.1 in
      record { sizes = s.0; no_row = g.0; bad = g.1 }
