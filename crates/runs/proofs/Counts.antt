-- Steps and drains of a story.
use Rattle.std.proofs.Common.{◌≡◌, ℕ, zero, suc, ◌+◌, ◌-◌, ◌*◌, ◌/◌, ◌<◌, ◌≤◌, List, [], ◌∷◌, length, sym, ap, ◌∙◌, add-mul, suc-add, one-mul, le-div_iff_mul-le, zero-add, zero-mul, div-le_self, div-mul-le_self, arith, length-append}
use native.Mathlib.Nat.{add-mul-div_right}
use Rattle.codes.specs.Codes.{groups}
use Rattle.kernels.proofs.ListSizes.{groups_few}
use Rattle.runs.specs.Stories.{Story, fed, settled, columns_of, steps_of, settles_of, onto, group_of, open_groups, stretches, settled_drains, drains_of}

pub length_onto : {X : Type 0} (group : ℕ → X) (count : ℕ) (before : List X) → length (onto group count before) ≡ count + length before
length_onto group zero before = sym (zero-add (length before))
length_onto group (suc count) before = ap suc (length_onto group count before) ∙ sym (suc-add count (length before))

groups_tight : (size n : ℕ) → 1 ≤ size → groups size n * size < n + size
groups_tight size n l = let h = div-mul-le_self (n + (size - 1)) size in omega (arith, h)

module _ (d H : ℕ) (dl : 1 ≤ d) (Hl : 1 ≤ H) where
  -- what the finished stretches have drained, and what the open one holds, is paid by groups and settles
  paid : (s : Story) → settled_drains H (stretches d s) * H + length (open_groups d s) ≤ steps_of d s + settles_of s * H
  paid [] = omega (arith, zero-mul H)
  paid (fed cs ∷ s) = let e = length_onto (group_of d cs) (groups d (length cs)) (open_groups d s) in omega (arith, paid s, e)
  paid (settled ∷ s) =
      let L = length (open_groups d s) in
      let S = settled_drains H (stretches d s) in
      let t = groups_tight H L Hl in
      let e : (groups H L + S) * H + 0 ≤ steps_of d s + (settles_of s + 1) * H = omega (arith, t, paid s, add-mul (groups H L) S H, add-mul (settles_of s) 1 H, one-mul H) in
      e

  pub drains_bound : (s : Story) → drains_of d H s ≤ steps_of d s / H + settles_of s
  drains_bound s =
      let L = length (open_groups d s) in
      let S = settled_drains H (stretches d s) in
      let p : (L / H + S) * H ≤ steps_of d s + settles_of s * H = omega (arith, paid s, add-mul (L / H) S H, div-mul-le_self L H) in
      let e = add-mul-div_right (steps_of d s) (settles_of s) {z = H} Hl in
      let k = (le-div_iff_mul-le {k = H} {x = L / H + S} {y = steps_of d s + settles_of s * H} Hl).1 p in
      omega (arith, e, k)

  -- no row is drained more often than stepped
  held : (s : Story) → settled_drains H (stretches d s) + length (open_groups d s) ≤ steps_of d s
  held [] = omega arith
  held (fed cs ∷ s) = let e = length_onto (group_of d cs) (groups d (length cs)) (open_groups d s) in omega (arith, held s, e)
  held (settled ∷ s) =
      let L = length (open_groups d s) in
      let e : groups H L + settled_drains H (stretches d s) + 0 ≤ steps_of d s = omega (arith, held s, groups_few H L Hl) in e

  pub steps_few : (s : Story) → steps_of d s ≤ length (columns_of s)
  steps_few [] = omega arith
  steps_few (fed cs ∷ s) = omega (arith, steps_few s, groups_few d (length cs) dl, length-append cs (columns_of s))
  steps_few (settled ∷ s) = steps_few s

  pub drains_few : (s : Story) → drains_of d H s ≤ length (columns_of s)
  drains_few s = omega (arith, held s, steps_few s, div-le_self (length (open_groups d s)) H)
