-- A step and a drain of a row.
use Rattle.std.proofs.Common.{◌≡◌, ℕ, suc, ◌+◌, ◌-◌, ◌*◌, ◌^◌, ◌<◌, ◌≤◌, List, length, get_or, set, ℤ, pos, cond, is_ok, Ok, Result, sym, refl, ap, ◌∙◌, subst, mul-le-mul_right, arith}
use lib.Lanes.{Each1}
use Rattle.codes.specs.declared.shape.Shape.{Shape}
use Rattle.codes.specs.declared.side.Side.TheVariants.{Weights, Activations}
use Rattle.codes.specs.declared.facts.Facts.{Facts}
use Rattle.codes.specs.Shapes.{words_on}
use Rattle.kernels.specs.declared.refusal.RowRefusal.{RowRefusal}
use Rattle.kernels.specs.Answers.{row_answer, step_gain}
use Rattle.kernels.specs.Meanings.{Drained}
use Rattle.kernels.specs.Allowed.{StepAllowed}
use Rattle.kernels.proofs.Gains.{gain_is}
use Rattle.kernels.proofs.Naturals.{dot_n, dot_most}
use Rattle.kernels.proofs.Tables.{table_set, TableStepped, table_gains, taken_holds, taken_drains}
use Rattle.planes.specs.declared.planes.Planes.{Planes}
use Rattle.planes.specs.declared.planes_row.PlanesRow.{PlanesRow}
use Rattle.planes.specs.Planes.{planes_from, unpacked_planes}
use Rattle.planes.specs.Sums.{plane_sum}
use Rattle.planes.specs.Rows.{ShapeFits, most_of, empty_row, RowHolds, planes_means}
use Rattle.planes.specs.Transposed.{length_planes}
use Rattle.planes.proofs.SharedOnes.{sum_planes, sum_dot}
use Rattle.planes.specs.Packings.{found, codes_most}

-- ---- one sum

-- what the sum over the planes of two groups is, and that it is small enough
pub record Gained (f : Facts) (row steps : ℕ) (ws ys : List ℕ) : Type 0 where
  pub gains : step_gain (unpacked_planes f.shape) f row steps ws ys ≡ Ok (pos (plane_sum ws ys))
  pub most : plane_sum ws ys ≤ most_of f.shape

sum_most : (s : Shape) (ws ys : List ℕ) → ShapeFits s → length ws ≡ words_on s Weights → length ys ≡ words_on s Activations → Each1 (λ w. w < 2 ^ s.group) ws → plane_sum ws ys ≤ most_of s
sum_most s ws ys f ew ey words =
    let long : length (planes_from 0 s.group ws) ≡ 16 = length_planes 0 s.group ws ∙ f.2 in
    subst (λ (n : ℕ). n ≤ most_of s) (sym (sum_planes s.group ws ys words))
    (subst (λ (n : ℕ). dot_n (planes_from 0 s.group ws) (planes_from 0 s.group ys) ≤ n * ((2 ^ s.weight_words - 1) * (2 ^ s.activation_words - 1))) long
    (dot_most (2 ^ s.weight_words - 1) (2 ^ s.activation_words - 1) (planes_from 0 s.group ws) (planes_from 0 s.group ys) (codes_most s Weights ws ew) (codes_most s Activations ys ey)))

gained : (f : Facts) → ShapeFits f.shape → (row steps : ℕ) (ws ys : List ℕ) → StepAllowed (unpacked_planes f.shape) f row steps ws ys → Gained f row steps ws ys
gained f fits row steps ws ys asked =
    let s : Shape = f.shape in
    let fw = found s Weights ws asked.weight_codes asked.weights_are in
    let fa = found s Activations ys asked.activation_codes asked.activations_are in
    let words : Each1 (λ w. w < 2 ^ s.group) ws = subst (λ (n : ℕ). Each1 (λ w. w < 2 ^ n) ws) (sym fits.2) fw.below in
    let gains = gain_is (unpacked_planes s) f row steps ws ys asked _ _ fw.codes_are fa.codes_are ∙ ap (λ (z : ℤ). Ok z) (sym (sum_dot s.group ws ys words)) in
    record { gains = gains; most = sum_most s ws ys fits fw.count fa.count words }

-- ---- a step

-- there is room for one step more
pub record Room (k : Planes) (row sum : ℕ) : Type 0 where
  pub few : (get_or k.rows row empty_row).steps < 65536
  pub fits : (get_or k.rows row empty_row).lane + sum < 2 ^ 32
  pub most : (get_or k.rows row empty_row).lane + sum ≤ ((get_or k.rows row empty_row).steps + 1) * most_of k.facts.shape

lane_room : (steps interval most lane sum : ℕ) → steps < interval → interval * most < 2 ^ 32 → lane ≤ steps * most → sum ≤ most
    → (lane + sum < 2 ^ 32) × (lane + sum ≤ (steps + 1) * most)
lane_room steps interval most lane sum lt holds le small =
    let m : suc steps * most ≤ interval * most = mul-le-mul_right most lt in
    (omega arith, omega arith)

module _ (k : Planes) (row sum : ℕ) (ws ys : List ℕ) (asked : StepAllowed (unpacked_planes k.facts.shape) k.facts row (get_or k.rows row empty_row).steps ws ys) (is : sum ≡ plane_sum ws ys) where
  pub step_room : Room k row sum
  step_room =
      let old : PlanesRow = get_or k.rows row empty_row in
      let g = gained k.facts k.shape_rule row old.steps ws ys asked in
      let small : sum ≤ most_of k.facts.shape = omega (arith, g.most) in
      let r = lane_room old.steps k.facts.interval (most_of k.facts.shape) old.lane sum asked.below k.lane_rule (k.rows_rule row) small in
      let few : (get_or k.rows row empty_row).steps < 65536 = omega (arith, asked.below, k.facts.interval_rule) in
      record { few = few; fits = r.0; most = r.1 }

  -- the table after it
  pub table_steps : (new : PlanesRow) → length k.rows ≡ 64 → new.steps ≡ (get_or k.rows row empty_row).steps + 1 → new.lane ≡ (get_or k.rows row empty_row).lane + sum
      → TableStepped empty_row (λ r. pos r.lane) (λ r. r.steps) (RowHolds (most_of k.facts.shape)) k.facts k.rows row
      (step_gain (unpacked_planes k.facts.shape) k.facts row (get_or k.rows row empty_row).steps ws ys) new
  table_steps new all es el =
      let old : PlanesRow = get_or k.rows row empty_row in
      let most : ℕ = most_of k.facts.shape in
      let g : step_gain (unpacked_planes k.facts.shape) k.facts row old.steps ws ys ≡ Ok (pos sum) = (gained k.facts k.shape_rule row old.steps ws ys asked).gains ∙ ap (λ (n : ℕ). Ok (pos n)) (sym is) in
      let holds : RowHolds most new = subst (λ (n : ℕ). n ≤ new.steps * most) (sym el) (subst (λ (n : ℕ). old.lane + sum ≤ n * most) (sym es) step_room.most) in
      table_gains empty_row _ _ _ k.facts k.rows row _ (pos sum) new g all asked.row_lt k.rows_rule holds (ap pos el) es

-- ---- a drain

-- a row whose lane holds nothing is put in
pub drained_holds : (k : Planes) (row : ℕ) (new : PlanesRow) → new.lane ≡ 0 → (j : ℕ) → RowHolds (most_of k.facts.shape) (get_or (set k.rows row new) j empty_row)
drained_holds k row new el =
    let holds : RowHolds (most_of k.facts.shape) new = omega arith in
    table_set empty_row (RowHolds (most_of k.facts.shape)) k.rows row new holds k.rows_rule

-- the row is taken, and answered as it was
module _ (k : Planes) (row : ℕ) (r : Result PlanesRow RowRefusal) (rows : List PlanesRow) (answer : r ≡ row_answer row (get_or k.rows row empty_row))
    (after : rows ≡ cond (is_ok r) (set k.rows row empty_row) k.rows) where
  pub taken_row_holds : (j : ℕ) → RowHolds (most_of k.facts.shape) (get_or rows j empty_row)
  taken_row_holds = taken_holds empty_row k.rows row r rows answer after (RowHolds (most_of k.facts.shape)) (omega arith) k.rows_rule

  pub taken_row_drains : length k.rows ≡ 64 → Drained row (planes_means k.facts k.rows) (planes_means k.facts rows)
  taken_row_drains all = taken_drains empty_row k.rows row r rows answer after (λ q. pos q.lane) (λ q. q.steps) k.facts all refl refl
