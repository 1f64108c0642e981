-- One step of a row.
use Rattle.std.proofs.Common.{◌≡◌, ℕ, ◌+◌, ◌-◌, ◌*◌, ◌/◌, ◌%◌, ◌^◌, ◌<◌, ◌≤◌, true, List, reverse, get_or, ℤ, pos, Ok, Result, sym, ap, ◌∙◌, subst, arith}
use native.Mathlib.Nat.{zero-div, zero-mod}
use lib.Lanes.{digits_l}
use Rattle.codes.specs.declared.facts.Facts.{Facts}
use Rattle.codes.specs.declared.side.Side.TheVariants.{Weights, Activations}
use Rattle.kernels.specs.declared.refusal.StepRefusal.{StepRefusal}
use Rattle.kernels.specs.Answers.{step_gain, total_after, steps_after}
use Rattle.kernels.specs.Allowed.{StepAllowed}
use Rattle.kernels.proofs.Gains.{gain_is}
use Rattle.kernels.proofs.Naturals.{dot_n, dot_pos}
use Rattle.lanes.specs.Lanes.{read_lane}
use Rattle.lanes.specs.Words.{is_packed_word, unpacked_lanes, rep}
use Rattle.lanes.specs.Rows.{most_of, below_lane, RowHolds}
use Rattle.lanes.specs.Makes.{Kept}
use Rattle.lanes.specs.Product.{lane_at, under_lane}
use Rattle.lanes.specs.Masks.{pow_lanes}
use Rattle.lanes.specs.Digits.{Stepped, step_plain}
use Rattle.lanes.proofs.Reading.{found}

read_is : (w d acc : ℕ) → read_lane w d acc ≡ lane_at (2 ^ w) (d - 1) acc
read_is w d acc = ap (λ (z : ℕ). acc / z % 2 ^ w) (pow_lanes w (d - 1))

below_is : (w d acc : ℕ) → below_lane w d acc ≡ under_lane (2 ^ w) (d - 1) acc
below_is w d acc = ap (λ (z : ℕ). acc % z) (pow_lanes w (d - 1))

-- the lane after a step that adds so much
pub record NextLane (w d most interval sum acc made' acc' : ℕ) : Type 0 where
  pub holds : RowHolds w d most interval made' acc'
  pub total : read_lane w d acc' ≡ read_lane w d acc + sum

pub next_lane : (bits : ℕ) (f : Facts) (w d x y : ℕ) → Kept bits f w d x y → (steps acc steps' acc' v a : ℕ)
    → is_packed_word (2 ^ w) d (2 ^ x - 1) v ≡ true → is_packed_word (2 ^ w) d (2 ^ y - 1) a ≡ true → RowHolds w d (most_of d x y) f.interval steps acc → steps < f.interval
    → steps' ≡ steps + 1 → acc' ≡ (acc + (v * a) % 2 ^ bits) % 2 ^ bits
    → NextLane w d (most_of d x y) f.interval (dot_n (reverse (digits_l (2 ^ w) d v)) (digits_l (2 ^ w) d a)) acc steps' acc'
next_lane bits f w d x y k steps acc steps' acc' v a hv ha ok lt es ea =
    let most : ℕ = most_of d x y in
    let sum : ℕ = dot_n (reverse (digits_l (2 ^ w) d v)) (digits_l (2 ^ w) d a) in
    let la : lane_at (2 ^ w) (d - 1) acc ≤ steps * most = omega (arith, ok.1, read_is w d acc) in
    let lb : under_lane (2 ^ w) (d - 1) acc ≤ steps * most * rep (2 ^ w) (d - 1) = omega (arith, ok.2, below_is w d acc) in
    let s : Stepped (2 ^ w) (d - 1) steps most acc acc' sum =
    subst (λ (z : ℕ). Stepped (2 ^ w) (d - 1) steps most acc z sum) (sym ea)
    (step_plain bits w d (2 ^ x - 1) (2 ^ y - 1) f.interval steps acc v a k.laid.depth k.fits lt k.lane hv ha la lb) in
    record {
      holds = (
        omega arith,
        subst (λ (z : ℕ). read_lane w d acc' ≤ z * most) (sym es) (omega (arith, s.lane_le, read_is w d acc')),
        subst (λ (z : ℕ). below_lane w d acc' ≤ z * most * rep (2 ^ w) (d - 1)) (sym es) (omega (arith, s.below_le, below_is w d acc')),
      );
      total = read_is w d acc' ∙ s.lane ∙ ap (λ (z : ℕ). z + sum) (sym (read_is w d acc));
    }

-- the row after a step with that gain
pub record NextRow (w d most interval : ℕ) (gain : Result ℤ StepRefusal) (made acc made' acc' : ℕ) : Type 0 where
  pub holds : RowHolds w d most interval made' acc'
  pub total : pos (read_lane w d acc') ≡ total_after gain (pos (read_lane w d acc))
  pub steps : made' ≡ steps_after gain made

-- with the gain at a width by another name
pub next_row : (bits : ℕ) (f : Facts) (w v d x y : ℕ) → Kept bits f w d x y → w ≡ v
    → (row steps acc steps' acc' : ℕ) (weights activations : List ℕ) → StepAllowed (unpacked_lanes w f.shape) f row steps weights activations
    → RowHolds w d (most_of d x y) f.interval steps acc → steps' ≡ steps + 1
    → acc' ≡ (acc + (get_or weights 0 0 * get_or activations 0 0) % 2 ^ bits) % 2 ^ bits
    → NextRow w d (most_of d x y) f.interval (step_gain (unpacked_lanes v f.shape) f row steps weights activations) steps acc steps' acc'
next_row bits f w v d x y k e row steps acc steps' acc' weights activations asked ok es ea =
    let word : ℕ = get_or weights 0 0 in
    let other : ℕ = get_or activations 0 0 in
    let fw = found f.shape w d x y k.shape Weights weights asked.weight_codes asked.weights_are in
    let fa = found f.shape w d x y k.shape Activations activations asked.activation_codes asked.activations_are in
    let sum : ℕ = dot_n (reverse (digits_l (2 ^ w) d word)) (digits_l (2 ^ w) d other) in
    let gain : step_gain (unpacked_lanes w f.shape) f row steps weights activations ≡ Ok (pos sum) =
    gain_is (unpacked_lanes w f.shape) f row steps weights activations asked _ _ fw.codes_are fa.codes_are
    ∙ ap (λ (z : ℤ). Ok z) (dot_pos (reverse (digits_l (2 ^ w) d word)) (digits_l (2 ^ w) d other)) in
    let n = next_lane bits f w d x y k steps acc steps' acc' word other fw.is_word fa.is_word ok asked.below es ea in
    subst (λ (u : ℕ). NextRow w d (most_of d x y) f.interval (step_gain (unpacked_lanes u f.shape) f row steps weights activations) steps acc steps' acc') e
    (record {
      holds = n.holds;
      total = ap pos n.total ∙ sym (ap (λ (r : Result ℤ StepRefusal). total_after r (pos (read_lane w d acc))) gain);
      steps = es ∙ sym (ap (λ (r : Result ℤ StepRefusal). steps_after r steps) gain);
    })

-- ---- an empty row

pub empty_reads : (w d : ℕ) → read_lane w d 0 ≡ 0
empty_reads w d = simp (zero-div, zero-mod)

pub empty_holds : (w d most interval : ℕ) → RowHolds w d most interval 0 0
empty_holds w d most interval = (omega arith, omega (arith, empty_reads w d), simp zero-mod (omega arith))
