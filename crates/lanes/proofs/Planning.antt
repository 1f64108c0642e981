-- What the plan of a make says of its lanes.
use Rattle.std.proofs.Common.{◌≡◌, ℕ, zero, suc, ◌+◌, ◌-◌, ◌*◌, ◌/◌, ◌^◌, ◌<◌, ◌≤◌, max, sym, refl, ap, ◌∙◌, subst, inl, inr, mul-le-mul_right, mul_comm, mul-le-mul_left, div-le_self, div-mul-le_self, arith, pow_mono}
use native.Mathlib.Nat.{le-max_left, le-max_right, max-le}
use Rattle.std.proofs.lemmas.Nat.{pow_pos, pow_below}
use Rattle.std.proofs.lemmas.Bool.{cases_lt}
use Rattle.codes.specs.declared.shape.Shape.{Shape}
use Rattle.codes.specs.declared.facts.Facts.{Facts}
use Rattle.codes.specs.Codes.{Range}
use Rattle.plans.specs.declared.kind.Kind.TheVariants.{P1, P2}
use Rattle.plans.specs.declared.request.Request.{Request}
use Rattle.plans.specs.Answers.{RangesHold, LaneHolds}
use Rattle.plans.specs.Lanes.{lane_width}
use Rattle.plans.specs.Plans.{FactsOf}
use Rattle.plans.proofs.LaneBound.{lane_bound}
use Rattle.lanes.specs.Lanes.{bits_up_to, p1_width, p2_width}
use Rattle.lanes.specs.Rows.{ShapeFits, most_of}
use Rattle.lanes.specs.Packings.{lane_shape}
use Rattle.lanes.specs.Makes.{Kept, Ready}

-- ---- a lane that holds the products of an interval holds each code

top_some : (x : ℕ) → 1 ≤ x → 1 ≤ 2 ^ x - 1
top_some x h =
    let m : 2 ^ 1 ≤ 2 ^ x = pow_mono h in
    omega arith

size_small : (h d x y w : ℕ) → 1 ≤ h → 1 ≤ d → 1 ≤ y → h * most_of d x y < 2 ^ w → x ≤ w
size_small h d x y w hh hd hy lane =
    let s : ℕ = 2 ^ x - 1 in
    let t : ℕ = 2 ^ y - 1 in
    let p : s * 1 ≤ s * t = mul-le-mul_left s (top_some y hy) in
    let q : 1 * (s * t) ≤ d * (s * t) = mul-le-mul_right (s * t) hd in
    let r : 1 * (d * (s * t)) ≤ h * (d * (s * t)) = mul-le-mul_right (d * (s * t)) hh in
    elim (cases_lt w x) [ inl l ↦ absurd (omega (arith, pow_below w x l)) | inr g ↦ g ]

size_small_other : (h d x y w : ℕ) → 1 ≤ h → 1 ≤ d → 1 ≤ x → h * most_of d x y < 2 ^ w → y ≤ w
size_small_other h d x y w hh hd hx lane =
    let e : most_of d x y ≡ most_of d y x = ap (λ (z : ℕ). d * z) (mul_comm (2 ^ x - 1) (2 ^ y - 1)) in
    size_small h d y x w hh hd hx (subst (λ (z : ℕ). h * z < 2 ^ w) e lane)

-- ---- the shape and the interval of a plan's facts

shape_fits : (s : Shape) (d x y : ℕ) → s ≡ lane_shape d x y → ShapeFits s d x y
shape_fits s d x y e = subst (λ (t : Shape). ShapeFits t d x y) (sym e) ((refl, refl), (refl, refl), refl, refl, refl)

ready : (bits : ℕ) (f : Facts) (w v d x y h : ℕ) → w ≤ 16 → Range 1 8 d → Range 1 8 x → Range 1 8 y → 1 ≤ h → f.interval ≡ h
    → h * most_of d x y < 2 ^ w → (x ≤ w → w * (d - 1) + x ≤ 16) → (y ≤ w → w * (d - 1) + y ≤ 16) → w * d ≤ bits → f.shape ≡ lane_shape d x y → w ≡ v
    → Ready bits f w v d x y
ready bits f w v d x y h narrow hd hx hy hh eh lane endx endy fits es ev =
    let xw : x ≤ w = size_small h d x y w hh hd.0 hy.0 lane in
    let yw : y ≤ w = size_small_other h d x y w hh hd.0 hx.0 lane in
    record {
      narrow = narrow;
      depth = hd;
      width_is = ev;
      kept = record {
        shape = shape_fits f.shape d x y es;
        laid = record { depth = hd.0; weights = (hx, xw, endx xw); activations = (hy, yw, endy yw) };
        fits = fits;
        lane = subst (λ (z : ℕ). z * most_of d x y < 2 ^ w) (sym eh) lane;
      };
    }

-- the same of equal numbers and an equal width, and of lanes whose fields are equal to those numbers
pub ready_as : (bits : ℕ) (f : Facts) (width : Request → ℕ) (v : ℕ) (m n : Request) (w : ℕ) → Ready bits f (width m) v m.depth m.weight_size m.activation_size
    → n ≡ m → w ≡ width n → Ready bits f w v n.depth n.weight_size n.activation_size
ready_as bits f width v m n w r e ew = rw (ew, e) r

pub kept_as : (bits : ℕ) (f : Facts) (w d x y w' d' x' y' : ℕ) → Kept bits f w d x y → w' ≡ w → d' ≡ d → x' ≡ x → y' ≡ y → Kept bits f w' d' x' y'
kept_as bits f w d x y w' d' x' y' k ew ed ex ey = rw (ew, ed, ex, ey) k

lanes_all : (w d : ℕ) → 1 ≤ d → w * d ≡ w * (d - 1) + w
lanes_all w d h =
    let e : d ≡ d - 1 + 1 = omega arith in
    ap (λ (z : ℕ). w * z) e ∙ omega arith

-- ---- the first make

pub p1_ready : (n : Request) (f : Facts) → RangesHold P1 n → LaneHolds P1 n → FactsOf P1 n f
    → Ready 16 f (lane_width P1 n) (p1_width f.shape) n.depth n.weight_size n.activation_size
p1_ready n f ranges holds facts =
    let d : ℕ = n.depth in
    let w : ℕ = 16 / n.depth in
    let all : 16 / n.depth * n.depth ≤ 16 = div-mul-le_self 16 n.depth in
    let split = lanes_all (16 / n.depth) n.depth ranges.1.0 in
    let bound = lane_bound P1 n n.interval holds in
    let lane : n.interval * most_of n.depth n.weight_size n.activation_size < 2 ^ (16 / n.depth) = omega (arith, bound, pow_pos (16 / n.depth)) in
    ready 16 f w (p1_width f.shape) d n.weight_size n.activation_size n.interval (div-le_self 16 n.depth) ranges.1 ranges.0.0 ranges.0.1 ranges.3
    facts.interval lane (λ h. omega arith) (λ h. omega arith) all facts.shape (ap p1_width (sym facts.shape))

-- ---- the second make

-- the bits of a highest code
bits_are : (x : ℕ) → Range 1 8 x → bits_up_to 8 (2 ^ x - 1) ≡ x
bits_are zero h = absurd (omega arith)
bits_are (suc zero) h = refl
bits_are (suc (suc zero)) h = refl
bits_are (suc (suc (suc zero))) h = refl
bits_are (suc (suc (suc (suc zero)))) h = refl
bits_are (suc (suc (suc (suc (suc zero))))) h = refl
bits_are (suc (suc (suc (suc (suc (suc zero)))))) h = refl
bits_are (suc (suc (suc (suc (suc (suc (suc zero))))))) h = refl
bits_are (suc (suc (suc (suc (suc (suc (suc (suc zero)))))))) h = refl
bits_are (suc (suc (suc (suc (suc (suc (suc (suc (suc x))))))))) h = absurd (omega arith)

p2_width_is : (s : Shape) (d x y : ℕ) → Range 1 8 x → Range 1 8 y → s ≡ lane_shape d x y → (16 - max x y) / (d - 1) ≡ p2_width s
unfolding p2_width
p2_width_is s d x y hx hy e =
    ap (λ (z : ℕ). (16 - max z y) / (d - 1)) (sym (bits_are x hx)) ∙ ap (λ (z : ℕ). (16 - max (bits_up_to 8 (2 ^ x - 1)) z) / (d - 1)) (sym (bits_are y hy)) ∙ ap p2_width (sym e)

pub p2_ready : (n : Request) (f : Facts) → RangesHold P2 n → LaneHolds P2 n → FactsOf P2 n f
    → Ready 32 f (lane_width P2 n) (p2_width f.shape) n.depth n.weight_size n.activation_size
p2_ready n f ranges holds facts =
    let d : ℕ = n.depth in
    let x : ℕ = n.weight_size in
    let y : ℕ = n.activation_size in
    let rest : ℕ = 16 - max n.weight_size n.activation_size in
    let one : 1 ≤ n.depth = omega (arith, ranges.1) in
    let shared : lane_width P2 n * (n.depth - 1) ≤ 16 - max n.weight_size n.activation_size = div-mul-le_self rest (d - 1) in
    let narrow : lane_width P2 n ≤ 16 - max n.weight_size n.activation_size = div-le_self rest (d - 1) in
    let split = lanes_all (lane_width P2 n) n.depth one in
    let bound = lane_bound P2 n n.interval holds in
    let lane : n.interval * most_of n.depth n.weight_size n.activation_size < 2 ^ lane_width P2 n = omega (arith, bound, pow_pos (lane_width P2 n)) in
    let left = le-max_left x y in
    let right = le-max_right x y in
    let most : max n.weight_size n.activation_size ≤ 8 = max-le ranges.0.0.1 ranges.0.1.1 in
    ready 32 f (lane_width P2 n) (p2_width f.shape) d x y n.interval (omega arith) (one, ranges.1.1) ranges.0.0 ranges.0.1 ranges.3
    facts.interval lane (λ h. omega arith) (λ h. omega arith) (omega arith) facts.shape (p2_width_is f.shape d x y ranges.0.0 ranges.0.1 facts.shape)
