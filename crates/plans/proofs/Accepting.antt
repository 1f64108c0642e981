-- An accepted request, and the rules that the numbers of its plan keep.
use Rattle.std.proofs.Common.{◌≡◌, ℕ, ◌*◌, ◌<◌, ◌≤◌, min, sym, refl, ap, subst, inl, inr, arith}
use Rattle.std.proofs.lemmas.Bool.{cases_lt}
use Rattle.codes.specs.declared.shape.Shape.{Shape}
use Rattle.codes.specs.Codes.{Range}
use Rattle.codes.specs.Shapes.{ZerosWithin, SumOverflows}
use Rattle.plans.specs.declared.kind.Kind.{Kind}
use Rattle.plans.specs.declared.kind.Kind.TheVariants.{P1, P2, Planes, Split}
use Rattle.plans.specs.declared.request.Request.{Request}
use Rattle.plans.specs.declared.refusal.PlanRefusal.TheVariants.{UnknownKind, Sizes, Depth, Counts, ZeroPoints, Products, Lane, Sum}
use Rattle.plans.specs.Kinds.{shape_of}
use Rattle.plans.specs.Lanes.{LaneOverflows}
use Rattle.plans.specs.Questions.{GoodSizes, GoodDepth, GoodCounts, BadProduct, steps_asked}
use Rattle.plans.specs.Answers.{AllYes, Longest, Accepted, with_interval, RangesHold, CodesFit, LaneHolds}
use Rattle.plans.specs.Bounds.{top_code, lane_products, peak, room}
use Rattle.plans.proofs.LaneBound.{lane_holds, lane_bound}

pub all_yes : (k : Kind) (r : Request) → GoodSizes k r → GoodDepth k r → GoodCounts r → ZerosWithin (shape_of k r) r.zeros → (BadProduct k r → ⊥) → (LaneOverflows k r (steps_asked r) → ⊥) → (SumOverflows (shape_of k r) r.zeros r.longest → ⊥) → AllYes k r
all_yes k r s d c z p l m UnknownKind = tt
all_yes k r s d c z p l m Sizes = s
all_yes k r s d c z p l m Depth = d
all_yes k r s d c z p l m Counts = c
all_yes k r s d c z p l m ZeroPoints = z
all_yes k r s d c z p l m Products = p
all_yes k r s d c z p l m Lane = l
all_yes k r s d c z p l m Sum = m

-- the most steps that the lane takes, or 65,536
pub longest : (k : Kind) (r : Request) (most interval : ℕ) → interval ≡ min most 65536 → 1 ≤ most → ((steps : ℕ) → steps ≤ most → LaneOverflows k r steps → ⊥) → ((steps : ℕ) → most < steps → LaneOverflows k r steps) → Longest k r interval
longest k r most interval e one holds breaks =
    record {
      range = (omega arith, omega arith);
      holds = holds interval (omega arith);
      beyond = λ longer h l. breaks longer (omega arith);
    }

-- the interval plays no part in the shape, the products and the lane
shape_same : (k : Kind) (r : Request) (interval : ℕ) → shape_of k r ≡ shape_of k (with_interval r interval)
shape_same P1 r interval = refl
shape_same P2 r interval = refl
shape_same Planes r interval = refl
shape_same Split r interval = refl

products_same : (k : Kind) (r : Request) (interval : ℕ) → (BadProduct k r → ⊥) → BadProduct k (with_interval r interval) → ⊥
products_same P1 r interval none o = o
products_same P2 r interval none o = o
products_same Planes r interval none o = o
products_same Split r interval none o = none (record { pair = o.pair; within = o.within; outside = o.outside })

adds_same : (k : Kind) (r : Request) (interval : ℕ) → lane_products k (with_interval r interval) ≡ lane_products k r
adds_same P1 r interval = refl
adds_same P2 r interval = refl
adds_same Planes r interval = refl
adds_same Split r interval = refl

room_same : (k : Kind) (r : Request) (interval : ℕ) → room k (with_interval r interval) ≡ room k r
room_same P1 r interval = refl
room_same P2 r interval = refl
room_same Planes r interval = refl
room_same Split r interval = refl

lane_same : (k : Kind) (r : Request) (interval steps : ℕ) → (LaneOverflows k r steps → ⊥) → LaneOverflows k (with_interval r interval) steps → ⊥
lane_same k r interval steps none =
    let b = lane_bound k r steps none in
    let e : steps * peak k (with_interval r interval) ≡ steps * peak k r =
    ap (λ (n : ℕ). steps * (n * (top_code k r.weight_size * top_code k r.activation_size))) (adds_same k r interval) in
    lane_holds k (with_interval r interval) steps (omega (arith, room_same k r interval))

-- the interval that was taken
interval_holds : (k : Kind) (r n : Request) → Accepted k r n → Range 1 65536 n.interval × (LaneOverflows k r n.interval → ⊥)
interval_holds k r n a =
    elim (cases_lt 0 r.interval) [
      | inl l ↦ (let e = a.asked l in
          let f : steps_asked r ≡ n.interval = omega arith in
          ((omega arith, omega (arith, (a.yes Counts).2)), subst (λ (steps : ℕ). LaneOverflows k r steps → ⊥) f (a.yes Lane)))
      | inr g ↦ (let m = a.left (omega arith) in (m.range, m.holds))
    ]

-- what every question asks holds of the plan's own numbers
pub record Rules (k : Kind) (n : Request) : Type 0 where
  pub ranges : RangesHold k n
  pub codes : CodesFit k n
  pub lane : LaneHolds k n

pub accepted_rules : (k : Kind) (r n : Request) → Accepted k r n → Rules k n
accepted_rules k r n a =
    let i = interval_holds k r n a in
    let H = n.interval in
    let c = a.yes Counts in
    let rules : Rules k (with_interval r H) = record {
      ranges = (a.yes Sizes, a.yes Depth, (c.0, c.1, i.0.1), i.0.0);
      codes = (
        subst (λ (s : Shape). ZerosWithin s r.zeros) (shape_same k r H) (a.yes ZeroPoints),
        products_same k r H (a.yes Products),
        subst (λ (s : Shape). SumOverflows s r.zeros r.longest → ⊥) (shape_same k r H) (a.yes Sum),
      );
      lane = lane_same k r H H i.1;
    } in
    subst (Rules k) (sym a.rest) rules
