-- What a plan check answers.
use Rattle.std.specs.Prelude.{◌≡◌, ℕ, ◌<◌, ◌≤◌, true, ◌↔◌, is_ok, Ok, Err, Result}
use Rattle.codes.specs.Codes.{Range}
use Rattle.codes.specs.Shapes.{ZerosWithin, SumOverflows}
use Rattle.plans.specs.declared.kind.Kind.{Kind}
use Rattle.plans.specs.declared.request.Request.{Request}
use Rattle.plans.specs.declared.refusal.PlanRefusal.{PlanRefusal}
use Rattle.plans.specs.Kinds.{shape_of}
use Rattle.plans.specs.Lanes.{LaneOverflows}
use Rattle.plans.specs.Questions.{refusal_number, Yes, No, GoodSizes, GoodDepth, GoodCounts, BadProduct}

-- e is the first question that gets a no
pub record FirstNo (k : Kind) (r : Request) (e : PlanRefusal) : Type 0 where
  pub no : No k r e
  pub before : (f : PlanRefusal) → refusal_number f < refusal_number e → Yes k r f

-- every question gets a yes
abbrev pub AllYes : Kind → Request → Type 0
AllYes k r = (e : PlanRefusal) → Yes k r e

-- the longest interval up to 65,536 at which no codes overflow the lane: at each longer one some do
pub record Longest (k : Kind) (r : Request) (interval : ℕ) : Type 0 where
  pub range : Range 1 65536 interval
  pub holds : LaneOverflows k r interval → ⊥
  pub beyond : (longer : ℕ) → interval < longer → longer ≤ 65536 → LaneOverflows k r longer

-- the same numbers with another interval
abbrev pub with_interval : Request → ℕ → Request
with_interval r interval = record {
  weight_size = r.weight_size;
  activation_size = r.activation_size;
  depth = r.depth;
  interval = interval;
  rows = r.rows;
  longest = r.longest;
  zeros = r.zeros;
}

-- n are the numbers of the plan that is made of the request r
pub record Accepted (k : Kind) (r n : Request) : Type 0 where
  pub yes : AllYes k r
  pub rest : n ≡ with_interval r n.interval
  pub asked : 1 ≤ r.interval → n.interval ≡ r.interval
  pub left : r.interval ≡ 0 → Longest k r n.interval

-- a request has one answer: one first no, or the numbers of one plan
pub record OneAnswer (k : Kind) (r : Request) : Type 0 where
  pub refusal : (e f : PlanRefusal) → FirstNo k r e → FirstNo k r f → e ≡ f
  pub plan : (m n : Request) → Accepted k r m → Accepted k r n → m ≡ n
  pub either : (n : Request) (e : PlanRefusal) → Accepted k r n → FirstNo k r e → ⊥

-- the answer of a check that makes plans of type T, each with its numbers: the first no exactly where there is one, a
-- plan exactly where there is none
pub record Answered {T : Type 0} (k : Kind) (numbers : T → Request) (r : Request) (a : Result T PlanRefusal) : Type 0 where
  pub refused : (e : PlanRefusal) → (a ≡ Err e) ↔ FirstNo k r e
  pub made : (is_ok a ≡ true) ↔ AllYes k r
  pub plan : (p : T) → a ≡ Ok p → Accepted k r (numbers p)
  pub one : OneAnswer k r

-- what every question asks holds of the numbers n of a plan: their ranges,
abbrev pub RangesHold : Kind → Request → Type 0
RangesHold k n = GoodSizes k n × GoodDepth k n × GoodCounts n × (1 ≤ n.interval)

-- the zero points, the products and the sum,
abbrev pub CodesFit : Kind → Request → Type 0
CodesFit k n =
    ZerosWithin (shape_of k n) n.zeros × (BadProduct k n → ⊥) × (SumOverflows (shape_of k n) n.zeros n.longest → ⊥)

-- and the lane, within the plan's own interval
abbrev pub LaneHolds : Kind → Request → Type 0
LaneHolds k n = LaneOverflows k n n.interval → ⊥
