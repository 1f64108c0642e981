-- The law over any list of calls, for a plan of each kind.
use Rattle.std.specs.Prelude.{List, []}
use Rattle.codes.specs.declared.facts.Facts.{Facts}
use Rattle.codes.specs.declared.shape.Shape.{Shape}
use Rattle.plans.specs.declared.kind.Kind.{Kind}
use Rattle.plans.specs.declared.kind.Kind.TheVariants.{P1, P2, Planes, Split}
use Rattle.plans.specs.declared.request.Request.{Request}
use Rattle.plans.specs.Plans.{FactsOf}
use Rattle.kernels.specs.Groups.{Unpacking}
use Rattle.lanes.specs.Lanes.{p1_width, p2_width}
use Rattle.lanes.specs.Words.{unpacked_lanes}
use Rattle.planes.specs.Planes.{unpacked_planes}
use Rattle.split.specs.Words.{unpacked_split}
use Rattle.runs.specs.declared.calls.Call.{Call}
use Rattle.runs.specs.declared.calls.Answer.{Answer}
use Rattle.runs.specs.Law.{open_at, AllRight, ReadsExact}
use Rattle.kinds.specs.declared.any_run.AnyRun.{AnyRun}
use Rattle.kinds.specs.declared.any_run.AnyRun.TheVariants as run

-- how the kernels of a kind unpack words
abbrev pub unpacked_by : Kind → Shape → Unpacking
unpacked_by P1 s = unpacked_lanes (p1_width s) s
unpacked_by P2 s = unpacked_lanes (p2_width s) s
unpacked_by Planes s = unpacked_planes s
unpacked_by Split s = unpacked_split s

abbrev pub run_kind : AnyRun → Kind
run_kind (run.P1 r) = P1
run_kind (run.P2 r) = P2
run_kind (run.Planes r) = Planes
run_kind (run.Split r) = Split

-- with the facts of the plan, every answer is right where its call was made, and every accepted read is exact
pub record PlanLaw (k : Kind) (n : Request) (calls : List Call) (answers : List Answer) : Type 0 where
  pub facts : Facts
  pub of_plan : FactsOf k n facts
  pub right : AllRight facts (unpacked_by k facts.shape) calls answers (open_at [])
  pub reads : ReadsExact facts (unpacked_by k facts.shape) calls answers (open_at [])
