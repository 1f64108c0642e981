-- The facts of a plan, and plans of any kind.
use Rattle.std.specs.Prelude.{◌≡◌}
use Rattle.codes.specs.declared.facts.Facts.{Facts}
use Rattle.plans.specs.declared.kind.Kind.{Kind}
use Rattle.plans.specs.declared.request.Request.{Request}
use Rattle.plans.specs.Kinds.{shape_of}

-- the facts of a plan of the kind k with the numbers n
pub record FactsOf (k : Kind) (n : Request) (f : Facts) : Type 0 where
  pub shape : f.shape ≡ shape_of k n
  pub interval : f.interval ≡ n.interval
  pub rows : f.rows ≡ n.rows
  pub longest : f.longest ≡ n.longest
  pub zeros : f.zeros ≡ n.zeros
