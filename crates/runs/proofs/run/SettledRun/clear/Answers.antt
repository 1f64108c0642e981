-- A settled kernel is empty, and nothing is kept.
use Rattle.std.proofs.Common.{[], sym, refl, subst}
use Rattle.runs.specs.declared.kept.Kept.{Kept}
use Rattle.runs.specs.Tells.{Tells}
use Rattle.runs.proofs.Starts.{starts, settled_empty}
use Rattle.runs.proofs.run.SettledRun.clear.Goals as goal

pub returns : goal.returns
returns g c =
    record {
      kernel = refl;
      kept = c.clear.ensures;
      story = λ s told. subst (λ (k : Kept). Tells (g.K.Kernel.means c.args.self.kernel) k []) (sym c.clear.ensures) (starts _ (settled_empty _ _ s told));
    }
