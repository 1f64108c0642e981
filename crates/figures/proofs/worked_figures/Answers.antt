use Rattle.std.proofs.Common.{refl}
use Rattle.lanes.specs.Lanes.{p2_width}
use Rattle.figures.proofs.PlanFigures.{plan_figures}
use Rattle.figures.proofs.worked_figures.Goals as goal

-- words and lanes are computed
pub returns : goal.returns
unfolding p2_width
returns c =
    record {
      plans = plan_figures;
      lanes = record {
        p1 = record { weight_word = refl; activation_word = refl; lane = refl; sum = refl };
        p2 = record { weight_word = refl; activation_word = refl; lane = refl; sum = refl };
      };
    }
