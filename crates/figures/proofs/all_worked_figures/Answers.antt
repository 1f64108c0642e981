use Rattle.std.proofs.Common.{refl}
use lib.Count.{ones}
use Rattle.figures.proofs.all_worked_figures.Goals as goal

-- words and sums are computed
pub returns : goal.returns
unfolding ones
returns c =
    record {
      figures = c.worked_figures.ensures;
      words = record {
        planes = record { weight_words = refl; activation_words = refl; weights_back = refl; activations_back = refl; planes = refl; sum = refl };
        split = record { weight_word = refl; activation_word = refl; weights_back = refl; activations_back = refl };
      };
    }
