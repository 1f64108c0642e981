-- What every value of lanes keeps to.
use Rattle.std.specs.Prelude.{ℕ}
use Rattle.codes.specs.declared.side.Side.{Side}
use Rattle.lanes.specs.declared.lanes.Lanes.{Lanes}
use Rattle.lanes.specs.Rows.{SizeFits, Laid, size_on}
use Rattle.lanes.specs.Packings.{side_fits}

pub laid : (l : Lanes) → Laid l.width l.depth l.weight_size l.activation_size
laid l = record { depth = l.depth_rule.0; weights = l.weights_rule; activations = l.activations_rule }

abbrev pub size_in : Lanes → Side → ℕ
size_in l side = size_on l.weight_size l.activation_size side

pub size_fits : (l : Lanes) (side : Side) → SizeFits l.width l.depth (size_in l side)
size_fits l side = side_fits l.width l.depth l.weight_size l.activation_size (laid l) side
