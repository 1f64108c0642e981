-- What lanes and rows keep to.
use Rattle.std.specs.Prelude.{◌≡◌, ℕ, ◌+◌, ◌-◌, ◌*◌, ◌%◌, ◌^◌, ◌≤◌, pos}
use Rattle.codes.specs.declared.ends.Ends.{Ends}
use Rattle.codes.specs.declared.shape.Shape.{Shape}
use Rattle.codes.specs.declared.side.Side.{Side}
use Rattle.codes.specs.declared.side.Side.TheVariants.{Weights, Activations}
use Rattle.codes.specs.Codes.{Range}
use Rattle.lanes.specs.Lanes.{read_lane}
use Rattle.lanes.specs.Words.{rep}

-- codes of 1 to 8 bits: a lane holds one, and the highest lane's ends within 16 bits
abbrev pub SizeFits : (width depth size : ℕ) → Type 0
SizeFits width depth size = Range 1 8 size × (size ≤ width) × (width * (depth - 1) + size ≤ 16)

-- lanes that hold codes of both sides
pub record Laid (w d x y : ℕ) : Type 0 where
  pub depth : 1 ≤ d
  pub weights : SizeFits w d x
  pub activations : SizeFits w d y

-- the size of a side
abbrev pub size_on : (weight-size activation-size : ℕ) → Side → ℕ
size_on weight-size activation-size Weights = weight-size
size_on weight-size activation-size Activations = activation-size

-- codes from 0 to 2^size − 1
abbrev pub EndsFit : Ends → (size : ℕ) → Type 0
EndsFit e size = (e.low ≡ pos 0) × (e.high ≡ pos (2 ^ size - 1))

-- codes of these sizes, and one word a group
abbrev pub ShapeFits : Shape → (depth weight-size activation-size : ℕ) → Type 0
ShapeFits s depth weight-size activation-size =
    EndsFit s.weight_ends weight-size × EndsFit s.activation_ends activation-size × (s.group ≡ depth)
    × (s.weight_words ≡ 1) × (s.activation_words ≡ 1)

-- the most that one group adds
abbrev pub most_of : (depth weight-size activation-size : ℕ) → ℕ
most_of depth weight-size activation-size = depth * ((2 ^ weight-size - 1) * (2 ^ activation-size - 1))

-- what lies below the read lane
abbrev pub below_lane : (width depth accumulator : ℕ) → ℕ
below_lane width depth accumulator = accumulator % 2 ^ (width * (depth - 1))

-- a row after so many steps that each add at most `most` to a lane
abbrev pub RowHolds : (width depth most interval steps accumulator : ℕ) → Type 0
RowHolds width depth most interval steps accumulator =
    (steps ≤ interval) × (read_lane width depth accumulator ≤ steps * most)
    × (below_lane width depth accumulator ≤ steps * most * rep (2 ^ width) (depth - 1))
