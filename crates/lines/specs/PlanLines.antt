-- What a plan line says of the words after `plan`, and why they are refused.
use Rattle.std.specs.Prelude.{◌≡◌, ℕ, List, [], ◌∷◌, codes}
use Rattle.codes.specs.declared.zero_points.ZeroPoints.{ZeroPoints}
use Rattle.lines.specs.declared.plan_line.PlanLine.{PlanLine}
use Rattle.lines.specs.Words.{Text, Spells, FirstSpells}
use Rattle.lines.specs.Parts.{unsigned, signed, Part, number_part, end_part}

-- nine words, which spell the numbers of the line in their order
pub record SaysPlan (line : PlanLine) (words : List Text) : Type 0 where
  pub kind : Text
  pub weight_size : Text
  pub activation_size : Text
  pub depth : Text
  pub interval : Text
  pub rows : Text
  pub longest : Text
  pub weight_zero : Text
  pub activation_zero : Text
  pub parts : words ≡ kind ∷ weight_size ∷ activation_size ∷ depth ∷ interval ∷ rows ∷ longest ∷ weight_zero ∷ activation_zero ∷ []
  pub spells_kind : Spells (unsigned 16) kind line.kind
  pub spells_weight_size : Spells (unsigned 16) weight_size line.request.weight_size
  pub spells_activation_size : Spells (unsigned 16) activation_size line.request.activation_size
  pub spells_depth : Spells (unsigned 16) depth line.request.depth
  pub spells_interval : Spells (unsigned 32) interval line.request.interval
  pub spells_rows : Spells (unsigned 16) rows line.request.rows
  pub spells_longest : Spells (unsigned 32) longest line.request.longest
  pub spells_weight_zero : Spells signed weight_zero line.request.zeros.weight
  pub spells_activation_zero : Spells signed activation_zero line.request.zeros.activation

-- two words, which spell the rows and the most columns, and the rest behind them
pub record SpellsBounds (words rest : List Text) (bounds : ℕ × ℕ) : Type 0 where
  pub between : List Text
  pub rows : FirstSpells (unsigned 16) words between bounds.0
  pub longest : FirstSpells (unsigned 32) between rest bounds.1

-- two words, which spell the zero points, and the rest behind them
pub record SpellsZeros (words rest : List Text) (zeros : ZeroPoints) : Type 0 where
  pub between : List Text
  pub weight : FirstSpells signed words between zeros.weight
  pub activation : FirstSpells signed between rest zeros.activation

-- ---- the parts of a plan line, with the texts that refuse it

abbrev pub plan_usage : Text
plan_usage = codes "plan KIND X Y DEPTH INTERVAL ROWS LONGEST ZW ZA"

abbrev pub bound_parts : Text → List Part
bound_parts usage =
    number_part (unsigned 16) usage (codes "ROWS from 0 to 65535")
    ∷ number_part (unsigned 32) usage (codes "LONGEST from 0 to 4294967295")
    ∷ []

abbrev pub zero_parts : Text → List Part
zero_parts usage =
    number_part signed usage (codes "ZW from -32768 to 32767")
    ∷ number_part signed usage (codes "ZA from -32768 to 32767")
    ∷ []

abbrev pub plan_parts : List Part
plan_parts =
    number_part (unsigned 16) plan_usage (codes "KIND from 0 to 65535")
    ∷ number_part (unsigned 16) plan_usage (codes "X from 0 to 65535")
    ∷ number_part (unsigned 16) plan_usage (codes "Y from 0 to 65535")
    ∷ number_part (unsigned 16) plan_usage (codes "DEPTH from 0 to 65535")
    ∷ number_part (unsigned 32) plan_usage (codes "INTERVAL from 0 to 4294967295")
    ∷ number_part (unsigned 16) plan_usage (codes "ROWS from 0 to 65535")
    ∷ number_part (unsigned 32) plan_usage (codes "LONGEST from 0 to 4294967295")
    ∷ number_part signed plan_usage (codes "ZW from -32768 to 32767")
    ∷ number_part signed plan_usage (codes "ZA from -32768 to 32767")
    ∷ end_part plan_usage
    ∷ []
