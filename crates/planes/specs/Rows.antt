-- What a kernel of bit planes and its rows keep to, and what they mean.
use Rattle.std.specs.Prelude.{◌≡◌, ℕ, ◌-◌, ◌*◌, ◌^◌, ◌≤◌, List, pos}
use Rattle.codes.specs.declared.ends.Ends.{Ends}
use Rattle.codes.specs.declared.shape.Shape.{Shape}
use Rattle.codes.specs.declared.facts.Facts.{Facts}
use Rattle.kernels.specs.Meanings.{Meaning}
use Rattle.kernels.specs.Tables.{table_means}
use Rattle.planes.specs.declared.planes_row.PlanesRow.{PlanesRow}

-- a word for each bit: codes from 0 to 2^words − 1
abbrev pub EndsFit : Ends → (words : ℕ) → Type 0
EndsFit e words = (e.low ≡ pos 0) × (e.high ≡ pos (2 ^ words - 1))

-- a word for each bit on both sides, and 16 codes a group
abbrev pub ShapeFits : Shape → Type 0
ShapeFits s = EndsFit s.weight_ends s.weight_words × EndsFit s.activation_ends s.activation_words × (s.group ≡ 16)

-- the most that one group adds
abbrev pub most_of : Shape → ℕ
most_of s = 16 * ((2 ^ s.weight_words - 1) * (2 ^ s.activation_words - 1))

-- a row without steps, which also stands past the table
abbrev pub empty_row : PlanesRow
empty_row = record { steps = 0; lane = 0 }

-- no step has added more than `most` to the lane
abbrev pub RowHolds : (most : ℕ) → PlanesRow → Type 0
RowHolds most row = row.lane ≤ row.steps * most

-- each row's total is its lane
abbrev pub planes_means : Facts → List PlanesRow → Meaning
planes_means facts rows = table_means empty_row (λ r. pos r.lane) (λ r. r.steps) facts rows
