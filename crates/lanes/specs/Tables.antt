-- The table of rows of a kernel of lanes.
use Rattle.std.specs.Prelude.{ℕ, List, pos}
use Rattle.codes.specs.declared.facts.Facts.{Facts}
use Rattle.kernels.specs.Meanings.{Meaning}
use Rattle.kernels.specs.Tables.{table_means}
use Rattle.lanes.specs.declared.row.LaneRow.{LaneRow}
use Rattle.lanes.specs.Lanes.{read_lane}

-- a row without steps, which also stands past the table
abbrev pub empty_row : {A : Type 0} → (none : A) → LaneRow A
empty_row none = record { steps = 0; accumulator = none }

-- each row's total is read out of its accumulator
abbrev pub lanes_means : {A : Type 0} → (none : A) → (value : A → ℕ) → (width depth : ℕ) → Facts → List (LaneRow A) → Meaning
lanes_means none value width depth facts rows =
    table_means (empty_row none) (λ r. pos (read_lane width depth (value r.accumulator))) (λ r. r.steps) facts rows
