-- The table of rows, and what it means.
use Rattle.std.specs.Prelude.{List, ℤ, pos, ◌+ℤ◌}
use Rattle.codes.specs.declared.facts.Facts.{Facts}
use Rattle.kernels.specs.Meanings.{Meaning}
use Rattle.kernels.specs.Tables.{table_means}
use Rattle.split.specs.declared.split_row.SplitRow.{SplitRow}

-- a row without steps, which also stands past the table
abbrev pub empty_row : SplitRow
empty_row = record { steps = 0; first = pos 0; second = pos 0 }

-- the total of a row: the sum of its two lanes
abbrev pub row_total : SplitRow → ℤ
row_total row = row.first +ℤ row.second

abbrev pub split_means : Facts → List SplitRow → Meaning
split_means facts rows = table_means empty_row row_total (λ r. r.steps) facts rows
