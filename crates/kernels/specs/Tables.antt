-- What a kernel means whose rows stand in a table of records.
use Rattle.std.specs.Prelude.{ℕ, List, ℤ, slice_index_or}
use Rattle.codes.specs.declared.facts.Facts.{Facts}
use Rattle.kernels.specs.Meanings.{Meaning}

-- each record has its total and its steps; past the table stand empty records
abbrev pub table_means : {R : Type 0} → (empty : R) → (total : R → ℤ) → (steps : R → ℕ) → Facts → List R → Meaning
table_means empty total steps facts rows = record {
  facts = facts;
  total = λ row. total (slice_index_or rows row empty);
  steps = λ row. steps (slice_index_or rows row empty);
}
