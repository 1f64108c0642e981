-- A step and a drain of the rows of a kernel.
use Rattle.std.proofs.Common.{◌≡◌, ℕ, ◌+◌, ◌<◌, List, length, get_or, set, cond, is_ok, Result, pos, ◌+ℤ◌, refl, arith}
use Rattle.std.proofs.lemmas.Int.{ints}
use Rattle.codes.specs.declared.facts.Facts.{Facts}
use Rattle.kernels.specs.declared.refusal.RowRefusal.{RowRefusal}
use Rattle.kernels.specs.Answers.{row_answer, step_gain}
use Rattle.kernels.specs.Meanings.{Drained}
use Rattle.kernels.specs.Allowed.{StepAllowed}
use Rattle.kernels.proofs.Tables.{TableStepped, table_gains, TableDrained, table_drains, taken_holds, taken_drains}
use Rattle.split.specs.declared.split.Split.{Split}
use Rattle.split.specs.declared.split_row.SplitRow.{SplitRow}
use Rattle.split.specs.Words.{unpacked_split}
use Rattle.split.specs.Lanes.{product_at}
use Rattle.split.specs.Rows.{most_of, RowHolds}
use Rattle.split.specs.Tables.{empty_row, row_total, split_means}
use Rattle.split.proofs.Stepping.{Kept, LanesTake, lanes_take, step_gain_is, next_row}

pub kept : (k : Split) → Kept k.facts
kept k = record { shape = k.shape_rule; lane = k.lane_rule }

-- what every row of a table keeps to
abbrev pub Holds : Facts → SplitRow → Type 0
Holds f r = RowHolds (most_of f.shape) f.interval r

-- ---- a step

module _ (k : Split) (row : ℕ) (weights activations : List ℕ)
    (allowed : StepAllowed (unpacked_split k.facts.shape) k.facts row (get_or k.rows row empty_row).steps weights activations) where
  pub takes : LanesTake k.facts.shape (get_or k.rows row empty_row) (get_or weights 0 0) (get_or activations 0 0)
  takes = lanes_take k.facts (kept k) row (get_or k.rows row empty_row) weights activations (k.rows_rule row) allowed

  pub step_table : (new : SplitRow) → length k.rows ≡ 64 → new.steps ≡ (get_or k.rows row empty_row).steps + 1
      → new.first ≡ (get_or k.rows row empty_row).first +ℤ product_at 0 (get_or weights 0 0) (get_or activations 0 0)
      → new.second ≡ (get_or k.rows row empty_row).second +ℤ product_at 1 (get_or weights 0 0) (get_or activations 0 0)
      → TableStepped empty_row row_total (λ r. r.steps) (Holds k.facts) k.facts k.rows row
      (step_gain (unpacked_split k.facts.shape) k.facts row (get_or k.rows row empty_row).steps weights activations) new
  step_table new all es ef eg =
      let old = get_or k.rows row empty_row in
      let gain = step_gain_is k.facts (kept k) row old weights activations (k.rows_rule row) allowed in
      let holds = next_row k.facts (kept k) row old weights activations (k.rows_rule row) allowed new es ef eg in
      table_gains empty_row row_total _ _ k.facts k.rows row _ _ new gain all allowed.row_lt k.rows_rule holds (omega (arith, ints)) es

-- ---- a drain

pub cleared : (f : Facts) (r : SplitRow) → r.steps ≡ 0 → r.first ≡ pos 0 → r.second ≡ pos 0 → Holds f r
cleared f r es ef eg = (omega arith, (omega (arith, ints), omega (arith, ints)), (omega (arith, ints), omega (arith, ints)))

pub drain_table : (k : Split) (row : ℕ) (new : SplitRow) → length k.rows ≡ 64 → row < 64 → new.steps ≡ 0 → new.first ≡ pos 0 → new.second ≡ pos 0
    → TableDrained empty_row row_total (λ r. r.steps) (Holds k.facts) k.facts k.rows row new
drain_table k row new all lt es ef eg =
    table_drains empty_row row_total _ _ k.facts k.rows row new all lt k.rows_rule (cleared k.facts new es ef eg) (omega (arith, ints)) es

-- the row is taken, and answered as it was
module _ (k : Split) (row : ℕ) (r : Result SplitRow RowRefusal) (rows : List SplitRow) (answer : r ≡ row_answer row (get_or k.rows row empty_row))
    (after : rows ≡ cond (is_ok r) (set k.rows row empty_row) k.rows) where
  pub taken_row_holds : (j : ℕ) → Holds k.facts (get_or rows j empty_row)
  taken_row_holds = taken_holds empty_row k.rows row r rows answer after (Holds k.facts) (cleared k.facts empty_row refl refl refl) k.rows_rule

  pub taken_row_drains : length k.rows ≡ 64 → Drained row (split_means k.facts k.rows) (split_means k.facts rows)
  taken_row_drains all = taken_drains empty_row k.rows row r rows answer after row_total (λ q. q.steps) k.facts all refl refl
