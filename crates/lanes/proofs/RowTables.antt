-- A step and a drain of the rows of a kernel of lanes, whatever record a row is.
use Rattle.std.proofs.Common.{◌≡◌, ℕ, ◌+◌, ◌*◌, ◌%◌, ◌^◌, ◌<◌, ◌≤◌, List, length, get_or, set, replicate, cond, is_ok, Result, ℤ, pos, refl, ap, ◌∙◌, arith}
use Rattle.std.proofs.lemmas.List.{get_or_default}
use Rattle.codes.specs.declared.facts.Facts.{Facts}
use Rattle.kernels.specs.declared.refusal.RowRefusal.{RowRefusal}
use Rattle.kernels.specs.Answers.{row_answer, step_gain}
use Rattle.kernels.specs.Meanings.{Drained}
use Rattle.kernels.specs.Tables.{table_means}
use Rattle.kernels.specs.Allowed.{StepAllowed}
use Rattle.kernels.proofs.Tables.{new_holds, new_means, TableStepped, table_steps, TableDrained, table_drains, taken_holds, taken_drains}
use Rattle.lanes.specs.declared.lanes.Lanes.{Lanes}
use Rattle.lanes.specs.declared.row.LaneRow.{LaneRow}
use Rattle.lanes.specs.Lanes.{read_lane}
use Rattle.lanes.specs.Words.{unpacked_lanes}
use Rattle.lanes.specs.Rows.{most_of, RowHolds}
use Rattle.lanes.specs.Tables.{empty_row}
use Rattle.lanes.specs.Makes.{Kept}
use Rattle.lanes.specs.Sizes.{laid}
use Rattle.lanes.proofs.Stepping.{next_row, empty_reads, empty_holds}

-- the total that a row means, and what holds of it
abbrev pub total_of : {R : Type 0} → (accumulator : R → ℕ) → Lanes → R → ℤ
total_of accumulator l r = pos (read_lane l.width l.depth (accumulator r))

abbrev pub Holds : {R : Type 0} → (steps accumulator : R → ℕ) → Facts → Lanes → R → Type 0
Holds steps accumulator f l r = RowHolds l.width l.depth (most_of l.depth l.weight_size l.activation_size) f.interval (steps r) (accumulator r)

-- a row with steps and accumulator 0
module _ {R : Type 0} (steps accumulator : R → ℕ) (f : Facts) (l : Lanes) (r : R) (none : accumulator r ≡ 0) where
  pub total_none : total_of accumulator l r ≡ pos 0
  total_none = rw none (ap pos (empty_reads l.width l.depth))

  pub holds_none : steps r ≡ 0 → Holds steps accumulator f l r
  holds_none start = rw (none, start) (empty_holds l.width l.depth (most_of l.depth l.weight_size l.activation_size) f.interval)

-- the rows of a make: steps, and an accumulator
abbrev pub steps_in : {A : Type 0} → LaneRow A → ℕ
steps_in r = r.steps

abbrev pub value_in : {A : Type 0} → (value : A → ℕ) → LaneRow A → ℕ
value_in value r = value r.accumulator

-- a table of rows that are all empty
module _ {A : Type 0} (value : A → ℕ) (l : Lanes) (none : A) (none_is : value none ≡ 0) (r : LaneRow A) (empty : r ≡ empty_row none) where
  pub holds_new : (j : ℕ) → Holds steps_in (value_in value) l.facts l (get_or (replicate 64 r) j (empty_row none))
  holds_new = new_holds (empty_row none) r empty (Holds steps_in (value_in value) l.facts l) (holds_none steps_in (value_in value) l.facts l (empty_row none) none_is refl)

  pub means_new : (j : ℕ) → (total_of (value_in value) l (get_or (replicate 64 r) j (empty_row none)) ≡ pos 0) × ((get_or (replicate 64 r) j (empty_row none)).steps ≡ 0)
  means_new = new_means (empty_row none) r empty (total_of (value_in value) l) steps_in (total_none steps_in (value_in value) l.facts l (empty_row none) none_is) refl

-- a kernel with accumulators of so many bits, whose make has a name for the width of its lanes
pub record LaneTable (bits : ℕ) (R : Type 0) : Type 0 where
  pub empty : R
  pub steps : R → ℕ
  pub accumulator : R → ℕ
  pub facts : Facts
  pub lanes : Lanes
  pub width : ℕ
  pub rows : List R
  pub width_is : lanes.width ≡ width
  pub kept : Kept bits facts lanes.width lanes.depth lanes.weight_size lanes.activation_size
  pub hold : (j : ℕ) → Holds steps accumulator facts lanes (get_or rows j empty)

-- the table of a make
abbrev pub lane_table : {bits : ℕ} {A : Type 0} (none : A) (value : A → ℕ) (l : Lanes) (width : ℕ) (rows : List (LaneRow A))
    → l.width ≡ width → l.width * l.depth ≤ bits → l.facts.interval * most_of l.depth l.weight_size l.activation_size < 2 ^ l.width
    → ((j : ℕ) → Holds steps_in (value_in value) l.facts l (get_or rows j (empty_row none))) → LaneTable bits (LaneRow A)
lane_table none value l width rows width_is fits lane hold = record {
  empty = empty_row none;
  steps = steps_in;
  accumulator = value_in value;
  facts = l.facts;
  lanes = l;
  width = width;
  rows = rows;
  width_is = width_is;
  kept = record { shape = l.shape_rule; laid = laid l; fits = fits; lane = lane };
  hold = hold;
}

module _ {bits : ℕ} {R : Type 0} (k : LaneTable bits R) (row : ℕ) (new : R) (all : length k.rows ≡ 64) where
  -- the table with the new row, after a step by lanes of a width, or after a drain
  abbrev StepsTo : (width : ℕ) → (weights activations : List ℕ) → Type 0
  StepsTo width weights activations =
      TableStepped k.empty (total_of k.accumulator k.lanes) k.steps (Holds k.steps k.accumulator k.facts k.lanes) k.facts k.rows row
      (step_gain (unpacked_lanes width k.facts.shape) k.facts row (k.steps (get_or k.rows row k.empty)) weights activations) new

  abbrev DrainsTo : Type 0
  DrainsTo = TableDrained k.empty (total_of k.accumulator k.lanes) k.steps (Holds k.steps k.accumulator k.facts k.lanes) k.facts k.rows row new

  -- the row before, whatever stands past the table
  pub lanes_step : (weights activations : List ℕ) (past : R)
      → StepAllowed (unpacked_lanes k.lanes.width k.facts.shape) k.facts row (k.steps (get_or k.rows row k.empty)) weights activations
      → k.steps new ≡ k.steps (get_or k.rows row past) + 1
      → k.accumulator new ≡ (k.accumulator (get_or k.rows row past) + (get_or weights 0 0 * get_or activations 0 0) % 2 ^ bits) % 2 ^ bits
      → StepsTo k.width weights activations
  lanes_step weights activations past asked steps accumulator =
      let l = k.lanes in
      let f = k.facts in
      let old = get_or k.rows row k.empty in
      let there : row < length k.rows = omega (arith, asked.row_lt) in
      let same : get_or k.rows row past ≡ get_or k.rows row k.empty = get_or_default k.rows row past k.empty there in
      let es = steps ∙ ap (λ (r : R). k.steps r + 1) same in
      let ea = accumulator ∙ ap (λ (r : R). (k.accumulator r + (get_or weights 0 0 * get_or activations 0 0) % 2 ^ bits) % 2 ^ bits) same in
      let n = next_row bits f l.width k.width l.depth l.weight_size l.activation_size k.kept k.width_is row (k.steps old) (k.accumulator old)
      (k.steps new) (k.accumulator new) weights activations asked (k.hold row) es ea in
      table_steps k.empty _ k.steps _ f k.rows row _ new all asked.row_lt k.hold n.holds n.total n.steps

  pub lanes_drain : row < 64 → k.steps new ≡ 0 → k.accumulator new ≡ 0 → DrainsTo
  lanes_drain lt es ea =
      table_drains k.empty _ k.steps _ k.facts k.rows row new all lt k.hold
      (holds_none k.steps k.accumulator k.facts k.lanes new ea es) (total_none k.steps k.accumulator k.facts k.lanes new ea) es

-- a drain: the row is taken, and a row with steps and accumulator 0 stands in its place
module _ {bits : ℕ} {R : Type 0} (k : LaneTable bits R) (row : ℕ) (r : Result R RowRefusal) (rows : List R) (all : length k.rows ≡ 64)
    (answer : r ≡ row_answer row (get_or k.rows row k.empty)) (after : rows ≡ cond (is_ok r) (set k.rows row k.empty) k.rows) where
  pub record Taken : Type 0 where
    pub holds : (j : ℕ) → Holds k.steps k.accumulator k.facts k.lanes (get_or rows j k.empty)
    pub drained : Drained row (table_means k.empty (total_of k.accumulator k.lanes) k.steps k.facts k.rows)
        (table_means k.empty (total_of k.accumulator k.lanes) k.steps k.facts rows)

  pub lanes_taken : k.steps k.empty ≡ 0 → k.accumulator k.empty ≡ 0 → Taken
  lanes_taken start none =
      record {
        holds = taken_holds k.empty k.rows row r rows answer after (Holds k.steps k.accumulator k.facts k.lanes)
            (holds_none k.steps k.accumulator k.facts k.lanes k.empty none start) k.hold;
        drained = taken_drains k.empty k.rows row r rows answer after (total_of k.accumulator k.lanes) k.steps k.facts all
            (total_none k.steps k.accumulator k.facts k.lanes k.empty none) start;
      }
