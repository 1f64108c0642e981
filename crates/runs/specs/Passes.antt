-- What the private passes of a feed and of a settle find and leave. No public contract cites it.
use Rattle.std.specs.Prelude.{◌≡◌, ℕ, ◌+◌, ◌*◌, ◌/◌, ◌%◌, ◌<◌, ◌≤◌, List, ◌∷◌, length, take, drop, ℤ, pos, ◌+ℤ◌, ◌-ℤ◌, ◌*ℤ◌, Some, None, Ok, Err, Option, Result, slice_index_or}
use Rattle.std.specs.Int.{int_wrap, w64}
use Rattle.codes.specs.declared.facts.Facts.{Facts}
use Rattle.codes.specs.declared.side.Side.TheVariants.{Weights, Activations}
use Rattle.codes.specs.declared.zero_points.ZeroPoints.{ZeroPoints}
use Rattle.codes.specs.Sums.{sum_of}
use Rattle.kernels.specs.Groups.{Unpacking}
use Rattle.kernels.specs.Answers.{both_dot}
use Rattle.kernels.specs.Meanings.{Meaning, OthersKept}
use Rattle.kernels.specs.Lists.{unpacked_list}
use Rattle.runs.specs.declared.kept.Kept.{Kept}
use Rattle.runs.specs.declared.kept.RowRecord.{RowRecord}
use Rattle.runs.specs.declared.checked.Columns.{Columns}
use Rattle.runs.specs.declared.refusal.FeedRefusal.{FeedRefusal}
use Rattle.runs.specs.declared.refusal.FeedRefusal.TheVariants.{Weights as BadWeights}
use Rattle.runs.specs.Stories.{Story, fed, onto}
use Rattle.runs.specs.Feeds.{row_codes, first_bad_row, feed_answer, feed_columns, codes_of}
use Rattle.runs.specs.Tells.{Tells}

-- ---- sums of codes, as numbers of 64 bits with sign that may wrap

abbrev pub codes_total : List ℤ → ℤ
codes_total codes = int_wrap w64 (sum_of (λ code. code) codes)

abbrev pub group_total : Option (List ℤ) → Option ℤ
group_total None = None
group_total (Some codes) = Some (codes_total codes)

abbrev pub list_total : Result (List ℤ) ℕ → Result ℤ ℕ
list_total (Ok codes) = Ok (codes_total codes)
list_total (Err group) = Err group

-- what the check of all rows finds: the sum of each row's codes, or the first bad group
abbrev pub RowsTotal : (ℕ → Result (List ℤ) ℕ) → (rows : ℕ) → Result (List ℤ) FeedRefusal → Type 0
RowsTotal codes rows (Ok sums) = (first_bad_row codes rows ≡ None) × ((row : ℕ) → row < rows → slice_index_or sums row (pos 0) ≡ codes_total (codes_of (codes row)))
RowsTotal codes rows (Err e) = (at : ℕ × ℕ) × (first_bad_row codes rows ≡ Some at) × (e ≡ BadWeights at.0 at.1)

-- what the check of a feed finds: the sums of its codes, or the first question that gets a no
abbrev pub Checked : Unpacking → Facts → (accepted n : ℕ) → (weights activations : List ℕ) → Result Columns FeedRefusal → Type 0
Checked unpacked f accepted n weights activations (Ok columns) =
    (feed_answer unpacked f accepted n weights activations ≡ Ok tt)
    × (columns.activation_sum ≡ codes_total (codes_of (unpacked_list unpacked f.shape Activations n activations)))
    × ((row : ℕ) → row < f.rows → slice_index_or columns.weight_sums row (pos 0) ≡ codes_total (codes_of (row_codes unpacked f.shape n weights row)))
Checked unpacked f accepted n weights activations (Err e) = feed_answer unpacked f accepted n weights activations ≡ Err e

-- ---- steps and drains of one row

-- a row that has steps is drained into its record; one that has none is left
pub record DrainedInto (m : Meaning) (row : ℕ) (old : RowRecord) (made : ℕ) (n : Meaning) (new : RowRecord) : Type 0 where
  pub others : OthersKept row m n
  pub weight_sum : new.weight_sum ≡ old.weight_sum
  pub busy : row < 64 → 0 < m.steps row → (n.total row ≡ pos 0) × (n.steps row ≡ 0) × (new.drained ≡ int_wrap w64 (old.drained +ℤ m.total row)) × (made ≡ 1)
  pub idle : row < 64 → m.steps row ≡ 0 → (n.total row ≡ m.total row) × (n.steps row ≡ 0) × (new.drained ≡ old.drained) × (made ≡ 0)

-- one step of a row with that gain, and a drain where its steps reach the interval
pub record SteppedInto (m : Meaning) (row : ℕ) (old : RowRecord) (gain : ℤ) (made : ℕ) (n : Meaning) (new : RowRecord) : Type 0 where
  pub others : OthersKept row m n
  pub weight_sum : new.weight_sum ≡ old.weight_sum
  pub short : m.steps row + 1 < m.facts.interval → (n.total row ≡ m.total row +ℤ gain) × (n.steps row ≡ m.steps row + 1) × (new.drained ≡ old.drained) × (made ≡ 0)
  pub full : m.steps row + 1 ≡ m.facts.interval → (n.total row ≡ pos 0) × (n.steps row ≡ 0) × (new.drained ≡ int_wrap w64 (old.drained +ℤ (m.total row +ℤ gain))) × (made ≡ 1)

-- of words that are packings
abbrev pub StepsInto : Unpacking → Meaning → (row : ℕ) → RowRecord → (weights activations : List ℕ) → (made : ℕ) → Meaning → RowRecord → Type 0
StepsInto unpacked m row old weights activations made n new =
    (gain : ℤ) → row < 64 → both_dot (unpacked Weights weights) (unpacked Activations activations) ≡ Some gain → m.steps row < m.facts.interval
    → SteppedInto m row old gain made n new

-- the words of group j
abbrev pub group_words : (width : ℕ) → List ℕ → (j : ℕ) → List ℕ
group_words width words j = take width (drop (j * width) words)

-- the first so many groups of a row gain these products
abbrev pub Gains : Unpacking → Facts → (weights activations : List ℕ) → (count : ℕ) → (ℕ → ℤ) → Type 0
Gains unpacked f weights activations count gain =
    (j : ℕ) → j < count
    → both_dot (unpacked Weights (group_words f.shape.weight_words weights j)) (unpacked Activations (group_words f.shape.activation_words activations j)) ≡ Some (gain j)

-- a row where the groups of the open stretch gained these, the newest first: the kernel holds those since the last drain,
-- and the record the rest, on top of what was there before the stretch
pub record RowAt (interval : ℕ) (base : ℤ) (first : ℕ) (gains : List ℤ) (steps : ℕ) (total drained : ℤ) (made : ℕ) : Type 0 where
  pub steps_are : steps ≡ length gains % interval
  pub total_is : total ≡ sum_of (λ g. g) (take (length gains % interval) gains)
  pub drained_is : drained ≡ int_wrap w64 ((base +ℤ sum_of (λ g. g) gains) -ℤ total)
  pub made_are : made + first ≡ length gains / interval

-- a row that was stepped once a group, for j groups
pub record RowStepped (m : Meaning) (row : ℕ) (old : RowRecord) (gain : ℕ → ℤ) (j made : ℕ) (n : Meaning) (new : RowRecord) : Type 0 where
  pub others : OthersKept row m n
  pub weight_sum : new.weight_sum ≡ old.weight_sum
  pub small : made ≤ j
  pub room : n.steps row < m.facts.interval
  pub row_at : (base : ℤ) (first : ℕ) (gains : List ℤ) → RowAt m.facts.interval base first gains (m.steps row) (m.total row) old.drained 0
      → RowAt m.facts.interval base first (onto gain j gains) (n.steps row) (n.total row) new.drained made

abbrev pub StepsRow : Unpacking → Meaning → (row : ℕ) → RowRecord → (weights activations : List ℕ) → (count made : ℕ) → Meaning → RowRecord → Type 0
StepsRow unpacked m row old weights activations count made n new =
    (gain : ℕ → ℤ) → Gains unpacked m.facts weights activations count gain → row < 64 → count ≤ 65536 → m.steps row < m.facts.interval
    → RowStepped m row old gain count made n new

-- the same, with the sum of the row's codes added to its record
pub record RowFed (m : Meaning) (row : ℕ) (old : RowRecord) (sum : ℤ) (gain : ℕ → ℤ) (count made : ℕ) (n : Meaning) (new : RowRecord) : Type 0 where
  pub others : OthersKept row m n
  pub weight_sum : new.weight_sum ≡ int_wrap w64 (old.weight_sum +ℤ sum)
  pub small : made ≤ count
  pub row_at : (base : ℤ) (first : ℕ) (gains : List ℤ) → RowAt m.facts.interval base first gains (m.steps row) (m.total row) old.drained 0
      → RowAt m.facts.interval base first (onto gain count gains) (n.steps row) (n.total row) new.drained made

abbrev pub FeedsRow : Unpacking → Meaning → (row : ℕ) → RowRecord → (sum : ℤ) → (weights activations : List ℕ) → (count made : ℕ) → Meaning → RowRecord → Type 0
FeedsRow unpacked m row old sum weights activations count made n new =
    (gain : ℕ → ℤ) → Gains unpacked m.facts weights activations count gain → row < 64 → count ≤ 65536 → m.steps row < m.facts.interval
    → RowFed m row old sum gain count made n new

-- the pass over the rows of a feed that was checked
abbrev pub Takes : Unpacking → Columns → Meaning → Kept → Meaning → Kept → Type 0
Takes unpacked columns m k m' k' =
    Checked unpacked m.facts k.accepted columns.count columns.weights.now columns.activations.now (Ok columns)
    → (s : Story) → Tells m k s → Tells m' k' (fed (feed_columns unpacked m.facts columns.count columns.weights.now columns.activations.now) ∷ s)

-- ---- the sum that is read, in numbers of 64 bits with sign that may wrap on the way

abbrev pub minus_product : (from zero sum : ℤ) → ℤ
minus_product from zero sum = int_wrap w64 (from -ℤ (zero *ℤ sum))

abbrev pub plus_columns : (from : ℤ) → (n : ℕ) → ZeroPoints → ℤ
plus_columns from n z = int_wrap w64 (from +ℤ (pos n *ℤ (z.weight *ℤ z.activation)))

-- the sum of products less what the zero points add to it, over n columns
abbrev pub corrected_sum : ZeroPoints → (products weights activations : ℤ) → (n : ℕ) → ℤ
corrected_sum z products weights activations n =
    plus_columns (minus_product (minus_product products z.activation weights) z.weight activations) n z
