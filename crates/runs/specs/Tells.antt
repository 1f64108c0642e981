-- When a kernel and what a run keeps beside it tell a story.
use Rattle.std.specs.Prelude.{◌≡◌, ℕ, ◌+◌, ◌*◌, ◌/◌, ◌%◌, ◌<◌, ◌≤◌, List, [], length, replicate, ℤ, pos, ◌+ℤ◌, slice_index_or}
use Rattle.std.specs.List.{AllByRecursion}
use Rattle.codes.specs.declared.facts.Facts.{Facts}
use Rattle.codes.specs.Sums.{Column, sum_of, product, pair_at, row_of, exact_sum}
use Rattle.kernels.specs.Meanings.{Meaning}
use Rattle.runs.specs.declared.kept.RowRecord.{RowRecord}
use Rattle.runs.specs.declared.kept.Kept.{Kept}
use Rattle.runs.specs.Stories.{Story, columns_of, steps_of, settles_of, open_groups, drains_of, since_drain}
use Rattle.runs.specs.Feeds.{weight_at, ColumnWithin}

-- the sum of the products of a row over columns, of its weight codes, and of the activation codes
abbrev pub products : (row : ℕ) → List Column → ℤ
products row columns = sum_of (λ c. product (pair_at row c)) columns

abbrev pub sum_of_weights : (row : ℕ) → List Column → ℤ
sum_of_weights row columns = sum_of (weight_at row) columns

abbrev pub sum_of_activations : List Column → ℤ
sum_of_activations columns = sum_of (λ c. c.activation) columns

-- ---- what a run keeps

abbrev pub empty_record : RowRecord
empty_record = record { drained = pos 0; weight_sum = pos 0 }

abbrev pub nothing_kept : Kept
nothing_kept = record { rows = replicate 64 empty_record; activation_sum = pos 0; accepted = 0; steps = 0; drains = 0 }

abbrev pub record_at : Kept → (row : ℕ) → RowRecord
record_at k row = slice_index_or k.rows row empty_record

-- ---- the relation

-- the kernel holds the groups since each row's last drain, and the run keeps all the rest
pub record Tells (m : Meaning) (k : Kept) (s : Story) : Type 0 where
  pub within : AllByRecursion (ColumnWithin m.facts) (columns_of s)
  pub few : length (columns_of s) ≤ m.facts.longest
  -- the kernel
  pub steps : (row : ℕ) → row < m.facts.rows → m.steps row ≡ length (open_groups m.facts.shape.group s) % m.facts.interval
  pub total : (row : ℕ) → row < m.facts.rows → m.total row ≡ sum_of (products row) (since_drain m.facts.shape.group m.facts.interval s)
  -- what the run keeps
  pub drained : (row : ℕ) → row < m.facts.rows → (record_at k row).drained +ℤ m.total row ≡ products row (columns_of s)
  pub weights : (row : ℕ) → row < m.facts.rows → (record_at k row).weight_sum ≡ sum_of_weights row (columns_of s)
  pub activation : k.activation_sum ≡ sum_of_activations (columns_of s)
  pub accepted : k.accepted ≡ length (columns_of s)
  pub all_steps : k.steps ≡ m.facts.rows * steps_of m.facts.shape.group s
  pub all_drains : k.drains ≡ m.facts.rows * drains_of m.facts.shape.group m.facts.interval s
  -- rows that the run does not use stay empty
  pub unused : (row : ℕ) → m.facts.rows ≤ row → row < 64 → (m.steps row ≡ 0) × (m.total row ≡ pos 0) × (record_at k row ≡ empty_record)

-- the same, and no group is left in the kernel
pub record TellsSettled (m : Meaning) (k : Kept) (s : Story) : Type 0 where
  pub tells : Tells m k s
  pub settled : open_groups m.facts.shape.group s ≡ []

-- what a read of a row tells of the story: the exact sum, the steps of all rows, and their drains
pub record ReadTrue (f : Facts) (s : Story) (row : ℕ) (sum : ℤ) (steps drains : ℕ) : Type 0 where
  pub there : row < f.rows
  pub exact : sum ≡ exact_sum f.zeros (row_of row (columns_of s))
  pub steps_are : steps ≡ f.rows * steps_of f.shape.group s
  pub drains_are : drains ≡ f.rows * drains_of f.shape.group f.interval s
  pub drains_few : drains ≤ f.rows * (steps_of f.shape.group s / f.interval + settles_of s)
