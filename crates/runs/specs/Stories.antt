-- What a run was given since its start, and what it has to have done by then.
use Rattle.std.specs.Prelude.{ℕ, zero, suc, ◌+◌, ◌*◌, ◌/◌, ◌%◌, List, [], ◌∷◌, ◌++◌, length, take, drop}
use Rattle.codes.specs.Codes.{groups}
use Rattle.codes.specs.Sums.{Column}

-- an accepted feed with its columns, or a settle
pub data Event : Type 0 where
  fed : List Column → Event
  settled : Event

-- the events since the start, the newest first
abbrev pub Story : Type 0
Story = List Event

-- the columns of all accepted feeds
abbrev pub columns_of : Story → List Column
columns_of [] = []
columns_of (fed columns ∷ s) = columns ++ columns_of s
columns_of (settled ∷ s) = columns_of s

-- the steps of one row: the groups of all accepted feeds together, each feed's last one filled up
abbrev pub steps_of : (size : ℕ) → Story → ℕ
steps_of size [] = 0
steps_of size (fed columns ∷ s) = groups size (length columns) + steps_of size s
steps_of size (settled ∷ s) = steps_of size s

abbrev pub settles_of : Story → ℕ
settles_of [] = 0
settles_of (fed columns ∷ s) = settles_of s
settles_of (settled ∷ s) = settles_of s + 1

-- ---- stretches: from the start, or from a settle, to the next settle

-- group j of the columns of a feed
abbrev pub group_of : (size : ℕ) → List Column → (j : ℕ) → List Column
group_of size columns j = take size (drop (j * size) columns)

-- the first `count` groups put in front of those that were there, the newest first
abbrev pub onto : {X : Type 0} → (ℕ → X) → (count : ℕ) → List X → List X
onto group zero before = before
onto group (suc count) before = group count ∷ onto group count before

-- the groups of the stretch that is not settled yet, the newest first
abbrev pub open_groups : (size : ℕ) → Story → List (List Column)
open_groups size [] = []
open_groups size (fed columns ∷ s) = onto (group_of size columns) (groups size (length columns)) (open_groups size s)
open_groups size (settled ∷ s) = []

-- the steps that one row made in each settled stretch
abbrev pub stretches : (size : ℕ) → Story → List ℕ
stretches size [] = []
stretches size (fed columns ∷ s) = stretches size s
stretches size (settled ∷ s) = length (open_groups size s) ∷ stretches size s

-- ---- drains

-- the drains of one row in a settled stretch: its steps divided by the interval, rounded up
abbrev pub stretch_drains : (interval steps : ℕ) → ℕ
stretch_drains interval steps = groups interval steps

abbrev pub settled_drains : (interval : ℕ) → List ℕ → ℕ
settled_drains interval [] = 0
settled_drains interval (steps ∷ rest) = stretch_drains interval steps + settled_drains interval rest

-- all drains of one row; in the stretch that is not settled yet the fraction is dropped
abbrev pub drains_of : (size interval : ℕ) → Story → ℕ
drains_of size interval s = length (open_groups size s) / interval + settled_drains interval (stretches size s)

-- the groups since the last drain of a row
abbrev pub since_drain : (size interval : ℕ) → Story → List (List Column)
since_drain size interval s = take (length (open_groups size s) % interval) (open_groups size s)
