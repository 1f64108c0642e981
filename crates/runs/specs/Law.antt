-- The law over any list of calls.
use Rattle.std.specs.Prelude.{◌≡◌, ℕ, zero, suc, ◌<◌, ◌≤◌, Bool, true, false, List, [], ◌∷◌, length, ℤ, Ok, Err, slice_index_or}
use Rattle.std.specs.List.Sorted.{IsPermutation}
use Rattle.codes.specs.declared.facts.Facts.{Facts}
use Rattle.codes.specs.declared.shape.Shape.{Shape}
use Rattle.kernels.specs.Groups.{Unpacking}
use Rattle.kernels.specs.Meanings.{Meaning}
use Rattle.runs.specs.declared.refusal.FeedRefusal.{FeedRefusal}
use Rattle.runs.specs.declared.replay.Run.{Run}
use Rattle.runs.specs.declared.replay.Run.TheVariants.{Open, Settled}
use Rattle.runs.specs.declared.calls.Call.{Call}
use Rattle.runs.specs.declared.calls.Call.TheVariants as call
use Rattle.runs.specs.declared.calls.Answer.{Answer}
use Rattle.runs.specs.declared.calls.Answer.TheVariants as answer
use Rattle.runs.specs.Stories.{Story, fed, settled, columns_of}
use Rattle.runs.specs.Feeds.{feed_answer, feed_columns}
use Rattle.runs.specs.Tells.{Tells, TellsSettled, ReadTrue}

-- ---- where a run stands

-- what it was given since its start, and whether it is open
pub record Point : Type 0 where
  pub story : Story
  pub is_open : Bool

abbrev pub open_at : Story → Point
open_at s = record { story = s; is_open = true }

abbrev pub settled_at : Story → Point
settled_at s = record { story = s; is_open = false }

abbrev pub StandsAt : {K : Type 0} → (means : K → Meaning) → Run K → Point → Type 0
StandsAt means (Open r) p = (p.is_open ≡ true) × Tells (means r.kernel) r.kept p.story
StandsAt means (Settled r) p = (p.is_open ≡ false) × TellsSettled (means r.kernel) r.kept p.story

abbrev pub kernel_of : {K : Type 0} → Run K → K
kernel_of (Open r) = r.kernel
kernel_of (Settled r) = r.kernel

-- ---- one call

-- the calls that an open and a settled run allow
abbrev pub allowed : (is_open : Bool) → Call → Bool
allowed true (call.Feed n weights activations) = true
allowed true call.Settle = true
allowed true (call.Read row) = false
allowed true call.Resume = false
allowed true call.Clear = false
allowed false (call.Feed n weights activations) = false
allowed false call.Settle = false
allowed false (call.Read row) = true
allowed false call.Resume = true
allowed false call.Clear = true

-- the story goes on with the columns of an accepted feed
abbrev pub story_fed : Facts → Unpacking → Call → Story → Story
story_fed f u (call.Feed n weights activations) s = fed (feed_columns u f n weights.now activations.now) ∷ s
story_fed f u call.Settle s = s
story_fed f u (call.Read row) s = s
story_fed f u call.Resume s = s
story_fed f u call.Clear s = s

-- where a run stands after a call with that answer; a refused or misplaced call leaves it where it was
abbrev pub point_after : Facts → Unpacking → Call → Answer → Point → Point
point_after f u c answer.Fed p = open_at (story_fed f u c p.story)
point_after f u c (answer.FeedRefused e) p = p
point_after f u c answer.Settled p = settled_at (settled ∷ p.story)
point_after f u c (answer.Sum sum steps drains) p = p
point_after f u c (answer.ReadRefused e) p = p
point_after f u c answer.Resumed p = open_at p.story
point_after f u c answer.Cleared p = open_at []
point_after f u c answer.Misplaced p = p

-- a feed is accepted exactly where every question gets a yes, and else refused for the first that gets a no
abbrev pub FedRight : Facts → Unpacking → Call → Story → Type 0
FedRight f u (call.Feed n weights activations) s = feed_answer u f (length (columns_of s)) n weights.now activations.now ≡ Ok tt
FedRight f u call.Settle s = ⊥
FedRight f u (call.Read row) s = ⊥
FedRight f u call.Resume s = ⊥
FedRight f u call.Clear s = ⊥

abbrev pub FeedRefusedRight : Facts → Unpacking → Call → Story → FeedRefusal → Type 0
FeedRefusedRight f u (call.Feed n weights activations) s e = feed_answer u f (length (columns_of s)) n weights.now activations.now ≡ Err e
FeedRefusedRight f u call.Settle s e = ⊥
FeedRefusedRight f u (call.Read row) s e = ⊥
FeedRefusedRight f u call.Resume s e = ⊥
FeedRefusedRight f u call.Clear s e = ⊥

-- a read is exact over the columns accepted since the start, with the steps and drains of the story
abbrev pub ReadRight : Facts → Call → Story → (sum : ℤ) → (steps drains : ℕ) → Type 0
ReadRight f (call.Feed n weights activations) s sum steps drains = ⊥
ReadRight f call.Settle s sum steps drains = ⊥
ReadRight f (call.Read row) s sum steps drains = ReadTrue f s row sum steps drains
ReadRight f call.Resume s sum steps drains = ⊥
ReadRight f call.Clear s sum steps drains = ⊥

-- and refused exactly for a row that the run does not have
abbrev pub ReadRefusedRight : Facts → Call → Type 0
ReadRefusedRight f (call.Feed n weights activations) = ⊥
ReadRefusedRight f call.Settle = ⊥
ReadRefusedRight f (call.Read row) = f.rows ≤ row
ReadRefusedRight f call.Resume = ⊥
ReadRefusedRight f call.Clear = ⊥

-- the answer to a call is right where the run stands
abbrev pub Right : Facts → Unpacking → Call → Answer → Point → Type 0
Right f u c answer.Fed p = (allowed p.is_open c ≡ true) × FedRight f u c p.story
Right f u c (answer.FeedRefused e) p = (allowed p.is_open c ≡ true) × FeedRefusedRight f u c p.story e
Right f u c answer.Settled p = (p.is_open ≡ true) × (c ≡ call.Settle)
Right f u c (answer.Sum sum steps drains) p = (allowed p.is_open c ≡ true) × ReadRight f c p.story sum steps drains
Right f u c (answer.ReadRefused e) p = (allowed p.is_open c ≡ true) × ReadRefusedRight f c
Right f u c answer.Resumed p = (p.is_open ≡ false) × (c ≡ call.Resume)
Right f u c answer.Cleared p = (p.is_open ≡ false) × (c ≡ call.Clear)
Right f u c answer.Misplaced p = allowed p.is_open c ≡ false

-- one call leads a run from each point where it stands to the next
abbrev pub Turns : {K : Type 0} → (means : K → Meaning) → (Shape → Unpacking) → Run K → Call → Answer → Run K → Type 0
Turns means unpacked r c a q =
    ((means (kernel_of q)).facts ≡ (means (kernel_of r)).facts)
    × ((p : Point) → StandsAt means r p
    → Right (means (kernel_of r)).facts (unpacked (means (kernel_of r)).facts.shape) c a p
    × StandsAt means q (point_after (means (kernel_of r)).facts (unpacked (means (kernel_of r)).facts.shape) c a p))

-- ---- a list of calls

-- every answer is right where its call was made
abbrev pub AllRight : Facts → Unpacking → List Call → List Answer → Point → Type 0
AllRight f u [] answers p = Unit {0}
AllRight f u (c ∷ calls) [] p = Unit {0}
AllRight f u (c ∷ calls) (a ∷ answers) p = Right f u c a p × AllRight f u calls answers (point_after f u c a p)

-- where the run stands before call i, and after all calls
abbrev pub point_before : Facts → Unpacking → List Call → List Answer → (i : ℕ) → Point → Point
point_before f u [] answers i p = p
point_before f u (c ∷ calls) [] i p = p
point_before f u (c ∷ calls) (a ∷ answers) zero p = p
point_before f u (c ∷ calls) (a ∷ answers) (suc i) p = point_before f u calls answers i (point_after f u c a p)

abbrev pub end_point : Facts → Unpacking → List Call → List Answer → Point → Point
end_point f u [] answers p = p
end_point f u (c ∷ calls) [] p = p
end_point f u (c ∷ calls) (a ∷ answers) p = end_point f u calls answers (point_after f u c a p)

-- call i was a read of that row, answered with that sum and those counts, when the run had accepted these columns since
-- its start
pub record ReadAt (f : Facts) (u : Unpacking) (calls : List Call) (answers : List Answer) (from : Point) (row : ℕ) (sum : ℤ) (steps drains : ℕ) (s : Story) : Type 0 where
  pub i : ℕ
  pub made : i < length calls
  pub answered : i < length answers
  pub call_is : (d : Call) → slice_index_or calls i d ≡ call.Read row
  pub answer_is : (d : Answer) → slice_index_or answers i d ≡ answer.Sum sum steps drains
  pub since : s ≡ (point_before f u calls answers i from).story

-- every accepted read gives its row's exact sum over the columns accepted since the start, with the steps, and at most
-- the drains, that these take
abbrev pub ReadsExact : Facts → Unpacking → List Call → List Answer → Point → Type 0
ReadsExact f u calls answers from =
    (row : ℕ) (sum : ℤ) (steps drains : ℕ) (s : Story) → ReadAt f u calls answers from row sum steps drains s → ReadTrue f s row sum steps drains

-- what a list of calls says of a run that stands at this point
pub record Lawful {K : Type 0} (means : K → Meaning) (f : Facts) (u : Unpacking) (calls : List Call) (answers : List Answer) (from : Point) (r : Run K) : Type 0 where
  pub right : AllRight f u calls answers from
  pub reads : ReadsExact f u calls answers from
  pub stands : StandsAt means r (end_point f u calls answers from)

-- a run goes on, from each point where it stands
abbrev pub Continues : {K : Type 0} → (means : K → Meaning) → (Shape → Unpacking) → Run K → List Call → List Answer → Run K → Type 0
Continues means unpacked r calls answers q =
    ((means (kernel_of q)).facts ≡ (means (kernel_of r)).facts)
    × ((p : Point) → StandsAt means r p → Lawful means (means (kernel_of r)).facts (unpacked (means (kernel_of r)).facts.shape) calls answers p q)

-- a new run begins open, with nothing given
abbrev pub Replays : {K : Type 0} → (means : K → Meaning) → (Shape → Unpacking) → K → List Call → List Answer → Run K → Type 0
Replays means unpacked k calls answers q =
    ((means (kernel_of q)).facts ≡ (means k).facts)
    × Lawful means (means k).facts (unpacked (means k).facts.shape) calls answers (open_at []) q

-- ---- two runs

-- equal rows and zero points
pub record SameRows (f g : Facts) : Type 0 where
  pub rows : f.rows ≡ g.rows
  pub zeros : f.zeros ≡ g.zeros

-- reads of a row by two runs that accepted the same columns equally often since their start, in whatever order and cuts,
-- give the same sum
abbrev pub Agree : Facts → Unpacking → List Call → List Answer → Facts → Unpacking → List Call → List Answer → Type 0
Agree f u calls answers g v others replies =
    SameRows f g
    → (row : ℕ) (x y : ℤ) (steps drains steps' drains' : ℕ) (s t : Story)
    → ReadAt f u calls answers (open_at []) row x steps drains s → ReadAt g v others replies (open_at []) row y steps' drains' t
    → IsPermutation (columns_of s) (columns_of t) → x ≡ y
