-- What each call of a run does, by the stories that the run tells.
use Rattle.std.specs.Prelude.{◌≡◌, ℕ, ◌≤◌, List, ◌∷◌, ℤ, Ok, Err, Result}
use Rattle.codes.specs.declared.facts.Facts.{Facts}
use Rattle.codes.specs.Sums.{Column}
use Rattle.kernels.specs.Groups.{Unpacking}
use Rattle.kernels.specs.Meanings.{Meaning}
use Rattle.runs.specs.declared.kept.Kept.{Kept}
use Rattle.runs.specs.declared.refusal.FeedRefusal.{FeedRefusal}
use Rattle.runs.specs.declared.refusal.ReadRefusal.{ReadRefusal}
use Rattle.runs.specs.Stories.{Story, fed, settled}
use Rattle.runs.specs.Feeds.{feed_answer, feed_columns}
use Rattle.runs.specs.Tells.{Tells, TellsSettled, ReadTrue}

-- a refusal leaves everything as it was
abbrev pub KeptIfRefused : {A V E : Type 0} → Result V E → (before after : A) → Type 0
KeptIfRefused (Ok value) before after = Unit {0}
KeptIfRefused (Err e) before after = after ≡ before

-- every story that was told goes on with the columns of an accepted feed
abbrev pub StoryFed : List Column → Result (Unit {0}) FeedRefusal → Meaning → Kept → Meaning → Kept → Type 0
StoryFed columns (Ok u) m k m' k' = (s : Story) → Tells m k s → Tells m' k' (fed columns ∷ s)
StoryFed columns (Err e) m k m' k' = Unit {0}

pub record Feeds (unpacked : Unpacking) (n : ℕ) (weights activations : List ℕ) (r : Result (Unit {0}) FeedRefusal) (m : Meaning) (k : Kept) (m' : Meaning) (k' : Kept) : Type 0 where
  pub facts : m'.facts ≡ m.facts
  pub answer : r ≡ feed_answer unpacked m.facts k.accepted n weights activations
  pub story : StoryFed (feed_columns unpacked m.facts n weights activations) r m k m' k'

-- every story that was told goes on with a settle, and nothing is left in the kernel
pub record Settles (m : Meaning) (k : Kept) (m' : Meaning) (k' : Kept) : Type 0 where
  pub facts : m'.facts ≡ m.facts
  pub story : (s : Story) → Tells m k s → TellsSettled m' k' (settled ∷ s)

-- what a read answers of every story that is told
abbrev pub ReadSays : Facts → Story → (row : ℕ) → Result (ℤ × ℕ × ℕ) ReadRefusal → Type 0
ReadSays f s row (Ok answer) = ReadTrue f s row answer.0 answer.1 answer.2
ReadSays f s row (Err e) = f.rows ≤ row

abbrev pub Reads : Meaning → Kept → (row : ℕ) → Result (ℤ × ℕ × ℕ) ReadRefusal → Type 0
Reads m k row r = (s : Story) → TellsSettled m k s → ReadSays m.facts s row r
