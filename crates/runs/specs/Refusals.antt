-- The numbers of the refusals. The places that a refusal carries are its fields.
use Rattle.std.specs.Prelude.{ℕ}
use Rattle.runs.specs.declared.refusal.FeedRefusal.{FeedRefusal}
use Rattle.runs.specs.declared.refusal.FeedRefusal.TheVariants.{NoColumns, TooMany, WeightLength, ActivationLength, Weights, Activations}
use Rattle.runs.specs.declared.refusal.ReadRefusal.{ReadRefusal}
use Rattle.runs.specs.declared.refusal.ReadRefusal.TheVariants.{Row}

abbrev pub feed_number : FeedRefusal → ℕ
feed_number NoColumns = 31
feed_number TooMany = 32
feed_number WeightLength = 33
feed_number ActivationLength = 34
feed_number (Weights row group) = 35
feed_number (Activations group) = 36

abbrev pub read_number : ReadRefusal → ℕ
read_number Row = 41
