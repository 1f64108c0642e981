-- What a feed answers, and the columns that its words pack.
use Rattle.std.specs.Prelude.{◌≡◌, ℕ, zero, suc, ◌+◌, ◌*◌, ◌<◌, List, [], map, length, get_or, take, drop, ℤ, pos, Some, None, Ok, Err, Option, Result, ◌==◌, nat_le, slice_index_or}
use Rattle.std.specs.List.{range_with_len, AllByRecursion}
use Rattle.codes.specs.declared.facts.Facts.{Facts}
use Rattle.codes.specs.declared.shape.Shape.{Shape}
use Rattle.codes.specs.declared.side.Side.TheVariants.{Weights as OfWeights, Activations as OfActivations}
use Rattle.codes.specs.Codes.{Within}
use Rattle.codes.specs.Sums.{Column}
use Rattle.kernels.specs.Groups.{Packing, Unpacking}
use Rattle.kernels.specs.Answers.{ask}
use Rattle.kernels.specs.Lists.{words_for, packed_list, unpacked_list, PacksAgain, FirstBad}
use Rattle.runs.specs.declared.refusal.FeedRefusal.{FeedRefusal}
use Rattle.runs.specs.declared.refusal.FeedRefusal.TheVariants.{NoColumns, TooMany, WeightLength, ActivationLength, Weights, Activations}

-- ---- the words of a feed: those of the weights, row after row, and those of the activations

-- the words of a row of n codes
abbrev pub row_words : Shape → (n : ℕ) → (weights : List ℕ) → (row : ℕ) → List ℕ
row_words s n weights row = take (words_for s OfWeights n) (drop (row * words_for s OfWeights n) weights)

-- the n codes that they pack, or the first group that is not a packing of its codes
abbrev pub row_codes : Unpacking → Shape → (n : ℕ) → (weights : List ℕ) → (row : ℕ) → Result (List ℤ) ℕ
row_codes unpacked s n weights row = unpacked_list unpacked s OfWeights n (row_words s n weights row)

-- ---- the questions

-- the first of so many rows that has a bad group, and that group
abbrev pub or_else : {X : Type 0} → Option X → Option X → Option X
or_else None later = later
or_else (Some first) later = Some first

abbrev pub bad_in : (row : ℕ) → Result (List ℤ) ℕ → Option (ℕ × ℕ)
bad_in row (Ok codes) = None
bad_in row (Err group) = Some (row, group)

abbrev pub first_bad_row : (ℕ → Result (List ℤ) ℕ) → (rows : ℕ) → Option (ℕ × ℕ)
first_bad_row codes zero = None
first_bad_row codes (suc row) = or_else (first_bad_row codes row) (bad_in row (codes row))

-- the questions on the numbers of columns and words, and then the next ones
abbrev pub ask_sizes : Facts → (accepted n weights activations : ℕ) → Result (Unit {0}) FeedRefusal → Result (Unit {0}) FeedRefusal
ask_sizes f accepted n weights activations next =
    ask (nat_le 1 n) NoColumns
    (ask (nat_le (accepted + n) f.longest) TooMany
    (ask (weights == f.rows * words_for f.shape OfWeights n) WeightLength
    (ask (activations == words_for f.shape OfActivations n) ActivationLength next)))

-- the questions on the words
abbrev pub ask_groups : Option (ℕ × ℕ) → Result (List ℤ) ℕ → Result (Unit {0}) FeedRefusal
ask_groups (Some at) activations = Err (Weights at.0 at.1)
ask_groups None (Err group) = Err (Activations group)
ask_groups None (Ok codes) = Ok tt

-- the answer to a feed of n columns, where so many are accepted already
unfoldable pub feed_answer : Unpacking → Facts → (accepted n : ℕ) → (weights activations : List ℕ) → Result (Unit {0}) FeedRefusal
feed_answer unpacked f accepted n weights activations =
    ask_sizes f accepted n (length weights) (length activations)
    (ask_groups (first_bad_row (row_codes unpacked f.shape n weights) f.rows) (unpacked_list unpacked f.shape OfActivations n activations))

-- ---- the columns

abbrev pub codes_of : Result (List ℤ) ℕ → List ℤ
codes_of (Ok codes) = codes
codes_of (Err group) = []

-- column i of rows and activations with these codes
abbrev pub column_at : (rows : ℕ) → (ℕ → List ℤ) → List ℤ → (i : ℕ) → Column
column_at rows weights activations i = record {
  weights = map (λ row. get_or (weights row) i (pos 0)) (range_with_len 0 rows);
  activation = slice_index_or activations i (pos 0);
}

abbrev pub columns_with : (rows n : ℕ) → (ℕ → List ℤ) → List ℤ → List Column
columns_with rows n weights activations = map (column_at rows weights activations) (range_with_len 0 n)

-- the n columns that the words of a feed pack, fill left out
unfoldable pub feed_columns : Unpacking → Facts → (n : ℕ) → (weights activations : List ℕ) → List Column
feed_columns unpacked f n weights activations =
    columns_with f.rows n (λ row. codes_of (row_codes unpacked f.shape n weights row)) (codes_of (unpacked_list unpacked f.shape OfActivations n activations))

-- ---- the laws

-- the weight code of a row in a column
abbrev pub weight_at : (row : ℕ) → Column → ℤ
weight_at row c = slice_index_or c.weights row (pos 0)

-- one weight code for each row and one activation code, all within their ends
pub record ColumnWithin (f : Facts) (c : Column) : Type 0 where
  pub rows : length c.weights ≡ f.rows
  pub weights : AllByRecursion (Within f.shape.weight_ends) c.weights
  pub activation : Within f.shape.activation_ends c.activation

-- the words of a feed are the packing of these n columns
pub record PacksColumns (packed : Packing) (f : Facts) (n : ℕ) (weights activations : List ℕ) (columns : List Column) : Type 0 where
  pub count : length columns ≡ n
  pub within : AllByRecursion (ColumnWithin f) columns
  pub weight_words : (row : ℕ) → row < f.rows → packed_list packed f.shape OfWeights (map (weight_at row) columns) ≡ row_words f.shape n weights row
  pub activation_words : packed_list packed f.shape OfActivations (map (λ c. c.activation) columns) ≡ activations

-- the words of a row are the packing of n codes
abbrev pub RowPacks : Packing → Shape → (n : ℕ) → (weights : List ℕ) → (row : ℕ) → Type 0
RowPacks packed s n weights row = (codes : List ℤ) × PacksAgain packed s OfWeights n (row_words s n weights row) codes

-- an accepted feed packs its columns; a refused group is the first bad one of the first row that has one
abbrev pub FeedPacks : Packing → Facts → (n : ℕ) → (weights activations : List ℕ) → List Column → Result (Unit {0}) FeedRefusal → Type 0
FeedPacks packed f n weights activations columns (Ok u) = PacksColumns packed f n weights activations columns
FeedPacks packed f n weights activations columns (Err NoColumns) = Unit {0}
FeedPacks packed f n weights activations columns (Err TooMany) = Unit {0}
FeedPacks packed f n weights activations columns (Err WeightLength) = Unit {0}
FeedPacks packed f n weights activations columns (Err ActivationLength) = Unit {0}
FeedPacks packed f n weights activations columns (Err (Weights row group)) =
    (row < f.rows) × FirstBad packed f.shape OfWeights n (row_words f.shape n weights row) group × ((r : ℕ) → r < row → RowPacks packed f.shape n weights r)
FeedPacks packed f n weights activations columns (Err (Activations group)) =
    ((r : ℕ) → r < f.rows → RowPacks packed f.shape n weights r) × FirstBad packed f.shape OfActivations n activations group
