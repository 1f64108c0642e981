-- Columns, pairs and the exact sum of a row.
use Rattle.std.specs.Prelude.{ℕ, List, [], ◌∷◌, map, ℤ, pos, ◌+ℤ◌, ◌-ℤ◌, ◌*ℤ◌, slice_index_or}
use Rattle.codes.specs.declared.zero_points.ZeroPoints.{ZeroPoints}

-- the sum of what f gives of each element
abbrev pub sum_of : {X : Type 0} → (X → ℤ) → List X → ℤ
sum_of f [] = pos 0
sum_of f (x ∷ xs) = f x +ℤ sum_of f xs

-- one weight code and one activation code that are multiplied
pub record Pair : Type 0 where
  pub weight : ℤ
  pub activation : ℤ

-- one weight code for each row, and one activation code
pub record Column : Type 0 where
  pub weights : List ℤ
  pub activation : ℤ

-- what one row has in a column
abbrev pub pair_at : (row : ℕ) → Column → Pair
pair_at row c = record { weight = slice_index_or c.weights row (pos 0); activation = c.activation }

-- what one row has in a list of columns
abbrev pub row_of : (row : ℕ) → List Column → List Pair
row_of row columns = map (pair_at row) columns

-- the product of the two codes
abbrev pub product : Pair → ℤ
product p = p.weight *ℤ p.activation

-- (weight − weight zero point) × (activation − activation zero point)
abbrev pub term : ZeroPoints → Pair → ℤ
term z p = (p.weight -ℤ z.weight) *ℤ (p.activation -ℤ z.activation)

-- the exact sum of a row
abbrev pub exact_sum : ZeroPoints → List Pair → ℤ
exact_sum z pairs = sum_of (term z) pairs
