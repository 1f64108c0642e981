-- Groups of codes and their packings.
use Rattle.std.specs.Prelude.{◌≡◌, ℕ, ◌-◌, List, [], ◌∷◌, ◌++◌, length, replicate, ℤ, pos, Some, Option}
use Rattle.std.specs.List.{AllByRecursion}
use Rattle.codes.specs.declared.shape.Shape.{Shape}
use Rattle.codes.specs.declared.side.Side.{Side}
use Rattle.codes.specs.Codes.{Within}
use Rattle.codes.specs.Shapes.{ends_on, words_on}
use Rattle.codes.specs.Sums.{Pair, product, sum_of}

-- a full group of codes within the ends of its side
pub record Group (s : Shape) (side : Side) (codes : List ℤ) : Type 0 where
  pub full : length codes ≡ s.group
  pub within : AllByRecursion (Within (ends_on s side)) codes

-- the codes, filled up with code 0 to a full group
abbrev pub filled : (size : ℕ) → List ℤ → List ℤ
filled size codes = codes ++ replicate (size - length codes) (pos 0)

-- weights and activations, place by place
abbrev pub paired : List ℤ → List ℤ → List Pair
paired [] activations = []
paired (w ∷ weights) [] = []
paired (w ∷ weights) (a ∷ activations) = record { weight = w; activation = a } ∷ paired weights activations

-- the sum of the products of two groups
abbrev pub dot : List ℤ → List ℤ → ℤ
dot weights activations = sum_of product (paired weights activations)

-- how a make packs a group of each side, and the codes of words that are a packing
abbrev pub Packing : Type 0
Packing = Side → List ℤ → List ℕ

abbrev pub Unpacking : Type 0
Unpacking = Side → List ℕ → Option (List ℤ)

-- every full group has a packing of the right length, and unpacking that returns the group
abbrev pub Packs : Packing → Unpacking → Shape → Type 0
Packs packed unpacked s =
    (side : Side) (codes : List ℤ) → Group s side codes
    → (length (packed side codes) ≡ words_on s side) × (unpacked side (packed side codes) ≡ Some codes)

-- what is unpacked is a full group, and packing it returns the words
abbrev pub Unpacks : Packing → Unpacking → Shape → Type 0
Unpacks packed unpacked s =
    (side : Side) (words : List ℕ) (codes : List ℤ) → unpacked side words ≡ Some codes
    → Group s side codes × (packed side codes ≡ words)
