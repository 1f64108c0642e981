-- Codes and their ends. A code is a whole number.
use Rattle.std.specs.Prelude.{ℕ, ◌+◌, ◌-◌, ◌/◌, ◌≤◌, Bool, ◌&&◌, ◌⊎◌, ℤ, ◌≤ℤ◌, ◌<ℤ◌, int_le}
use Rattle.codes.specs.declared.ends.Ends.{Ends}

-- from low to high, both included
abbrev pub Range : (low high n : ℕ) → Type 0
Range low high n = (low ≤ n) × (n ≤ high)

abbrev pub Between : (low high z : ℤ) → Type 0
Between low high z = (low ≤ℤ z) × (z ≤ℤ high)

abbrev pub Outside : (low high z : ℤ) → Type 0
Outside low high z = (z <ℤ low) ⊎ (high <ℤ z)

-- the code lies within its ends
abbrev pub Within : Ends → ℤ → Type 0
Within e code = Between e.low e.high code

-- the same as a test
abbrev pub holds : Ends → ℤ → Bool
holds e code = int_le e.low code && int_le code e.high

-- groups of n codes: n divided by the group size, rounded up
abbrev pub groups : (size n : ℕ) → ℕ
groups size n = (n + (size - 1)) / size
