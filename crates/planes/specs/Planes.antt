-- Bit planes: the planes of a group of codes, its packing and its unpacking.
use Rattle.std.specs.Prelude.{ℕ, zero, suc, ◌+◌, ◌*◌, ◌/◌, ◌%◌, ◌^◌, cond, ◌&&◌, List, [], ◌∷◌, map, length, ℤ, pos, Some, None, Option, ◌==◌, unsigned_abs}
use Rattle.std.specs.Simd.Lanes.{all_below}
use Rattle.codes.specs.declared.shape.Shape.{Shape}
use Rattle.codes.specs.declared.side.Side.{Side}
use Rattle.codes.specs.Shapes.{words_on}

-- bit k of a number
abbrev pub bit_at : (k n : ℕ) → ℕ
bit_at k n = n / 2 ^ k % 2

-- plane k of numbers: bit k of each of them, that of number i at bit i
abbrev pub plane : (k : ℕ) → List ℕ → ℕ
plane k [] = 0
plane k (n ∷ ns) = bit_at k n + 2 * plane k ns

-- so many planes, from plane k on
abbrev pub planes_from : (k count : ℕ) → List ℕ → List ℕ
planes_from k zero ns = []
planes_from k (suc count) ns = plane k ns ∷ planes_from (k + 1) count ns

-- word k of a packed group is plane k of its codes
abbrev pub packed_planes : Shape → Side → List ℤ → List ℕ
packed_planes s side codes = planes_from 0 (words_on s side) (map unsigned_abs codes)

-- read the other way, code i of a group is plane i of its words
abbrev pub codes_in : (group : ℕ) → List ℕ → List ℤ
codes_in group words = map pos (planes_from 0 group words)

-- any words of 16 bits are a packing, if they are as many as a group takes
abbrev pub unpacked_planes : Shape → Side → List ℕ → Option (List ℤ)
unpacked_planes s side words = cond (length words == words_on s side && all_below 65536 words) (Some (codes_in s.group words)) None
