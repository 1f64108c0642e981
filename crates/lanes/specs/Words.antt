-- One word a group: its packing and its unpacking, by lanes of one width.
use Rattle.std.specs.Prelude.{ℕ, zero, suc, ◌+◌, ◌-◌, ◌*◌, ◌/◌, ◌%◌, ◌^◌, Bool, false, cond, ◌&&◌, List, [], ◌∷◌, map, reverse, ℤ, pos, Some, None, Option, ◌==◌, nat_le, slice_index, unsigned_abs}
use Rattle.std.specs.Simd.Lanes.{digits_l}
use Rattle.codes.specs.declared.shape.Shape.{Shape}
use Rattle.codes.specs.declared.side.Side.{Side}
use Rattle.codes.specs.declared.side.Side.TheVariants.{Weights, Activations}
use Rattle.codes.specs.Shapes.{ends_on}
use Rattle.lanes.specs.Lanes.{word_from}

-- ---- packing

abbrev pub packed_lanes : (width : ℕ) → Shape → Side → List ℤ → List ℕ
packed_lanes width s side codes = word_from width s.group side 0 codes ∷ []

-- ---- unpacking

-- is the number made of so many lanes that each hold at most `high`, and nothing above them?
abbrev pub is_packed_word : (base depth high word : ℕ) → Bool
is_packed_word base zero high word = word == 0
is_packed_word base (suc depth) high word = nat_le (word % base) high && is_packed_word base depth high (word / base)

-- is this one word, and a packing?
abbrev pub is_packing : (base depth high : ℕ) → List ℕ → Bool
is_packing base depth high [] = false
is_packing base depth high (word ∷ []) = is_packed_word base depth high word
is_packing base depth high (word ∷ next ∷ words) = false

-- the lanes in the order of places, and the other way round
abbrev pub ordered : Side → List ℕ → List ℕ
ordered Weights lanes = reverse lanes
ordered Activations lanes = lanes

abbrev pub codes_in : (base depth : ℕ) → Side → (word : ℕ) → List ℤ
codes_in base depth side word = map pos (ordered side (digits_l base depth word))

abbrev pub unpacked_lanes : (width : ℕ) → Shape → Side → List ℕ → Option (List ℤ)
unpacked_lanes width s side words =
    cond (is_packing (2 ^ width) s.group (unsigned_abs (ends_on s side).high) words) (Some (codes_in (2 ^ width) s.group side (slice_index words 0))) None

-- ---- masks

-- a number with so many lanes that each hold 1
abbrev pub rep : (base lanes : ℕ) → ℕ
rep base zero = 0
rep base (suc lanes) = 1 + base * rep base lanes

-- the word of a full group of highest codes
abbrev pub mask_of : (width depth size : ℕ) → ℕ
mask_of width depth size = (2 ^ size - 1) * rep (2 ^ width) depth
