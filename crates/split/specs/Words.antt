-- One word a group: its packing and its unpacking, by a byte for each of two codes.
use Rattle.std.specs.Prelude.{ℕ, ◌+◌, ◌*◌, Bool, false, cond, ◌&&◌, List, [], ◌∷◌, ℤ, pos, Some, None, Option, nat_lt, slice_index, slice_index_or}
use Rattle.codes.specs.declared.ends.Ends.{Ends}
use Rattle.codes.specs.declared.shape.Shape.{Shape}
use Rattle.codes.specs.declared.side.Side.{Side}
use Rattle.codes.specs.Codes.{holds}
use Rattle.codes.specs.Shapes.{ends_on}
use Rattle.split.specs.Bytes.{code_byte, code_at}

-- ---- packing

-- the word of a group: the first code in the low byte, the second in the high byte
abbrev pub word_of : List ℤ → ℕ
word_of codes = code_byte (slice_index_or codes 0 (pos 0)) + 256 * code_byte (slice_index_or codes 1 (pos 0))

abbrev pub packed_split : Shape → Side → List ℤ → List ℕ
packed_split s side codes = word_of codes ∷ []

-- ---- unpacking

-- the two codes of a word
abbrev pub codes_in : (word : ℕ) → List ℤ
codes_in word = code_at 0 word ∷ code_at 1 word ∷ []

-- is the number a word of 16 bits whose codes lie within their ends?
abbrev pub is_packed_word : Ends → (word : ℕ) → Bool
is_packed_word ends word = nat_lt word 65536 && (holds ends (code_at 0 word) && holds ends (code_at 1 word))

-- is this one word, and a packing?
abbrev pub is_packing : Ends → List ℕ → Bool
is_packing ends [] = false
is_packing ends (word ∷ []) = is_packed_word ends word
is_packing ends (word ∷ next ∷ words) = false

abbrev pub unpacked_split : Shape → Side → List ℕ → Option (List ℤ)
unpacked_split s side words = cond (is_packing (ends_on s side) words) (Some (codes_in (slice_index words 0))) None
