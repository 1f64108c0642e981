-- Bytes: the code that each holds in two's complement, and where it stands in a word of 16 bits.
use Rattle.std.specs.Prelude.{ℕ, suc, ◌-◌, ◌*◌, ◌/◌, ◌%◌, ◌^◌, cond, ℤ, pos, negsuc, ◌-ℤ◌, neg_ℤ, nat_lt}
use Rattle.codes.specs.Codes.{Between}

-- the codes that a byte holds
abbrev pub InByte : (code : ℤ) → Type 0
InByte code = Between (neg_ℤ (pos 128)) (pos 127) code

-- the code of a byte: itself below 128, and 256 less from there on
abbrev pub byte_code : (byte : ℕ) → ℤ
byte_code byte = cond (nat_lt byte 128) (pos byte) (pos byte -ℤ pos 256)

-- the byte of a code: itself from 0 on, and 256 more below
abbrev pub code_byte : (code : ℤ) → ℕ
code_byte (pos n) = n
code_byte (negsuc n) = 256 - suc n

-- the byte at a place of a word, the low byte first, and its code
abbrev pub byte_at : (place word : ℕ) → ℕ
byte_at place word = word / 2 ^ (8 * place) % 256

abbrev pub code_at : (place word : ℕ) → ℤ
code_at place word = byte_code (byte_at place word)
