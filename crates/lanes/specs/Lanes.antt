-- The lanes of a word: where each code stands, what a lane holds, and how wide the lanes of each make are.
use Rattle.std.specs.Prelude.{ℕ, zero, suc, ◌+◌, ◌-◌, ◌*◌, ◌/◌, ◌%◌, ◌^◌, max, cond, List, [], ◌∷◌, ℤ, nat_le, unsigned_abs}
use Rattle.codes.specs.declared.ends.Ends.{Ends}
use Rattle.codes.specs.declared.shape.Shape.{Shape}
use Rattle.codes.specs.declared.side.Side.{Side}
use Rattle.codes.specs.declared.side.Side.TheVariants.{Weights, Activations}

-- the lane of the code at a place: activations from the lowest lane up, weights from the highest down
abbrev pub lane_for : Side → (depth place : ℕ) → ℕ
lane_for Weights depth place = depth - 1 - place
lane_for Activations depth place = place

-- the word of codes of which the first has this place in its group: each code at the first bit of its lane
abbrev pub word_from : (width depth : ℕ) → Side → (place : ℕ) → List ℤ → ℕ
word_from width depth side place [] = 0
word_from width depth side place (code ∷ codes) =
    unsigned_abs code * 2 ^ (width * lane_for side depth place) + word_from width depth side (place + 1) codes

-- what a lane of a word holds
abbrev pub lane_of : (width lane word : ℕ) → ℕ
lane_of width lane word = word / 2 ^ (width * lane) % 2 ^ width

-- the total that an accumulator holds: the lane of the highest place
abbrev pub read_lane : (width depth accumulator : ℕ) → ℕ
read_lane width depth accumulator = lane_of width (depth - 1) accumulator

-- how many of 2^0 up to 2^(most − 1) a code reaches
abbrev pub bits_up_to : (most code : ℕ) → ℕ
bits_up_to zero code = 0
bits_up_to (suc most) code = cond (nat_le (2 ^ most) code) 1 0 + bits_up_to most code

-- the bits of the codes of a side, which end at 2^bits − 1
abbrev pub bits_of : Ends → ℕ
bits_of e = bits_up_to 8 (unsigned_abs e.high)

-- P1 shares all 16 bits out evenly; P2 keeps for its highest lane as many bits as the wider codes have, and shares out the rest
abbrev pub p1_width : Shape → ℕ
p1_width s = 16 / s.group

unfoldable pub p2_width : Shape → ℕ
p2_width s = (16 - max (bits_of s.weight_ends) (bits_of s.activation_ends)) / (s.group - 1)
