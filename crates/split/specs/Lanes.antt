-- The lanes of a row: what a step adds to each, and what they hold.
use Rattle.std.specs.Prelude.{ℕ, ◌-◌, ◌*◌, ◌^◌, ℤ, pos, ◌*ℤ◌, neg_ℤ}
use Rattle.codes.specs.Codes.{Between}
use Rattle.split.specs.Bytes.{code_at}

-- the product of the codes at a place of two words, which a step adds to the lane of that place
unfoldable pub product_at : (place weights activations : ℕ) → ℤ
product_at place weights activations = code_at place weights *ℤ code_at place activations

-- what a lane of 16 bits holds
abbrev pub InLane : ℤ → Type 0
InLane z = Between (neg_ℤ (pos (2 ^ 15))) (pos (2 ^ 15 - 1)) z

-- a lane after so many products that each add or take off at most `most`
abbrev pub LaneWithin : (steps most : ℕ) → (lane : ℤ) → Type 0
LaneWithin steps most lane = Between (neg_ℤ (pos (steps * most))) (pos (steps * most)) lane
