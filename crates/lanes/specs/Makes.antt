-- What kernels of lanes keep to, and what a plan says of their lanes before they are made.
use Rattle.std.specs.Prelude.{◌≡◌, ℕ, ◌*◌, ◌^◌, ◌<◌, ◌≤◌}
use Rattle.codes.specs.declared.facts.Facts.{Facts}
use Rattle.codes.specs.Codes.{Range}
use Rattle.lanes.specs.Rows.{Laid, ShapeFits, most_of}

-- what a kernel of lanes with accumulators of so many bits keeps to
pub record Kept (bits : ℕ) (f : Facts) (w d x y : ℕ) : Type 0 where
  pub shape : ShapeFits f.shape d x y
  pub laid : Laid w d x y
  pub fits : w * d ≤ bits
  pub lane : f.interval * most_of d x y < 2 ^ w

-- what is known of the lanes of a make, which has a width of its own for a shape, before they are made, and what its kernel then keeps to
pub record Ready (bits : ℕ) (f : Facts) (w v d x y : ℕ) : Type 0 where
  pub narrow : w ≤ 16
  pub depth : Range 1 8 d
  pub width_is : w ≡ v
  pub kept : Kept bits f w d x y
