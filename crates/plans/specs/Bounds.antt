-- The arithmetic by which the program decides the questions of lane and sum. No public contract cites it.
use Rattle.std.specs.Prelude.{ℕ, ◌-◌, ◌*◌, ◌^◌, max, ℤ, ◌-ℤ◌, unsigned_abs}
use Rattle.codes.specs.declared.ends.Ends.{Ends}
use Rattle.codes.specs.declared.shape.Shape.{Shape}
use Rattle.codes.specs.declared.zero_points.ZeroPoints.{ZeroPoints}
use Rattle.plans.specs.declared.kind.Kind.{Kind}
use Rattle.plans.specs.declared.kind.Kind.TheVariants.{P1, P2, Planes, Split}
use Rattle.plans.specs.declared.request.Request.{Request}
use Rattle.plans.specs.Lanes.{lane_width}

-- the highest code of a size
abbrev pub top_code : Kind → (size : ℕ) → ℕ
top_code P1 size = 2 ^ size - 1
top_code P2 size = 2 ^ size - 1
top_code Planes size = 2 ^ size - 1
top_code Split size = size

-- products that one group adds to one lane
abbrev pub lane_products : Kind → Request → ℕ
lane_products P1 r = r.depth
lane_products P2 r = r.depth
lane_products Planes r = 16
lane_products Split r = 1

-- the most that one full group adds to a lane
abbrev pub peak : Kind → Request → ℕ
peak k r = lane_products k r * (top_code k r.weight_size * top_code k r.activation_size)

-- the most that a lane holds
abbrev pub room : Kind → Request → ℕ
room P1 r = 2 ^ lane_width P1 r - 1
room P2 r = 2 ^ lane_width P2 r - 1
room Planes r = 2 ^ 32 - 1
room Split r = 2 ^ 15 - 1

-- how far codes lie below and above their zero point at the most
abbrev pub reach_below : Ends → ℤ → ℕ
reach_below e zero = unsigned_abs (zero -ℤ e.low)

abbrev pub reach_above : Ends → ℤ → ℕ
reach_above e zero = unsigned_abs (e.high -ℤ zero)

-- the most that one column adds to an exact sum, and the most that it takes off
abbrev pub rise : Shape → ZeroPoints → ℕ
rise s z =
    max (reach_below s.weight_ends z.weight * reach_below s.activation_ends z.activation)
    (reach_above s.weight_ends z.weight * reach_above s.activation_ends z.activation)

abbrev pub fall : Shape → ZeroPoints → ℕ
fall s z =
    max (reach_below s.weight_ends z.weight * reach_above s.activation_ends z.activation)
    (reach_above s.weight_ends z.weight * reach_below s.activation_ends z.activation)
