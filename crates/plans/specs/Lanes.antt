-- The lanes of each kind, and codes that overflow them.
use Rattle.std.specs.Prelude.{◌≡◌, ℕ, ◌-◌, ◌/◌, ◌^◌, ◌<◌, max, List, length, ℤ, pos, neg_ℤ, slice_index_or}
use Rattle.std.specs.List.{AllByRecursion}
use Rattle.codes.specs.Codes.{Outside}
use Rattle.codes.specs.Sums.{Pair, product, sum_of}
use Rattle.codes.specs.Shapes.{PairWithin}
use Rattle.plans.specs.declared.kind.Kind.{Kind}
use Rattle.plans.specs.declared.kind.Kind.TheVariants.{P1, P2, Planes, Split}
use Rattle.plans.specs.declared.request.Request.{Request}
use Rattle.plans.specs.Kinds.{ends_of, group_size}

-- bits of a lane; in P2 the top code of a word may reach above the last full lane, so only the others share the rest
abbrev pub lane_width : Kind → Request → ℕ
lane_width P1 r = 16 / r.depth
lane_width P2 r = (16 - max r.weight_size r.activation_size) / (r.depth - 1)
lane_width Planes r = 32
lane_width Split r = 16

-- the least and the greatest number that a lane holds
abbrev pub lane_lowest : Kind → Request → ℤ
lane_lowest P1 r = pos 0
lane_lowest P2 r = pos 0
lane_lowest Planes r = pos 0
lane_lowest Split r = neg_ℤ (pos (2 ^ (lane_width Split r - 1)))

abbrev pub lane_highest : Kind → Request → ℤ
lane_highest P1 r = pos (2 ^ lane_width P1 r - 1)
lane_highest P2 r = pos (2 ^ lane_width P2 r - 1)
lane_highest Planes r = pos (2 ^ lane_width Planes r - 1)
lane_highest Split r = pos (2 ^ (lane_width Split r - 1) - 1)

-- lanes of a row: the signed split has one for each place of a group
abbrev pub lanes : Kind → ℕ
lanes P1 = 1
lanes P2 = 1
lanes Planes = 1
lanes Split = 2

-- what stands past the end of a group
abbrev pub no_pair : Pair
no_pair = record { weight = pos 0; activation = pos 0 }

-- what one group adds to a lane
abbrev pub gain : Kind → (lane : ℕ) → List Pair → ℤ
gain P1 lane group = sum_of product group
gain P2 lane group = sum_of product group
gain Planes lane group = sum_of product group
gain Split lane group = product (slice_index_or group lane no_pair)

-- a full group of codes within their ends
pub record FullGroup (k : Kind) (r : Request) (group : List Pair) : Type 0 where
  pub full : length group ≡ group_size k r
  pub within : AllByRecursion (PairWithin (ends_of k r.weight_size) (ends_of k r.activation_size)) group

-- `steps` full groups of codes within their ends whose total leaves a lane
pub record LaneOverflows (k : Kind) (r : Request) (steps : ℕ) : Type 0 where
  pub lane : ℕ
  pub is_lane : lane < lanes k
  pub groups : List (List Pair)
  pub count : length groups ≡ steps
  pub full : AllByRecursion (FullGroup k r) groups
  pub outside : Outside (lane_lowest k r) (lane_highest k r) (sum_of (gain k lane) groups)
