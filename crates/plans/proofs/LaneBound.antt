-- The lane of each kind as one inequality: the steps times the most that one group adds, against the room of the lane.
use Rattle.std.proofs.Common.{◌≡◌, ℕ, ◌-◌, ◌*◌, ◌/◌, ◌^◌, ◌<◌, ◌≤◌, List, length, get_or, replicate, ℤ, pos, neg_ℤ, ◌≤ℤ◌, refl, ap, inl, inr, div-lt_iff_lt-mul, le-div_iff_mul-le, arith}
use lib.ListN.{length-replicate}
use Rattle.std.specs.List.{AllByRecursion}
use Rattle.std.proofs.lemmas.Int.{ints}
use Rattle.std.proofs.lemmas.Bool.{cases_lt}
use Rattle.std.proofs.ByRecursion.{All-get_or}
use Rattle.codes.specs.Sums.{Pair, product, sum_of}
use Rattle.codes.specs.Shapes.{PairWithin}
use Rattle.codes.proofs.Extremes.{sum_most, sum_least, sum_up, all_replicate, corner_most, corner_least}
use Rattle.plans.specs.declared.kind.Kind.{Kind}
use Rattle.plans.specs.declared.kind.Kind.TheVariants.{P1, P2, Planes, Split}
use Rattle.plans.specs.declared.request.Request.{Request}
use Rattle.plans.specs.Kinds.{ends_of, bit_ends, group_size}
use Rattle.plans.specs.Lanes.{lane_lowest, lane_highest, lanes, no_pair, gain, FullGroup, LaneOverflows}
use Rattle.plans.specs.Bounds.{top_code, peak, room}

pub high_is : (k : Kind) (size : ℕ) → (ends_of k size).high ≡ pos (top_code k size)
high_is P1 size = refl
high_is P2 size = refl
high_is Planes size = refl
high_is Split size = refl

pub low_most : (k : Kind) (size : ℕ) → (ends_of k size).low ≤ℤ pos 0
low_most P1 size = omega (arith, ints)
low_most P2 size = omega (arith, ints)
low_most Planes size = omega (arith, ints)
low_most Split size = omega (arith, ints)

room_is : (k : Kind) (r : Request) → lane_highest k r ≡ pos (room k r)
room_is P1 r = refl
room_is P2 r = refl
room_is Planes r = refl
room_is Split r = refl

some_lane : (k : Kind) → 0 < lanes k
some_lane P1 = omega arith
some_lane P2 = omega arith
some_lane Planes = omega arith
some_lane Split = omega arith

-- how far one group takes a lane down at the most, and how far the lane goes down
abbrev dip : Kind → Request → ℕ
dip P1 r = 0
dip P2 r = 0
dip Planes r = 0
dip Split r = peak Split r

abbrev depth_of : Kind → ℕ
depth_of P1 = 0
depth_of P2 = 0
depth_of Planes = 0
depth_of Split = 2 ^ 15

depth_is : (k : Kind) (r : Request) → lane_lowest k r ≡ neg_ℤ (pos (depth_of k))
depth_is P1 r = refl
depth_is P2 r = refl
depth_is Planes r = refl
depth_is Split r = refl

dip_small : (k : Kind) (r : Request) (steps : ℕ) → steps * peak k r ≤ room k r → steps * dip k r ≤ depth_of k
dip_small P1 r steps h = omega arith
dip_small P2 r steps h = omega arith
dip_small Planes r steps h = omega arith
dip_small Split r steps h = omega arith

-- what one full group adds to a lane
record Added (k : Kind) (r : Request) (z : ℤ) : Type 0 where
  most : z ≤ℤ pos (peak k r)
  least : neg_ℤ (pos (dip k r)) ≤ℤ z

-- codes from 0: the products of a group of n pairs
bits_add : (x y n : ℕ) (group : List Pair) → length group ≡ n → AllByRecursion (PairWithin (bit_ends x) (bit_ends y)) group
    → (sum_of product group ≤ℤ pos (n * ((2 ^ x - 1) * (2 ^ y - 1)))) × (pos 0 ≤ℤ sum_of product group)
bits_add x y n group e a =
    let P : Pair → Type 0 = PairWithin (bit_ends x) (bit_ends y) in
    let top : ℕ = (2 ^ x - 1) * (2 ^ y - 1) in
    let most : (p : Pair) → P p → product p ≤ℤ pos top = λ p h. let m = corner_most 0 _ 0 _ p.weight p.activation h.weight h.activation in omega (arith, ints) in
    let least : (p : Pair) → P p → neg_ℤ (pos 0) ≤ℤ product p = λ p h. let m = corner_least 0 _ 0 _ p.weight p.activation h.weight h.activation in omega (arith, ints) in
    let u : sum_of product group ≤ℤ pos (length group * top) = sum_most product P top most group a in
    let d : neg_ℤ (pos (length group * 0)) ≤ℤ sum_of product group = sum_least product P 0 least group a in
    let f : length group * top ≡ n * top = ap (λ (l : ℕ). l * top) e in
    (omega (arith, ints), omega (arith, ints))

group_adds : (k : Kind) (r : Request) (lane : ℕ) (group : List Pair) → lane < lanes k → FullGroup k r group → Added k r (gain k lane group)
group_adds P1 r lane group l f = let h = bits_add _ _ _ group f.full f.within in record { most = h.0; least = h.1 }
group_adds P2 r lane group l f = let h = bits_add _ _ _ group f.full f.within in record { most = h.0; least = h.1 }
group_adds Planes r lane group l f = let h = bits_add _ _ _ group f.full f.within in record { most = h.0; least = h.1 }
group_adds Split r lane group l f =
    let x = r.weight_size in
    let y = r.activation_size in
    let i : lane < length group = omega (arith, f.full) in
    let p : Pair = get_or group lane no_pair in
    let h : PairWithin (ends_of Split x) (ends_of Split y) p = All-get_or (PairWithin (ends_of Split x) (ends_of Split y)) group lane no_pair i f.within in
    let m = corner_most x x y y p.weight p.activation h.weight h.activation in
    let n = corner_least x x y y p.weight p.activation h.weight h.activation in
    record { most = omega (arith, ints); least = omega (arith, ints) }

pub lane_holds : (k : Kind) (r : Request) (steps : ℕ) → steps * peak k r ≤ room k r → LaneOverflows k r steps → ⊥
lane_holds k r steps h o =
    let P : List Pair → Type 0 = FullGroup k r in
    let g : List Pair → ℤ = gain k o.lane in
    let u : sum_of (gain k o.lane) o.groups ≤ℤ pos (length o.groups * peak k r) =
    sum_most (gain k o.lane) P (peak k r) (λ group f. (group_adds k r o.lane group o.is_lane f).most) o.groups o.full in
    let d : neg_ℤ (pos (length o.groups * dip k r)) ≤ℤ sum_of (gain k o.lane) o.groups =
    sum_least (gain k o.lane) P (dip k r) (λ group f. (group_adds k r o.lane group o.is_lane f).least) o.groups o.full in
    let e : length o.groups * peak k r ≡ steps * peak k r = ap (λ (l : ℕ). l * peak k r) o.count in
    let f : length o.groups * dip k r ≡ steps * dip k r = ap (λ (l : ℕ). l * dip k r) o.count in
    let s = dip_small k r steps h in
    elim o.outside [ inl i ↦ omega (arith, ints, i, depth_is k r) | inr j ↦ omega (arith, ints, j, room_is k r) ]

-- the pair of highest codes
abbrev top_pair : Kind → Request → Pair
top_pair k r = record { weight = (ends_of k r.weight_size).high; activation = (ends_of k r.activation_size).high }

pub top_within : (k : Kind) (r : Request) → PairWithin (ends_of k r.weight_size) (ends_of k r.activation_size) (top_pair k r)
top_within k r =
    let x = r.weight_size in
    let y = r.activation_size in
    record {
      weight = (omega (arith, ints, low_most k x, high_is k x), omega (arith, ints));
      activation = (omega (arith, ints, low_most k y, high_is k y), omega (arith, ints));
    }

abbrev top_group : Kind → Request → List Pair
top_group k r = replicate (group_size k r) (top_pair k r)

top_full : (k : Kind) (r : Request) → FullGroup k r (top_group k r)
top_full k r = record { full = length-replicate (group_size k r) (top_pair k r); within = all_replicate (PairWithin (ends_of k r.weight_size) (ends_of k r.activation_size)) (group_size k r) (top_pair k r) (top_within k r) }

top_adds : (k : Kind) (r : Request) → gain k 0 (top_group k r) ≡ pos (peak k r)
top_adds P1 r = sum_up product _ r.depth (top_pair P1 r) refl
top_adds P2 r = sum_up product _ r.depth (top_pair P2 r) refl
top_adds Planes r = sum_up product _ 16 (top_pair Planes r) refl
top_adds Split r = omega (arith, ints)

pub lane_breaks : (k : Kind) (r : Request) (steps : ℕ) → room k r < steps * peak k r → LaneOverflows k r steps
lane_breaks k r steps h =
    let e : sum_of (gain k 0) (replicate steps (top_group k r)) ≡ pos (steps * peak k r) = sum_up (gain k 0) (peak k r) steps (top_group k r) (top_adds k r) in
    record {
      lane = 0;
      is_lane = some_lane k;
      groups = replicate steps (top_group k r);
      count = length-replicate steps (top_group k r);
      full = all_replicate (FullGroup k r) steps (top_group k r) (top_full k r);
      outside = inr (omega (arith, ints, e, room_is k r));
    }

-- no codes overflow the lane: so the inequality holds
pub lane_bound : (k : Kind) (r : Request) (steps : ℕ) → (LaneOverflows k r steps → ⊥) → steps * peak k r ≤ room k r
lane_bound k r steps none = elim (cases_lt (room k r) (steps * peak k r)) [ inl l ↦ absurd (none (lane_breaks k r steps l)) | inr g ↦ g ]

-- the same by a quotient
pub steps_hold : (k : Kind) (r : Request) (m p : ℕ) → m ≡ room k r → p ≡ peak k r → 1 ≤ p → (steps : ℕ) → steps ≤ m / p → LaneOverflows k r steps → ⊥
steps_hold k r m p e f one steps h =
    let i : steps * p ≤ m = (le-div_iff_mul-le one).0 h in
    let j : steps * p ≡ steps * peak k r = ap (λ (n : ℕ). steps * n) f in
    lane_holds k r steps (omega arith)

pub steps_break : (k : Kind) (r : Request) (m p : ℕ) → m ≡ room k r → p ≡ peak k r → 1 ≤ p → (steps : ℕ) → m / p < steps → LaneOverflows k r steps
steps_break k r m p e f one steps h =
    let i : m < steps * p = (div-lt_iff_lt-mul one).0 h in
    let j : steps * p ≡ steps * peak k r = ap (λ (n : ℕ). steps * n) f in
    lane_breaks k r steps (omega arith)
