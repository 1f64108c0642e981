-- Worked figures: of plans, each with one row and zero points 0, and of the words and lanes of the kernels.
use Rattle.std.specs.Prelude.{◌≡◌, ℕ, ◌*◌, ◌%◌, ◌^◌, List, [], ◌∷◌, ℤ, pos, neg_ℤ, Some}
use Rattle.codes.specs.declared.shape.Shape.{Shape}
use Rattle.codes.specs.declared.side.Side.TheVariants.{Weights, Activations}
use Rattle.plans.specs.declared.kind.Kind.{Kind}
use Rattle.plans.specs.declared.kind.Kind.TheVariants.{P1, P2, Planes, Split}
use Rattle.plans.specs.declared.request.Request.{Request}
use Rattle.plans.specs.declared.refusal.PlanRefusal.{PlanRefusal}
use Rattle.plans.specs.Kinds.{shape_of}
use Rattle.plans.specs.Lanes.{lane_width}
use Rattle.plans.specs.Questions.{refusal_number}
use Rattle.plans.specs.Answers.{Accepted, FirstNo}
use Rattle.kernels.specs.Groups.{filled, dot}
use Rattle.lanes.specs.Lanes.{p1_width, p2_width, read_lane}
use Rattle.lanes.specs.Words.{packed_lanes}
use Rattle.planes.specs.Planes.{packed_planes, unpacked_planes}
use Rattle.planes.specs.Sums.{plane_sum}
use Rattle.split.specs.Words.{packed_split, unpacked_split}

abbrev pub asks : (weightSize activationSize depth interval longest : ℕ) → Request
asks x y depth interval longest = record {
  weight_size = x;
  activation_size = y;
  depth = depth;
  interval = interval;
  rows = 1;
  longest = longest;
  zeros = record { weight = pos 0; activation = pos 0 };
}

-- left to the check, the interval is this one
abbrev pub Takes : Kind → (weightSize activationSize depth longest interval : ℕ) → Type 0
Takes k x y depth longest interval = Accepted k (asks x y depth 0 longest) (asks x y depth interval longest)

-- the request is refused with this number
abbrev pub Refused : Kind → Request → ℕ → Type 0
Refused k r number = (e : PlanRefusal) × (refusal_number e ≡ number) × FirstNo k r e

pub record PlanFigures : Type 0 where
  -- two-bit codes in P1: two a word, then three
  pub p1_depth_2 : Takes P1 2 2 2 1 14
  pub p1_depth_2_15 : Refused P1 (asks 2 2 2 15 1) 7
  pub p1_depth_3 : Takes P1 2 2 3 1 1
  pub p1_depth_3_2 : Refused P1 (asks 2 2 3 2 1) 7
  -- P2: three two-bit codes a word, then two three-bit codes
  pub p2_lane_width : lane_width P2 (asks 2 2 3 0 1) ≡ 7
  pub p2_depth_3 : Takes P2 2 2 3 1 4
  pub p2_depth_3_5 : Refused P2 (asks 2 2 3 5 1) 7
  pub p2_depth_2 : Takes P2 3 3 2 1 83
  pub p2_depth_2_84 : Refused P2 (asks 3 3 2 84 1) 7
  -- one four-bit code a word
  pub p1_depth_1 : Takes P1 4 4 1 1 291
  -- signed split sums
  pub split_1_127 : Takes Split 1 127 2 1 258
  pub split_1_127_259 : Refused Split (asks 1 127 2 259 1) 7
  pub split_11_11 : Takes Split 11 11 2 1 270
  pub split_11_12 : Refused Split (asks 11 12 2 0 1) 6
  -- bit planes of eight-bit codes: the lane, then the 32-bit sum
  pub planes_lane : Takes Planes 8 8 16 1 4128
  pub planes_lane_4129 : Refused Planes (asks 8 8 16 4129 1) 7
  pub planes_sum : Takes Planes 8 8 16 33025 4128
  pub planes_sum_33026 : Refused Planes (asks 8 8 16 0 33026) 8

-- the words of a group of weights and a group of activations, and the total that the read lane holds when their product
-- was added to an empty accumulator that is cut to so many bits
pub record LaneFigure (width : Shape → ℕ) (s : Shape) (bits : ℕ) (weights activations : List ℤ) (weightWord activationWord total : ℕ) : Type 0 where
  pub weight_word : packed_lanes (width s) s Weights weights ≡ weightWord ∷ []
  pub activation_word : packed_lanes (width s) s Activations activations ≡ activationWord ∷ []
  pub lane : read_lane (width s) s.group ((weightWord * activationWord) % 2 ^ bits) ≡ total
  pub sum : dot weights activations ≡ pos total

pub record LaneFigures : Type 0 where
  pub p1 : LaneFigure p1_width (shape_of P1 (asks 2 2 2 0 1)) 16 (pos 1 ∷ pos 2 ∷ []) (pos 3 ∷ pos 1 ∷ []) 258 259 5
  pub p2 : LaneFigure p2_width (shape_of P2 (asks 2 2 3 0 1)) 32 (pos 1 ∷ pos 2 ∷ pos 3 ∷ []) (pos 3 ∷ pos 0 ∷ pos 2 ∷ []) 16643 32771 9

-- the words of a group of weights and a group of activations, each filled up with code 0; the words unpack to these groups,
-- and the sum over their planes is the sum of the products
pub record BitPlaneFigure (s : Shape) (weights activations : List ℤ) (weightWords activationWords : List ℕ) (total : ℕ) : Type 0 where
  pub weight_words : packed_planes s Weights (filled s.group weights) ≡ weightWords
  pub activation_words : packed_planes s Activations (filled s.group activations) ≡ activationWords
  pub weights_back : unpacked_planes s Weights weightWords ≡ Some (filled s.group weights)
  pub activations_back : unpacked_planes s Activations activationWords ≡ Some (filled s.group activations)
  pub planes : plane_sum weightWords activationWords ≡ total
  pub sum : dot (filled s.group weights) (filled s.group activations) ≡ pos total

-- the word of a group, and the group that the word unpacks to, alike on both sides
pub record SplitFigure (s : Shape) (codes : List ℤ) (word : ℕ) : Type 0 where
  pub weight_word : packed_split s Weights codes ≡ word ∷ []
  pub activation_word : packed_split s Activations codes ≡ word ∷ []
  pub weights_back : unpacked_split s Weights (word ∷ []) ≡ Some codes
  pub activations_back : unpacked_split s Activations (word ∷ []) ≡ Some codes

pub record Figures : Type 0 where
  pub plans : PlanFigures
  pub lanes : LaneFigures

-- the words of bit planes and of the signed split
pub record WordFigures : Type 0 where
  pub planes : BitPlaneFigure (shape_of Planes (asks 2 1 16 0 1)) (pos 3 ∷ pos 1 ∷ pos 2 ∷ []) (pos 1 ∷ pos 0 ∷ pos 1 ∷ []) (3 ∷ 5 ∷ []) (5 ∷ []) 5
  pub split : SplitFigure (shape_of Split (asks 11 11 2 0 1)) (neg_ℤ (pos 3) ∷ pos 5 ∷ []) 1533

-- all of them
pub record AllFigures : Type 0 where
  pub figures : Figures
  pub words : WordFigures
