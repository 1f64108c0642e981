-- The rules of a shape and of what goes with it.
use Rattle.std.specs.Prelude.{ℕ, ◌-◌, ◌*◌, ◌^◌, ◌≤◌, List, length, pos, neg_ℤ}
use Rattle.std.specs.List.{AllByRecursion}
use Rattle.codes.specs.declared.ends.Ends.{Ends}
use Rattle.codes.specs.declared.shape.Shape.{Shape}
use Rattle.codes.specs.declared.side.Side.{Side}
use Rattle.codes.specs.declared.side.Side.TheVariants.{Weights, Activations}
use Rattle.codes.specs.declared.zero_points.ZeroPoints.{ZeroPoints}
use Rattle.codes.specs.Codes.{Range, Between, Outside, Within, groups}
use Rattle.codes.specs.Sums.{Pair, exact_sum}

abbrev pub ends_on : Shape → Side → Ends
ends_on s Weights = s.weight_ends
ends_on s Activations = s.activation_ends

abbrev pub words_on : Shape → Side → ℕ
words_on s Weights = s.weight_words
words_on s Activations = s.activation_words

-- ends that hold code 0 and lie within −255 to 255
abbrev pub EndsRules : Ends → Type 0
EndsRules e = Between (neg_ℤ (pos 255)) (pos 0) e.low × Between (pos 0) (pos 255) e.high

-- 1 to 8 words a group; 128 codes take at most 128 words
abbrev pub WordsRules : (group words : ℕ) → Type 0
WordsRules group words = Range 1 8 words × (groups group 128 * words ≤ 128)

abbrev pub ShapeRules : Shape → Type 0
ShapeRules s =
    EndsRules s.weight_ends × EndsRules s.activation_ends × Range 1 128 s.group
    × WordsRules s.group s.weight_words × WordsRules s.group s.activation_words

-- both zero points are codes of their side
abbrev pub ZerosWithin : Shape → ZeroPoints → Type 0
ZerosWithin s z = Within s.weight_ends z.weight × Within s.activation_ends z.activation

-- both codes of a pair lie within the ends of their side
pub record PairWithin (weights activations : Ends) (p : Pair) : Type 0 where
  pub weight : Within weights p.weight
  pub activation : Within activations p.activation

-- at most `longest` pairs of codes within their ends whose exact sum is no signed 32-bit number
pub record SumOverflows (s : Shape) (z : ZeroPoints) (longest : ℕ) : Type 0 where
  pub pairs : List Pair
  pub few : length pairs ≤ longest
  pub within : AllByRecursion (PairWithin s.weight_ends s.activation_ends) pairs
  pub outside : Outside (neg_ℤ (pos (2 ^ 31))) (pos (2 ^ 31 - 1)) (exact_sum z pairs)
