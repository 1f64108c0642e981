-- The sum over planes: what one group of weights and one of activations add to a lane.
use Rattle.std.specs.Prelude.{ℕ, ◌+◌, ◌*◌, ◌^◌, List, [], ◌∷◌, bit_and, count_ones}

-- the ones that two words share
abbrev pub ones_shared : (w a : ℕ) → ℕ
ones_shared w a = count_ones (bit_and w a)

-- plane k of the weights, the word w, and the planes of the activations from plane m on: the ones that both words share, times 2^(k + m)
abbrev pub shared_from : (k m w : ℕ) → (activations : List ℕ) → ℕ
shared_from k m w [] = 0
shared_from k m w (a ∷ activations) = ones_shared w a * 2 ^ (k + m) + shared_from k (m + 1) w activations

-- the planes of the weights from plane k on, each with every plane of the activations
abbrev pub plane_sum_from : (k : ℕ) → (weights activations : List ℕ) → ℕ
plane_sum_from k [] activations = 0
plane_sum_from k (w ∷ weights) activations = shared_from k 0 w activations + plane_sum_from (k + 1) weights activations

-- for all planes k of the weights and m of the activations, the ones that both words share, times 2^(k + m)
abbrev pub plane_sum : (weights activations : List ℕ) → ℕ
plane_sum weights activations = plane_sum_from 0 weights activations
