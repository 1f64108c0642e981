-- Lists of codes, packed group after group.
use Rattle.std.specs.Prelude.{◌≡◌, ℕ, zero, suc, ◌+◌, ◌-◌, ◌*◌, ◌<◌, min, Bool, true, false, cond, ◌&&◌, List, [], ◌∷◌, ◌++◌, length, take, drop, ℤ, pos, negsuc, Some, None, Ok, Err, Option, Result, ◌==◌, nat_le}
use Rattle.std.specs.List.{AllByRecursion}
use Rattle.codes.specs.declared.shape.Shape.{Shape}
use Rattle.codes.specs.declared.side.Side.{Side}
use Rattle.codes.specs.Codes.{Within, groups}
use Rattle.codes.specs.Shapes.{ends_on, words_on}
use Rattle.kernels.specs.declared.refusal.PackRefusal.{PackRefusal}
use Rattle.kernels.specs.declared.refusal.UnpackRefusal.{UnpackRefusal}
use Rattle.kernels.specs.declared.refusal.UnpackRefusal.TheVariants.{Count, Words, Group as BadGroup}
use Rattle.kernels.specs.Groups.{Packing, Unpacking, filled}
use Rattle.kernels.specs.Answers.{ask, pack_answer}

-- the words that n codes take
abbrev pub words_for : Shape → Side → (n : ℕ) → ℕ
words_for s side n = groups s.group n * words_on s side

-- ---- packing

-- so many groups of codes, packed one after another; a group that is not full is filled up with code 0
abbrev pub packed_groups : (List ℤ → List ℕ) → (size count : ℕ) → List ℤ → List ℕ
packed_groups packed size zero codes = []
packed_groups packed size (suc count) codes = packed (filled size (take size codes)) ++ packed_groups packed size count (drop size codes)

-- the packing of a list
abbrev pub packed_list : Packing → Shape → Side → List ℤ → List ℕ
packed_list packed s side codes = packed_groups (packed side) s.group (groups s.group (length codes)) codes

abbrev pub pack_list_answer : Shape → Side → List ℤ → (words : ℕ) → Result (Unit {0}) PackRefusal
pack_list_answer s side codes words = pack_answer 65536 (words_for s side (length codes)) s side codes words

-- ---- unpacking

abbrev pub is_zero : ℤ → Bool
is_zero (pos n) = n == 0
is_zero (negsuc n) = false

abbrev pub all_zero : List ℤ → Bool
all_zero [] = true
all_zero (code ∷ codes) = is_zero code && all_zero codes

-- the first n codes of a group, where those behind them are 0
abbrev pub first_codes : (n : ℕ) → Option (List ℤ) → Option (List ℤ)
first_codes n None = None
first_codes n (Some codes) = cond (all_zero (drop n codes)) (Some (take n codes)) None

-- the codes of group `at` and of those behind it, or the first group that has none
abbrev pub joined : (at : ℕ) → Option (List ℤ) → Result (List ℤ) ℕ → Result (List ℤ) ℕ
joined at None rest = Err at
joined at (Some codes) (Ok rest) = Ok (codes ++ rest)
joined at (Some codes) (Err bad) = Err bad

-- n codes out of so many groups of `width` words, the first of them being group `at`
abbrev pub unpacked_groups : (List ℕ → Option (List ℤ)) → (size width at count n : ℕ) → List ℕ → Result (List ℤ) ℕ
unpacked_groups unpacked size width at zero n words = Ok []
unpacked_groups unpacked size width at (suc count) n words =
    joined at (first_codes n (unpacked (take width words))) (unpacked_groups unpacked size width (at + 1) count (n - size) (drop width words))

-- the n codes that the words pack, or the first group that is not a packing of its codes
abbrev pub unpacked_list : Unpacking → Shape → Side → (n : ℕ) → List ℕ → Result (List ℤ) ℕ
unpacked_list unpacked s side n words = unpacked_groups (unpacked side) s.group (words_on s side) 0 (groups s.group n) n words

abbrev pub bad_group : Result (List ℤ) ℕ → Result (Unit {0}) UnpackRefusal
bad_group (Ok codes) = Ok tt
bad_group (Err group) = Err (BadGroup group)

-- the questions on the numbers of codes and words
abbrev pub sizes_answer : Shape → Side → (n : ℕ) → List ℕ → Result (Unit {0}) UnpackRefusal
sizes_answer s side n words = ask (nat_le 1 n && nat_le n 65536) Count (ask (length words == words_for s side n) Words (Ok tt))

unfoldable pub unpack_list_answer : Unpacking → Shape → Side → (n : ℕ) → List ℕ → Result (Unit {0}) UnpackRefusal
unpack_list_answer unpacked s side n words =
    ask (nat_le 1 n && nat_le n 65536) Count (ask (length words == words_for s side n) Words (bad_group (unpacked_list unpacked s side n words)))

-- what the codes hold after an unpacking into codes that held `before`
abbrev pub codes_after : Result (List ℤ) ℕ → List ℤ → List ℤ
codes_after (Ok codes) before = codes
codes_after (Err group) before = before

-- ---- the laws

-- group j of the words packs the codes that it should of n codes
pub record GroupPacks (packed : Packing) (s : Shape) (side : Side) (n : ℕ) (words : List ℕ) (j : ℕ) : Type 0 where
  pub codes : List ℤ
  pub count : length codes ≡ min s.group (n - j * s.group)
  pub within : AllByRecursion (Within (ends_on s side)) codes
  pub packs : take (words_on s side) (drop (j * words_on s side) words) ≡ packed side (filled s.group codes)

-- unpacking what was packed returns the codes
abbrev pub UnpacksBack : Unpacking → Shape → Side → List ℤ → (words : List ℕ) → Result (Unit {0}) PackRefusal → Type 0
UnpacksBack unpacked s side codes words (Ok u) = unpacked_list unpacked s side (length codes) words ≡ Ok codes
UnpacksBack unpacked s side codes words (Err e) = Unit {0}

-- packing what was unpacked returns the words; a refused group is the first that packs no codes
pub record PacksAgain (packed : Packing) (s : Shape) (side : Side) (n : ℕ) (words : List ℕ) (codes : List ℤ) : Type 0 where
  pub count : length codes ≡ n
  pub within : AllByRecursion (Within (ends_on s side)) codes
  pub again : packed_list packed s side codes ≡ words

pub record FirstBad (packed : Packing) (s : Shape) (side : Side) (n : ℕ) (words : List ℕ) (group : ℕ) : Type 0 where
  pub there : group < groups s.group n
  pub bad : GroupPacks packed s side n words group → ⊥
  pub before : (j : ℕ) → j < group → GroupPacks packed s side n words j

abbrev pub Repacks : Packing → Shape → Side → (n : ℕ) → List ℕ → (codes : List ℤ) → Result (Unit {0}) UnpackRefusal → Type 0
Repacks packed s side n words codes (Ok u) = PacksAgain packed s side n words codes
Repacks packed s side n words codes (Err Count) = Unit {0}
Repacks packed s side n words codes (Err Words) = Unit {0}
Repacks packed s side n words codes (Err (BadGroup group)) = FirstBad packed s side n words group
