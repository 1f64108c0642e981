-- The answers to a call's questions from the answer to each, and what a yes to all of them says.
use Rattle.std.specs.Prelude.{◌≡◌, ℕ, ◌<◌, ◌≤◌, Bool, true, ◌&&◌, List, length, ℤ, Some, Ok, Result, ◌==◌}
use Rattle.std.specs.List.{AllByRecursion}
use Rattle.codes.specs.declared.shape.Shape.{Shape}
use Rattle.codes.specs.declared.side.Side.{Side}
use Rattle.codes.specs.declared.side.Side.TheVariants.{Weights, Activations}
use Rattle.codes.specs.declared.facts.Facts.{Facts}
use Rattle.codes.specs.Codes.{Within}
use Rattle.codes.specs.Shapes.{ends_on, words_on}
use Rattle.kernels.specs.declared.refusal.CodeRefusal.{CodeRefusal}
use Rattle.kernels.specs.declared.refusal.CodeRefusal.TheVariants.{Place, Length as CodeLength, Packing as CodePacking}
use Rattle.kernels.specs.declared.refusal.StepRefusal.{StepRefusal}
use Rattle.kernels.specs.declared.refusal.StepRefusal.TheVariants.{Row, Length, Packing, Interval}
use Rattle.kernels.specs.Groups.{Unpacking, dot}
use Rattle.kernels.specs.Answers.{ask, step_gain}

-- do both sides have the words of one group?
abbrev pub lengths_fit : Shape → (weights activations : ℕ) → Bool
lengths_fit s weights activations = weights == words_on s Weights && activations == words_on s Activations

-- a step's questions: the row, the lengths, the packings, and steps below the interval
abbrev pub step_by_tests : (row lengths packings below : Bool) → Result (Unit {0}) StepRefusal
step_by_tests row lengths packings below = ask row Row (ask lengths Length (ask packings Packing (ask below Interval (Ok tt))))

-- the questions of reading a code: the place, the length, the packing
abbrev pub code_by_tests : (place length packing : Bool) → Result (Unit {0}) CodeRefusal
code_by_tests place length packing = ask place Place (ask length CodeLength (ask packing CodePacking (Ok tt)))

-- what an accepted step has found
pub record StepAllowed (unpacked : Unpacking) (f : Facts) (row steps : ℕ) (weights activations : List ℕ) : Type 0 where
  pub row_lt : row < 64
  pub weight_words : length weights ≡ words_on f.shape Weights
  pub activation_words : length activations ≡ words_on f.shape Activations
  pub below : steps < f.interval
  pub weight_codes : List ℤ
  pub activation_codes : List ℤ
  pub weights_are : unpacked Weights weights ≡ Some weight_codes
  pub activations_are : unpacked Activations activations ≡ Some activation_codes
  pub gains : step_gain unpacked f row steps weights activations ≡ Ok (dot weight_codes activation_codes)

-- what an accepted packing has found
pub record CodesAllowed (most needed : ℕ) (s : Shape) (side : Side) (codes : List ℤ) (words : ℕ) : Type 0 where
  pub some : 1 ≤ length codes
  pub count : length codes ≤ most
  pub words_are : words ≡ needed
  pub within : AllByRecursion (Within (ends_on s side)) codes

-- what an accepted reading of a code has found
pub record CodeAllowed (s : Shape) (side : Side) (words : ℕ) (packing : Bool) (place : ℕ) : Type 0 where
  pub there : place < s.group
  pub words_are : words ≡ words_on s side
  pub packs : packing ≡ true
