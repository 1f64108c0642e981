-- What the questions of a step say of its answer, of any make.
use Rattle.std.proofs.Common.{◌≡◌, ℕ, Bool, true, false, ◌&&◌, eqb, ltb, List, length, ℤ, is_some, IfOk, Some, None, Ok, Err, Option, Result, sym, refl, ap, ◌∙◌, ap₂, arith}
use Rattle.std.proofs.lemmas.Bool.{ltb-true, eqb-true}
use Rattle.codes.specs.declared.side.Side.TheVariants.{Weights, Activations}
use Rattle.codes.specs.declared.facts.Facts.{Facts}
use Rattle.codes.specs.Shapes.{words_on}
use Rattle.kernels.specs.declared.refusal.StepRefusal.{StepRefusal}
use Rattle.kernels.specs.declared.refusal.StepRefusal.TheVariants.{Row, Length}
use Rattle.kernels.specs.Groups.{Unpacking, dot}
use Rattle.kernels.specs.Answers.{ask, step_gain, step_answer, gain_of, both_dot}
use Rattle.kernels.specs.Meanings.{Meaning, Stepped}
use Rattle.kernels.specs.Allowed.{step_by_tests, lengths_fit, StepAllowed}

tests_gain : (row lengths below : Bool) (w a : Option (List ℤ))
    → step_by_tests row lengths (is_some w && is_some a) below ≡ step_answer (ask row Row (ask lengths Length (gain_of (both_dot w a) below)))
tests_gain false lengths below w a = refl
tests_gain true false below w a = refl
tests_gain true true below None a = refl
tests_gain true true below (Some w) None = refl
tests_gain true true true (Some w) (Some a) = refl
tests_gain true true false (Some w) (Some a) = refl

record Parts (row l k below : Bool) (w a : Option (List ℤ)) : Type 0 where
  pub row_yes : row ≡ true
  pub w_yes : l ≡ true
  pub a_yes : k ≡ true
  pub below_yes : below ≡ true
  pub w_codes : List ℤ
  pub a_codes : List ℤ
  pub w_is : w ≡ Some w_codes
  pub a_is : a ≡ Some a_codes
  pub gains : ask row Row (ask (l && k) Length (gain_of (both_dot w a) below)) ≡ Ok (dot w_codes a_codes)

parts : (row l k below : Bool) (w a : Option (List ℤ)) → step_answer (ask row Row (ask (l && k) Length (gain_of (both_dot w a) below))) ≡ Ok tt → Parts row l k below w a
parts false l k below w a h = absurd (let z : ◌≡◌ {A = ℕ} 0 1 = cc in omega arith)
parts true false k below w a h = absurd (let z : ◌≡◌ {A = ℕ} 0 1 = cc in omega arith)
parts true true false below w a h = absurd (let z : ◌≡◌ {A = ℕ} 0 1 = cc in omega arith)
parts true true true below None a h = absurd (let z : ◌≡◌ {A = ℕ} 0 1 = cc in omega arith)
parts true true true below (Some w) None h = absurd (let z : ◌≡◌ {A = ℕ} 0 1 = cc in omega arith)
parts true true true false (Some w) (Some a) h = absurd (let z : ◌≡◌ {A = ℕ} 0 1 = cc in omega arith)
parts true true true true (Some w) (Some a) h =
    record { row_yes = refl; w_yes = refl; a_yes = refl; below_yes = refl; w_codes = w; a_codes = a; w_is = refl; a_is = refl; gains = refl }

module _ (unpacked : Unpacking) (f : Facts) (row steps : ℕ) (weights activations : List ℕ) where
  asked_yes : step_answer (step_gain unpacked f row steps weights activations) ≡ Ok tt → StepAllowed unpacked f row steps weights activations
  unfolding step_gain
  asked_yes h =
      let p = parts (ltb row 64) (eqb (length weights) (words_on f.shape Weights)) (eqb (length activations) (words_on f.shape Activations))
      (ltb steps f.interval) (unpacked Weights weights) (unpacked Activations activations) h in
      record {
        row_lt = ltb-true _ _ p.row_yes;
        weight_words = eqb-true _ _ p.w_yes;
        activation_words = eqb-true _ _ p.a_yes;
        below = ltb-true _ _ p.below_yes;
        weight_codes = p.w_codes;
        activation_codes = p.a_codes;
        weights_are = p.w_is;
        activations_are = p.a_is;
        gains = p.gains;
      }

  made_yes : (r : Result (Unit {0}) StepRefusal) → r ≡ step_answer (step_gain unpacked f row steps weights activations)
      → IfOk r (λ _. StepAllowed unpacked f row steps weights activations)
  made_yes (Ok u) e = asked_yes (sym e)
  made_yes (Err x) e = tt

  -- the answer of a step's questions, with what a yes has found
  pub record StepAnswered (r : Result (Unit {0}) StepRefusal) : Type 0 where
    pub answer : r ≡ step_answer (step_gain unpacked f row steps weights activations)
    pub found : IfOk r (λ _. StepAllowed unpacked f row steps weights activations)

  pub step_answered : (lengths packings below : Bool) (r : Result (Unit {0}) StepRefusal)
      → r ≡ step_by_tests (ltb row 64) lengths packings below
      → lengths ≡ lengths_fit f.shape (length weights) (length activations)
      → packings ≡ (is_some (unpacked Weights weights) && is_some (unpacked Activations activations))
      → below ≡ ltb steps f.interval
      → StepAnswered r
  unfolding step_gain
  step_answered lengths packings below r e hl hp hb =
      let fit : Bool = lengths_fit f.shape (length weights) (length activations) in
      let a : r ≡ step_answer (step_gain unpacked f row steps weights activations) =
      e ∙ ap (λ (b : Bool). step_by_tests (ltb row 64) b packings below) hl ∙ ap (λ (b : Bool). step_by_tests (ltb row 64) fit b below) hp
      ∙ ap (λ (b : Bool). step_by_tests (ltb row 64) fit (is_some (unpacked Weights weights) && is_some (unpacked Activations activations)) b) hb
      ∙ tests_gain (ltb row 64) fit (ltb steps f.interval) (unpacked Weights weights) (unpacked Activations activations) in
      record { answer = a; found = made_yes r a }

  -- the gain of a step by the codes that a make finds in the words
  pub gain_is : (allowed : StepAllowed unpacked f row steps weights activations) (w a : List ℤ) → allowed.weight_codes ≡ w → allowed.activation_codes ≡ a
      → step_gain unpacked f row steps weights activations ≡ Ok (dot w a)
  gain_is allowed w a ew ea = allowed.gains ∙ ap₂ (λ (v b : List ℤ). Ok (dot v b)) ew ea

-- the packings need no question where words of the right lengths are packings
pub packings_known : (row lengths packings below : Bool) → (lengths ≡ true → packings ≡ true) → step_by_tests row lengths true below ≡ step_by_tests row lengths packings below
packings_known row false packings below h = refl
packings_known row true packings below h = ap (λ (b : Bool). step_by_tests row true b below) (sym (h refl))

-- a step that is refused changes nothing
pub step_refused : (row : ℕ) (gain : Result ℤ StepRefusal) (e : StepRefusal) (m : Meaning) → Err e ≡ step_answer gain → Stepped row gain m m
step_refused row (Ok gain) e m h = absurd (let z : ◌≡◌ {A = ℕ} 0 1 = cc in omega arith)
step_refused row (Err x) e m h =
    record { others = record { facts = refl; total = λ _ _. refl; steps = λ _ _. refl }; total = refl; steps = refl }
