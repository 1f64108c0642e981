-- What is read of words: one code, and whether they are packings.
use Rattle.std.proofs.Common.{◌≡◌, ℕ, ◌+◌, ◌<◌, Bool, true, ◌&&◌, eqb, ltb, List, length, get_or, ℤ, pos, is_some, Ok, Result, sym, refl, ap, ◌∙◌, arith, w16, Fits}
use lib.ListN.{get_or-map}
use Rattle.std.proofs.lemmas.Bool.{eqb-true, and_parts, and_from}
use Rattle.codes.specs.declared.shape.Shape.{Shape}
use Rattle.codes.specs.declared.side.Side.{Side}
use Rattle.codes.specs.declared.side.Side.TheVariants.{Weights, Activations}
use Rattle.codes.specs.declared.facts.Facts.{Facts}
use Rattle.codes.specs.Shapes.{words_on}
use Rattle.kernels.specs.declared.refusal.StepRefusal.{StepRefusal}
use Rattle.kernels.specs.Answers.{code_answer}
use Rattle.kernels.specs.Allowed.{step_by_tests, lengths_fit, CodeAllowed}
use Rattle.kernels.proofs.Gains.{StepAnswered, step_answered, packings_known}
use Rattle.kernels.proofs.TestedWords.{code_answer_is}
use Rattle.planes.specs.Planes.{plane, planes_from, codes_in, unpacked_planes}
use Rattle.planes.specs.Transposed.{get_or_planes}
use Rattle.planes.specs.Packings.{words_unpack}

-- ---- one code

code_in : (group : ℕ) (ws : List ℕ) (place : ℕ) → place < group → get_or (codes_in group ws) place (pos 0) ≡ pos (plane place ws)
code_in group ws place lt =
    let e : 0 + place ≡ place = omega arith in
    get_or-map pos (planes_from 0 group ws) place 0 ∙ ap pos (get_or_planes 0 group place ws lt ∙ ap (λ (i : ℕ). plane i ws) e)

-- the answer of reading a code that may be read
pub code_read : (s : Shape) (side : Side) (ws : List ℕ) (place : ℕ) (code : ℤ) → CodeAllowed s side (length ws) true place → ((i : ℕ) → Fits w16 (get_or ws i 0))
    → code ≡ pos (plane place ws) → Ok code ≡ code_answer (unpacked_planes s) s side ws place
code_read s side ws place code allowed fits is =
    ap (λ (z : ℤ). Ok z) (is ∙ sym (code_in s.group ws place allowed.there))
    ∙ code_answer_is (unpacked_planes s) s side ws place (codes_in s.group ws) (words_unpack s side ws allowed.words_are fits) allowed.there allowed.words_are

-- ---- the questions of a step

-- words of the right number are packings, so that there is nothing to ask
pub words_answered : (f : Facts) (row steps : ℕ) (ws ys : List ℕ) (lengths below : Bool) (r : Result (Unit {0}) StepRefusal)
    → ((i : ℕ) → Fits w16 (get_or ws i 0)) → ((i : ℕ) → Fits w16 (get_or ys i 0))
    → r ≡ step_by_tests (ltb row 64) lengths true below → lengths ≡ lengths_fit f.shape (length ws) (length ys) → below ≡ ltb steps f.interval
    → StepAnswered (unpacked_planes f.shape) f row steps ws ys r
words_answered f row steps ws ys lengths below r fw fy e el eb =
    let s : Shape = f.shape in
    let w : Bool = is_some (unpacked_planes s Weights ws) in
    let a : Bool = is_some (unpacked_planes s Activations ys) in
    let packings : lengths ≡ true → (w && a) ≡ true =
    λ h.
    let both = and_parts (eqb (length ws) (words_on s Weights)) (eqb (length ys) (words_on s Activations)) (sym el ∙ h) in
    and_from w a (ap is_some (words_unpack s Weights ws (eqb-true _ _ both.0) fw)) (ap is_some (words_unpack s Activations ys (eqb-true _ _ both.1) fy)) in
    step_answered (unpacked_planes s) f row steps ws ys lengths (w && a) below r (e ∙ packings_known (ltb row 64) lengths (w && a) below packings) el refl eb
