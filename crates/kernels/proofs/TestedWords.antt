-- Words that unpack where they pass a test, groups of one word, and what reading a code answers.
use Rattle.std.proofs.Common.{◌≡◌, ℕ, ◌<◌, Bool, true, false, cond, List, [], ◌∷◌, length, get_or, set, ℤ, pos, is_some, Some, None, Ok, Err, Option, Result, sym, refl, ap, ◌∙◌, arith}
use Rattle.std.proofs.lemmas.List.{set_split, drop_all}
use Rattle.std.proofs.lemmas.Bool.{false≢true}
use Rattle.codes.specs.declared.shape.Shape.{Shape}
use Rattle.codes.specs.declared.side.Side.{Side}
use Rattle.codes.specs.Shapes.{words_on}
use Rattle.kernels.specs.declared.refusal.CodeRefusal.{CodeRefusal}
use Rattle.kernels.specs.declared.refusal.CodeRefusal.TheVariants.{Place, Length}
use Rattle.kernels.specs.Groups.{Unpacking}
use Rattle.kernels.specs.Answers.{ask, code_answer}
use Rattle.kernels.specs.Allowed.{code_by_tests}
use Rattle.kernels.proofs.GroupReads.{read_at, reads}

-- ---- words that unpack where they pass a test

pub some_tested : {V : Type 0} (t : Bool) (v : V) → t ≡ is_some (cond t (Some v) None)
some_tested true v = refl
some_tested false v = refl

pub some_parts : {V : Type 0} (t : Bool) (v w : V) → cond t (Some v) None ≡ Some w → (t ≡ true) × (w ≡ v)
some_parts true v w e = (refl, cc)
some_parts false v w e = absurd (let z : ◌≡◌ {A = ℕ} 0 1 = cc in omega arith)

-- ---- groups of one word

-- words that pass a test of one word are one word
pub one_passes : (test : List ℕ → Bool) → test [] ≡ false → ((word next : ℕ) (words : List ℕ) → test (word ∷ next ∷ words) ≡ false)
    → (words : List ℕ) → test words ≡ true → words ≡ get_or words 0 0 ∷ []
one_passes test none more [] h = absurd (false≢true (sym none ∙ h))
one_passes test none more (word ∷ []) h = refl
one_passes test none more (word ∷ next ∷ words) h = absurd (false≢true (sym (more word next words) ∙ h))

pub set_one : (words : List ℕ) (word : ℕ) → length words ≡ 1 → set words 0 word ≡ word ∷ []
set_one words word e = set_split words 0 word (omega arith) ∙ ap (λ (rest : List ℕ). word ∷ rest) (drop_all 1 words (omega arith))

-- ---- what reading a code answers

-- at a place of words that unpack
pub code_answer_is : (unpacked : Unpacking) (s : Shape) (side : Side) (words : List ℕ) (place : ℕ) (codes : List ℤ) → unpacked side words ≡ Some codes
    → place < s.group → length words ≡ words_on s side → Ok (get_or codes place (pos 0)) ≡ code_answer unpacked s side words place
code_answer_is unpacked s side words place codes h there long =
    sym (ap (λ (o : Option (List ℤ)). read_at s side (length words) o place) h ∙ reads s side (length words) codes place there long)

-- where all words are packings, and one of the other questions gets a no
pub code_refused : (place length : Bool) (e : CodeRefusal) (next : Result ℤ CodeRefusal) → Err e ≡ code_by_tests place length true → Err e ≡ ask place Place (ask length Length next)
code_refused false length e next h = cc
code_refused true false e next h = cc
code_refused true true e next h = absurd (let z : ◌≡◌ {A = ℕ} 0 1 = cc in omega arith)
