-- From the answers of a kernel to what they say.
use Rattle.std.proofs.Common.{◌≡◌, ℕ, ◌<◌, Bool, true, false, cond, eqb, ltb, List, length, ℤ, Some, None, Ok, Option, Result, sym, refl, ap, ◌∙◌, arith}
use Rattle.std.proofs.lemmas.Bool.{ltb-true, lt-ltb, eq-eqb, and_from, cond-true, true≢false}
use Rattle.codes.specs.declared.facts.Facts.{Facts}
use Rattle.codes.specs.declared.side.Side.TheVariants.{Weights, Activations}
use Rattle.codes.specs.Shapes.{words_on}
use Rattle.std.specs.Result.{result_unwrap_or}
use Rattle.kernels.specs.declared.refusal.RowRefusal.{RowRefusal}
use Rattle.kernels.specs.Groups.{Packing, Unpacking, Packs, Unpacks}
use Rattle.kernels.specs.Answers.{ask, row_answer, step_gain, both_dot, gain_of}
use Rattle.kernels.proofs.GroupReads.{packing_length}

asked : {V E : Type 0} (test : Bool) (x v : V) (e : E) → Ok x ≡ ask test e (Ok v) → (test ≡ true) × (x ≡ v)
asked true x v e h = (refl, cc)
asked false x v e h = absurd (let z : ◌≡◌ {A = ℕ} 0 1 = cc in omega arith)

-- an answer of a call that asks for the row alone
pub row_answered : {V : Type 0} (row : ℕ) (x v : V) → Ok x ≡ row_answer row v → (row < 64) × (x ≡ v)
row_answered row x v h = let a = asked (ltb row 64) x v _ h in (ltb-true row 64 a.0, a.1)

pub answered_or : {V : Type 0} (row : ℕ) (x d : V) (a : Result V RowRefusal) → a ≡ row_answer row x → row < 64 → result_unwrap_or a d ≡ x
answered_or row x d a h l = ap (λ r. result_unwrap_or r d) (h ∙ cond-true (ltb row 64) _ _ (lt-ltb row 64 l))

-- in a row that there is, a drain takes the first
pub in_row : {V : Type 0} (row : ℕ) (x y : V) → row < 64 → cond (ltb row 64) x y ≡ x
in_row row x y l = cond-true (ltb row 64) x y (lt-ltb row 64 l)

pub not_full : (n m : ℕ) → eqb n m ≡ false → n ≡ m → ⊥
not_full n m h e = true≢false (sym (eq-eqb n m e) ∙ h)

-- ---- the gain of a step

both_some : (w a : Option (List ℤ)) (gain : ℤ) → both_dot w a ≡ Some gain → ((ws : List ℤ) × (w ≡ Some ws)) × ((as' : List ℤ) × (a ≡ Some as'))
both_some None a gain h = absurd (let z : ◌≡◌ {A = ℕ} 0 1 = cc in omega arith)
both_some (Some ws) None gain h = absurd (let z : ◌≡◌ {A = ℕ} 0 1 = cc in omega arith)
both_some (Some ws) (Some as') gain h = ((ws, refl), (as', refl))

pub gain_is : (packed : Packing) (u : Unpacking) (f : Facts) (row steps : ℕ) (weights activations : List ℕ) (gain : ℤ) → Packs packed u f.shape → Unpacks packed u f.shape
    → row < 64 → both_dot (u Weights weights) (u Activations activations) ≡ Some gain → steps < f.interval → step_gain u f row steps weights activations ≡ Ok gain
unfolding step_gain
gain_is packed u f row steps weights activations gain packs unpacks l both room =
    let some = both_some (u Weights weights) (u Activations activations) gain both in
    let w = packing_length packed u f.shape Weights packs unpacks weights some.0.0 some.0.1 in
    let a = packing_length packed u f.shape Activations packs unpacks activations some.1.0 some.1.1 in
    cond-true (ltb row 64) _ _ (lt-ltb row 64 l)
    ∙ cond-true _ _ _ (and_from (eqb (length weights) (words_on f.shape Weights)) (eqb (length activations) (words_on f.shape Activations)) (eq-eqb _ _ w) (eq-eqb _ _ a))
    ∙ ap (λ o. gain_of o (ltb steps f.interval)) both
    ∙ cond-true (ltb steps f.interval) _ _ (lt-ltb steps f.interval room)
