-- At which part a line is refused.
use Rattle.std.proofs.Common.{◌≡◌, ◌≢◌, List, [], ◌∷◌, ◌++◌, inl, inr, subst, ap, ◌∙◌, Result}
use Rattle.lines.specs.declared.fault.Fault.{Fault}
use Rattle.lines.specs.declared.fault.Fault.TheVariants.{Expected, Memory}
use Rattle.lines.specs.Words.{Text, FaultSays, FirstSpells, NoNumber}
use Rattle.lines.specs.PlanLines.{bound_parts, zero_parts}
use Rattle.lines.specs.Parts.{Part, number_part, end_part, FailsIn}

pub at_first : (part : Part) (parts : List Part) (words : List Text) (memory : Type 0) (fault : Fault) → FaultSays memory fault (part.refused words) → FaultSays memory fault (FailsIn (part ∷ parts) words)
unfolding FailsIn
at_first part parts words memory (Expected text) h = inl h
at_first part parts words memory Memory h = h

pub at_later : (part : Part) (parts : List Part) (words rest : List Text) (memory : Type 0) (fault : Fault) → part.begins words rest → FaultSays memory fault (FailsIn parts rest) → FaultSays memory fault (FailsIn (part ∷ parts) words)
unfolding FailsIn
at_later part parts words rest memory (Expected text) b h = inr (rest, b, h)
at_later part parts words rest memory Memory b h = h

-- past a number
pub past : {T E : Type 0} {gives : Text → Result T E → Type 0} {words rest : List Text} {v : T} (usage own : Text) (parts : List Part) (memory : Type 0) (fault : Fault) → FirstSpells gives words rest v → FaultSays memory fault (FailsIn parts rest) → FaultSays memory fault (FailsIn (number_part gives usage own ∷ parts) words)
past {T} {E} {gives} {words} {rest} {v} usage own parts memory fault first h =
    at_later (number_part gives usage own) parts words rest memory fault (v, first) h

-- at a number
pub stop : {T E : Type 0} (gives : Text → Result T E → Type 0) (words : List Text) {usage usage' : Text} (own : Text) (parts : List Part) (memory : Type 0) (fault : Fault) → usage' ≡ usage → FaultSays memory fault (NoNumber gives usage' own words) → FaultSays memory fault (FailsIn (number_part gives usage own ∷ parts) words)
stop {T} {E} gives words {usage} {usage'} own parts memory fault u h =
    at_first (number_part gives usage own) parts words memory fault (let P : Text → Type 0 = λ x. FaultSays memory fault (NoNumber gives x own words) in subst P u h)

-- at the end
pub stop_at_end : (words : List Text) {usage usage' : Text} (memory : Type 0) (fault : Fault) → usage' ≡ usage → FaultSays memory fault (λ text. (words ≢ []) × (text ≡ usage')) → FaultSays memory fault (FailsIn (end_part usage ∷ []) words)
stop_at_end words {usage} {usage'} memory fault u h =
    at_first (end_part usage) [] words memory fault (let P : Text → Type 0 = λ x. FaultSays memory fault (λ text. (words ≢ []) × (text ≡ x)) in subst P u h)

-- a word before words that are known
pub joined : {words rest more : List Text} (word : Text) → words ≡ word ∷ rest → rest ≡ more → words ≡ word ∷ more
joined {words} {rest} {more} word e f = e ∙ ap (λ xs. word ∷ xs) f

-- at one of two parts, with more behind them
in_two : (a b : Part) (parts : List Part) (words : List Text) (fault : Fault) → FaultSays ⊥ fault (FailsIn (a ∷ b ∷ []) words) → FaultSays ⊥ fault (FailsIn (a ∷ b ∷ parts) words)
unfolding FailsIn
in_two a b parts words (Expected text) (inl x) = inl x
in_two a b parts words (Expected text) (inr (rest, begins, inl x)) = inr (rest, begins, inl x)
in_two a b parts words (Expected text) (inr (rest, begins, inr (_, _, never))) = absurd never
in_two a b parts words Memory h = h

pub stop_at_zeros : {usage usage' : Text} (parts : List Part) (words : List Text) (fault : Fault) → usage' ≡ usage → FaultSays ⊥ fault (FailsIn (zero_parts usage') words) → FaultSays ⊥ fault (FailsIn (zero_parts usage ++ parts) words)
stop_at_zeros {usage} {usage'} parts words fault u h =
    let P : Text → Type 0 = λ x. FaultSays ⊥ fault (FailsIn (zero_parts x) words) in
    in_two _ _ parts words fault (subst P u h)

pub stop_at_bounds : {usage usage' : Text} (parts : List Part) (words : List Text) (fault : Fault) → usage' ≡ usage → FaultSays ⊥ fault (FailsIn (bound_parts usage') words) → FaultSays ⊥ fault (FailsIn (bound_parts usage ++ parts) words)
stop_at_bounds {usage} {usage'} parts words fault u h =
    let P : Text → Type 0 = λ x. FaultSays ⊥ fault (FailsIn (bound_parts x) words) in
    in_two _ _ parts words fault (subst P u h)
