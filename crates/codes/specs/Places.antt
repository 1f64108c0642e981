-- The place of the first code of a list that lies outside its ends. Places are counted from 0.
use Rattle.std.specs.Prelude.{ℕ, ◌+◌, ◌<◌, cond, List, [], ◌∷◌, length, ℤ, pos, Some, None, Option, slice_index_or}
use Rattle.std.specs.List.{AllByRecursion}
use Rattle.codes.specs.declared.ends.Ends.{Ends}
use Rattle.codes.specs.Codes.{Within, Outside, holds}

-- the first code outside the ends, where the list begins at place `at`
abbrev pub outside_from : (at : ℕ) → Ends → List ℤ → Option ℕ
outside_from at e [] = None
outside_from at e (code ∷ codes) = cond (holds e code) (outside_from (at + 1) e codes) (Some at)

abbrev pub first_outside : Ends → List ℤ → Option ℕ
first_outside e codes = outside_from 0 e codes

-- a code outside the ends, with none outside before it
pub record OutsideAt (e : Ends) (codes : List ℤ) (place : ℕ) : Type 0 where
  pub there : place < length codes
  pub outside : Outside e.low e.high (slice_index_or codes place (pos 0))
  pub before : (k : ℕ) → k < place → Within e (slice_index_or codes k (pos 0))

-- what the place of the first code outside says: none, and all lie within; or one, and it is the first
abbrev pub FirstPlace : Ends → List ℤ → Option ℕ → Type 0
FirstPlace e codes None = AllByRecursion (Within e) codes
FirstPlace e codes (Some place) = OutsideAt e codes place
