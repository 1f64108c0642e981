-- The place of the first code outside its ends: a loop's steps, and what the place says.
use Rattle.std.proofs.Common.{◌≡◌, ℕ, zero, suc, ◌+◌, ◌<◌, ◌≤◌, true, false, List, [], ◌∷◌, length, get_or, drop, ℤ, pos, Some, None, Option, sym, refl, ◌∙◌, subst, inl, inr, arith}
use Rattle.std.specs.List.{AllByRecursion}
use Rattle.std.proofs.lemmas.List.{at_drop_more, at_drop_all}
use Rattle.std.proofs.lemmas.Bool.{cond-true, cond-false, cases_Bool}
use Rattle.codes.specs.declared.ends.Ends.{Ends}
use Rattle.codes.specs.Codes.{Within, holds}
use Rattle.codes.specs.Places.{outside_from, first_outside, OutsideAt, FirstPlace}
use Rattle.codes.proofs.WithinEnds.{holds_within, within_holds, fails_outside}

-- one turn of the loop, and its two ends
module _ (at : ℕ) (e : Ends) (codes : List ℤ) where
  pub outside_more : at < length codes → holds e (get_or codes at (pos 0)) ≡ true → outside_from at e (drop at codes) ≡ outside_from (at + 1) e (drop (at + 1) codes)
  outside_more h k = at_drop_more (outside_from at e) codes at (pos 0) h ∙ cond-true _ _ _ k

  pub outside_here : at < length codes → holds e (get_or codes at (pos 0)) ≡ false → outside_from at e (drop at codes) ≡ Some at
  outside_here h k = at_drop_more (outside_from at e) codes at (pos 0) h ∙ cond-false _ _ _ k

  pub outside_none : length codes ≤ at → outside_from at e (drop at codes) ≡ None
  outside_none h = at_drop_all (outside_from at e) codes at h

-- codes within their ends leave no place
pub none_outside_from : (at : ℕ) (e : Ends) (codes : List ℤ) → AllByRecursion (Within e) codes → outside_from at e codes ≡ None
none_outside_from at e [] w = refl
none_outside_from at e (code ∷ codes) w = cond-true _ _ _ (within_holds e code w.0) ∙ none_outside_from (at + 1) e codes w.1

-- what the place says, where the list begins at place `at`
abbrev FoundFrom : ℕ → Ends → List ℤ → Option ℕ → Type 0
FoundFrom at e codes None = AllByRecursion (Within e) codes
FoundFrom at e codes (Some place) = (k : ℕ) × (place ≡ at + k) × OutsideAt e codes k

later : (e : Ends) (code : ℤ) (codes : List ℤ) (k : ℕ) → Within e code → OutsideAt e codes k → OutsideAt e (code ∷ codes) (suc k)
later e code codes k w o =
    record {
      there = omega (arith, o.there);
      outside = o.outside;
      before = earlier e code codes k w o.before;
    }
  where
    earlier : (e : Ends) (code : ℤ) (codes : List ℤ) (k : ℕ) → Within e code → ((j : ℕ) → j < k → Within e (get_or codes j (pos 0))) → (j : ℕ) → j < suc k → Within e (get_or (code ∷ codes) j (pos 0))
    earlier e code codes k w h zero l = w
    earlier e code codes k w h (suc j) l = h j (omega arith)

found_later : (at : ℕ) (e : Ends) (code : ℤ) (codes : List ℤ) → Within e code → (r : Option ℕ) → FoundFrom (at + 1) e codes r → FoundFrom at e (code ∷ codes) r
found_later at e code codes w None a = (w, a)
found_later at e code codes w (Some place) f = (suc f.0, omega (arith, f.1), later e code codes f.0 w f.2)

found_from : (at : ℕ) (e : Ends) (codes : List ℤ) → FoundFrom at e codes (outside_from at e codes)
found_from at e [] = tt
found_from at e (code ∷ codes) =
    elim (cases_Bool (holds e code)) [
      | inl h ↦ subst (FoundFrom at e (code ∷ codes)) (sym (cond-true _ _ _ h)) (found_later at e code codes (holds_within e code h) _ (found_from (at + 1) e codes))
      | inr h ↦ subst (FoundFrom at e (code ∷ codes)) (sym (cond-false _ _ _ h))
          (0, omega arith, record { there = omega arith; outside = fails_outside e code h; before = λ k l. absurd (omega arith) })
    ]

-- where the list begins at place 0
from_start : (e : Ends) (codes : List ℤ) (r : Option ℕ) → FoundFrom 0 e codes r → FirstPlace e codes r
from_start e codes None a = a
from_start e codes (Some place) f =
    let same : f.0 ≡ place = omega (arith, f.1) in
    subst (OutsideAt e codes) same f.2

pub first_place : (e : Ends) (codes : List ℤ) (r : Option ℕ) → r ≡ first_outside e codes → FirstPlace e codes r
first_place e codes r h = subst (FirstPlace e codes) (sym h) (from_start e codes (first_outside e codes) (found_from 0 e codes))

-- no code before the place `at` lies outside: so the first one outside is the one at `at`, if it is, and none at the end
pub record Scanned (e : Ends) (codes : List ℤ) (at : ℕ) : Type 0 where
  pub rest : outside_from at e (drop at codes) ≡ first_outside e codes
  pub here : at < length codes → holds e (get_or codes at (pos 0)) ≡ false → (Some at ≡ first_outside e codes) × FirstPlace e codes (Some at)
  pub none : length codes ≤ at → (None ≡ first_outside e codes) × FirstPlace e codes None

scanned : (e : Ends) (codes : List ℤ) (at : ℕ) → outside_from at e (drop at codes) ≡ first_outside e codes → Scanned e codes at
scanned e codes at rest =
    record {
      rest = rest;
      here = λ h k. (let v = sym (outside_here at e codes h k) ∙ rest in (v, first_place e codes (Some at) v));
      none = λ h. (let v = sym (outside_none at e codes h) ∙ rest in (v, first_place e codes None v));
    }

pub scanned_none : (e : Ends) (codes : List ℤ) → Scanned e codes 0
scanned_none e codes = scanned e codes 0 refl

pub scanned_more : (e : Ends) (codes : List ℤ) (at : ℕ) → Scanned e codes at → at < length codes → holds e (get_or codes at (pos 0)) ≡ true → Scanned e codes (at + 1)
scanned_more e codes at s h k = scanned e codes (at + 1) (sym (outside_more at e codes h k) ∙ s.rest)
