-- The sums of the codes of a group, and of a list.
use Rattle.std.proofs.Common.{◌≡◌, ℕ, ◌+◌, ◌%◌, ◌^◌, ◌<◌, ◌≤◌, Bool, true, false, cond, ◌||◌, ltb, List, [], ◌∷◌, ◌++◌, map, length, get_or, take, drop, ℤ, pos, negsuc, ◌+ℤ◌, Some, None, Ok, Err, Option, Result, sym, refl, ap, ◌∙◌, subst, inl, inr, arith, w16, w64, SFits, to_z, of_z}
use Rattle.std.specs.Int.{int_wrap}
use Rattle.std.specs.Option.{ok_or}
use Rattle.std.specs.Result.{result_ok, MatchResult, IsErrAnd}
use Rattle.std.proofs.lemmas.List.{take_more, take_all, take-append-drop}
use Rattle.std.proofs.lemmas.Int.{ints, to_z-of_z, int_wrap_fits, int_wrap-add_left, int_wrap-add_right, wrapping_add_onto}
use Rattle.std.proofs.lemmas.Bool.{cases_eq, and_parts, true≢false, ltb-false, le-ltb}
use Rattle.codes.specs.declared.shape.Shape.{Shape}
use Rattle.codes.specs.declared.side.Side.{Side}
use Rattle.codes.specs.Shapes.{words_on}
use Rattle.codes.specs.Sums.{sum_of}
use Rattle.kernels.specs.declared.refusal.CodeRefusal.{CodeRefusal}
use Rattle.kernels.specs.Answers.{code_in}
use Rattle.kernels.specs.Lists.{is_zero, all_zero, first_codes}
use Rattle.kernels.proofs.Groupings.{zero_is}
use Rattle.kernels.proofs.GroupReads.{read_at, reads, read_in, code_read, all_are_zero, some_not_zero}
use Rattle.kernels.specs.Lists.{joined}
use Rattle.kernels.proofs.UnpackedLists.{group_at, rest_from, rest_more, rest_all}
use Rattle.runs.specs.Passes.{codes_total, group_total, list_total}

some_same : {X : Type 0} (x y : X) → Some x ≡ Some y → x ≡ y
some_same x y e = cc

-- ---- an answer that is taken for an option

pub ok_some : {X E : Type 0} (r : Result X E) (x : X) → Some x ≡ result_ok r → Ok x ≡ r
ok_some (Ok y) x h = ap Ok (some_same x y h)
ok_some (Err e) x h = absurd (let z : ◌≡◌ {A = ℕ} 0 1 = cc in omega arith)

pub ok_none : {X E : Type 0} (r : Result X E) → ◌≡◌ {A = Option X} None (result_ok r) → (e : E) × (Err e ≡ r)
ok_none (Ok y) h = absurd (let z : ◌≡◌ {A = ℕ} 0 1 = cc in omega arith)
ok_none (Err e) h = (e, refl)

ok_same : {X E : Type 0} (x y : X) → ◌≡◌ {A = Result X E} (Ok x) (Ok y) → x ≡ y
ok_same x y e = cc

err_same : {X E : Type 0} (x y : E) → ◌≡◌ {A = Result X E} (Err x) (Err y) → x ≡ y
err_same x y e = cc

pub not_ok : {X E : Type 0} (o : Option X) (e d : E) → ◌≡◌ {A = Result X E} (Err d) (ok_or o e) → (o ≡ None) × (d ≡ e)
not_ok {X} None e d h = (refl, err_same {X = X} d e h)
not_ok (Some x) e d h = absurd (let z : ◌≡◌ {A = ℕ} 0 1 = cc in omega arith)

-- an answer whose error is named anew
pub err_named : {X E D : Type 0} {Q : E → D → Type 0} (make : E → D) (r : Result X E) (s : Result X D) (d : D) → s ≡ Err d → MatchResult r (λ x. s ≡ Ok x) (λ e. IsErrAnd s (Q e)) → ((e : E) (y : D) → Q e y → y ≡ make e)
    → (e : E) × (r ≡ Err e) × (d ≡ make e)
err_named make (Ok x) s d is h named = absurd (let e = sym h ∙ is in let z : ◌≡◌ {A = ℕ} 0 1 = cc in omega arith)
err_named {X} {E} {D} {Q} make (Err e) s d is h named = (e, refl, named e d (subst (λ (x : Result X D). IsErrAnd x (Q e)) is h))

pub ok_kept : {X E D : Type 0} (Q : E → D → Type 0) (r : Result X E) (s : Result X D) (x : X) → s ≡ Ok x → MatchResult r (λ y. s ≡ Ok y) (λ e. IsErrAnd s (Q e)) → r ≡ Ok x
ok_kept {X} {E} {D} Q (Ok y) s x is h = ap Ok (ok_same {X = X} {E = D} y x (sym h ∙ is))
ok_kept {X} {E} {D} Q (Err e) s x is h = absurd (subst (λ (y : Result X D). IsErrAnd y (Q e)) is h)

-- ---- sums of lists

lin_assoc : (a b c : ℤ) → a +ℤ (b +ℤ c) ≡ (a +ℤ b) +ℤ c
lin_assoc a b c = omega (arith, ints)

none_plus : (a : ℤ) → a ≡ pos 0 +ℤ a
none_plus a = omega (arith, ints)

plus_none : (a : ℤ) → a +ℤ pos 0 ≡ a
plus_none a = omega (arith, ints)

pub sum_append : {X : Type 0} (h : X → ℤ) (xs ys : List X) → sum_of h (xs ++ ys) ≡ sum_of h xs +ℤ sum_of h ys
sum_append h [] ys = none_plus (sum_of h ys)
sum_append h (x ∷ xs) ys = ap (λ z. h x +ℤ z) (sum_append h xs ys) ∙ lin_assoc (h x) (sum_of h xs) (sum_of h ys)

pub sum_map : {X Y : Type 0} (h : Y → ℤ) (f : X → Y) (xs : List X) → sum_of h (map f xs) ≡ sum_of (λ x. h (f x)) xs
sum_map h f [] = refl
sum_map h f (x ∷ xs) = ap (λ z. h (f x) +ℤ z) (sum_map h f xs)

-- ---- the places of a group

-- the sum of the codes before a place, where those from `used` on are 0
abbrev pub SummedTo : Option (List ℤ) → (used place : ℕ) → ℤ → Type 0
SummedTo None used place sum = place ≡ 0
SummedTo (Some codes) used place sum = (sum ≡ codes_total (take place codes)) × ((q : ℕ) → used ≤ q → q < place → get_or codes q (pos 0) ≡ pos 0)

widen : (z : ℤ) → SFits w16 z → SFits w64 z
widen (pos n) h = record { sfits = omega (arith, h.sfits) }
widen (negsuc n) h = record { sfits = omega (arith, h.sfits) }

-- a code added to a sum that may wrap
pub code_added : (m : ℕ) (code : ℤ) → m < 2 ^ 64 → SFits w16 code → to_z w64 ((m + of_z w64 (to_z w16 (of_z w16 code))) % 18446744073709551616) ≡ int_wrap w64 (to_z w64 m +ℤ code)
code_added m code l f = ap (λ (y : ℤ). to_z w64 ((m + of_z w64 y) % 18446744073709551616)) (to_z-of_z w16 code f) ∙ wrapping_add_onto w64 m code l (widen code f)

zero_fits : SFits w64 (pos 0)
zero_fits = record { sfits = omega arith }

pub summed_none : (o : Option (List ℤ)) (used : ℕ) → SummedTo o used 0 (pos 0)
summed_none None used = refl
summed_none (Some codes) used = (sym (int_wrap_fits w64 (pos 0) zero_fits), λ q l k. absurd (omega arith))

or_false : (a b : Bool) → (a || b) ≡ false → (a ≡ false) × (b ≡ false)
or_false true b h = absurd (true≢false h)
or_false false b h = (refl, h)

-- the answer for a code as it was passed
pub stands_as : (place used : ℕ) (code : ℤ) (b : Bool) → SFits w16 code → b ≡ (ltb place used || is_zero (to_z w16 (of_z w16 code))) → (ltb place used || is_zero code) ≡ b
stands_as place used code b f e = sym (e ∙ ap (λ z. ltb place used || is_zero z) (to_z-of_z w16 code f))

fill_zero : (place used : ℕ) (code : ℤ) → used ≤ place → (ltb place used || is_zero code) ≡ true → code ≡ pos 0
fill_zero place used code l h = zero_is code (sym (ap (λ b. b || is_zero code) (le-ltb place used l)) ∙ h)

module _ (s : Shape) (side : Side) (words : ℕ) (used place : ℕ) where
  -- one code more
  pub summed_more : (o : Option (List ℤ)) (sum sum' code : ℤ) → Ok code ≡ read_at s side words o place → (ltb place used || is_zero code) ≡ true → place < s.group
      → ((codes : List ℤ) → o ≡ Some codes → length codes ≡ s.group) → sum' ≡ int_wrap w64 (sum +ℤ code) → SummedTo o used place sum → SummedTo o used (place + 1) sum'
  summed_more None sum sum' code h fill l full e p = absurd (let k : Ok code ≡ code_in None place = read_in s side words None place code h in let z : ◌≡◌ {A = ℕ} 0 1 = cc in omega arith)
  summed_more (Some codes) sum sum' code h fill l full e p =
      let is : code ≡ get_or codes place (pos 0) = code_read s side words codes place code h in
      let more : take (place + 1) codes ≡ take place codes ++ code ∷ [] = take_more codes place (pos 0) (omega (arith, full codes refl)) ∙ ap (λ x. take place codes ++ x ∷ []) (sym is) in
      let all : sum_of (λ x. x) (take (place + 1) codes) ≡ sum_of (λ x. x) (take place codes) +ℤ code =
      ap (sum_of (λ x. x)) more ∙ sum_append (λ x. x) (take place codes) (code ∷ []) ∙ ap (λ z. sum_of (λ x. x) (take place codes) +ℤ z) (plus_none code) in (
        e ∙ ap (λ z. int_wrap w64 (z +ℤ code)) p.0 ∙ int_wrap-add_left w64 (sum_of (λ x. x) (take place codes)) code ∙ ap (int_wrap w64) (sym all),
        λ q u k. elim (cases_eq q place) [ inl eq ↦ ap (λ i. get_or codes i (pos 0)) eq ∙ sym is ∙ fill_zero place used code (omega arith) fill | inr ne ↦ p.1 q u (omega arith) ],
      )

  -- a place that is not read
  pub summed_unread : (o : Option (List ℤ)) (e : CodeRefusal) → Err e ≡ read_at s side words o place → place < s.group → ((codes : List ℤ) → o ≡ Some codes → words ≡ words_on s side) → None ≡ group_total (first_codes used o)
  summed_unread None e h l law = refl
  summed_unread (Some codes) e h l law =
      let k : Err e ≡ Ok (get_or codes place (pos 0)) = h ∙ reads s side words codes place l (law codes refl) in
      absurd (let z : ◌≡◌ {A = ℕ} 0 1 = cc in omega arith)

  -- a place of the fill that is not 0
  pub summed_unfilled : (o : Option (List ℤ)) (code : ℤ) → Ok code ≡ read_at s side words o place → (ltb place used || is_zero code) ≡ false → None ≡ group_total (first_codes used o)
  summed_unfilled None code h e = refl
  summed_unfilled (Some codes) code h e =
      let is : code ≡ get_or codes place (pos 0) = code_read s side words codes place code h in
      let p = or_false (ltb place used) (is_zero code) e in
      sym (ap (λ b. group_total (cond b (Some (take used codes)) None)) (some_not_zero codes used place (ltb-false place used p.0) (ap is_zero (sym is) ∙ p.1)))

-- codes that are 0 add nothing
zeros_sum : (codes : List ℤ) → all_zero codes ≡ true → sum_of (λ x. x) codes ≡ pos 0
zeros_sum [] h = refl
zeros_sum (code ∷ codes) h =
    let p = and_parts (is_zero code) (all_zero codes) h in
    ap (λ z. z +ℤ sum_of (λ x. x) codes) (zero_is code p.0) ∙ sym (none_plus (sum_of (λ x. x) codes)) ∙ zeros_sum codes p.1

-- all places
pub summed_all : (o : Option (List ℤ)) (size used place : ℕ) (sum : ℤ) → size ≤ place → 1 ≤ size → ((codes : List ℤ) → o ≡ Some codes → length codes ≡ size) → SummedTo o used place sum → Some sum ≡ group_total (first_codes used o)
summed_all None size used place sum e l full p = absurd (omega arith)
summed_all (Some codes) size used place sum e l full p =
    let long = full codes refl in
    let fill : all_zero (drop used codes) ≡ true = all_are_zero codes used (λ q u k. p.1 q u (omega arith)) in
    let whole : take place codes ≡ codes = take_all place codes (omega arith) in
    let front : sum_of (λ x. x) codes ≡ sum_of (λ x. x) (take used codes) =
    ap (sum_of (λ x. x)) (sym (take-append-drop used codes)) ∙ sum_append (λ x. x) (take used codes) (drop used codes)
    ∙ ap (λ z. sum_of (λ x. x) (take used codes) +ℤ z) (zeros_sum (drop used codes) fill) ∙ plus_none (sum_of (λ x. x) (take used codes)) in
    ap Some (p.0 ∙ ap codes_total whole ∙ ap (int_wrap w64) front) ∙ sym (ap (λ b. group_total (cond b (Some (take used codes)) None)) fill)

-- ---- the groups of a list

-- a sum so far, and the sum of the codes that are left
abbrev pub on_total : ℤ → Result (List ℤ) ℕ → Result ℤ ℕ
on_total sum (Ok codes) = Ok (int_wrap w64 (sum +ℤ sum_of (λ x. x) codes))
on_total sum (Err group) = Err group

pub total_none : (r : Result (List ℤ) ℕ) → on_total (pos 0) r ≡ list_total r
total_none (Ok codes) = ap (λ z. Ok (int_wrap w64 z)) (sym (none_plus (sum_of (λ x. x) codes)))
total_none (Err group) = refl

joined_total : (g : ℕ) (o : Option (List ℤ)) (r : Result (List ℤ) ℕ) (sum more : ℤ) → Some more ≡ group_total o → on_total sum (joined g o r) ≡ on_total (int_wrap w64 (sum +ℤ more)) r
joined_total g None r sum more h = absurd (let z : ◌≡◌ {A = ℕ} 0 1 = cc in omega arith)
joined_total g (Some codes) (Err bad) sum more h = refl
joined_total g (Some codes) (Ok rest) sum more h =
    let S : ℤ = sum_of (λ x. x) codes in
    let T : ℤ = sum_of (λ x. x) rest in
    let is : more ≡ int_wrap w64 S = some_same more (int_wrap w64 S) h in
    let back : int_wrap w64 (int_wrap w64 (sum +ℤ more) +ℤ T) ≡ int_wrap w64 ((sum +ℤ S) +ℤ T) =
    ap (λ z. int_wrap w64 (int_wrap w64 (sum +ℤ z) +ℤ T)) is ∙ ap (λ z. int_wrap w64 (z +ℤ T)) (int_wrap-add_right w64 sum S) ∙ int_wrap-add_left w64 (sum +ℤ S) T in
    ap (λ z. Ok (int_wrap w64 (sum +ℤ z))) (sum_append (λ x. x) codes rest) ∙ ap (λ z. Ok (int_wrap w64 z)) (lin_assoc sum S T) ∙ ap Ok (sym back)

joined_bad : (g : ℕ) (o : Option (List ℤ)) (r : Result (List ℤ) ℕ) (sum : ℤ) → None ≡ group_total o → on_total sum (joined g o r) ≡ Err g
joined_bad g None r sum h = refl
joined_bad g (Some codes) r sum h = absurd (let z : ◌≡◌ {A = ℕ} 0 1 = cc in omega arith)

module _ (unpacked : List ℕ → Option (List ℤ)) (m w count n : ℕ) (words : List ℕ) where
  pub total_more : (g g' : ℕ) (whole : Result ℤ ℕ) (sum sum' more : ℤ) → g' ≡ g + 1 → g < count → Some more ≡ group_total (group_at unpacked m w count n words g) → sum' ≡ int_wrap w64 (sum +ℤ more)
      → on_total sum (rest_from unpacked m w count n words g) ≡ whole → on_total sum' (rest_from unpacked m w count n words g') ≡ whole
  total_more g g' whole sum sum' more next l h e inv =
      ap (λ z. on_total z (rest_from unpacked m w count n words g')) e
      ∙ ap (λ i. on_total (int_wrap w64 (sum +ℤ more)) (rest_from unpacked m w count n words i)) next
      ∙ sym (ap (on_total sum) (rest_more unpacked m w count n words g l) ∙ joined_total g (group_at unpacked m w count n words g) (rest_from unpacked m w count n words (g + 1)) sum more h)
      ∙ inv

  pub total_bad : (g : ℕ) (whole : Result ℤ ℕ) (sum : ℤ) → g < count → None ≡ group_total (group_at unpacked m w count n words g) → on_total sum (rest_from unpacked m w count n words g) ≡ whole → Err g ≡ whole
  total_bad g whole sum l h inv =
      sym (ap (on_total sum) (rest_more unpacked m w count n words g l) ∙ joined_bad g (group_at unpacked m w count n words g) (rest_from unpacked m w count n words (g + 1)) sum h) ∙ inv

  pub total_all : (g : ℕ) (whole : Result ℤ ℕ) (sum : ℤ) → count ≤ g → SFits w64 sum → on_total sum (rest_from unpacked m w count n words g) ≡ whole → Ok sum ≡ whole
  total_all g whole sum l fits inv =
      ap Ok (sym (ap (int_wrap w64) (plus_none sum) ∙ int_wrap_fits w64 sum fits)) ∙ sym (ap (on_total sum) (rest_all unpacked m w count n words g l)) ∙ inv
