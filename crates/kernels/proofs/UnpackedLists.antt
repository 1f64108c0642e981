-- The loops that unpack a list, and what its answer says.
use Rattle.std.proofs.Common.{◌≡◌, ℕ, suc, ◌+◌, ◌-◌, ◌*◌, ◌<◌, ◌≤◌, min, Bool, true, false, cond, ◌&&◌, eqb, leb, List, [], ◌++◌, length, take, drop, ℤ, pos, is_some, is_ok, Some, None, Ok, Err, Option, Result, sym, refl, ap, ◌∙◌, subst, inl, inr, append_assoc, add-mul, one-mul, zero-mul, arith}
use borrow.Rule.Slice.PartMut.{put_mid}
use Rattle.std.proofs.lemmas.Nat.{mul-le}
use Rattle.std.proofs.lemmas.List.{take_all, append-nil, drop-drop}
use Rattle.std.proofs.lemmas.Slice.{take-put_mid}
use Rattle.std.proofs.lemmas.Bool.{cases_lt, cases_Bool, cond-true, cond-false, eqb-true, true≢false, false≢true}
use Rattle.codes.specs.declared.shape.Shape.{Shape}
use Rattle.codes.specs.declared.side.Side.{Side}
use Rattle.codes.specs.Codes.{Within, groups}
use Rattle.codes.specs.Shapes.{ends_on}
use Rattle.kernels.specs.declared.refusal.UnpackRefusal.{UnpackRefusal}
use Rattle.kernels.specs.declared.refusal.UnpackRefusal.TheVariants.{Count, Words, Group as BadGroup}
use Rattle.kernels.specs.Groups.{Packing, Unpacking, Packs, Unpacks}
use Rattle.kernels.specs.Answers.{ask}
use Rattle.kernels.specs.Lists.{first_codes, joined, unpacked_groups, unpacked_list, bad_group, sizes_answer, unpack_list_answer, words_for, packed_groups, codes_after, FirstBad, Repacks}
use Rattle.kernels.proofs.Groupings.{first_from}
use Rattle.kernels.proofs.PackedLists.{joined_ok, packs_again, bad_from}
use Rattle.kernels.proofs.ListSizes.{groups_hold}

ok_same : {T E : Type 0} (x y : T) → ◌≡◌ {A = Result T E} (Ok x) (Ok y) → x ≡ y
ok_same x y h = cc

-- ---- the groups from one on

module _ (unpacked : List ℕ → Option (List ℤ)) (m w count n : ℕ) (words : List ℕ) where
  abbrev pub group_at : (g : ℕ) → Option (List ℤ)
  group_at g = first_codes (n - g * m) (unpacked (take w (drop (g * w) words)))

  abbrev pub rest_from : (g : ℕ) → Result (List ℤ) ℕ
  rest_from g = unpacked_groups unpacked m w g (count - g) (n - g * m) (drop (g * w) words)

  pub rest_none : rest_from 0 ≡ unpacked_groups unpacked m w 0 count n words
  rest_none =
      let a : count - 0 ≡ count = omega arith in
      let b : n - 0 * m ≡ n = omega (arith, zero-mul m) in
      ap (λ i. unpacked_groups unpacked m w 0 i (n - 0 * m) (drop (0 * w) words)) a
      ∙ ap (λ i. unpacked_groups unpacked m w 0 count i (drop (0 * w) words)) b
      ∙ ap (λ i. unpacked_groups unpacked m w 0 count n (drop i words)) (zero-mul w)

  pub rest_more : (g : ℕ) → g < count → rest_from g ≡ joined g (group_at g) (rest_from (g + 1))
  rest_more g h =
      let left : count - g ≡ suc (count - (g + 1)) = omega arith in
      let fewer : (n - g * m) - m ≡ n - (g + 1) * m = omega (arith, add-mul g 1 m, one-mul m) in
      let on : g * w + w ≡ (g + 1) * w = omega (arith, add-mul g 1 w, one-mul w) in
      ap (λ i. unpacked_groups unpacked m w g i (n - g * m) (drop (g * w) words)) left
      ∙ ap (λ i. joined g (group_at g) (unpacked_groups unpacked m w (g + 1) (count - (g + 1)) i (drop w (drop (g * w) words)))) fewer
      ∙ ap (λ ws. joined g (group_at g) (unpacked_groups unpacked m w (g + 1) (count - (g + 1)) (n - (g + 1) * m) ws)) (drop-drop w (g * w) words ∙ ap (λ i. drop i words) on)

  pub rest_all : (g : ℕ) → count ≤ g → rest_from g ≡ Ok []
  rest_all g e = let z : count - g ≡ 0 = omega arith in ap (λ i. unpacked_groups unpacked m w g i (n - g * m) (drop (g * w) words)) z

  -- ---- looking for a bad group

  joined_good : (g : ℕ) (o : Option (List ℤ)) (r : Result (List ℤ) ℕ) → true ≡ is_some o → bad_group (joined g o r) ≡ bad_group r
  joined_good g None r h = absurd (true≢false h)
  joined_good g (Some codes) (Ok rest) h = refl
  joined_good g (Some codes) (Err bad) h = refl

  joined_bad : (g : ℕ) (o : Option (List ℤ)) (r : Result (List ℤ) ℕ) → false ≡ is_some o → bad_group (joined g o r) ≡ Err (BadGroup g)
  joined_bad g None r h = refl
  joined_bad g (Some codes) r h = absurd (false≢true h)

  pub good_more : (g : ℕ) (whole : Result (Unit {0}) UnpackRefusal) → g < count → true ≡ is_some (group_at g) → bad_group (rest_from g) ≡ whole → bad_group (rest_from (g + 1)) ≡ whole
  good_more g whole h some inv = sym (ap bad_group (rest_more g h) ∙ joined_good g (group_at g) (rest_from (g + 1)) some) ∙ inv

  pub bad_here : (g : ℕ) (whole : Result (Unit {0}) UnpackRefusal) → g < count → false ≡ is_some (group_at g) → bad_group (rest_from g) ≡ whole → Err (BadGroup g) ≡ whole
  bad_here g whole h none inv = sym (ap bad_group (rest_more g h) ∙ joined_bad g (group_at g) (rest_from (g + 1)) none) ∙ inv

  pub good_all : (g : ℕ) (whole : Result (Unit {0}) UnpackRefusal) → count ≤ g → bad_group (rest_from g) ≡ whole → Ok tt ≡ whole
  good_all g whole e inv = sym (ap bad_group (rest_all g e)) ∙ inv

  -- ---- reading the codes

  -- the codes read so far, and those of the groups that are left
  pub record ReadTo (g : ℕ) (codes all : List ℤ) : Type 0 where
    pub rest : List ℤ
    pub left : rest_from g ≡ Ok rest
    pub whole : take (min n (g * m)) codes ++ rest ≡ all

  pub read_none : (codes all : List ℤ) → unpacked_groups unpacked m w 0 count n words ≡ Ok all → ReadTo 0 codes all
  read_none codes all h =
      let z : min n (0 * m) ≡ 0 = omega (arith, zero-mul m) in
      record { rest = all; left = rest_none ∙ h; whole = ap (λ i. take i codes ++ all) z }

  -- a part of a group, as long as the codes that are left
  same_part : (g : ℕ) (group : List ℤ) → length group ≡ m → take (min n (g * m + m) - g * m) group ≡ take (n - g * m) group
  same_part g group full =
      elim (cases_lt n (g * m + m)) [
        | inl l ↦ let e : min n (g * m + m) - g * m ≡ n - g * m = omega arith in ap (λ i. take i group) e
        | inr l ↦ take_all (min n (g * m + m) - g * m) group (omega arith) ∙ sym (take_all (n - g * m) group (omega arith))
      ]

  pub read_more : (g k : ℕ) (codes ys all : List ℤ) → g < count → g * m < n → length codes ≡ n → length ys ≡ min n (g * m + m) - g * m
      → ((group : List ℤ) → unpacked (take w (drop (g * w) words)) ≡ Some group → length group ≡ m)
      → ((group : List ℤ) → unpacked (take w (drop (g * w) words)) ≡ Some group → ys ≡ take (min n (g * m + m) - g * m) group)
      → ReadTo g codes all → ReadTo (g + 1) (put_mid (g * m) k codes ys) all
  read_more g k codes ys all h starts long short full is r =
      let j = joined_ok g (group_at g) (rest_from (g + 1)) r.rest (sym (rest_more g h) ∙ r.left) in
      let f = first_from (n - g * m) (unpacked (take w (drop (g * w) words))) j.front j.first in
      let same : ys ≡ j.front = is f.group f.is ∙ same_part g f.group (full f.group f.is) ∙ sym f.front in
      let end : min n ((g + 1) * m) ≡ g * m + length ys = omega (arith, add-mul g 1 m, one-mul m) in
      let here : g * m ≡ min n (g * m) = omega arith in
      record {
        rest = j.rest;
        left = j.later;
        whole =
            ap (λ t. t ++ j.rest) (take-put_mid (g * m) k codes ys (min n ((g + 1) * m)) end (omega arith))
            ∙ append_assoc (take (g * m) codes) ys j.rest
            ∙ ap (λ y. take (g * m) codes ++ (y ++ j.rest)) same
            ∙ ap (λ y. take (g * m) codes ++ y) (sym j.is)
            ∙ ap (λ i. take i codes ++ r.rest) here
            ∙ r.whole;
      }

  -- the same at a turn of the loop, where its numbers are known by other names
  pub read_turn : (g before after size k : ℕ) (codes ys all : List ℤ) → size ≡ m → g ≡ before → after ≡ g + 1 → g < count → g * m < n → length codes ≡ n → length ys ≡ min n (g * size + size) - g * size
      → ((group : List ℤ) → unpacked (take w (drop (g * w) words)) ≡ Some group → length group ≡ m)
      → ((group : List ℤ) → unpacked (take w (drop (g * w) words)) ≡ Some group → ys ≡ take (min n (g * size + size) - g * size) group)
      → ReadTo before codes all → ReadTo after (put_mid (g * size) k codes ys) all
  read_turn g before after size k codes ys all same at next h starts long short full is r =
      let P : ℕ → Type 0 = λ x. length ys ≡ min n (g * x + x) - g * x in
      let Q : ℕ → Type 0 = λ x. (group : List ℤ) → unpacked (take w (drop (g * w) words)) ≡ Some group → ys ≡ take (min n (g * x + x) - g * x) group in
      let more : ReadTo (g + 1) (put_mid (g * m) k codes ys) all =
      read_more g k codes ys all h starts long (subst P same short) full (subst Q same is) (subst (λ (i : ℕ). ReadTo i codes all) (sym at) r) in
      subst (λ (i : ℕ). ReadTo i (put_mid (g * size) k codes ys) all) (sym next) (subst (λ (x : ℕ). ReadTo (g + 1) (put_mid (g * x) k codes ys) all) (sym same) more)

  pub read_all : (g : ℕ) (codes all : List ℤ) → count ≤ g → n ≤ count * m → length codes ≡ n → ReadTo g codes all → codes ≡ all
  read_all g codes all e enough long r =
      let none : r.rest ≡ [] = ok_same r.rest [] (sym r.left ∙ rest_all g e) in
      let t : take (min n (g * m)) codes ≡ codes = take_all (min n (g * m)) codes (omega (arith, mul-le count m g m e (omega arith))) in
      sym (ap (λ y. take (min n (g * m)) codes ++ y) none ∙ append-nil (take (min n (g * m)) codes) ∙ t) ∙ r.whole

-- a list by sizes that are those of another shape
pub list_at : (unpacked : List ℕ → Option (List ℤ)) (m w size width n : ℕ) (words : List ℕ) → m ≡ size → w ≡ width
    → unpacked_groups unpacked m w 0 (groups m n) n words ≡ unpacked_groups unpacked size width 0 (groups size n) n words
list_at unpacked m w size width n words e h =
    ap (λ x. unpacked_groups unpacked x w 0 (groups x n) n words) e ∙ ap (λ y. unpacked_groups unpacked size y 0 (groups size n) n words) h

-- all of its groups
pub start_at : (unpacked : List ℕ → Option (List ℤ)) (m w size width n : ℕ) (words : List ℕ) → m ≡ size → w ≡ width
    → bad_group (rest_from unpacked m w (groups m n) n words 0) ≡ bad_group (unpacked_groups unpacked size width 0 (groups size n) n words)
start_at unpacked m w size width n words e h = ap bad_group (rest_none unpacked m w (groups m n) n words ∙ list_at unpacked m w size width n words e h)

-- ---- what the answer says

err_not_ok : {T E : Type 0} (e : E) (x : T) → ◌≡◌ {A = Result T E} (Err e) (Ok x) → ⊥
err_not_ok e x h = let z : ◌≡◌ {A = ℕ} 0 1 = cc in omega arith

-- a question that is answered with no in either case
ask_refused : {T E : Type 0} (test : Bool) (e f : E) (next next' : Result T E) → (Err e ≡ next → Err e ≡ next') → Err e ≡ ask test f next → Err e ≡ ask test f next'
ask_refused true e f next next' on h = on h
ask_refused false e f next next' on h = h

-- a question that is answered with yes in either case
ask_passed : {T E : Type 0} (test : Bool) (f : E) (x : T) (r next next' : Result T E) → (Ok x ≡ next → r ≡ next') → Ok x ≡ ask test f next → r ≡ ask test f next'
ask_passed true f x r next next' on h = on h
ask_passed false f x r next next' on h = absurd (let z : ◌≡◌ {A = ℕ} 0 1 = cc in omega arith)

module _ (unpacked : Unpacking) (s : Shape) (side : Side) (n : ℕ) (words : List ℕ) where
  pub sizes_refuse : (e : UnpackRefusal) → Err e ≡ sizes_answer s side n words → Err e ≡ unpack_list_answer unpacked s side n words
  unfolding unpack_list_answer
  sizes_refuse e h =
      ask_refused (leb 1 n && leb n 65536) e Count _ _
      (ask_refused (eqb (length words) (words_for s side n)) e Words (Ok tt) _ (λ k. absurd (err_not_ok e tt k))) h

  pub sizes_pass : (r : Result (Unit {0}) UnpackRefusal) → Ok tt ≡ sizes_answer s side n words → r ≡ bad_group (unpacked_list unpacked s side n words) → r ≡ unpack_list_answer unpacked s side n words
  unfolding unpack_list_answer
  sizes_pass r h e =
      ask_passed (leb 1 n && leb n 65536) Count tt r _ _ (ask_passed (eqb (length words) (words_for s side n)) Words tt r (Ok tt) _ (λ k. e)) h

-- a list without a bad group has codes
pub record HasCodes (r : Result (List ℤ) ℕ) : Type 0 where
  pub codes : List ℤ
  pub is : r ≡ Ok codes

pub has_codes : (r : Result (List ℤ) ℕ) → Ok tt ≡ bad_group r → HasCodes r
has_codes (Ok codes) h = record { codes = codes; is = refl }
has_codes (Err bad) h = absurd (let z : ◌≡◌ {A = ℕ} 0 1 = cc in omega arith)

module _ (packed : Packing) (unpacked : Unpacking) (s : Shape) (side : Side) (packs : Packs packed unpacked s) (unpacks : Unpacks packed unpacked s) (zero_in : Within (ends_on s side) (pos 0)) (some : 1 ≤ s.group) where
  -- once the questions on the numbers are answered with yes
  pub listed : (n : ℕ) (words : List ℕ) (before : List ℤ) (r : Result (List ℤ) ℕ) → length words ≡ words_for s side n → unpacked_list unpacked s side n words ≡ r
      → Repacks packed s side n words (cond (is_ok (bad_group r)) (codes_after r before) before) (bad_group r)
  listed n words before (Ok codes) l h =
      let a = packs_again packed unpacked s side packs unpacks zero_in 0 (groups s.group n) n words codes (groups_hold s.group n some) l h in
      record { count = a.0; within = a.1; again = ap (λ i. packed_groups (packed side) s.group (groups s.group i) codes) a.0 ∙ a.2 }
  listed n words before (Err bad) l h =
      let b = bad_from packed unpacked s side packs unpacks zero_in 0 (groups s.group n) n words bad h in
      let e : b.place ≡ bad = omega (arith, b.is) in
      subst (FirstBad packed s side n words) e (record { there = b.there; bad = b.none; before = b.before })

  repacks : (n : ℕ) (words : List ℕ) (before codes : List ℤ) (r : Result (Unit {0}) UnpackRefusal) → r ≡ unpack_list_answer unpacked s side n words
      → codes ≡ cond (is_ok r) (codes_after (unpacked_list unpacked s side n words) before) before → Repacks packed s side n words codes r
  unfolding unpack_list_answer
  repacks n words before codes r e after =
      let all : Result (List ℤ) ℕ = unpacked_list unpacked s side n words in
      let P : Result (Unit {0}) UnpackRefusal → Type 0 = λ x. Repacks packed s side n words (cond (is_ok x) (codes_after all before) before) x in
      let known : P (unpack_list_answer unpacked s side n words) =
      elim (cases_Bool (leb 1 n && leb n 65536)) [
        | inr k ↦ subst P (sym (cond-false _ _ _ k)) tt
        | inl k ↦
            subst P (sym (cond-true _ _ _ k))
            (elim (cases_Bool (eqb (length words) (words_for s side n))) [
              | inr j ↦ subst P (sym (cond-false _ _ _ j)) tt
              | inl j ↦ subst P (sym (cond-true _ _ _ j)) (listed n words before all (eqb-true _ _ j) refl)
            ])
      ] in
      subst (λ (x : List ℤ). Repacks packed s side n words x r) (sym after) (subst P (sym e) known)

  -- all that an end of an unpacking has to tell
  pub record ListUnpacked (n : ℕ) (words : List ℕ) (before codes : List ℤ) (r : Result (Unit {0}) UnpackRefusal) : Type 0 where
    pub answer : r ≡ unpack_list_answer unpacked s side n words
    pub after : codes ≡ cond (is_ok r) (codes_after (unpacked_list unpacked s side n words) before) before
    pub again : Repacks packed s side n words codes r

  -- an end that refuses
  pub unpack_refused : (n : ℕ) (words : List ℕ) (before : List ℤ) (r : Result (Unit {0}) UnpackRefusal) (e : UnpackRefusal) → r ≡ Err e → Err e ≡ unpack_list_answer unpacked s side n words → ListUnpacked n words before before r
  unpack_refused n words before r e is h =
      let after : before ≡ cond (is_ok r) (codes_after (unpacked_list unpacked s side n words) before) before = sym (ap (λ x. cond (is_ok x) (codes_after (unpacked_list unpacked s side n words) before) before) is) in
      record { answer = is ∙ h; after = after; again = repacks n words before before r (is ∙ h) after }

  -- the end after all codes are read
  pub unpack_read : (n : ℕ) (words : List ℕ) (before codes : List ℤ) → Ok tt ≡ sizes_answer s side n words → Ok tt ≡ bad_group (unpacked_list unpacked s side n words)
      → ((all : List ℤ) → unpacked_list unpacked s side n words ≡ Ok all → codes ≡ all) → ListUnpacked n words before codes (Ok tt)
  unpack_read n words before codes sizes good read =
      let answer : Ok tt ≡ unpack_list_answer unpacked s side n words = sizes_pass unpacked s side n words (Ok tt) sizes good in
      let all = has_codes (unpacked_list unpacked s side n words) good in
      let after : codes ≡ codes_after (unpacked_list unpacked s side n words) before = read all.codes all.is ∙ sym (ap (λ r. codes_after r before) all.is) in
      record { answer = answer; after = after; again = repacks n words before codes (Ok tt) answer after }

-- what is known of a list that was lent is known of what it was lent from
pub as_lent : {K : Type 0} (P : K → Side → List ℕ → ℕ → Type 0) {k k' : K} {side side' : Side} {words words' : List ℕ} {n n' : ℕ}
    → k ≡ k' → side ≡ side' → words ≡ words' → n ≡ n' → P k side words n → P k' side' words' n'
as_lent {K} P {k} {k'} {side} {side'} {words} {words'} {n} {n'} a b c d h =
    subst (λ (x : K). P x side' words' n') a (subst (λ (x : Side). P k x words' n') b (subst (λ (x : List ℕ). P k side x n') c (subst (λ (x : ℕ). P k side words x) d h)))
