-- Lists of groups: unpacking returns what was packed, packing returns what was unpacked, and the first group that packs no codes.
use Rattle.std.proofs.Common.{◌≡◌, ℕ, zero, suc, ◌+◌, ◌-◌, ◌*◌, ◌<◌, ◌≤◌, min, ◌⊎◌, List, [], ◌++◌, length, take, drop, ℤ, pos, Some, None, Ok, Err, Option, Result, sym, refl, ap, ◌∙◌, subst, inl, inr, ⊎_elim, suc-mul, zero-mul, arith}
use Rattle.std.specs.List.{AllByRecursion}
use Rattle.std.proofs.lemmas.List.{length-append, length-drop, length-take, take_at, drop_at, drop-drop, take-append-drop, nil_from_length}
use Rattle.std.proofs.ByRecursion.{All-append, All-take, All-drop}
use Rattle.codes.specs.declared.shape.Shape.{Shape}
use Rattle.codes.specs.declared.side.Side.{Side}
use Rattle.codes.specs.Codes.{Within}
use Rattle.codes.specs.Shapes.{ends_on, words_on}
use Rattle.kernels.specs.Groups.{Packing, Unpacking, Packs, Unpacks, filled}
use Rattle.kernels.specs.Lists.{packed_groups, first_codes, joined, unpacked_groups, GroupPacks}
use Rattle.kernels.proofs.Chunking.{front_parts}
use Rattle.kernels.proofs.Groupings.{filled_group, filled_first, first_from, group_first, group_packs}

-- ---- what joined groups come from

pub record JoinedOk (o : Option (List ℤ)) (r : Result (List ℤ) ℕ) (codes : List ℤ) : Type 0 where
  pub front : List ℤ
  pub rest : List ℤ
  pub first : o ≡ Some front
  pub later : r ≡ Ok rest
  pub is : codes ≡ front ++ rest

pub joined_ok : (at : ℕ) (o : Option (List ℤ)) (r : Result (List ℤ) ℕ) (codes : List ℤ) → joined at o r ≡ Ok codes → JoinedOk o r codes
joined_ok at None r codes h = absurd (let z : ◌≡◌ {A = ℕ} 0 1 = cc in omega arith)
joined_ok at (Some front) (Ok rest) codes h = record { front = front; rest = rest; first = refl; later = refl; is = cc }
joined_ok at (Some front) (Err bad) codes h = absurd (let z : ◌≡◌ {A = ℕ} 0 1 = cc in omega arith)

pub record LaterBad (o : Option (List ℤ)) (r : Result (List ℤ) ℕ) (bad : ℕ) : Type 0 where
  pub front : List ℤ
  pub first : o ≡ Some front
  pub later : r ≡ Err bad

pub joined_err : (at : ℕ) (o : Option (List ℤ)) (r : Result (List ℤ) ℕ) (bad : ℕ) → joined at o r ≡ Err bad → ((o ≡ None) × (bad ≡ at)) ⊎ LaterBad o r bad
joined_err at None r bad h = inl (refl, cc)
joined_err at (Some front) (Ok rest) bad h = absurd (let z : ◌≡◌ {A = ℕ} 0 1 = cc in omega arith)
joined_err at (Some front) (Err b) bad h = inr (record { front = front; first = refl; later = h })

no_codes : (o : Option (List ℤ)) (codes : List ℤ) → o ≡ None → o ≡ Some codes → ⊥
no_codes o codes e f = let z : ◌≡◌ {A = ℕ} 0 1 = cc in omega arith

-- ---- the laws

module _ (packed : Packing) (unpacked : Unpacking) (s : Shape) (side : Side) (packs : Packs packed unpacked s) (unpacks : Unpacks packed unpacked s) (zero_in : Within (ends_on s side) (pos 0)) where
  -- unpacking what was packed
  pub unpacks_back : (at count : ℕ) (codes : List ℤ) → length codes ≤ count * s.group → AllByRecursion (Within (ends_on s side)) codes
      → unpacked_groups (unpacked side) s.group (words_on s side) at count (length codes) (packed_groups (packed side) s.group count codes) ≡ Ok codes
  unpacks_back at zero codes l w =
      let none : codes ≡ [] = nil_from_length codes (omega (arith, zero-mul s.group)) in
      ap Ok (sym none)
  unpacks_back at (suc count) codes l w =
      let m : ℕ = s.group in
      let front : List ℤ = take m codes in
      let rest : List ℤ = drop m codes in
      let within : AllByRecursion (Within (ends_on s side)) front = All-take (Within (ends_on s side)) m codes w in
      let short : length front ≡ min m (length codes) = length-take m codes in
      let part : List ℕ = packed side (filled m front) in
      let more : List ℕ = packed_groups (packed side) m count rest in
      let long : length part ≡ words_on s side = (packs side (filled m front) (filled_group packed unpacked s side packs unpacks front zero_in (omega arith) within)).0 in
      let here : first_codes (length codes) (unpacked side (take (words_on s side) (part ++ more))) ≡ Some front =
      group_first packed unpacked s side packs unpacks (length codes) _ front zero_in short within (take_at part more (words_on s side) long) in
      let later : unpacked_groups (unpacked side) m (words_on s side) (at + 1) count (length codes - m) (drop (words_on s side) (part ++ more)) ≡ Ok rest =
      ap (λ ws. unpacked_groups (unpacked side) m (words_on s side) (at + 1) count (length codes - m) ws) (drop_at part more (words_on s side) long)
      ∙ ap (λ k. unpacked_groups (unpacked side) m (words_on s side) (at + 1) count k more) (sym (length-drop m codes))
      ∙ unpacks_back (at + 1) count rest (omega (arith, length-drop m codes, suc-mul count m)) (All-drop (Within (ends_on s side)) m codes w) in
      ap (λ o. joined at o (unpacked_groups (unpacked side) m (words_on s side) (at + 1) count (length codes - m) (drop (words_on s side) (part ++ more)))) here
      ∙ ap (joined at (Some front)) later
      ∙ ap Ok (take-append-drop m codes)

  -- packing what was unpacked
  pub packs_again : (at count n : ℕ) (words : List ℕ) (codes : List ℤ) → n ≤ count * s.group → length words ≡ count * words_on s side
      → unpacked_groups (unpacked side) s.group (words_on s side) at count n words ≡ Ok codes
      → (length codes ≡ n) × AllByRecursion (Within (ends_on s side)) codes × (packed_groups (packed side) s.group count codes ≡ words)
  packs_again at zero n words codes l k h =
      let none : codes ≡ [] = cc in
      (ap length none ∙ omega (arith, zero-mul s.group), subst (AllByRecursion (Within (ends_on s side))) (sym none) tt, sym (nil_from_length words (omega (arith, zero-mul (words_on s side)))))
  packs_again at (suc count) n words codes l k h =
      let m : ℕ = s.group in
      let w : ℕ = words_on s side in
      let j = joined_ok at _ _ codes h in
      let g = group_packs packed unpacked s side packs unpacks n (take w words) j.front j.first in
      let r = packs_again (at + 1) count (n - m) (drop w words) j.rest (omega (arith, suc-mul count m)) (length-drop w words ∙ omega (arith, suc-mul count w)) j.later in
      let long : length codes ≡ n = ap length j.is ∙ length-append j.front j.rest ∙ omega (arith, g.0, r.0) in
      let first : take m codes ≡ j.front = ap (take m) j.is ∙ (front_parts m n j.front j.rest g.0 r.0).0 in
      let later : drop m codes ≡ j.rest = ap (drop m) j.is ∙ (front_parts m n j.front j.rest g.0 r.0).1 in (
        long,
        subst (AllByRecursion (Within (ends_on s side))) (sym j.is) (All-append (Within (ends_on s side)) j.front j.rest g.1 r.1),
        ap (λ xs. packed side (filled m xs) ++ packed_groups (packed side) m count (drop m codes)) first
            ∙ ap (λ xs. packed side (filled m j.front) ++ packed_groups (packed side) m count xs) later
            ∙ ap (λ ws. ws ++ packed_groups (packed side) m count j.rest) (sym g.2)
            ∙ ap (λ ws. take w words ++ ws) r.2
            ∙ take-append-drop w words,
      )

  -- group j of words that pack codes packs its part of them, filled up
  pub group_unpacks : (at count n : ℕ) (words : List ℕ) (codes : List ℤ) → n ≤ count * s.group → length words ≡ count * words_on s side
      → unpacked_groups (unpacked side) s.group (words_on s side) at count n words ≡ Ok codes → (j : ℕ) → j < count
      → unpacked side (take (words_on s side) (drop (j * words_on s side) words)) ≡ Some (filled s.group (take s.group (drop (j * s.group) codes)))
  group_unpacks at zero n words codes l k h j u = absurd (omega arith)
  group_unpacks at (suc count) n words codes l k h zero u =
      let m : ℕ = s.group in
      let w : ℕ = words_on s side in
      let p = joined_ok at _ _ codes h in
      let g = group_packs packed unpacked s side packs unpacks n (take w words) p.front p.first in
      let r = packs_again (at + 1) count (n - m) (drop w words) p.rest (omega (arith, suc-mul count m)) (length-drop w words ∙ omega (arith, suc-mul count w)) p.later in
      let f = first_from n (unpacked side (take w words)) p.front p.first in
      let first : take m codes ≡ p.front = ap (take m) p.is ∙ (front_parts m n p.front p.rest g.0 r.0).0 in
      let group : f.group ≡ filled m (take m codes) =
      sym (filled_first m n f.group (unpacks side (take w words) f.group f.is).0.full f.rest) ∙ ap (filled m) (sym f.front ∙ sym first) in
      ap (λ i. unpacked side (take w (drop i words))) (zero-mul w) ∙ f.is ∙ ap Some group ∙ ap (λ i. Some (filled m (take m (drop i codes)))) (sym (zero-mul m))
  group_unpacks at (suc count) n words codes l k h (suc j) u =
      let m : ℕ = s.group in
      let w : ℕ = words_on s side in
      let p = joined_ok at _ _ codes h in
      let g = group_packs packed unpacked s side packs unpacks n (take w words) p.front p.first in
      let long : length (drop w words) ≡ count * w = length-drop w words ∙ omega (arith, suc-mul count w) in
      let r = packs_again (at + 1) count (n - m) (drop w words) p.rest (omega (arith, suc-mul count m)) long p.later in
      let later : p.rest ≡ drop m codes = sym (ap (drop m) p.is ∙ (front_parts m n p.front p.rest g.0 r.0).1) in
      let on : (i : ℕ) → i + j * i ≡ suc j * i = λ i. omega (arith, suc-mul j i) in
      ap (λ i. unpacked side (take w (drop i words))) (sym (on w)) ∙ ap (λ ws. unpacked side (take w ws)) (sym (drop-drop (j * w) w words))
      ∙ group_unpacks (at + 1) count (n - m) (drop w words) p.rest (omega (arith, suc-mul count m)) long p.later j (omega arith)
      ∙ ap (λ cs. Some (filled m (take m (drop (j * m) cs)))) later
      ∙ ap (λ cs. Some (filled m (take m cs))) (drop-drop (j * m) m codes)
      ∙ ap (λ i. Some (filled m (take m (drop i codes)))) (on m)

  -- ---- the first bad group

  group_of : (n : ℕ) (words : List ℕ) (j : ℕ) (codes : List ℤ) → first_codes (n - j * s.group) (unpacked side (take (words_on s side) (drop (j * words_on s side) words))) ≡ Some codes
      → GroupPacks packed s side n words j
  group_of n words j codes h =
      let g = group_packs packed unpacked s side packs unpacks _ _ codes h in
      record { codes = codes; count = g.0; within = g.1; packs = g.2 }

  -- group j of the rest is group j + 1 of the whole
  count_later : (m n j : ℕ) → (n - m) - j * m ≡ n - suc j * m
  count_later m n j = omega (arith, suc-mul j m)

  words_later : (w j : ℕ) (words : List ℕ) → drop (j * w) (drop w words) ≡ drop (suc j * w) words
  words_later w j words = let e : w + j * w ≡ suc j * w = omega (arith, suc-mul j w) in drop-drop (j * w) w words ∙ ap (λ k. drop k words) e

  up_one : (n : ℕ) (words : List ℕ) (j : ℕ) → GroupPacks packed s side (n - s.group) (drop (words_on s side) words) j → GroupPacks packed s side n words (suc j)
  up_one n words j g =
      record {
        codes = g.codes;
        count = g.count ∙ ap (min s.group) (count_later s.group n j);
        within = g.within;
        packs = ap (take (words_on s side)) (sym (words_later (words_on s side) j words)) ∙ g.packs;
      }

  down_one : (n : ℕ) (words : List ℕ) (j : ℕ) → GroupPacks packed s side n words (suc j) → GroupPacks packed s side (n - s.group) (drop (words_on s side) words) j
  down_one n words j g =
      record {
        codes = g.codes;
        count = g.count ∙ ap (min s.group) (sym (count_later s.group n j));
        within = g.within;
        packs = ap (take (words_on s side)) (words_later (words_on s side) j words) ∙ g.packs;
      }

  at_start : (n : ℕ) (words : List ℕ) → first_codes (n - 0 * s.group) (unpacked side (take (words_on s side) (drop (0 * words_on s side) words))) ≡ first_codes n (unpacked side (take (words_on s side) words))
  at_start n words =
      let z : n - 0 * s.group ≡ n = omega (arith, zero-mul s.group) in
      ap (λ k. first_codes k (unpacked side (take (words_on s side) (drop (0 * words_on s side) words)))) z
      ∙ ap (λ k. first_codes n (unpacked side (take (words_on s side) (drop k words)))) (zero-mul (words_on s side))

  -- the groups before the first bad one
  before_more : (n : ℕ) (words : List ℕ) (front : List ℤ) (j : ℕ) → first_codes n (unpacked side (take (words_on s side) words)) ≡ Some front
      → ((i : ℕ) → i < j → GroupPacks packed s side (n - s.group) (drop (words_on s side) words) i) → (i : ℕ) → i < suc j → GroupPacks packed s side n words i
  before_more n words front j h b zero l = group_of n words 0 front (at_start n words ∙ h)
  before_more n words front j h b (suc i) l = up_one n words i (b i (omega arith))

  pub record BadFrom (at count n : ℕ) (words : List ℕ) (bad : ℕ) : Type 0 where
    pub place : ℕ
    pub is : bad ≡ at + place
    pub there : place < count
    pub none : GroupPacks packed s side n words place → ⊥
    pub before : (i : ℕ) → i < place → GroupPacks packed s side n words i

  pub bad_from : (at count n : ℕ) (words : List ℕ) (bad : ℕ) → unpacked_groups (unpacked side) s.group (words_on s side) at count n words ≡ Err bad → BadFrom at count n words bad
  bad_from at zero n words bad h = absurd (let z : ◌≡◌ {A = ℕ} 0 1 = cc in omega arith)
  bad_from at (suc count) n words bad h =
      ⊎_elim
      (λ (e : (first_codes n (unpacked side (take (words_on s side) words)) ≡ None) × (bad ≡ at)).
      record {
        place = 0;
        is = omega (arith, e.1);
        there = omega arith;
        none = λ g. no_codes _ g.codes e.0 (sym (at_start n words) ∙ group_first packed unpacked s side packs unpacks _ _ g.codes zero_in g.count g.within g.packs);
        before = λ i l. absurd (omega arith);
      })
      (λ (e : LaterBad (first_codes n (unpacked side (take (words_on s side) words))) (unpacked_groups (unpacked side) s.group (words_on s side) (at + 1) count (n - s.group) (drop (words_on s side) words)) bad).
      (let b = bad_from (at + 1) count (n - s.group) (drop (words_on s side) words) bad e.later in
      record {
        place = suc b.place;
        is = omega (arith, b.is);
        there = omega (arith, b.there);
        none = λ g. b.none (down_one n words b.place g);
        before = before_more n words e.front b.place e.first b.before;
      }))
      (joined_err at _ _ bad h)
