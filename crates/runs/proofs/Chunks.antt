-- Loops over the chunks of slices: which chunk comes, and how many there are.
use Rattle.std.proofs.Common.{◌≡◌, ℕ, suc, ◌+◌, ◌*◌, ◌<◌, ◌≤◌, ◌⊎◌, List, [], ◌∷◌, ◌++◌, map, length, take, drop, Some, None, Option, sym, refl, ap, ◌∙◌, subst, inl, inr, suc-mul, zero-mul, mul-le-mul_right, arith, length-append, length-drop, Bor}
use Rattle.std.proofs.lemmas.Bool.{cases_lt}
use lib.Seq.{take_at, drop_at, drop-drop}
use lib.ListN.{length-map}
use Rattle.codes.specs.declared.facts.Facts.{Facts}
use Rattle.codes.specs.declared.side.Side.{Side}
use Rattle.codes.specs.declared.side.Side.TheVariants.{Weights, Activations}
use Rattle.codes.specs.Shapes.{words_on}
use Rattle.std.specs.Iterator.{Yields}
use Rattle.std.specs.Iterator.Adapters.{zip_first, zip_second, enumerate_source, enumerate_count, enumerate_steps}
use Rattle.std.specs.Slice.Iter.{chunks_exact_rest, chunks_exact_size, chunks_exact_steps}
use Rattle.std.proofs.iter.Yields.{nat_range_steps}
use Rattle.std.proofs.lemmas.Iterator.{zips, YieldsList-from_range}
use Rattle.std.proofs.lemmas.Iterator.Consumers.{YieldsList-turn, YieldsList-end}
use Rattle.std.proofs.lemmas.List.FromFn.{length-range_with_len, get_or-range_with_len}
use Rattle.std.specs.declared.ops.Range.{Range}
use Rattle.std.specs.declared.iter.Zip.{Zip}
use Rattle.std.specs.declared.iter.Enumerate.{Enumerate}
use Rattle.std.specs.declared.slice.ChunksExact.{ChunksExact}
use Rattle.runs.specs.Passes.{group_words}

-- ---- the items of an iterator within another

module _ {S T A B : Type 0} (f : S → Option A → S → Type 0) (g : T → Option B → T → Type 0) where
  pub firsts : (xs : List (A × B)) (s t : Zip S T) → Yields (zips f g) s xs t → Yields f (zip_first s) (map (λ (p : A × B). p.0) xs) (zip_first t)
  firsts [] s t y = ap zip_first y
  firsts (x ∷ xs) s t y = (zip_first y.0, y.1.0, firsts xs y.0 t y.2)

  pub seconds : (xs : List (A × B)) (s t : Zip S T) → Yields (zips f g) s xs t → Yields g (zip_second s) (map (λ (p : A × B). p.1) xs) (zip_second t)
  seconds [] s t y = ap zip_second y
  seconds (x ∷ xs) s t y = (zip_second y.0, y.1.1, seconds xs y.0 t y.2)

module _ {S A : Type 0} (f : S → Option A → S → Type 0) where
  pub counted_items : (xs : List (ℕ × A)) (s t : Enumerate S) → Yields (enumerate_steps f) s xs t
      → Yields f (enumerate_source s) (map (λ (p : ℕ × A). p.1) xs) (enumerate_source t) × (enumerate_count t ≡ enumerate_count s + length xs)
  counted_items [] s t y = (ap enumerate_source y, ap enumerate_count (sym y) ∙ omega arith)
  counted_items (x ∷ xs) s t y = let k = counted_items xs y.0 t y.2 in ((enumerate_source y.0, y.1.0, k.0), omega (arith, k.1, y.1.2))

-- ---- the chunks of a slice

-- what is left when so many chunks came
pub record ChunksLeft (xs : List ℕ) (w k : ℕ) (t : ChunksExact ℕ) : Type 0 where
  pub rest : chunks_exact_rest t ≡ drop (k * w) xs
  pub size : chunks_exact_size t ≡ w
  pub fit : k * w ≤ length xs

pub chunks_left : (ys : List (Bor (List ℕ))) (s t : ChunksExact ℕ) → Yields (chunks_exact_steps {A = ℕ}) s ys t → ChunksLeft (chunks_exact_rest s) (chunks_exact_size s) (length ys) t
chunks_left [] s t y =
    record {
      rest = ap chunks_exact_rest (sym y) ∙ ap (λ n. drop n (chunks_exact_rest s)) (sym (zero-mul (chunks_exact_size s)));
      size = ap chunks_exact_size (sym y);
      fit = omega (arith, zero-mul (chunks_exact_size s));
    }
chunks_left (x ∷ ys) s t y =
    let w : ℕ = chunks_exact_size s in
    let k : ℕ = length ys in
    let j : ChunksExact ℕ = y.0 in
    let L = chunks_left ys y.0 t y.2 in
    let long : length (chunks_exact_rest s) ≡ length x.now + length (chunks_exact_rest j) = ap length y.1.1.0 ∙ length-append x.now (chunks_exact_rest j) in
    let next : drop w (chunks_exact_rest s) ≡ chunks_exact_rest j = ap (drop w) y.1.1.0 ∙ drop_at x.now (chunks_exact_rest j) w y.1.1.1 in
    let one : w + k * w ≡ suc k * w = omega (arith, suc-mul k w) in
    let kw : k * chunks_exact_size j ≡ k * w = ap (λ n. k * n) y.1.0 in
    record {
      rest = L.rest ∙ ap (λ n. drop n (chunks_exact_rest j)) kw ∙ ap (drop (k * w)) (sym next) ∙ drop-drop (k * w) w (chunks_exact_rest s) ∙ ap (λ n. drop n (chunks_exact_rest s)) one;
      size = L.size ∙ y.1.0;
      fit = omega (arith, L.fit, long, y.1.1.1, one, kw);
    }

pub chunks_as : (xs ys : List ℕ) (w v k j : ℕ) (t : ChunksExact ℕ) → ys ≡ xs → v ≡ w → j ≡ k → ChunksLeft ys v j t → ChunksLeft xs w k t
chunks_as xs ys w v k j t exs ew ek L =
    subst (λ (l : List ℕ). ChunksLeft l w k t) exs (subst (λ (n : ℕ). ChunksLeft ys n k t) ew (subst (λ (n : ℕ). ChunksLeft ys v n t) ek L))

module _ (xs : List ℕ) (w k : ℕ) (t u : ChunksExact ℕ) (L : ChunksLeft xs w k t) where
  -- the next chunk
  pub chunk_next : (x : Bor (List ℕ)) → chunks_exact_steps t (Some x) u → (x.now ≡ group_words w xs k) × (k * w + w ≤ length xs)
  chunk_next x h =
      let cut : chunks_exact_rest t ≡ x.now ++ chunks_exact_rest u = h.1.0 in
      let long : length x.now ≡ w = h.1.1 ∙ L.size in (
        sym (ap (take w) (sym L.rest ∙ cut) ∙ take_at x.now (chunks_exact_rest u) w long),
        omega (arith, L.fit, long, ap length cut ∙ length-append x.now (chunks_exact_rest u), ap length L.rest ∙ length-drop (k * w) xs),
      )

  -- no chunk is left
  pub chunk_none : chunks_exact_steps t None u → length xs < k * w + w
  chunk_none h = omega (arith, L.fit, L.size, h.1.0, ap length L.rest ∙ length-drop (k * w) xs)

-- the words of a group are some
pub words_some : (f : Facts) (side : Side) → 1 ≤ words_on f.shape side
words_some f Weights = f.shape_rules.3.0.0
words_some f Activations = f.shape_rules.4.0.0

-- of count chunks, those before this one are fewer
pub chunk_below : (k w count long : ℕ) → k * w + w ≤ long → long ≡ count * w → 1 ≤ w → k < count
chunk_below k w count long h e some = elim (below_or k count) [ inl l ↦ l | inr l ↦ let p : count * w ≤ k * w = mul-le-mul_right w l in absurd (omega arith) ]
  where
    below_or : (a b : ℕ) → (a < b) ⊎ (b ≤ a)
    below_or a b = cases_lt a b

pub chunk_no_more : (k w count long : ℕ) → k * w ≤ long → long ≡ count * w → 1 ≤ w → k ≤ count
chunk_no_more k w count long h e some =
    elim (cases_lt count k) [ inl l ↦ let p : suc count * w ≤ k * w = mul-le-mul_right w l in absurd (omega (arith, suc-mul count w)) | inr l ↦ l ]

-- and all came when none is left
pub chunk_all : (k w count long : ℕ) → long < k * w + w → long ≡ count * w → count ≤ k
chunk_all k w count long h e =
    elim (cases_lt k count) [ inl l ↦ let p : suc k * w ≤ count * w = mul-le-mul_right w l in absurd (omega (arith, suc-mul k w)) | inr l ↦ l ]

-- ---- one turn of a loop over the chunks of `count` groups with their numbers, and its end

pub record ChunkTurn (xs : List ℕ) (w count k at : ℕ) (part : List ℕ) : Type 0 where
  pub at_is : at ≡ k
  pub part_is : part ≡ group_words w xs k
  pub below : k < count
  pub long : length part ≡ w

module _ (xs : List ℕ) (w count : ℕ) (some : 1 ≤ w) (exact : length xs ≡ count * w) (items : List (ℕ × Bor (List ℕ))) (s t u : Enumerate (ChunksExact ℕ))
    (rest : chunks_exact_rest (enumerate_source s) ≡ xs) (size : chunks_exact_size (enumerate_source s) ≡ w) (start : enumerate_count s ≡ 0) (y : Yields (enumerate_steps (chunks_exact_steps {A = ℕ})) s items t) where
  left : ChunksLeft xs w (length items) (enumerate_source t)
  left =
      let items_are : length (map (λ (p : ℕ × Bor (List ℕ)). p.1) items) ≡ length items = length-map items (λ (p : ℕ × Bor (List ℕ)). p.1) in
      let L = chunks_left (map (λ (p : ℕ × Bor (List ℕ)). p.1) items) (enumerate_source s) (enumerate_source t) (counted_items (chunks_exact_steps {A = ℕ}) items s t y).0 in
      chunks_as xs (chunks_exact_rest (enumerate_source s)) w (chunks_exact_size (enumerate_source s)) (length items) _ (enumerate_source t) rest size items_are L

  pub chunk_turn : (at : ℕ) (part : Bor (List ℕ)) → enumerate_steps (chunks_exact_steps {A = ℕ}) t (Some (at, part)) u → ChunkTurn xs w count (length items) at part.now
  chunk_turn at part h =
      let n = chunk_next xs w (length items) (enumerate_source t) (enumerate_source u) left part h.0 in
      record { at_is = omega (arith, h.1, start, (counted_items (chunks_exact_steps {A = ℕ}) items s t y).1); part_is = n.0; below = chunk_below (length items) w count (length xs) n.1 exact some; long = h.0.1.1 ∙ left.size }

  pub chunk_end : enumerate_steps (chunks_exact_steps {A = ℕ}) t None u → count ≡ length items
  chunk_end h =
      let no_less = chunk_all (length items) w count (length xs) (chunk_none xs w (length items) (enumerate_source t) (enumerate_source u) left h.0) exact in
      let no_more = chunk_no_more (length items) w count (length xs) left.fit exact some in
      omega arith

-- ---- one turn of a loop over the chunks of `count` groups of two lists side by side, and its end

pub record PairTurn (xs ys : List ℕ) (w v count k : ℕ) (left right : List ℕ) : Type 0 where
  pub left_is : left ≡ group_words w xs k
  pub right_is : right ≡ group_words v ys k
  pub below : k < count

module _ (xs ys : List ℕ) (w v count : ℕ) (some : 1 ≤ w) (others : 1 ≤ v) (exact : length xs ≡ count * w) (same : length ys ≡ count * v) (items : List (Bor (List ℕ) × Bor (List ℕ)))
    (s t u : Zip (ChunksExact ℕ) (ChunksExact ℕ)) (rest : chunks_exact_rest (zip_first s) ≡ xs) (size : chunks_exact_size (zip_first s) ≡ w) (rests : chunks_exact_rest (zip_second s) ≡ ys)
    (sizes : chunks_exact_size (zip_second s) ≡ v) (y : Yields (zips (chunks_exact_steps {A = ℕ}) (chunks_exact_steps {A = ℕ})) s items t) where
  on_left : ChunksLeft xs w (length items) (zip_first t)
  on_left =
      chunks_as xs _ w _ (length items) _ (zip_first t) rest size (length-map items (λ (p : Bor (List ℕ) × Bor (List ℕ)). p.0))
      (chunks_left (map (λ (p : Bor (List ℕ) × Bor (List ℕ)). p.0) items) (zip_first s) (zip_first t) (firsts (chunks_exact_steps {A = ℕ}) (chunks_exact_steps {A = ℕ}) items s t y))

  on_right : ChunksLeft ys v (length items) (zip_second t)
  on_right =
      chunks_as ys _ v _ (length items) _ (zip_second t) rests sizes (length-map items (λ (p : Bor (List ℕ) × Bor (List ℕ)). p.1))
      (chunks_left (map (λ (p : Bor (List ℕ) × Bor (List ℕ)). p.1) items) (zip_second s) (zip_second t) (seconds (chunks_exact_steps {A = ℕ}) (chunks_exact_steps {A = ℕ}) items s t y))

  pub pair_turn : (p q : Bor (List ℕ)) → zips (chunks_exact_steps {A = ℕ}) (chunks_exact_steps {A = ℕ}) t (Some (p, q)) u → PairTurn xs ys w v count (length items) p.now q.now
  pair_turn p q h =
      let a = chunk_next xs w (length items) (zip_first t) (zip_first u) on_left p h.0 in
      let b = chunk_next ys v (length items) (zip_second t) (zip_second u) on_right q h.1 in
      record { left_is = a.0; right_is = b.0; below = chunk_below (length items) w count (length xs) a.1 exact some }

  all_came : ((a : ChunksExact ℕ) × chunks_exact_steps (zip_first t) None a) ⊎ ((b : ChunksExact ℕ) × chunks_exact_steps (zip_second t) None b) → count ≤ length items
  all_came (inl a) = chunk_all (length items) w count (length xs) (chunk_none xs w (length items) (zip_first t) a.0 on_left a.1) exact
  all_came (inr b) = chunk_all (length items) v count (length ys) (chunk_none ys v (length items) (zip_second t) b.0 on_right b.1) same

  pub pair_end : zips (chunks_exact_steps {A = ℕ}) (chunks_exact_steps {A = ℕ}) t None u → length items ≡ count
  pair_end h = let no_less = all_came h in let no_more = chunk_no_more (length items) w count (length xs) on_left.fit exact some in omega arith

-- ---- one turn of a loop over numbered chunks, as many as there are rows, and its end

pub record RowTurn (xs : List ℕ) (w rows k row : ℕ) (part : List ℕ) : Type 0 where
  pub row_is : row ≡ k
  pub below : k < rows
  pub part_is : part ≡ group_words w xs k
  pub long : length part ≡ w

module _ (xs : List ℕ) (w rows : ℕ) (items : List (ℕ × Bor (List ℕ))) (s t u : Zip (Range ℕ) (ChunksExact ℕ)) (range : zip_first s ≡ record { start = 0; end = rows }) (rest : chunks_exact_rest (zip_second s) ≡ xs)
    (size : chunks_exact_size (zip_second s) ≡ w) (y : Yields (zips nat_range_steps (chunks_exact_steps {A = ℕ})) s items t) where
  abbrev numbers : List ℕ
  numbers = map (λ (p : ℕ × Bor (List ℕ)). p.0) items

  parts_left : ChunksLeft xs w (length items) (zip_second t)
  parts_left =
      chunks_as xs _ w _ (length items) _ (zip_second t) rest size (length-map items (λ (p : ℕ × Bor (List ℕ)). p.1))
      (chunks_left (map (λ (p : ℕ × Bor (List ℕ)). p.1) items) (zip_second s) (zip_second t) (seconds nat_range_steps (chunks_exact_steps {A = ℕ}) items s t y))

  pub row_turn : (row : ℕ) (part : Bor (List ℕ)) → zips nat_range_steps (chunks_exact_steps {A = ℕ}) t (Some (row, part)) u → RowTurn xs w rows (length items) row part.now
  row_turn row part h =
      let numbers_are : length numbers ≡ length items = length-map items (λ (p : ℕ × Bor (List ℕ)). p.0) in
      let n = YieldsList-turn (YieldsList-from_range 0 rows rows range (omega arith)) numbers (zip_first t) (firsts nat_range_steps (chunks_exact_steps {A = ℕ}) items s t y) (Some row) (zip_first u) row refl h.0 in
      let below : length numbers < rows = omega (arith, n.0, length-range_with_len 0 rows) in
      let at = get_or-range_with_len 0 rows (length numbers) row below in
      let p = chunk_next xs w (length items) (zip_second t) (zip_second u) parts_left part h.1 in
      record { row_is = omega (arith, n.1, at, numbers_are); below = omega (arith, below, numbers_are); part_is = p.0; long = h.1.1.1 ∙ parts_left.size }

  rows_ended : length xs ≡ rows * w → 1 ≤ w → ((a : Range ℕ) × nat_range_steps (zip_first t) None a) ⊎ ((b : ChunksExact ℕ) × chunks_exact_steps (zip_second t) None b) → rows ≤ length items
  rows_ended exact some (inl a) =
      let numbers_are : length numbers ≡ length items = length-map items (λ (p : ℕ × Bor (List ℕ)). p.0) in
      let n = YieldsList-end (YieldsList-from_range 0 rows rows range (omega arith)) numbers (zip_first t) (firsts nat_range_steps (chunks_exact_steps {A = ℕ}) items s t y) None a.0 refl a.1 in
      omega (arith, n.1, length-range_with_len 0 rows, numbers_are)
  rows_ended exact some (inr b) = chunk_all (length items) w rows (length xs) (chunk_none xs w (length items) (zip_second t) b.0 parts_left b.1) exact

  pub row_end : length xs ≡ rows * w → 1 ≤ w → zips nat_range_steps (chunks_exact_steps {A = ℕ}) t None u → length items ≡ rows
  row_end exact some h = let no_less = rows_ended exact some h in let no_more = chunk_no_more (length items) w rows (length xs) parts_left.fit exact some in omega arith
