-- The columns of an accepted feed: what its words pack, and what each group of them gains.
use Rattle.std.proofs.Common.{◌≡◌, ℕ, zero, suc, ◌-◌, ◌*◌, ◌<◌, ◌≤◌, List, [], ◌∷◌, ◌++◌, map, length, get_or, take, drop, replicate, ℤ, pos, ◌+ℤ◌, ◌*ℤ◌, Some, None, Ok, Err, Option, Result, sym, refl, ap, ◌∙◌, subst, inl, inr, zero-add, arith}
use Rattle.std.specs.List.{range_with_len, AllByRecursion}
use Rattle.std.proofs.lemmas.List.FromFn.{length-map-range_with_len, get_or-map-range_with_len}
use Rattle.std.proofs.ByRecursion.{All-get_or, All-from_get_or}
use Rattle.std.proofs.lemmas.List.{ext_get_or, get_or-map, length-map, length-take, length-drop, take-map, drop-map}
use Rattle.std.proofs.lemmas.Bool.{cases_lt}
use Rattle.codes.specs.declared.facts.Facts.{Facts}
use Rattle.codes.specs.declared.side.Side.{Side}
use Rattle.codes.specs.declared.side.Side.TheVariants.{Weights, Activations}
use Rattle.codes.specs.Codes.{Within, groups}
use Rattle.codes.specs.Shapes.{words_on}
use Rattle.codes.specs.Sums.{Column, sum_of}
use Rattle.kernels.specs.Groups.{Packing, Unpacking, Packs, Unpacks, filled, dot}
use Rattle.kernels.specs.Answers.{both_dot}
use Rattle.kernels.specs.Lists.{words_for, packed_list, unpacked_list, PacksAgain, FirstBad}
use Rattle.kernels.proofs.ListSizes.{groups_hold, zero_within}
use Rattle.kernels.proofs.PackedLists.{group_unpacks}
use Rattle.kernels.proofs.UnpackedLists.{listed}
use Rattle.runs.specs.declared.refusal.FeedRefusal.{FeedRefusal}
use Rattle.runs.specs.declared.refusal.FeedRefusal.TheVariants.{NoColumns, TooMany, WeightLength, ActivationLength, Weights as BadWeights, Activations as BadActivations}
use Rattle.runs.specs.Stories.{group_of}
use Rattle.runs.specs.Feeds.{row_words, row_codes, or_else, bad_in, first_bad_row, codes_of, column_at, columns_with, feed_columns, weight_at, feed_answer, ColumnWithin, PacksColumns, RowPacks, FeedPacks}
use Rattle.runs.specs.Tells.{products, sum_of_weights, sum_of_activations}
use Rattle.runs.specs.Passes.{group_words, Gains}
use Rattle.runs.proofs.Checking.{FeedFound, feed_found, refused_at, refused_in}
use Rattle.runs.proofs.Rows.{row_ends, first_bad}
use Rattle.runs.proofs.Totals.{sum_map}

-- ---- rows without a bad group have codes

either_none : {X : Type 0} (a b : Option X) → or_else a b ≡ None → (a ≡ None) × (b ≡ None)
either_none None b h = (refl, h)
either_none (Some x) b h = absurd (let z : ◌≡◌ {A = ℕ} 0 1 = cc in omega arith)

none_bad_in : (row : ℕ) (r : Result (List ℤ) ℕ) → bad_in row r ≡ None → r ≡ Ok (codes_of r)
none_bad_in row (Ok codes) h = refl
none_bad_in row (Err group) h = absurd (let z : ◌≡◌ {A = ℕ} 0 1 = cc in omega arith)

pub rows_good : (codes : ℕ → Result (List ℤ) ℕ) (rows : ℕ) → first_bad_row codes rows ≡ None → (row : ℕ) → row < rows → codes row ≡ Ok (codes_of (codes row))
rows_good codes zero h row l = absurd (omega arith)
rows_good codes (suc rows) h row l =
    let e = either_none (first_bad_row codes rows) (bad_in rows (codes rows)) h in
    elim (cases_lt row rows) [
      | inl k ↦ rows_good codes rows e.0 row k
      | inr k ↦ let same : row ≡ rows = omega arith in subst (λ (i : ℕ). codes i ≡ Ok (codes_of (codes i))) (sym same) (none_bad_in rows (codes rows) e.1)
    ]

-- ---- columns with given codes

module _ (rows n : ℕ) (W : ℕ → List ℤ) (A : List ℤ) where
  abbrev C : List Column
  C = columns_with rows n W A

  no_column : Column
  no_column = record { weights = []; activation = pos 0 }

  pub count_is : length (columns_with rows n W A) ≡ n
  count_is = length-map-range_with_len (column_at rows W A) 0 n

  column_is : (i : ℕ) → i < n → get_or (columns_with rows n W A) i no_column ≡ column_at rows W A i
  column_is i l = get_or-map-range_with_len (column_at rows W A) 0 n i i no_column l (zero-add i)

  -- the weights of a row
  pub weights_are : (row : ℕ) → row < rows → length (W row) ≡ n → map (weight_at row) (columns_with rows n W A) ≡ W row
  weights_are row l long =
      ext_get_or (pos 0) (map (weight_at row) (columns_with rows n W A)) (W row) (length-map (columns_with rows n W A) (weight_at row) ∙ count_is ∙ sym long)
      (λ i h.
      let k : i < n = omega (arith, h, length-map (columns_with rows n W A) (weight_at row), count_is) in
      get_or-map (weight_at row) (columns_with rows n W A) i no_column (pos 0) (omega (arith, k, count_is))
      ∙ ap (weight_at row) (column_is i k)
      ∙ get_or-map-range_with_len (λ r. get_or (W r) i (pos 0)) 0 rows row row (pos 0) l (zero-add row))

  pub activations_are : length A ≡ n → map (λ c. c.activation) (columns_with rows n W A) ≡ A
  activations_are long =
      ext_get_or (pos 0) (map (λ c. c.activation) (columns_with rows n W A)) A (length-map (columns_with rows n W A) (λ c. c.activation) ∙ count_is ∙ sym long)
      (λ i h.
      let k : i < n = omega (arith, h, length-map (columns_with rows n W A) (λ c. c.activation), count_is) in
      get_or-map (λ c. c.activation) (columns_with rows n W A) i no_column (pos 0) (omega (arith, k, count_is)) ∙ ap (λ (c : Column). c.activation) (column_is i k))

  pub columns_within : (f : Facts) → f.rows ≡ rows → ((row : ℕ) → row < rows → (length (W row) ≡ n) × AllByRecursion (Within f.shape.weight_ends) (W row)) → (length A ≡ n) × AllByRecursion (Within f.shape.activation_ends) A
      → AllByRecursion (ColumnWithin f) (columns_with rows n W A)
  columns_within f e w a =
      All-from_get_or (ColumnWithin f) (columns_with rows n W A) no_column
      (λ i h.
      let k : i < n = omega (arith, h, count_is) in
      subst (ColumnWithin f) (sym (column_is i k)) (record {
        rows = length-map-range_with_len (λ r. get_or (W r) i (pos 0)) 0 rows ∙ sym e;
        weights = All-from_get_or (Within f.shape.weight_ends) (map (λ r. get_or (W r) i (pos 0)) (range_with_len 0 rows)) (pos 0)
            (λ r j.
            let l : r < rows = omega (arith, j, length-map-range_with_len (λ r. get_or (W r) i (pos 0)) 0 rows) in
            subst (Within f.shape.weight_ends) (sym (get_or-map-range_with_len (λ r. get_or (W r) i (pos 0)) 0 rows r r (pos 0) l (zero-add r)))
            (All-get_or (Within f.shape.weight_ends) (W r) i (pos 0) (omega (arith, k, (w r l).0)) (w r l).1));
        activation = All-get_or (Within f.shape.activation_ends) A i (pos 0) (omega (arith, k, a.0)) a.1;
      }))

-- ---- the products of a group

-- code 0 beside code 0 adds nothing
fill_dot : (j : ℕ) → dot (replicate j (pos 0)) (replicate j (pos 0)) ≡ pos 0
fill_dot zero = refl
fill_dot (suc j) = ap (λ z. (pos 0 *ℤ pos 0) +ℤ z) (fill_dot j)

dot_append : (j : ℕ) (xs ys : List ℤ) → length xs ≡ length ys → dot (xs ++ replicate j (pos 0)) (ys ++ replicate j (pos 0)) ≡ dot xs ys
dot_append j [] [] e = fill_dot j
dot_append j [] (y ∷ ys) e = absurd (let h : 0 ≡ suc (length ys) = e in omega arith)
dot_append j (x ∷ xs) [] e = absurd (let h : suc (length xs) ≡ 0 = e in omega arith)
dot_append j (x ∷ xs) (y ∷ ys) e = ap (λ z. (x *ℤ y) +ℤ z) (dot_append j xs ys (let h : suc (length xs) ≡ suc (length ys) = e in omega arith))

filled_dot : (size : ℕ) (xs ys : List ℤ) → length xs ≡ length ys → dot (filled size xs) (filled size ys) ≡ dot xs ys
filled_dot size xs ys e = ap (λ k. dot (xs ++ replicate (size - length xs) (pos 0)) (ys ++ replicate (size - k) (pos 0))) (sym e) ∙ dot_append (size - length xs) xs ys e

columns_dot : (row : ℕ) (columns : List Column) → dot (map (weight_at row) columns) (map (λ c. c.activation) columns) ≡ products row columns
columns_dot row [] = refl
columns_dot row (c ∷ cs) = ap (λ z. (weight_at row c *ℤ c.activation) +ℤ z) (columns_dot row cs)

part_map : {X Y : Type 0} (f : X → Y) (size at : ℕ) (xs : List X) → take size (drop at (map f xs)) ≡ map f (take size (drop at xs))
part_map f size at xs = ap (take size) (drop-map f at xs) ∙ take-map f size (drop at xs)

-- the products of group j of columns, from the codes of a row and the activations
pub group_products : (size row j : ℕ) (columns : List Column) (ws as' : List ℤ) → map (weight_at row) columns ≡ ws → map (λ c. c.activation) columns ≡ as'
    → dot (filled size (take size (drop (j * size) ws))) (filled size (take size (drop (j * size) as'))) ≡ products row (group_of size columns j)
group_products size row j columns ws as' ew ea =
    let group : List Column = group_of size columns j in
    let w : take size (drop (j * size) ws) ≡ map (weight_at row) group = ap (λ xs. take size (drop (j * size) xs)) (sym ew) ∙ part_map (weight_at row) size (j * size) columns in
    let a : take size (drop (j * size) as') ≡ map (λ c. c.activation) group = ap (λ xs. take size (drop (j * size) xs)) (sym ea) ∙ part_map (λ c. c.activation) size (j * size) columns in
    ap (λ xs. dot (filled size xs) (filled size (take size (drop (j * size) as')))) w
    ∙ ap (λ xs. dot (filled size (map (weight_at row) group)) (filled size xs)) a
    ∙ filled_dot size (map (weight_at row) group) (map (λ c. c.activation) group) (length-map group (weight_at row) ∙ sym (length-map group (λ c. c.activation)))
    ∙ columns_dot row group

-- ---- an accepted feed

module _ (packed : Packing) (u : Unpacking) (f : Facts) (packs : Packs packed u f.shape) (unpacks : Unpacks packed u f.shape) where
  -- a list that unpacks is the packing of its codes
  pub list_packs : (side : Side) (n : ℕ) (words : List ℕ) (codes : List ℤ) → length words ≡ words_for f.shape side n → unpacked_list u f.shape side n words ≡ Ok codes → PacksAgain packed f.shape side n words codes
  list_packs side n words codes l h = listed packed u f.shape side packs unpacks (zero_within f.shape side f.shape_rules) f.shape_rules.2.0 n words codes (Ok codes) l h

  list_groups : (side : Side) (n : ℕ) (words : List ℕ) (codes : List ℤ) → length words ≡ words_for f.shape side n → unpacked_list u f.shape side n words ≡ Ok codes → (j : ℕ) → j < groups f.shape.group n
      → u side (group_words (words_on f.shape side) words j) ≡ Some (filled f.shape.group (take f.shape.group (drop (j * f.shape.group) codes)))
  list_groups side n words codes l h j k =
      group_unpacks packed u f.shape side packs unpacks (zero_within f.shape side f.shape_rules) 0 (groups f.shape.group n) n words codes (groups_hold f.shape.group n f.shape_rules.2.0) l h j k

  module _ (accepted n : ℕ) (weights activations : List ℕ) (found : FeedFound u f accepted n weights activations) where
    abbrev W : ℕ → List ℤ
    W row = codes_of (row_codes u f.shape n weights row)

    abbrev A : List ℤ
    A = codes_of (unpacked_list u f.shape Activations n activations)

    abbrev columns : List Column
    columns = columns_with f.rows n (λ row. codes_of (row_codes u f.shape n weights row)) (codes_of (unpacked_list u f.shape Activations n activations))

    row_length : (row : ℕ) → row < f.rows → length (row_words f.shape n weights row) ≡ words_for f.shape Weights n
    row_length row l =
        let size : ℕ = words_for f.shape Weights n in
        length-take size (drop (row * size) weights) ∙ omega (arith, length-drop (row * words_for f.shape Weights n) weights, found.sizes.weight_words, row_ends row f.rows (words_for f.shape Weights n) l)

    row_codes_ok : (row : ℕ) → row < f.rows → unpacked_list u f.shape Weights n (row_words f.shape n weights row) ≡ Ok (codes_of (row_codes u f.shape n weights row))
    row_codes_ok row l = rows_good (row_codes u f.shape n weights) f.rows found.no_row row l

    pub row_packs : (row : ℕ) → row < f.rows → PacksAgain packed f.shape Weights n (row_words f.shape n weights row) (codes_of (row_codes u f.shape n weights row))
    row_packs row l = list_packs Weights n (row_words f.shape n weights row) (W row) (row_length row l) (row_codes_ok row l)

    activations_pack : PacksAgain packed f.shape Activations n activations (codes_of (unpacked_list u f.shape Activations n activations))
    activations_pack = list_packs Activations n activations A found.sizes.activation_words found.codes_are

    row_weights : (row : ℕ) → row < f.rows → map (weight_at row) columns ≡ W row
    row_weights row l = weights_are f.rows n W A row l (row_packs row l).count

    all_activations : map (λ c. c.activation) columns ≡ A
    all_activations = activations_are f.rows n W A activations_pack.count

    pub columns_fit : AllByRecursion (ColumnWithin f) columns
    columns_fit = columns_within f.rows n W A f refl (λ row l. ((row_packs row l).count, (row_packs row l).within)) (activations_pack.count, activations_pack.within)

    -- the words of the feed are the packing of its columns
    pub packs_columns : PacksColumns packed f n weights activations columns
    packs_columns =
        record {
          count = count_is f.rows n W A;
          within = columns_fit;
          weight_words = λ row l. ap (packed_list packed f.shape Weights) (row_weights row l) ∙ (row_packs row l).again;
          activation_words = ap (packed_list packed f.shape Activations) all_activations ∙ activations_pack.again;
        }

    -- each group of a row gains the products of its columns
    pub row_gains : (row : ℕ) (part : List ℕ) → row < f.rows → part ≡ row_words f.shape n weights row
        → Gains u f part activations (groups f.shape.group n) (λ j. products row (group_of f.shape.group columns j))
    row_gains row part l e j k =
        let m : ℕ = f.shape.group in
        ap (λ ws. both_dot (u Weights (group_words f.shape.weight_words ws j)) (u Activations (group_words f.shape.activation_words activations j))) e
        ∙ ap (λ o. both_dot o (u Activations (group_words f.shape.activation_words activations j))) (list_groups Weights n (row_words f.shape n weights row) (W row) (row_length row l) (row_codes_ok row l) j k)
        ∙ ap (both_dot (Some (filled m (take m (drop (j * m) (W row)))))) (list_groups Activations n activations A found.sizes.activation_words found.codes_are j k)
        ∙ ap Some (group_products m row j columns (W row) A (row_weights row l) all_activations)

    -- the sums of the codes are those over the columns
    pub weight_sums : (row : ℕ) → row < f.rows → sum_of (λ x. x) (codes_of (row_codes u f.shape n weights row)) ≡ sum_of_weights row columns
    weight_sums row l = ap (sum_of (λ x. x)) (sym (row_weights row l)) ∙ sum_map (λ x. x) (weight_at row) columns

    pub activation_sums : sum_of (λ x. x) (codes_of (unpacked_list u f.shape Activations n activations)) ≡ sum_of_activations columns
    activation_sums = ap (sum_of (λ x. x)) (sym all_activations) ∙ sum_map (λ x. x) (λ c. c.activation) columns

  -- ---- what the answer of a feed says of its words

  module _ (accepted n : ℕ) (weights activations : List ℕ) where
    pub feed_packs : feed_answer u f accepted n weights activations ≡ Ok tt → PacksColumns packed f n weights activations (feed_columns u f n weights activations)
    unfolding feed_columns
    feed_packs h = packs_columns accepted n weights activations (feed_found u f accepted n weights activations h)

    -- the rows before a bad one pack codes
    rows_pack : (rows : ℕ) → length weights ≡ f.rows * words_for f.shape Weights n → rows ≤ f.rows → first_bad_row (row_codes u f.shape n weights) rows ≡ None
        → (row : ℕ) → row < rows → RowPacks packed f.shape n weights row
    rows_pack rows exact few none row l =
        let k : row < f.rows = omega arith in
        let size : ℕ = words_for f.shape Weights n in
        let long : length (row_words f.shape n weights row) ≡ words_for f.shape Weights n =
        length-take size (drop (row * size) weights) ∙ omega (arith, length-drop (row * words_for f.shape Weights n) weights, exact, row_ends row f.rows (words_for f.shape Weights n) k) in
        (codes_of (row_codes u f.shape n weights row), list_packs Weights n (row_words f.shape n weights row) _ long (rows_good (row_codes u f.shape n weights) rows none row l))

    list_bad : (side : Side) (words : List ℕ) (group : ℕ) → length words ≡ words_for f.shape side n → unpacked_list u f.shape side n words ≡ Err group → FirstBad packed f.shape side n words group
    list_bad side words group l h = listed packed u f.shape side packs unpacks (zero_within f.shape side f.shape_rules) f.shape_rules.2.0 n words [] (Err group) l h

    pub feed_refused : (e : FeedRefusal) → feed_answer u f accepted n weights activations ≡ Err e → FeedPacks packed f n weights activations (feed_columns u f n weights activations) (Err e)
    feed_refused NoColumns h = tt
    feed_refused TooMany h = tt
    feed_refused WeightLength h = tt
    feed_refused ActivationLength h = tt
    feed_refused (BadWeights row group) h =
        let b = refused_at u f accepted n weights activations row group h in
        let bad = first_bad (row_codes u f.shape n weights) f.rows row group b.first in
        let size : ℕ = words_for f.shape Weights n in
        let long : length (row_words f.shape n weights row) ≡ words_for f.shape Weights n =
        length-take size (drop (row * size) weights) ∙ omega (arith, length-drop (row * words_for f.shape Weights n) weights, b.sizes.weight_words, row_ends row f.rows (words_for f.shape Weights n) bad.there) in
        (bad.there, list_bad Weights (row_words f.shape n weights row) group long bad.bad, rows_pack row b.sizes.weight_words (omega (arith, bad.there)) bad.before)
    feed_refused (BadActivations group) h =
        let b = refused_in u f accepted n weights activations group h in
        (rows_pack f.rows b.sizes.weight_words (omega arith) b.no_row, list_bad Activations activations group b.sizes.activation_words b.bad)
