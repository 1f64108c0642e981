-- The pass over the rows of an accepted feed.
use Rattle.std.proofs.Common.{◌≡◌, ℕ, zero, suc, ◌+◌, ◌-◌, ◌*◌, ◌/◌, ◌%◌, ◌<◌, ◌≤◌, List, [], ◌∷◌, ◌++◌, map, length, get_or, take, drop, ℤ, pos, ◌+ℤ◌, ◌-ℤ◌, Ok, sym, refl, ap, ◌∙◌, subst, mod-lt, mod-eq_of_lt, suc-mul, mul-le-mul, suc-add, le-div_iff_mul-le, zero-add, zero-mul, mul-add, div-mul-le_self, arith, length-append, get_or-set_other, get_or-set_same, w64, below_more}
use lib.ListN.{length-map}
use Rattle.std.specs.List.{AllByRecursion}
use Rattle.std.specs.Int.{int_wrap}
use Rattle.std.proofs.ByRecursion.{All-append}
use Rattle.std.proofs.lemmas.List.{take-map, take_all}
use Rattle.std.proofs.lemmas.Int.{ints, int_wrap_fits, int_wrap-add_right}
use Rattle.codes.specs.declared.facts.Facts.{Facts}
use Rattle.codes.specs.declared.shape.Shape.{Shape}
use Rattle.codes.specs.declared.side.Side.TheVariants.{Activations}
use Rattle.codes.specs.Codes.{groups}
use Rattle.codes.specs.Sums.{Column, sum_of}
use Rattle.kernels.specs.Groups.{Packing, Unpacking, Packs, Unpacks}
use Rattle.kernels.specs.Lists.{unpacked_list}
use Rattle.kernels.specs.Meanings.{Meaning}
use Rattle.kernels.proofs.ListSizes.{groups_few, groups_hold}
use Rattle.runs.specs.declared.kept.Kept.{Kept}
use Rattle.runs.specs.declared.kept.RowRecord.{RowRecord}
use Rattle.runs.specs.declared.checked.Columns.{Columns}
use Rattle.runs.specs.Stories.{Story, fed, columns_of, steps_of, group_of, onto, open_groups, stretches, settled_drains, drains_of, since_drain}
use Rattle.runs.specs.Feeds.{row_words, row_codes, codes_of, columns_with, feed_columns, ColumnWithin}
use Rattle.runs.specs.Tells.{Tells, products, sum_of_weights, sum_of_activations, empty_record, record_at}
use Rattle.runs.specs.Passes.{RowAt, RowFed, Gains, Checked, Takes}
use Rattle.runs.proofs.Bounds.{drained_fits, weights_fit, activations_fit}
use Rattle.runs.proofs.Checking.{FeedFound, feed_found}
use Rattle.runs.proofs.Columns.{count_is, columns_fit, row_gains, weight_sums, activation_sums}
use Rattle.runs.proofs.Counts.{length_onto, steps_few}
use Rattle.runs.proofs.Starts.{take_nil}
use Rattle.runs.proofs.Settling.{with_row, drains_small, drains_counted}
use Rattle.runs.proofs.Totals.{sum_append, sum_map}

-- ---- groups put in front of others

map_onto : {X Y : Type 0} (h : X → Y) (g : ℕ → X) (count : ℕ) (before : List X) → map h (onto g count before) ≡ onto (λ j. h (g j)) count (map h before)
map_onto h g zero before = refl
map_onto h g (suc count) before = ap (λ l. h (g count) ∷ l) (map_onto h g count before)

take_plus : {X : Type 0} (a b : ℕ) (xs : List X) → take (a + b) xs ≡ take a xs ++ take b (drop a xs)
take_plus zero b xs = ap (λ n. take n xs) (zero-add b)
take_plus (suc a) b [] = take_nil (suc a + b) ∙ sym (take_nil b)
take_plus (suc a) b (x ∷ xs) = ap (λ n. take n (x ∷ xs)) (suc-add a b) ∙ ap (λ l. x ∷ l) (take_plus a b xs)

lin_group : (a b c : ℤ) → a +ℤ (b +ℤ c) ≡ (b +ℤ a) +ℤ c
lin_group a b c = omega (arith, ints)

none_plus : (a : ℤ) → a ≡ pos 0 +ℤ a
none_plus a = omega (arith, ints)

-- the groups of columns together are the columns
onto_products : (row size count : ℕ) (columns : List Column) (before : List (List Column))
    → sum_of (products row) (onto (group_of size columns) count before) ≡ products row (take (count * size) columns) +ℤ sum_of (products row) before
onto_products row size zero columns before = none_plus (sum_of (products row) before) ∙ ap (λ i. products row (take i columns) +ℤ sum_of (products row) before) (sym (zero-mul size))
onto_products row size (suc count) columns before =
    let front : List Column = take (count * size) columns in
    let group : List Column = group_of size columns count in
    ap (λ z. products row group +ℤ z) (onto_products row size count columns before)
    ∙ lin_group (products row group) (products row front) (sum_of (products row) before)
    ∙ ap (λ z. z +ℤ sum_of (products row) before) (sym (sum_append _ front group) ∙ ap (products row) (sym (take_plus (count * size) size columns) ∙ ap (λ i. take i columns) (sym (suc-mul count size))))

-- gains by facts and a count that are equal to those
pub gains_as : (unpacked : Shape → Unpacking) (x f : Facts) (count n : ℕ) (weights activations : List ℕ) (gain : ℕ → ℤ) → x ≡ f → count ≡ n
    → Gains (unpacked f.shape) f weights activations n gain → Gains (unpacked x.shape) x weights activations count gain
gains_as unpacked x f count n weights activations gain e h gains =
    subst (λ (y : Facts). Gains (unpacked y.shape) y weights activations count gain) (sym e) (subst (λ (i : ℕ). Gains (unpacked f.shape) f weights activations i gain) (sym h) gains)

-- ---- the first i rows have taken the columns in

pub record TakenTo (m : Meaning) (k : Kept) (s : Story) (columns : List Column) (i : ℕ) (n : Meaning) (c : Kept) : Type 0 where
  pub facts : n.facts ≡ m.facts
  pub done : (q : ℕ) → q < i
      → (n.steps q ≡ length (open_groups m.facts.shape.group (fed columns ∷ s)) % m.facts.interval)
      × (n.total q ≡ sum_of (products q) (since_drain m.facts.shape.group m.facts.interval (fed columns ∷ s)))
      × ((record_at c q).drained +ℤ n.total q ≡ products q (columns ++ columns_of s))
      × ((record_at c q).weight_sum ≡ sum_of_weights q (columns ++ columns_of s))
  pub rest : (q : ℕ) → i ≤ q → (n.total q ≡ m.total q) × (n.steps q ≡ m.steps q) × (record_at c q ≡ record_at k q)
  pub activation : c.activation_sum ≡ k.activation_sum
  pub accepted : c.accepted ≡ k.accepted
  pub steps : c.steps ≡ k.steps
  pub drains : c.drains ≡ k.drains + i * (length (open_groups m.facts.shape.group (fed columns ∷ s)) / m.facts.interval - length (open_groups m.facts.shape.group s) / m.facts.interval)

pub taken_as : (m : Meaning) (k : Kept) (s : Story) (columns : List Column) (i j : ℕ) (n : Meaning) (c : Kept) → i ≡ j → TakenTo m k s columns i n c → TakenTo m k s columns j n c
taken_as m k s columns i j n c e h = subst (λ (r : ℕ). TakenTo m k s columns r n c) e h

lin_base : (x p : ℤ) → (x -ℤ p) +ℤ p ≡ x
lin_base x p = omega (arith, ints)

lin_drained : (d t x : ℤ) → d +ℤ t ≡ x → d ≡ x -ℤ t
lin_drained d t x e = omega (arith, ints)

lin_back : (d t x : ℤ) → d ≡ x -ℤ t → d +ℤ t ≡ x
lin_back d t x e = omega (arith, ints)

lin_new : (x p c : ℤ) → (x -ℤ p) +ℤ (c +ℤ p) ≡ c +ℤ x
lin_new x p c = omega (arith, ints)

lin_plus : (a b : ℤ) → a +ℤ b ≡ b +ℤ a
lin_plus a b = omega (arith, ints)

div_more : (a b interval : ℕ) → 1 ≤ interval → a ≤ b → a / interval ≤ b / interval
div_more a b interval l k = (le-div_iff_mul-le {k = interval} {x = a / interval} {y = b} l).1 (omega (arith, div-mul-le_self a interval))

abbrev all : List ℤ → ℤ
all gains = sum_of (λ g. g) gains

module _ (m : Meaning) (k : Kept) (s : Story) (t : Tells m k s) (packed : Packing) (u : Unpacking) (packs : Packs packed u m.facts.shape) (unpacks : Unpacks packed u m.facts.shape)
    (n : ℕ) (weights activations : List ℕ) (sums : Columns) (C : Checked u m.facts k.accepted n weights activations (Ok sums)) where
  abbrev size : ℕ
  size = m.facts.shape.group

  abbrev H : ℕ
  H = m.facts.interval

  abbrev cs : List Column
  cs = columns_with m.facts.rows n (λ row. codes_of (row_codes u m.facts.shape n weights row)) (codes_of (unpacked_list u m.facts.shape Activations n activations))

  abbrev S : Story
  S = fed cs ∷ s

  abbrev gs : List (List Column)
  gs = open_groups m.facts.shape.group s

  abbrev gs' : List (List Column)
  gs' = open_groups m.facts.shape.group S

  found : FeedFound u m.facts k.accepted n weights activations
  found = feed_found u m.facts k.accepted n weights activations C.0

  long : length cs ≡ n
  long = count_is m.facts.rows n _ _

  within : AllByRecursion (ColumnWithin m.facts) (cs ++ columns_of s)
  within = All-append (ColumnWithin m.facts) cs (columns_of s) (columns_fit packed u m.facts packs unpacks k.accepted n weights activations found) t.within

  few : length (cs ++ columns_of s) ≤ m.facts.longest
  few = omega (arith, length-append cs (columns_of s), long, found.sizes.few, t.accepted)

  groups_small : groups m.facts.shape.group n ≤ 65536
  groups_small = omega (arith, groups_few m.facts.shape.group n m.facts.shape_rules.2.0, found.sizes.few, m.facts.longest_rule.1)

  -- what group j gains in a row
  abbrev gain : (row j : ℕ) → ℤ
  gain row j = products row (group_of m.facts.shape.group cs j)

  pub gains : (row : ℕ) (part : List ℕ) → row < m.facts.rows → part ≡ row_words m.facts.shape n weights row
      → Gains u m.facts part activations (groups m.facts.shape.group n) (λ j. products row (group_of m.facts.shape.group cs j))
  gains row part l e = row_gains packed u m.facts packs unpacks k.accepted n weights activations found row part l e

  -- ---- one row

  module _ (row : ℕ) (l : row < m.facts.rows) where
    abbrev ps : List ℤ
    ps = map (products row) gs

    abbrev ps' : List ℤ
    ps' = map (products row) gs'

    abbrev before : ℤ
    before = products row (columns_of s)

    abbrev base : ℤ
    base = before -ℤ all ps

    entry : (steps : ℕ) (total drained : ℤ) → total ≡ m.total row → steps ≡ m.steps row → drained ≡ (record_at k row).drained → RowAt H base (length gs / H) ps steps total drained 0
    entry steps total drained et es ed =
        let len : length ps ≡ length gs = length-map gs (products row) in
        let held : total ≡ sum_of (products row) (since_drain size H s) = et ∙ t.total row l in
        let now : drained ≡ before -ℤ total = lin_drained drained total before (ap (λ (y : ℤ). y +ℤ total) ed ∙ ap (λ (y : ℤ). (record_at k row).drained +ℤ y) et ∙ t.drained row l) in
        let fit = drained_fits m.facts row s l t.within t.few in
        record {
          steps_are = es ∙ t.steps row l ∙ ap (λ i. i % H) (sym len);
          total_is = held ∙ sym (ap all (take-map (products row) (length ps % H) gs) ∙ sum_map (λ p. p) (products row) (take (length ps % H) gs) ∙ ap (λ i. sum_of (products row) (take (i % H) gs)) len);
          drained_is = now ∙ ap (λ (y : ℤ). before -ℤ y) held ∙ sym (int_wrap_fits w64 _ fit) ∙ ap (λ (y : ℤ). int_wrap w64 (before -ℤ y)) (sym held) ∙ ap (λ (y : ℤ). int_wrap w64 (y -ℤ total)) (sym (lin_base before (all ps)));
          made_are = zero-add (length gs / H) ∙ ap (λ i. i / H) (sym len);
        }

    ps_more : ps' ≡ onto (gain row) (groups size n) ps
    ps_more = map_onto (products row) (group_of size cs) (groups size (length cs)) gs ∙ ap (λ i. onto (gain row) (groups size i) ps) long

    sum_new : base +ℤ all ps' ≡ products row (cs ++ columns_of s)
    sum_new =
        let count : ℕ = groups size (length cs) in
        let e₁ : sum_of (products row) gs' ≡ products row (take (count * size) cs) +ℤ sum_of (products row) gs = onto_products row size count cs gs in
        let e₂ : take (count * size) cs ≡ cs = take_all (count * size) cs (groups_hold size (length cs) m.facts.shape_rules.2.0) in
        let e₃ : all ps' ≡ products row cs +ℤ all ps =
        sum_map (λ p. p) (products row) gs' ∙ e₁ ∙ ap (λ (l : List Column). products row l +ℤ sum_of (products row) gs) e₂ ∙ ap (λ (z : ℤ). products row cs +ℤ z) (sym (sum_map (λ p. p) (products row) gs)) in
        ap (λ (z : ℤ). base +ℤ z) e₃ ∙ lin_new before (all ps) (products row cs) ∙ sym (sum_append _ cs (columns_of s))

    leave : (steps : ℕ) (total drained : ℤ) (made : ℕ) → RowAt H base (length gs / H) ps' steps total drained made
        → (steps ≡ length gs' % H) × (total ≡ sum_of (products row) (since_drain size H S)) × (drained +ℤ total ≡ products row (cs ++ columns_of s)) × (made + length gs / H ≡ length gs' / H)
    leave steps total drained made R =
        let len : length ps' ≡ length gs' = length-map gs' (products row) in
        let held : total ≡ sum_of (products row) (since_drain size H S) =
        R.total_is ∙ ap all (take-map (products row) (length ps' % H) gs') ∙ sum_map (λ p. p) (products row) (take (length ps' % H) gs') ∙ ap (λ i. sum_of (products row) (take (i % H) gs')) len in
        let fit = drained_fits m.facts row S l within few in
        let after : ℤ = products row (cs ++ columns_of s) in
        let now : drained ≡ after -ℤ total = R.drained_is ∙ ap (λ (y : ℤ). int_wrap w64 (y -ℤ total)) sum_new ∙ ap (λ (y : ℤ). int_wrap w64 (after -ℤ y)) held ∙ int_wrap_fits w64 _ fit ∙ ap (λ (y : ℤ). after -ℤ y) (sym held) in
        (R.steps_are ∙ ap (λ i. i % H) len, held, lin_back drained total after now, R.made_are ∙ ap (λ i. i / H) len)

  -- ---- row after row

  pub taken_none : TakenTo m k s cs 0 m k
  taken_none =
      record {
        facts = refl;
        done = λ q l. absurd (omega arith);
        rest = λ q l. (refl, refl, refl);
        activation = refl;
        accepted = refl;
        steps = refl;
        drains = omega (arith, zero-mul (length gs' / H - length gs / H));
      }

  pub has_room : (i : ℕ) (n' : Meaning) (c : Kept) → i < m.facts.rows → TakenTo m k s cs i n' c → n'.steps i < n'.facts.interval
  has_room i n' c l h = omega (arith, (h.rest i (omega arith)).1, t.steps i l, mod-lt (length gs) {m = m.facts.interval} m.facts.interval_rule.0, ap (λ (x : Facts). x.interval) h.facts)

  module _ (i : ℕ) (a : Meaning) (c : Kept) (b : Meaning) (new : RowRecord) (made drains : ℕ) (counted : drains ≡ (c.drains + made) % 18446744073709551616) (sum : ℤ) (count : ℕ) (l : i < m.facts.rows) (many : length c.rows ≡ 64) (sum_is_lem : sum ≡ get_or sums.weight_sums i (pos 0))
      (count_same : count ≡ groups m.facts.shape.group n) (fed-row : RowFed a i (record_at c i) sum (λ j. products i (group_of m.facts.shape.group cs j)) count made b new) (h : TakenTo m k s cs i a c) where
    R : RowFed a i (record_at c i) sum (gain i) (groups m.facts.shape.group n) made b new
    R = subst (λ (x : ℕ). RowFed a i (record_at c i) sum (gain i) x made b new) count_same fed-row

    here : i < length c.rows
    here = omega (arith, m.facts.rows_rule.1)

    same_record : record_at c i ≡ record_at k i
    same_record = (h.rest i (omega arith)).2

    same_H : a.facts.interval ≡ H
    same_H = ap (λ (x : Facts). x.interval) h.facts

    row_done : (b.steps i ≡ length gs' % H) × (b.total i ≡ sum_of (products i) (since_drain size H S)) × (new.drained +ℤ b.total i ≡ products i (cs ++ columns_of s)) × (made + length gs / H ≡ length gs' / H)
    row_done =
        let E = entry i l (a.steps i) (a.total i) (record_at c i).drained (h.rest i (omega arith)).0 (h.rest i (omega arith)).1 (ap (λ (x : RowRecord). x.drained) same_record) in
        let P : ℕ → Type 0 = λ x. RowAt x (base i l) (length gs / H) (ps i l) (a.steps i) (a.total i) (record_at c i).drained 0 in
        let Q : ℕ → Type 0 = λ x. RowAt x (base i l) (length gs / H) (onto (gain i) (groups size n) (ps i l)) (b.steps i) (b.total i) new.drained made in
        let V : List ℤ → Type 0 = λ x. RowAt H (base i l) (length gs / H) x (b.steps i) (b.total i) new.drained made in
        leave i l (b.steps i) (b.total i) new.drained made (subst V (sym (ps_more i l)) (subst Q same_H (R.row_at (base i l) (length gs / H) (ps i l) (subst P (sym same_H) E))))

    weight_done : new.weight_sum ≡ sum_of_weights i (cs ++ columns_of s)
    weight_done =
        let e₁ : (record_at c i).weight_sum ≡ sum_of_weights i (columns_of s) = ap (λ (x : RowRecord). x.weight_sum) same_record ∙ t.weights i l in
        let e₂ : sum ≡ int_wrap w64 (sum_of_weights i cs) = sum_is_lem ∙ C.2 i l ∙ ap (int_wrap w64) (weight_sums packed u m.facts packs unpacks k.accepted n weights activations found i l) in
        R.weight_sum ∙ ap (λ (y : ℤ). int_wrap w64 (y +ℤ sum)) e₁ ∙ ap (λ (y : ℤ). int_wrap w64 (sum_of_weights i (columns_of s) +ℤ y)) e₂ ∙ int_wrap-add_right w64 (sum_of_weights i (columns_of s)) (sum_of_weights i cs)
        ∙ ap (int_wrap w64) (lin_plus (sum_of_weights i (columns_of s)) (sum_of_weights i cs) ∙ sym (sum_append _ cs (columns_of s))) ∙ int_wrap_fits w64 _ (weights_fit m.facts i (cs ++ columns_of s) l within few)

    abbrev after : Kept
    after = with_row c i new drains

    pub taken_more : TakenTo m k s cs (i + 1) b (with_row c i new drains)
    taken_more =
        let at : record_at after i ≡ new = get_or-set_same c.rows i new empty_record here in
        let off : (q : ℕ) → (q ≡ i → ⊥) → record_at after q ≡ record_at c q = λ q ne. get_or-set_other c.rows i q new empty_record ne in
        record {
          facts = R.others.facts ∙ h.facts;
          done = below_more (λ q. (b.steps q ≡ length gs' % H) × (b.total q ≡ sum_of (products q) (since_drain size H S)) × ((record_at after q).drained +ℤ b.total q ≡ products q (cs ++ columns_of s)) × ((record_at after q).weight_sum ≡ sum_of_weights q (cs ++ columns_of s))) i
              (λ q j.
              let ne : q ≡ i → ⊥ = λ e. omega arith in (
                R.others.steps q ne ∙ (h.done q j).0,
                R.others.total q ne ∙ (h.done q j).1,
                ap (λ (x : RowRecord). x.drained +ℤ b.total q) (off q ne) ∙ ap (λ (y : ℤ). (record_at c q).drained +ℤ y) (R.others.total q ne) ∙ (h.done q j).2,
                ap (λ (x : RowRecord). x.weight_sum) (off q ne) ∙ (h.done q j).3,
              ))
              (row_done.0, row_done.1, ap (λ (x : RowRecord). x.drained +ℤ b.total i) at ∙ row_done.2, ap (λ (x : RowRecord). x.weight_sum) at ∙ weight_done);
          rest = λ q j.
              let ne : q ≡ i → ⊥ = λ e. omega arith in
              (R.others.total q ne ∙ (h.rest q (omega arith)).0, R.others.steps q ne ∙ (h.rest q (omega arith)).1, off q ne ∙ (h.rest q (omega arith)).2);
          activation = h.activation;
          accepted = h.accepted;
          steps = h.steps;
          drains = drains_counted c.drains k.drains i (length gs' / H - length gs / H) made drains (let e = row_done.3 in omega arith) (let e = row_done.3 in omega (arith, R.small, groups_small)) (omega (arith, m.facts.rows_rule.1)) (drains_small m k s t) h.drains counted;
        }

  -- ---- all rows, and then the sums and counts of the run

  module _ (a : Meaning) (c : Kept) (i : ℕ) (act : ℤ) (accepted steps : ℕ) (i-is : i ≡ m.facts.rows) (act-is : act ≡ int_wrap w64 (c.activation_sum +ℤ sums.activation_sum))
      (accepted-is : accepted ≡ (c.accepted + n) % 4294967296) (steps_are : steps ≡ (c.steps + m.facts.rows * groups m.facts.shape.group n) % 18446744073709551616) (h : TakenTo m k s cs i a c) where
    abbrev after_all : Kept
    after_all = record { rows = c.rows; activation_sum = act; accepted = accepted; steps = steps; drains = c.drains }

    few_old : m.facts.rows * steps_of size s ≤ 4194304
    few_old =
        let each : steps_of size s ≤ 65536 = omega (arith, steps_few size H m.facts.shape_rules.2.0 m.facts.interval_rule.0 s, t.few, m.facts.longest_rule.1) in
        let p : m.facts.rows * steps_of size s ≤ 64 * 65536 = mul-le-mul {n₂ = 64} {m₂ = 65536} m.facts.rows_rule.1 each in
        p

    few_new : m.facts.rows * groups size n ≤ 4194304
    few_new = let p : m.facts.rows * groups size n ≤ 64 * 65536 = mul-le-mul {n₂ = 64} {m₂ = 65536} m.facts.rows_rule.1 groups_small in p

    all_accepted : accepted ≡ length (cs ++ columns_of s)
    all_accepted = accepted-is ∙ mod-eq_of_lt (omega (arith, h.accepted, found.sizes.few, m.facts.longest_rule.1)) ∙ omega (arith, h.accepted, t.accepted, length-append cs (columns_of s), long)

    all_steps : steps ≡ m.facts.rows * steps_of size S
    all_steps =
        let old : c.steps ≡ m.facts.rows * steps_of size s = h.steps ∙ t.all_steps in
        let same : groups size (length cs) ≡ groups size n = ap (groups size) long in
        steps_are ∙ mod-eq_of_lt (omega (arith, old, few_old, few_new)) ∙ omega (arith, old, mul-add m.facts.rows (groups size (length cs)) (steps_of size s), ap (λ x. m.facts.rows * x) same)

    all_activations : act ≡ sum_of_activations (cs ++ columns_of s)
    all_activations =
        act-is ∙ ap (λ (y : ℤ). int_wrap w64 (y +ℤ sums.activation_sum)) (h.activation ∙ t.activation)
        ∙ ap (λ (y : ℤ). int_wrap w64 (sum_of_activations (columns_of s) +ℤ y)) (C.1 ∙ ap (int_wrap w64) (activation_sums packed u m.facts packs unpacks k.accepted n weights activations found))
        ∙ int_wrap-add_right w64 (sum_of_activations (columns_of s)) (sum_of_activations cs) ∙ ap (int_wrap w64) (lin_plus (sum_of_activations (columns_of s)) (sum_of_activations cs) ∙ sym (sum_append _ cs (columns_of s)))
        ∙ int_wrap_fits w64 _ (activations_fit m.facts (cs ++ columns_of s) within few)

    all_drains : c.drains ≡ m.facts.rows * drains_of size H S
    all_drains =
        let settled_before : ℕ = settled_drains H (stretches size s) in
        let old : ℕ = length gs / H in
        let new : ℕ = length gs' / H in
        let more : old ≤ new = div_more (length gs) (length gs') H m.facts.interval_rule.0 (let e = length_onto (group_of size cs) (groups size (length cs)) gs in omega arith) in
        let rows_are : i * (new - old) ≡ m.facts.rows * (new - old) = ap (λ y. y * (new - old)) i-is in
        h.drains ∙ omega (arith, t.all_drains, rows_are, mul-add m.facts.rows (old + settled_before) (new - old))
        ∙ ap (λ y. m.facts.rows * y) (let e : (old + settled_before) + (new - old) ≡ new + settled_before = omega arith in e)

    tells_fed : Tells a after_all (fed cs ∷ s)
    tells_fed =
        let same = h.facts in
        let rows_same : a.facts.rows ≡ m.facts.rows = ap (λ (x : Facts). x.rows) same in
        record {
          within = subst (λ (x : Facts). AllByRecursion (ColumnWithin x) (cs ++ columns_of s)) (sym same) within;
          few = omega (arith, few, ap (λ (x : Facts). x.longest) same);
          steps = λ r l. subst (λ (x : Facts). a.steps r ≡ length (open_groups x.shape.group S) % x.interval) (sym same) (h.done r (omega arith)).0;
          total = λ r l. subst (λ (x : Facts). a.total r ≡ sum_of (products r) (since_drain x.shape.group x.interval S)) (sym same) (h.done r (omega arith)).1;
          drained = λ r l. (h.done r (omega arith)).2;
          weights = λ r l. (h.done r (omega arith)).3;
          activation = all_activations;
          accepted = all_accepted;
          all_steps = subst (λ (x : Facts). steps ≡ x.rows * steps_of x.shape.group S) (sym same) all_steps;
          all_drains = subst (λ (x : Facts). c.drains ≡ x.rows * drains_of x.shape.group x.interval S) (sym same) all_drains;
          unused = λ r l j.
              let o = h.rest r (omega arith) in
              let v = t.unused r (omega arith) j in
              (o.1 ∙ v.0, o.0 ∙ v.1, o.2 ∙ v.2);
        }

    pub taken_all : Tells a (record { rows = c.rows; activation_sum = act; accepted = accepted; steps = steps; drains = c.drains }) (fed (feed_columns u m.facts n weights activations) ∷ s)
    unfolding feed_columns
    taken_all = tells_fed

-- a pass over columns that are those of a feed
pub takes_given : (u : Unpacking) (columns : Columns) (n : ℕ) (weights activations : List ℕ) (m : Meaning) (k : Kept) (m' : Meaning) (k' : Kept) → columns.count ≡ n → columns.weights.now ≡ weights → columns.activations.now ≡ activations
    → Takes u columns m k m' k' → Checked u m.facts k.accepted n weights activations (Ok columns) → (s : Story) → Tells m k s → Tells m' k' (fed (feed_columns u m.facts n weights activations) ∷ s)
takes_given u columns n weights activations m k m' k' en ew ea h =
    let P : ℕ → List ℕ → List ℕ → Type 0 = λ i ws as'. Checked u m.facts k.accepted i ws as' (Ok columns) → (s : Story) → Tells m k s → Tells m' k' (fed (feed_columns u m.facts i ws as') ∷ s) in
    subst (λ i. P i weights activations) en (subst (λ ws. P columns.count ws activations) ew (subst (λ as'. P columns.count columns.weights.now as') ea h))
