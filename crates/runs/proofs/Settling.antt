-- Settling row after row.
use Rattle.std.proofs.Common.{◌≡◌, ℕ, ◌+◌, ◌*◌, ◌/◌, ◌%◌, ◌<◌, ◌≤◌, min, List, ◌∷◌, length, take, set, ℤ, pos, ◌+ℤ◌, sym, refl, ap, ◌∙◌, subst, inl, inr, mod-eq_of_lt, add-mul, mul-le-mul, one-mul, zero-mul, mul-add, arith, get_or-set_other, get_or-set_same, w64, below_more}
use native.Mathlib.Nat.{zero-mod, zero-div}
use Rattle.std.specs.List.{AllByRecursion}
use Rattle.std.specs.Int.{int_wrap}
use Rattle.std.proofs.lemmas.Int.{ints, int_wrap_fits}
use Rattle.std.proofs.lemmas.Bool.{cases_eq, cases_lt}
use Rattle.codes.specs.declared.facts.Facts.{Facts}
use Rattle.codes.specs.Codes.{groups}
use Rattle.codes.specs.Sums.{sum_of}
use Rattle.kernels.specs.Meanings.{Meaning}
use Rattle.kernels.proofs.ListSizes.{groups_are}
use Rattle.runs.specs.declared.kept.Kept.{Kept}
use Rattle.runs.specs.declared.kept.RowRecord.{RowRecord}
use Rattle.runs.specs.Stories.{Story, settled, columns_of, steps_of, open_groups, stretches, settled_drains, drains_of}
use Rattle.runs.specs.Feeds.{ColumnWithin}
use Rattle.runs.specs.Tells.{Tells, TellsSettled, products, empty_record, record_at}
use Rattle.runs.specs.Passes.{DrainedInto}
use Rattle.runs.proofs.Bounds.{products_fit}
use Rattle.runs.proofs.Counts.{drains_few}
use Rattle.runs.proofs.Starts.{none_left}

-- ---- what is kept when the record of a row is written and its drains are counted

abbrev pub with_rows : Kept → List RowRecord → (drains : ℕ) → Kept
with_rows k rows drains = record { rows = rows; activation_sum = k.activation_sum; accepted = k.accepted; steps = k.steps; drains = drains }

abbrev pub with_row : Kept → (row : ℕ) → RowRecord → (drains : ℕ) → Kept
with_row k row new drains = with_rows k (set k.rows row new) drains

-- a run that tells a story has made few drains
pub drains_small : (m : Meaning) (k : Kept) (s : Story) → Tells m k s → k.drains ≤ 4194304
drains_small m k s t =
    let f : Facts = m.facts in
    let each : drains_of f.shape.group f.interval s ≤ 65536 = omega (arith, drains_few f.shape.group f.interval f.shape_rules.2.0 f.interval_rule.0 s, t.few, f.longest_rule.1) in
    let all : f.rows * drains_of f.shape.group f.interval s ≤ 64 * 65536 = mul-le-mul {n₂ = 64} {m₂ = 65536} f.rows_rule.1 each in
    let few : f.rows * drains_of f.shape.group f.interval s ≤ 4194304 = all in
    omega (arith, t.all_drains)

one_at_most : (n : ℕ) → min 1 n ≤ 1
one_at_most n = omega arith

-- one row more has made its drains
pub drains_counted : (now before row each made after : ℕ) → made ≡ each → each ≤ 65536 → row ≤ 64 → before ≤ 4194304 → now ≡ before + row * each → after ≡ (now + made) % 18446744073709551616
    → after ≡ before + (row + 1) * each
drains_counted now before row each made after e l k h is counted =
    let p : row * each ≤ 64 * 65536 = mul-le-mul {n₂ = 64} {m₂ = 65536} k l in
    let q : row * each ≤ 4194304 = p in
    let small : now + made < 18446744073709551616 = omega arith in
    counted ∙ mod-eq_of_lt small ∙ omega (arith, add-mul row 1 each, one-mul each)

-- ---- the first i rows are settled

pub record SettledTo (m : Meaning) (k : Kept) (s : Story) (i : ℕ) (n : Meaning) (c : Kept) : Type 0 where
  pub facts : n.facts ≡ m.facts
  pub done : (q : ℕ) → q < i → (n.total q ≡ pos 0) × (n.steps q ≡ 0) × ((record_at c q).drained ≡ products q (columns_of s)) × ((record_at c q).weight_sum ≡ (record_at k q).weight_sum)
  pub rest : (q : ℕ) → i ≤ q → (n.total q ≡ m.total q) × (n.steps q ≡ m.steps q) × (record_at c q ≡ record_at k q)
  pub activation : c.activation_sum ≡ k.activation_sum
  pub accepted : c.accepted ≡ k.accepted
  pub steps : c.steps ≡ k.steps
  pub drains : c.drains ≡ k.drains + i * min 1 (length (open_groups m.facts.shape.group s) % m.facts.interval)

module _ (m : Meaning) (k : Kept) (s : Story) (t : Tells m k s) where
  abbrev size : ℕ
  size = m.facts.shape.group

  abbrev interval : ℕ
  interval = m.facts.interval

  -- the steps of each row since its last drain
  abbrev left : ℕ
  left = length (open_groups m.facts.shape.group s) % m.facts.interval

  pub settled_none : SettledTo m k s 0 m k
  settled_none =
      record {
        facts = refl;
        done = λ q l. absurd (omega arith);
        rest = λ q l. (refl, refl, refl);
        activation = refl;
        accepted = refl;
        steps = refl;
        drains = omega (arith, zero-mul (min 1 (length (open_groups m.facts.shape.group s) % m.facts.interval)));
      }

  module _ (i : ℕ) (n : Meaning) (c : Kept) (n' : Meaning) (new : RowRecord) (made drains : ℕ) (counted : drains ≡ (c.drains + made) % 18446744073709551616)
      (l : i < m.facts.rows) (long : length c.rows ≡ 64) (D : DrainedInto n i (record_at c i) made n' new) (h : SettledTo m k s i n c) where
    low : i < 64
    low = omega (arith, m.facts.rows_rule.1)

    here : i < length c.rows
    here = omega (arith, low)

    steps_here : n.steps i ≡ left
    steps_here = (h.rest i (omega arith)).1 ∙ t.steps i l

    same_record : record_at c i ≡ record_at k i
    same_record = (h.rest i (omega arith)).2

    abbrev Done : Type 0
    Done = (n'.total i ≡ pos 0) × (n'.steps i ≡ 0) × (new.drained ≡ products i (columns_of s)) × (made ≡ min 1 left)

    row_idle : left ≡ 0 → Done
    row_idle z =
        let d = D.idle low (steps_here ∙ z) in
        let total : n.total i ≡ pos 0 = (h.rest i (omega arith)).0 ∙ t.total i l ∙ ap (λ j. sum_of (products i) (take j (open_groups m.facts.shape.group s))) z in
        let all : (record_at k i).drained ≡ products i (columns_of s) = omega (arith, ints, t.drained i l, (h.rest i (omega arith)).0, total) in
        (d.0 ∙ total, d.1, d.2 ∙ ap (λ (x : RowRecord). x.drained) same_record ∙ all, d.3 ∙ omega arith)

    row_busy : 0 < left → Done
    row_busy z =
        let d = D.busy low (omega (arith, steps_here)) in
        let sum : (record_at c i).drained +ℤ n.total i ≡ products i (columns_of s) =
        ap (λ (x : RowRecord). x.drained +ℤ n.total i) same_record ∙ ap (λ (y : ℤ). (record_at k i).drained +ℤ y) (h.rest i (omega arith)).0 ∙ t.drained i l in
        (d.0, d.1, d.2 ∙ ap (λ (y : ℤ). int_wrap w64 y) sum ∙ int_wrap_fits w64 (products i (columns_of s)) (products_fit m.facts i (columns_of s) l t.within t.few), d.3 ∙ omega arith)

    row_done : Done
    row_done = elim (cases_lt 0 left) [ inl z ↦ row_busy z | inr z ↦ row_idle (omega arith) ]

    abbrev after : Kept
    after = with_row c i new drains

    one_more : SettledTo m k s (i + 1) n' after
    one_more =
        let at : record_at after i ≡ new = get_or-set_same c.rows i new empty_record here in
        let off : (q : ℕ) → (q ≡ i → ⊥) → record_at after q ≡ record_at c q = λ q ne. get_or-set_other c.rows i q new empty_record ne in
        record {
          facts = D.others.facts ∙ h.facts;
          done = below_more (λ q. (n'.total q ≡ pos 0) × (n'.steps q ≡ 0) × ((record_at after q).drained ≡ products q (columns_of s)) × ((record_at after q).weight_sum ≡ (record_at k q).weight_sum)) i
              (λ q j.
              let ne : q ≡ i → ⊥ = λ e. omega arith in (
                D.others.total q ne ∙ (h.done q j).0,
                D.others.steps q ne ∙ (h.done q j).1,
                ap (λ (x : RowRecord). x.drained) (off q ne) ∙ (h.done q j).2,
                ap (λ (x : RowRecord). x.weight_sum) (off q ne) ∙ (h.done q j).3,
              )) (
                row_done.0,
                row_done.1,
                ap (λ (x : RowRecord). x.drained) at ∙ row_done.2,
                ap (λ (x : RowRecord). x.weight_sum) at ∙ D.weight_sum ∙ ap (λ (x : RowRecord). x.weight_sum) same_record,
              );
          rest = λ q j.
              let ne : q ≡ i → ⊥ = λ e. omega arith in
              (D.others.total q ne ∙ (h.rest q (omega arith)).0, D.others.steps q ne ∙ (h.rest q (omega arith)).1, off q ne ∙ (h.rest q (omega arith)).2);
          activation = h.activation;
          accepted = h.accepted;
          steps = h.steps;
          drains = drains_counted c.drains k.drains i (min 1 left) made drains row_done.3 (omega arith) (omega (arith, low)) (drains_small m k s t) h.drains counted;
        }

  -- a row that the run does not use has no steps
  module _ (i : ℕ) (n : Meaning) (c : Kept) (n' : Meaning) (new : RowRecord) (made drains : ℕ) (counted : drains ≡ (c.drains + made) % 18446744073709551616)
      (u : m.facts.rows ≤ i) (low : i < 64) (long : length c.rows ≡ 64) (D : DrainedInto n i (record_at c i) made n' new) (h : SettledTo m k s m.facts.rows n c) where
    idle : (n'.total i ≡ n.total i) × (n'.steps i ≡ 0) × (new.drained ≡ (record_at c i).drained) × (made ≡ 0)
    idle = D.idle low ((h.rest i u).1 ∙ (t.unused i u low).0)

    same : (a b : RowRecord) → a.drained ≡ b.drained → a.weight_sum ≡ b.weight_sum → a ≡ b
    same a b d w = ap (λ (x : ℤ). record { drained = x; weight_sum = a.weight_sum }) d ∙ ap (λ (x : ℤ). record { drained = b.drained; weight_sum = x }) w

    abbrev after_idle : Kept
    after_idle = with_row c i new drains

    kept_row : (q : ℕ) → record_at after_idle q ≡ record_at c q
    kept_row q =
        elim (cases_eq q i) [
          | inl e ↦ subst (λ (j : ℕ). record_at after_idle j ≡ record_at c j) (sym e) (get_or-set_same c.rows i new empty_record (omega (arith, low, long)) ∙ same new (record_at c i) idle.2 D.weight_sum)
          | inr ne ↦ get_or-set_other c.rows i q new empty_record ne
        ]

    total_same : (q : ℕ) → n'.total q ≡ n.total q
    total_same q = elim (cases_eq q i) [ inl e ↦ subst (λ (j : ℕ). n'.total j ≡ n.total j) (sym e) idle.0 | inr ne ↦ D.others.total q ne ]

    steps_same : (q : ℕ) → n'.steps q ≡ n.steps q
    steps_same q =
        elim (cases_eq q i) [
          | inl e ↦ subst (λ (j : ℕ). n'.steps j ≡ n.steps j) (sym e) (idle.1 ∙ sym ((h.rest i u).1 ∙ (t.unused i u low).0))
          | inr ne ↦ D.others.steps q ne
        ]

    none_more : SettledTo m k s m.facts.rows n' after_idle
    none_more =
        let few : c.drains ≤ 8388608 = omega (arith, h.drains, drains_small m k s t, m.facts.rows_rule.1, mul-le-mul {n₂ = 64} {m₂ = 1} m.facts.rows_rule.1 (one_at_most left)) in
        record {
          facts = D.others.facts ∙ h.facts;
          done = λ q j. (
            total_same q ∙ (h.done q j).0,
            steps_same q ∙ (h.done q j).1,
            ap (λ (x : RowRecord). x.drained) (kept_row q) ∙ (h.done q j).2,
            ap (λ (x : RowRecord). x.weight_sum) (kept_row q) ∙ (h.done q j).3,
          );
          rest = λ q j. (total_same q ∙ (h.rest q j).0, steps_same q ∙ (h.rest q j).1, kept_row q ∙ (h.rest q j).2);
          activation = h.activation;
          accepted = h.accepted;
          steps = h.steps;
          drains = counted ∙ ap (λ (x : ℕ). (c.drains + x) % 18446744073709551616) idle.3 ∙ mod-eq_of_lt (omega (arith, few)) ∙ omega (arith, h.drains);
        }

  -- the rows that the run uses are settled as far as row i
  pub settled_more : (i : ℕ) (n : Meaning) (c : Kept) (n' : Meaning) (new : RowRecord) (made drains : ℕ) → drains ≡ (c.drains + made) % 18446744073709551616
      → i < 64 → length c.rows ≡ 64 → DrainedInto n i (record_at c i) made n' new → SettledTo m k s (min i m.facts.rows) n c
      → SettledTo m k s (min (i + 1) m.facts.rows) n' (with_row c i new drains)
  settled_more i n c n' new made drains counted low long D h =
      elim (cases_lt i m.facts.rows) [
        | inl l ↦
            let here : min i m.facts.rows ≡ i = omega arith in
            let next : i + 1 ≡ min (i + 1) m.facts.rows = omega arith in
            subst (λ (j : ℕ). SettledTo m k s j n' (with_row c i new drains)) next (one_more i n c n' new made drains counted l long D (subst (λ (j : ℕ). SettledTo m k s j n c) here h))
        | inr u ↦
            let here : min i m.facts.rows ≡ m.facts.rows = omega arith in
            let next : m.facts.rows ≡ min (i + 1) m.facts.rows = omega arith in
            subst (λ (j : ℕ). SettledTo m k s j n' (with_row c i new drains)) next (none_more i n c n' new made drains counted u low long D (subst (λ (j : ℕ). SettledTo m k s j n c) here h))
      ]

  pub settled_all : (n : Meaning) (c : Kept) (i : ℕ) → i ≡ m.facts.rows → SettledTo m k s i n c → TellsSettled n c (settled ∷ s)
  settled_all n c i i-is h =
      let same = h.facts in
      let rows_same : n.facts.rows ≡ m.facts.rows = ap (λ (x : Facts). x.rows) same in
      let L : ℕ = length (open_groups m.facts.shape.group s) in
      let S : ℕ = settled_drains m.facts.interval (stretches m.facts.shape.group s) in
      let up : groups m.facts.interval L ≡ L / m.facts.interval + min 1 left = groups_are m.facts.interval L m.facts.interval_rule.0 in
      let none : 0 / m.facts.interval ≡ 0 = zero-div m.facts.interval in
      let rows-each : i * min 1 left ≡ m.facts.rows * min 1 left = ap (λ y. y * min 1 left) i-is in
      let drains : c.drains ≡ m.facts.rows * (0 / m.facts.interval + (groups m.facts.interval L + S)) =
      h.drains ∙ omega (arith, t.all_drains, rows-each, mul-add m.facts.rows (L / m.facts.interval + S) (min 1 left))
      ∙ ap (λ y. m.facts.rows * y) (let e : (L / m.facts.interval + S) + min 1 left ≡ 0 / m.facts.interval + (groups m.facts.interval L + S) = omega arith in e) in
      record {
        tells = record {
          within = subst (λ (x : Facts). AllByRecursion (ColumnWithin x) (columns_of s)) (sym same) t.within;
          few = omega (arith, t.few, ap (λ (x : Facts). x.longest) same);
          steps = λ r l. (h.done r (omega arith)).1 ∙ sym (zero-mod n.facts.interval);
          total = λ r l. (h.done r (omega arith)).0 ∙ sym (none_left r (0 % n.facts.interval));
          drained = λ r l. ap (λ (y : ℤ). (record_at c r).drained +ℤ y) (h.done r (omega arith)).0 ∙ omega (arith, ints, (h.done r (omega arith)).2);
          weights = λ r l. (h.done r (omega arith)).3 ∙ t.weights r (omega arith);
          activation = h.activation ∙ t.activation;
          accepted = h.accepted ∙ t.accepted;
          all_steps = subst (λ (x : Facts). c.steps ≡ x.rows * steps_of x.shape.group (settled ∷ s)) (sym same) (h.steps ∙ t.all_steps);
          all_drains = subst (λ (x : Facts). c.drains ≡ x.rows * drains_of x.shape.group x.interval (settled ∷ s)) (sym same) drains;
          unused = λ r l j.
              let u = t.unused r (omega arith) j in
              let o = h.rest r (omega arith) in
              (o.1 ∙ u.0, o.0 ∙ u.1, o.2 ∙ u.2);
        };
        settled = refl;
      }
