-- One step of a row, and one more after some.
use Rattle.std.proofs.Common.{◌≡◌, ℕ, suc, ◌+◌, ◌*◌, ◌/◌, ◌%◌, ◌<◌, ◌≤◌, ◌⊎◌, List, ◌∷◌, length, take, ℤ, pos, ◌+ℤ◌, ◌-ℤ◌, Some, Ok, Result, sym, refl, ap, ◌∙◌, subst, inl, inr, add-zero, mod-eq_of_lt, add-one, arith, w64}
use native.Mathlib.Nat.{div-eq_of_lt, mod-add-div', mul-add-mod_self_right, mul-add-div_right, mod_self, div_self}
use Rattle.std.specs.Int.{int_wrap}
use Rattle.std.proofs.lemmas.Int.{ints, int_wrap-add_left}
use Rattle.std.proofs.lemmas.Bool.{cases_eq}
use Rattle.codes.specs.declared.facts.Facts.{Facts}
use Rattle.codes.specs.declared.shape.Shape.{Shape}
use Rattle.codes.specs.declared.side.Side.TheVariants.{Weights, Activations}
use Rattle.codes.specs.Sums.{sum_of}
use Rattle.kernels.specs.declared.refusal.StepRefusal.{StepRefusal}
use Rattle.kernels.specs.Groups.{Unpacking}
use Rattle.kernels.specs.Answers.{both_dot, total_after, steps_after}
use Rattle.kernels.specs.Meanings.{Meaning, OthersKept, Stepped}
use Rattle.runs.specs.declared.kept.RowRecord.{RowRecord}
use Rattle.runs.specs.Stories.{onto}
use Rattle.runs.specs.Passes.{DrainedInto, SteppedInto, RowAt, RowStepped, Gains, group_words}

-- ---- one step

-- the kernel's part of an accepted step
pub record Grew (m n : Meaning) (row : ℕ) (gain : ℤ) : Type 0 where
  pub total : n.total row ≡ m.total row +ℤ gain
  pub steps : n.steps row ≡ m.steps row + 1
  pub others : OthersKept row m n

pub grew : (m n : Meaning) (row : ℕ) (r : Result ℤ StepRefusal) (gain : ℤ) → r ≡ Ok gain → Stepped row r m n → Grew m n row gain
grew m n row r gain e h = record { total = h.total ∙ ap (λ x. total_after x (m.total row)) e; steps = h.steps ∙ ap (λ x. steps_after x (m.steps row)) e; others = h.others }

-- what two changes of a row leave of the others
pub others_then : (row : ℕ) (m n k : Meaning) → OthersKept row m n → OthersKept row n k → OthersKept row m k
others_then row m n k a b =
    record { facts = b.facts ∙ a.facts; total = λ q ne. b.total q ne ∙ a.total q ne; steps = λ q ne. b.steps q ne ∙ a.steps q ne }

pub stepped_full : (m n k : Meaning) (row : ℕ) (old new : RowRecord) (made : ℕ) (gain : ℤ) → row < 64 → n.steps row ≡ m.facts.interval
    → Grew m n row gain → DrainedInto n row old made k new → SteppedInto m row old gain made k new
stepped_full m n k row old new made gain l e G D =
    let some : 0 < n.steps row = omega (arith, G.steps) in
    let d = D.busy l some in
    record {
      others = others_then row m n k G.others D.others;
      weight_sum = D.weight_sum;
      short = λ h. let x = G.steps in absurd (omega arith);
      full = λ h. (d.0, d.1, d.2 ∙ ap (λ (y : ℤ). int_wrap w64 (old.drained +ℤ y)) G.total, d.3);
    }

pub stepped_short : (m n : Meaning) (row : ℕ) (old : RowRecord) (gain : ℤ) → (n.steps row ≡ m.facts.interval → ⊥) → Grew m n row gain → SteppedInto m row old gain 0 n old
stepped_short m n row old gain ne G =
    record {
      others = G.others;
      weight_sum = refl;
      short = λ h. (G.total, G.steps, refl, refl);
      full = λ h. absurd (ne (G.steps ∙ h));
    }

-- ---- one more of n, by an interval

module _ (n interval : ℕ) (some : 1 ≤ interval) where
  abbrev q : ℕ
  q = n / interval

  abbrev r : ℕ
  r = n % interval

  as_sum : suc n ≡ q * interval + (r + 1)
  as_sum = let e = mod-add-div' n interval in omega arith

  mod_short : n % interval + 1 < interval → suc n % interval ≡ n % interval + 1
  mod_short l = ap (λ x. x % interval) as_sum ∙ mul-add-mod_self_right q interval (r + 1) ∙ mod-eq_of_lt l

  div_short : n % interval + 1 < interval → suc n / interval ≡ n / interval
  div_short l = ap (λ x. x / interval) as_sum ∙ mul-add-div_right some q (r + 1) ∙ ap (λ x. q + x) (div-eq_of_lt l) ∙ add-zero q

  mod_full : n % interval + 1 ≡ interval → suc n % interval ≡ 0
  mod_full e = ap (λ x. x % interval) as_sum ∙ mul-add-mod_self_right q interval (r + 1) ∙ ap (λ x. x % interval) e ∙ mod_self interval

  div_full : n % interval + 1 ≡ interval → suc n / interval ≡ n / interval + 1
  div_full e = ap (λ x. x / interval) as_sum ∙ mul-add-div_right some q (r + 1) ∙ ap (λ x. q + x) (ap (λ x. x / interval) e ∙ div_self some)

less_or : (s h : ℕ) → s < h → (s + 1 < h) ⊎ (s + 1 ≡ h)
less_or s h l = elim (cases_eq (s + 1) h) [ inl e ↦ inr e | inr ne ↦ inl (omega arith) ]

-- ---- a row takes one more group

lin_short : (b s t g : ℤ) → (b +ℤ s) -ℤ t ≡ (b +ℤ (g +ℤ s)) -ℤ (t +ℤ g)
lin_short b s t g = omega (arith, ints)

lin_full : (b s t g : ℤ) → ((b +ℤ s) -ℤ t) +ℤ (t +ℤ g) ≡ (b +ℤ (g +ℤ s)) -ℤ pos 0
lin_full b s t g = omega (arith, ints)

lin_swap : (t g : ℤ) → t +ℤ g ≡ g +ℤ t
lin_swap t g = omega (arith, ints)

abbrev all : List ℤ → ℤ
all gains = sum_of (λ g. g) gains

module _ (interval : ℕ) (base : ℤ) (first : ℕ) (gains : List ℤ) (steps : ℕ) (total drained : ℤ) (made : ℕ) (gain : ℤ) (some : 1 ≤ interval)
    (R : RowAt interval base first gains steps total drained made) where
  at_short : (total' drained' : ℤ) (steps' made' : ℕ) → steps + 1 < interval → total' ≡ total +ℤ gain → steps' ≡ steps + 1 → drained' ≡ drained → made' ≡ made
      → RowAt interval base first (gain ∷ gains) steps' total' drained' made'
  at_short total' drained' steps' made' l et es ed em =
      let l' : length gains % interval + 1 < interval = omega (arith, R.steps_are) in
      let e = mod_short (length gains) interval some l' in
      let e' : suc (length gains) % interval ≡ suc (length gains % interval) = e ∙ add-one (length gains % interval) in
      record {
        steps_are = es ∙ omega (arith, R.steps_are, e);
        total_is = et ∙ ap (λ x. x +ℤ gain) R.total_is ∙ lin_swap (all (take (length gains % interval) gains)) gain ∙ ap (λ k. all (take k (gain ∷ gains))) (sym e');
        drained_is = ed ∙ R.drained_is ∙ ap (int_wrap w64) (lin_short base (all gains) total gain) ∙ ap (λ x. int_wrap w64 ((base +ℤ (gain +ℤ all gains)) -ℤ x)) (sym et);
        made_are = ap (λ x. x + first) em ∙ R.made_are ∙ sym (div_short (length gains) interval some l');
      }

  at_full : (total' drained' : ℤ) (steps' made' : ℕ) → steps + 1 ≡ interval → total' ≡ pos 0 → steps' ≡ 0 → drained' ≡ int_wrap w64 (drained +ℤ (total +ℤ gain)) → made' ≡ made + 1
      → RowAt interval base first (gain ∷ gains) steps' total' drained' made'
  at_full total' drained' steps' made' l et es ed em =
      let l' : length gains % interval + 1 ≡ interval = omega (arith, R.steps_are) in
      let e = mod_full (length gains) interval some l' in
      record {
        steps_are = es ∙ sym e;
        total_is = et ∙ ap (λ k. all (take k (gain ∷ gains))) (sym e);
        drained_is =
            ed ∙ ap (λ x. int_wrap w64 (x +ℤ (total +ℤ gain))) R.drained_is ∙ int_wrap-add_left w64 ((base +ℤ all gains) -ℤ total) (total +ℤ gain)
            ∙ ap (int_wrap w64) (lin_full base (all gains) total gain) ∙ ap (λ x. int_wrap w64 ((base +ℤ (gain +ℤ all gains)) -ℤ x)) (sym et);
        made_are = let e₁ = div_full (length gains) interval some l' in let e₂ = R.made_are in omega arith;
      }

-- ---- a row that is stepped once a group

pub stepped_none : (m : Meaning) (row : ℕ) (old : RowRecord) (gain : ℕ → ℤ) → m.steps row < m.facts.interval → RowStepped m row old gain 0 0 m old
stepped_none m row old gain room =
    record {
      others = record { facts = refl; total = λ q ne. refl; steps = λ q ne. refl };
      weight_sum = refl;
      small = omega arith;
      room = room;
      row_at = λ base first gains R. R;
    }

module _ (m n k : Meaning) (row : ℕ) (old new next : RowRecord) (gain : ℕ → ℤ) (j made more : ℕ) (some : 1 ≤ m.facts.interval) (few : j < 65536)
    (R : RowStepped m row old gain j made n new) (S : SteppedInto n row new (gain j) more k next) where
  same_interval : n.facts.interval ≡ m.facts.interval
  same_interval = ap (λ (f : Facts). f.interval) R.others.facts

  more_short : n.steps row + 1 < m.facts.interval → RowStepped m row old gain (suc j) ((made + more) % 18446744073709551616) k next
  more_short l =
      let s = S.short (omega (arith, same_interval)) in
      let e : (made + more) % 18446744073709551616 ≡ made = mod-eq_of_lt (omega (arith, R.small, s.3)) ∙ omega (arith, s.3) in
      record {
        others = others_then row m n k R.others S.others;
        weight_sum = S.weight_sum ∙ R.weight_sum;
        small = omega (arith, e, R.small);
        room = omega (arith, s.1);
        row_at = λ base first gains A.
            at_short m.facts.interval base first (onto gain j gains) (n.steps row) (n.total row) new.drained made (gain j) some (R.row_at base first gains A)
            (k.total row) next.drained (k.steps row) _ l s.0 s.1 s.2 e;
      }

  more_full : n.steps row + 1 ≡ m.facts.interval → RowStepped m row old gain (suc j) ((made + more) % 18446744073709551616) k next
  more_full l =
      let s = S.full (l ∙ sym same_interval) in
      let e : (made + more) % 18446744073709551616 ≡ made + 1 = mod-eq_of_lt (omega (arith, R.small, s.3)) ∙ omega (arith, s.3) in
      record {
        others = others_then row m n k R.others S.others;
        weight_sum = S.weight_sum ∙ R.weight_sum;
        small = omega (arith, e, R.small);
        room = omega (arith, s.1);
        row_at = λ base first gains A.
            at_full m.facts.interval base first (onto gain j gains) (n.steps row) (n.total row) new.drained made (gain j) some (R.row_at base first gains A)
            (k.total row) next.drained (k.steps row) _ l s.0 s.1 s.2 e;
      }

  pub stepped_more : (j' : ℕ) → j' ≡ j + 1 → RowStepped m row old gain j' ((made + more) % 18446744073709551616) k next
  stepped_more j' after =
      subst (λ (i : ℕ). RowStepped m row old gain i ((made + more) % 18446744073709551616) k next) (sym (after ∙ add-one j))
      (elim (less_or (n.steps row) m.facts.interval R.room) [ inl l ↦ more_short l | inr l ↦ more_full l ])

-- what the words of a group gain, by the facts of a kernel that are still the same
pub group_gains : (unpacked : Shape → Unpacking) (F G : Facts) (j count : ℕ) (weights activations left right : List ℕ) (gain : ℕ → ℤ) → G ≡ F → left ≡ group_words F.shape.weight_words weights j → right ≡ group_words F.shape.activation_words activations j
    → j < count → Gains (unpacked F.shape) F weights activations count gain → both_dot (unpacked G.shape Weights left) (unpacked G.shape Activations right) ≡ Some (gain j)
group_gains unpacked F G j count weights activations left right gain h l r below gains =
    ap (λ (x : Facts). both_dot (unpacked x.shape Weights left) (unpacked x.shape Activations right)) h ∙ ap (λ ws. both_dot (unpacked F.shape Weights ws) (unpacked F.shape Activations right)) l
    ∙ ap (λ ws. both_dot (unpacked F.shape Weights (group_words F.shape.weight_words weights j)) (unpacked F.shape Activations ws)) r ∙ gains j below
