-- A run at its start, and a settled run.
use Rattle.std.proofs.Common.{◌≡◌, ℕ, zero, suc, ◌+◌, ◌*◌, ◌/◌, ◌%◌, ◌<◌, List, [], length, take, ℤ, pos, ◌+ℤ◌, sym, refl, ap, ◌∙◌, inl, inr, mul-zero, arith, below_more}
use native.Mathlib.Nat.{zero-mod, zero-div}
use Rattle.std.proofs.lemmas.Bool.{cases_lt}
use Rattle.codes.specs.declared.facts.Facts.{Facts}
use Rattle.codes.specs.Sums.{Column, sum_of}
use Rattle.kernels.specs.Meanings.{Meaning, Drained}
use Rattle.kernels.proofs.Tables.{table_fill}
use Rattle.runs.specs.declared.kept.Kept.{Kept}
use Rattle.runs.specs.declared.kept.RowRecord.{RowRecord}
use Rattle.runs.specs.Stories.{Story}
use Rattle.runs.specs.Tells.{Tells, TellsSettled, products, empty_record, nothing_kept, record_at}
use Rattle.runs.proofs.Asks.{in_row}

no_record : (row : ℕ) → record_at nothing_kept row ≡ empty_record
no_record row = table_fill empty_record (λ r. r ≡ empty_record) 64 refl row

pub take_nil : {X : Type 0} (n : ℕ) → ◌≡◌ {A = List X} (take n []) []
take_nil zero = refl
take_nil (suc n) = refl

-- no groups have no products
pub none_left : (row k : ℕ) → sum_of (products row) (take k []) ≡ pos 0
none_left row k = ap (sum_of (products row)) (take_nil {X = List Column} k)

-- the rows below i have neither total nor steps
abbrev pub EmptyBelow : Meaning → (i : ℕ) → Type 0
EmptyBelow m i = (row : ℕ) → row < i → (m.total row ≡ pos 0) × (m.steps row ≡ 0)

pub starts : (m : Meaning) → EmptyBelow m 64 → Tells m nothing_kept []
starts m empty =
    let f : Facts = m.facts in
    let one : (row : ℕ) → row < f.rows → (m.total row ≡ pos 0) × (m.steps row ≡ 0) = λ row l. empty row (omega (arith, f.rows_rule.1)) in
    record {
      within = tt;
      few = omega arith;
      steps = λ row l. (one row l).1 ∙ sym (zero-mod f.interval);
      total = λ row l. (one row l).0 ∙ sym (none_left row (0 % f.interval));
      drained = λ row l. ap (λ (x : RowRecord). x.drained +ℤ m.total row) (no_record row) ∙ ap (λ (y : ℤ). pos 0 +ℤ y) (one row l).0;
      weights = λ row l. ap (λ (x : RowRecord). x.weight_sum) (no_record row);
      activation = refl;
      accepted = refl;
      all_steps = sym (mul-zero f.rows);
      all_drains = let e : 0 / f.interval + 0 ≡ 0 = omega (arith, zero-div f.interval) in sym (ap (λ x. f.rows * x) e ∙ mul-zero f.rows);
      unused = λ row l k. ((empty row k).1, (empty row k).0, no_record row);
    }

-- one row more is drained
pub empty_more : (m n : Meaning) (row : ℕ) → row < 64 → Drained row m n → EmptyBelow m row → EmptyBelow n (row + 1)
empty_more m n row l d h =
    below_more (λ q. (n.total q ≡ pos 0) × (n.steps q ≡ 0)) row
    (λ q k. let ne : q ≡ row → ⊥ = λ e. omega arith in (d.others.total q ne ∙ (h q k).0, d.others.steps q ne ∙ (h q k).1)) (d.total ∙ in_row row _ _ l, d.steps ∙ in_row row _ _ l)

-- a settled run has nothing left in its kernel
pub settled_rows : (m : Meaning) (k : Kept) (s : Story) → TellsSettled m k s → (row : ℕ) → row < m.facts.rows → (m.total row ≡ pos 0) × (m.steps row ≡ 0)
settled_rows m k s R row l =
    let interval : ℕ = m.facts.interval in (
      R.tells.total row l ∙ ap (λ gs. sum_of (products row) (take (length gs % interval) gs)) R.settled ∙ none_left row (0 % interval),
      R.tells.steps row l ∙ ap (λ gs. length gs % interval) R.settled ∙ zero-mod interval,
    )

pub settled_empty : (m : Meaning) (k : Kept) (s : Story) → TellsSettled m k s → EmptyBelow m 64
settled_empty m k s R row l =
    elim (cases_lt row m.facts.rows) [
      | inl h ↦ settled_rows m k s R row h
      | inr h ↦ let u = R.tells.unused row h l in (u.1, u.0)
    ]
