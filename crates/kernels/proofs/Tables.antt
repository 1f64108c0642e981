-- Tables of records, one for each row, of any record type.
use Rattle.std.proofs.Common.{◌≡◌, ℕ, zero, suc, ◌+◌, ◌^◌, ◌<◌, Bool, true, false, cond, ltb, is_ok, List, [], ◌∷◌, length, get_or, set, replicate, ℤ, pos, ◌+ℤ◌, Ok, Err, Result, sym, refl, ap, ◌∙◌, subst, arith, w64, SFits, to_z, of_z}
use mir.Val.{hbits}
use Rattle.std.proofs.lemmas.List.{get_or-set_same, get_or-set_other}
use Rattle.std.proofs.lemmas.Int.{to_z_pos, to_z-of_z}
use Rattle.std.proofs.lemmas.Bool.{lt-ltb, ltb-true, cond-true, cond-false, cond_both}
use Rattle.codes.specs.declared.facts.Facts.{Facts}
use Rattle.kernels.specs.declared.refusal.StepRefusal.{StepRefusal}
use Rattle.kernels.specs.declared.refusal.RowRefusal.{RowRefusal}
use Rattle.kernels.specs.declared.refusal.RowRefusal.TheVariants.{Row as NoRow}
use Rattle.kernels.specs.Answers.{ask, row_answer, total_after, steps_after}
use Rattle.kernels.specs.Meanings.{OthersKept, Stepped, Drained}
use Rattle.kernels.specs.Tables.{table_means}

module _ {R : Type 0} (empty : R) where
  -- what holds of every record, and of a new one, holds of every record once the new one is put in
  pub table_set : (P : R → Type 0) (rows : List R) (row : ℕ) (new : R) → P new → ((j : ℕ) → P (get_or rows j empty)) → (j : ℕ) → P (get_or (set rows row new) j empty)
  table_set P [] row new p h j = h j
  table_set P (x ∷ xs) zero new p h zero = p
  table_set P (x ∷ xs) zero new p h (suc j) = h (suc j)
  table_set P (x ∷ xs) (suc row) new p h zero = h zero
  table_set P (x ∷ xs) (suc row) new p h (suc j) = table_set P xs row new p (λ k. h (suc k)) j

  pub table_fill : (P : R → Type 0) (count : ℕ) → P empty → (j : ℕ) → P (get_or (replicate count empty) j empty)
  table_fill P zero h j = h
  table_fill P (suc count) h zero = h
  table_fill P (suc count) h (suc j) = table_fill P count h j

-- a kernel whose rows stand in a table
module _ {R : Type 0} (empty : R) (total : R → ℤ) (steps : R → ℕ) (facts : Facts) (rows : List R) (row : ℕ) where
  others : (new : R) → OthersKept row (table_means empty total steps facts rows) (table_means empty total steps facts (set rows row new))
  others new =
      record {
        facts = refl;
        total = λ other h. ap total (get_or-set_other rows row other new empty h);
        steps = λ other h. ap steps (get_or-set_other rows row other new empty h);
      }

  -- one record is put in, with the total and the steps that a step leaves
  pub table_stepped : (new : R) (gain : Result ℤ StepRefusal) → row < length rows
      → total new ≡ total_after gain (total (get_or rows row empty)) → steps new ≡ steps_after gain (steps (get_or rows row empty))
      → Stepped row gain (table_means empty total steps facts rows) (table_means empty total steps facts (set rows row new))
  table_stepped new gain h t s =
      let same = get_or-set_same rows row new empty h in
      record { others = others new; total = ap total same ∙ t; steps = ap steps same ∙ s }

  -- one record is put in, with total and steps 0
  pub table_drained : (new : R) → row < length rows → row < 64 → total new ≡ pos 0 → steps new ≡ 0
      → Drained row (table_means empty total steps facts rows) (table_means empty total steps facts (set rows row new))
  table_drained new h lt t s =
      let same = get_or-set_same rows row new empty h in
      let there : ltb row 64 ≡ true = lt-ltb row 64 lt in
      record {
        others = others new;
        total = ap total same ∙ t ∙ sym (cond-true (ltb row 64) (pos 0) (total (get_or rows row empty)) there);
        steps = ap steps same ∙ s ∙ sym (cond-true (ltb row 64) 0 (steps (get_or rows row empty)) there);
      }

-- a kernel of 64 rows whose records all keep to something
module _ {R : Type 0} (empty : R) (total : R → ℤ) (steps : R → ℕ) (Holds : R → Type 0) (facts : Facts) (rows : List R) (row : ℕ) where
  -- a new record is put in, with the total and the steps that a step leaves
  pub record TableStepped (gain : Result ℤ StepRefusal) (new : R) : Type 0 where
    pub holds : (j : ℕ) → Holds (get_or (set rows row new) j empty)
    pub after : Stepped row gain (table_means empty total steps facts rows) (table_means empty total steps facts (set rows row new))

  pub table_steps : (gain : Result ℤ StepRefusal) (new : R) → length rows ≡ 64 → row < 64 → ((j : ℕ) → Holds (get_or rows j empty)) → Holds new
      → total new ≡ total_after gain (total (get_or rows row empty)) → steps new ≡ steps_after gain (steps (get_or rows row empty)) → TableStepped gain new
  table_steps gain new all lt hold holds t s =
      record {
        holds = table_set empty Holds rows row new holds hold;
        after = table_stepped empty total steps facts rows row new gain (omega arith) t s;
      }

  -- where the step gains so much
  pub table_gains : (gain : Result ℤ StepRefusal) (z : ℤ) (new : R) → gain ≡ Ok z → length rows ≡ 64 → row < 64 → ((j : ℕ) → Holds (get_or rows j empty)) → Holds new
      → total new ≡ total (get_or rows row empty) +ℤ z → steps new ≡ steps (get_or rows row empty) + 1 → TableStepped gain new
  table_gains gain z new g all lt hold holds t s =
      table_steps gain new all lt hold holds
      (t ∙ sym (ap (λ (r : Result ℤ StepRefusal). total_after r (total (get_or rows row empty))) g))
      (s ∙ sym (ap (λ (r : Result ℤ StepRefusal). steps_after r (steps (get_or rows row empty))) g))

  -- a new record is put in, with total and steps 0
  pub record TableDrained (new : R) : Type 0 where
    pub holds : (j : ℕ) → Holds (get_or (set rows row new) j empty)
    pub after : Drained row (table_means empty total steps facts rows) (table_means empty total steps facts (set rows row new))

  pub table_drains : (new : R) → length rows ≡ 64 → row < 64 → ((j : ℕ) → Holds (get_or rows j empty)) → Holds new
      → total new ≡ pos 0 → steps new ≡ 0 → TableDrained new
  table_drains new all lt hold holds t s =
      record {
        holds = table_set empty Holds rows row new holds hold;
        after = table_drained empty total steps facts rows row new (omega arith) lt t s;
      }

-- a table of empty records means totals and steps 0
pub empty_means : {R : Type 0} (empty : R) (total : R → ℤ) (steps : R → ℕ) → total empty ≡ pos 0 → steps empty ≡ 0 → (count j : ℕ)
    → (total (get_or (replicate count empty) j empty) ≡ pos 0) × (steps (get_or (replicate count empty) j empty) ≡ 0)
empty_means empty total steps t s count = table_fill empty (λ r. (total r ≡ pos 0) × (steps r ≡ 0)) count (t, s)

-- a new table, of records that are all empty
module _ {R : Type 0} (empty r : R) (same : r ≡ empty) where
  pub new_holds : (P : R → Type 0) → P empty → (j : ℕ) → P (get_or (replicate 64 r) j empty)
  new_holds P none = subst (λ (e : R). (j : ℕ) → P (get_or (replicate 64 e) j empty)) (sym same) (table_fill empty P 64 none)

  pub new_means : (total : R → ℤ) (steps : R → ℕ) → total empty ≡ pos 0 → steps empty ≡ 0
      → (j : ℕ) → (total (get_or (replicate 64 r) j empty) ≡ pos 0) × (steps (get_or (replicate 64 r) j empty) ≡ 0)
  new_means total steps t s =
      subst (λ (e : R). (j : ℕ) → (total (get_or (replicate 64 e) j empty) ≡ pos 0) × (steps (get_or (replicate 64 e) j empty) ≡ 0)) (sym same)
      (empty_means empty total steps t s 64)

-- the answer of a call of a row that there is
pub row_there : {V : Type 0} (row : ℕ) (value : V) → row < 64 → Ok value ≡ row_answer row value
row_there row value h =
    let t : ltb row 64 ≡ true = lt-ltb row 64 h in
    rw t refl

-- the answer of a drain whose total is read without sign: a number of 64 bits with sign
pub drain_answer : (row total lane : ℕ) → row < 64 → total < 2 ^ 32 → total ≡ lane → Ok (to_z w64 total) ≡ row_answer row (pos lane)
drain_answer row total lane lt small e =
    let g : total < 2 ^ hbits w64 = omega arith in
    ap (λ (z : ℤ). Ok z) (to_z_pos w64 total g ∙ ap pos e) ∙ row_there row (pos lane) lt

-- the answer of a drain whose total is a number with sign
pub signed_answer : (row : ℕ) (total z : ℤ) → row < 64 → SFits w64 total → total ≡ z → Ok (to_z w64 (of_z w64 total)) ≡ row_answer row z
signed_answer row total z lt fits e = ap (λ (v : ℤ). Ok v) (to_z-of_z w64 total fits ∙ e) ∙ row_there row z lt

-- ---- a row is taken: what it kept is answered, and an empty record stands in its place

module _ {R : Type 0} (empty : R) (rows : List R) (row : ℕ) (r : Result R RowRefusal) (rows' : List R)
    (answer : r ≡ row_answer row (get_or rows row empty)) (after : rows' ≡ cond (is_ok r) (set rows row empty) rows) where
  taken : (there : Bool) → ltb row 64 ≡ there → rows' ≡ cond there (set rows row empty) rows
  taken there e =
      after ∙ ap (λ (a : Result R RowRefusal). cond (is_ok a) (set rows row empty) rows) answer
      ∙ ap (λ (b : Bool). cond (is_ok (ask b NoRow (Ok (get_or rows row empty)))) (set rows row empty) rows) e ∙ asked there
    where
      asked : (b : Bool) → cond (is_ok (ask b NoRow (Ok (get_or rows row empty)))) (set rows row empty) rows ≡ cond b (set rows row empty) rows
      asked true = refl
      asked false = refl

  -- what holds of every record and of an empty one holds of every record after
  pub taken_holds : (P : R → Type 0) → P empty → ((j : ℕ) → P (get_or rows j empty)) → (j : ℕ) → P (get_or rows' j empty)
  taken_holds P none h j =
      subst (λ (rs : List R). P (get_or rs j empty)) (sym (taken (ltb row 64) refl))
      (cond_both (ltb row 64) (set rows row empty) rows (λ rs. P (get_or rs j empty)) (λ _. table_set empty P rows row empty none h j) (λ _. h j))

  -- and so the row is drained, if there is one
  pub taken_drains : (total : R → ℤ) (steps : R → ℕ) (facts : Facts) → length rows ≡ 64 → total empty ≡ pos 0 → steps empty ≡ 0
      → Drained row (table_means empty total steps facts rows) (table_means empty total steps facts rows')
  taken_drains total steps facts all t s =
      subst (λ (rs : List R). Drained row (table_means empty total steps facts rows) (table_means empty total steps facts rs)) (sym (taken (ltb row 64) refl))
      (cond_both (ltb row 64) (set rows row empty) rows (λ rs. Drained row (table_means empty total steps facts rows) (table_means empty total steps facts rs))
      (λ e. (table_drains empty total steps (λ _. Unit {0}) facts rows row empty all (ltb-true row 64 e) (λ _. tt) tt t s).after)
      (λ e. record {
        others = record { facts = refl; total = λ _ _. refl; steps = λ _ _. refl };
        total = sym (cond-false (ltb row 64) (pos 0) (total (get_or rows row empty)) e);
        steps = sym (cond-false (ltb row 64) 0 (steps (get_or rows row empty)) e);
      }))

-- what the answer of a call that asks for the row alone says of another such call
pub row_refused : {V W : Type 0} (row : ℕ) (e : RowRefusal) (v : V) (w : W) → Err e ≡ row_answer row v → Err e ≡ row_answer row w
row_refused row e v w = refused (ltb row 64)
  where
    refused : (there : Bool) → Err e ≡ ask there NoRow (Ok v) → Err e ≡ ask there NoRow (Ok w)
    refused true h = cc
    refused false h = cc

pub row_answered : {V : Type 0} (row : ℕ) (u v : V) → Ok u ≡ row_answer row v → (row < 64) × (u ≡ v)
row_answered row u v h = answered (ltb row 64) refl h
  where
    answered : (there : Bool) → ltb row 64 ≡ there → Ok u ≡ ask there NoRow (Ok v) → (row < 64) × (u ≡ v)
    answered true e q = (ltb-true row 64 e, cc)
    answered false e q = absurd (let z : ◌≡◌ {A = ℕ} 0 1 = cc in omega arith)
