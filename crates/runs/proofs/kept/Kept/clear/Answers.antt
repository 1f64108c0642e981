-- One record more is cleared, and then all are.
use Rattle.std.proofs.Common.{◌≡◌, ℕ, List, [], ◌∷◌, ◌++◌, take, replicate, pos, sym, ap, ◌∙◌, subst, arith, length-set}
use Rattle.std.proofs.lemmas.List.{take_more_set, take_all, replicate_more}
use Rattle.runs.specs.declared.kept.RowRecord.{RowRecord}
use Rattle.runs.specs.Tells.{empty_record}
use Rattle.runs.proofs.kept.Kept.clear.Goals as goal

pub loop-record-preserved : goal.loop-record-preserved
loop-record-preserved c =
    let rows = c.loop-record.record-items in
    let i : ℕ = c.loop-record.record-index in
    let long = c.loop-record.invariant.0 in (
      length-set rows i c.clear.new.self ∙ long,
      take_more_set rows i c.clear.new.self (omega (arith, long, c.loop-record-test.true))
          ∙ ap (λ (xs : List RowRecord). xs ++ c.clear.new.self ∷ []) c.loop-record.invariant.1
          ∙ ap (λ (x : RowRecord). replicate i empty_record ++ x ∷ []) c.clear.ensures
          ∙ replicate_more i empty_record,
    )

pub returns : goal.returns
returns c =
    let rows = c.loop-record.record-items in
    let all : c.loop-record.record-index ≡ 64 = omega (arith, c.loop-record-test.false, c.loop-record.auto.record-index-end) in
    let whole : c.loop-record.record-items ≡ replicate 64 empty_record =
    sym (take_all 64 rows (omega (arith, c.loop-record.invariant.0))) ∙ subst (λ (n : ℕ). take n c.loop-record.record-items ≡ replicate n empty_record) all c.loop-record.invariant.1 in
    ap (λ (xs : List RowRecord). record { rows = xs; activation_sum = pos 0; accepted = 0; steps = 0; drains = 0 }) whole
