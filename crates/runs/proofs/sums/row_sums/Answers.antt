-- A row with its sum, and the first with a bad group.
use Rattle.std.proofs.Common.{◌≡◌, ℕ, ◌*◌, List, length, None, sym, ap, ◌∙◌, subst, arith, length-set, w64, SFits, rules}
use Rattle.std.proofs.lemmas.Int.{to_z-of_z}
use Rattle.std.proofs.lemmas.List.{length_push}
use Rattle.std.proofs.lemmas.Result.{err_from_is_err_and}
use Rattle.codes.specs.declared.facts.Facts.{Facts}
use Rattle.codes.specs.declared.side.Side.TheVariants.{Weights}
use Rattle.kernels.specs.Lists.{words_for, unpacked_list}
use Rattle.runs.specs.declared.refusal.FeedRefusal.TheVariants.{Weights as BadWeights}
use Rattle.runs.specs.Feeds.{row_codes, first_bad_row}
use Rattle.runs.specs.Passes.{list_total}
use Rattle.runs.proofs.Chunks.{chunk_turn, chunk_end}
use Rattle.runs.proofs.Rows.{row_some, row_bad, not_totalled, rows_more}
use Rattle.runs.proofs.Totals.{err_named, ok_kept}
use Rattle.runs.proofs.sums.row_sums.Goals as goal

pub list_sum-requires : goal.list_sum-requires
list_sum-requires g c =
    let F : Facts = (g.K.Kernel.means c.args.kernel.now).facts in
    let w : ℕ = words_for F.shape Weights c.args.count in
    let size = ap (λ x. x * c.facts-facts.result.shape.weight_words) c.groups_taken.ensures.value ∙ ap (λ (f : Facts). words_for f.shape Weights c.args.count) c.facts-facts.ensures in
    let t = chunk_turn c.args.weights.now w F.rows (row_some F c.args.count c.requires.count.0) c.requires.exact c.loop-row.yielded c.into_iter-row-iterator.result c.loop-row.row-iterator c.next.new.self (cc) (cc) (cc) c.loop-row.yielded_by c.in-Some.row c.in-Some.words c.in-Some.ensures.steps in
    record { exact = t.long }

pub offset_bounds-sums-row : goal.offset_bounds-sums-row
offset_bounds-sums-row g c =
    let F : Facts = (g.K.Kernel.means c.args.kernel.now).facts in
    let w : ℕ = words_for F.shape Weights c.args.count in
    let size = ap (λ x. x * c.facts-facts.result.shape.weight_words) c.groups_taken.ensures.value ∙ ap (λ (f : Facts). words_for f.shape Weights c.args.count) c.facts-facts.ensures in
    let t = chunk_turn c.args.weights.now w F.rows (row_some F c.args.count c.requires.count.0) c.requires.exact c.loop-row.yielded c.into_iter-row-iterator.result c.loop-row.row-iterator c.next.new.self (cc) (cc) (cc) c.loop-row.yielded_by c.in-Some.row c.in-Some.words c.in-Some.ensures.steps in
    record { fits = omega (arith, t.at_is, t.below, F.rows_rule.1) }

pub bounds-sums-row : goal.bounds-sums-row
bounds-sums-row g c =
    let F : Facts = (g.K.Kernel.means c.args.kernel.now).facts in
    let w : ℕ = words_for F.shape Weights c.args.count in
    let size = ap (λ x. x * c.facts-facts.result.shape.weight_words) c.groups_taken.ensures.value ∙ ap (λ (f : Facts). words_for f.shape Weights c.args.count) c.facts-facts.ensures in
    let t = chunk_turn c.args.weights.now w F.rows (row_some F c.args.count c.requires.count.0) c.requires.exact c.loop-row.yielded c.into_iter-row-iterator.result c.loop-row.row-iterator c.next.new.self (cc) (cc) (cc) c.loop-row.yielded_by c.in-Some.row c.in-Some.words c.in-Some.ensures.steps in
    omega (arith, t.at_is, t.below, F.rows_rule.1)

pub returns-in_err-sums : goal.returns-in_err-sums
returns-in_err-sums g c =
    let F : Facts = (g.K.Kernel.means c.args.kernel.now).facts in
    let u = g.K.Kernel.unpacked F.shape in
    let n = c.args.count in
    let weights = c.args.weights.now in
    let w : ℕ = words_for F.shape Weights c.args.count in
    let size = ap (λ x. x * c.facts-facts.result.shape.weight_words) c.groups_taken.ensures.value ∙ ap (λ (f : Facts). words_for f.shape Weights c.args.count) c.facts-facts.ensures in
    let t = chunk_turn c.args.weights.now w F.rows (row_some F c.args.count c.requires.count.0) c.requires.exact c.loop-row.yielded c.into_iter-row-iterator.result c.loop-row.row-iterator c.next.new.self (cc) (cc) (cc) c.loop-row.yielded_by c.in-Some.row c.in-Some.words c.in-Some.ensures.steps in
    let row : ℕ = length c.loop-row.yielded in
    let p = err_from_is_err_and c.from_residual.result c.from_residual.ensures.1 in
    let e = err_named (BadWeights c.in-Some.row) c.list_sum.result c.map_err.result c.in_err-sums.field-0.0 c.in_err-sums.was c.map_err.ensures.cases (λ e y k. search rules) in
    let bad = not_totalled _ e.0 (sym e.1 ∙ c.list_sum.ensures ∙ ap (λ (ws : List ℕ). list_total (unpacked_list u F.shape Weights n ws)) t.part_is) in
    rw (p.1) ((row, e.0), row_bad (row_codes u F.shape n weights) row e.0 F.rows c.loop-row.invariant.1 bad t.below, p.2 ∙ e.2 ∙ ap (λ i. BadWeights i e.0) t.at_is)

pub loop-row-preserved : goal.loop-row-preserved
loop-row-preserved g c =
    let F : Facts = (g.K.Kernel.means c.args.kernel.now).facts in
    let u = g.K.Kernel.unpacked F.shape in
    let n = c.args.count in
    let weights = c.args.weights.now in
    let w : ℕ = words_for F.shape Weights c.args.count in
    let size = ap (λ x. x * c.facts-facts.result.shape.weight_words) c.groups_taken.ensures.value ∙ ap (λ (f : Facts). words_for f.shape Weights c.args.count) c.facts-facts.ensures in
    let t = chunk_turn c.args.weights.now w F.rows (row_some F c.args.count c.requires.count.0) c.requires.exact c.loop-row.yielded c.into_iter-row-iterator.result c.loop-row.row-iterator c.next.new.self (cc) (cc) (cc) c.loop-row.yielded_by c.in-Some.row c.in-Some.words c.in-Some.ensures.steps in
    let sum = c.in_ok-sums.field-0 in
    let fits : SFits w64 c.in_ok-sums.field-0 = search rules in
    let ok = ok_kept _ c.list_sum.result c.map_err.result sum c.in_ok-sums.was c.map_err.ensures.cases in
    let long = c.loop-row.invariant.0 in
    let I = rows_more (row_codes u F.shape n weights) c.in-Some.row (length c.loop-row.yielded) _ sum _ c.loop-row.sums t.at_is (length_push c.loop-row.yielded (c.in-Some.row, c.in-Some.words)) (to_z-of_z w64 sum fits) (omega (arith, long, t.below, F.rows_rule.1))
    (sym ok ∙ c.list_sum.ensures ∙ ap (λ (ws : List ℕ). list_total (unpacked_list u F.shape Weights n ws)) t.part_is) c.loop-row.invariant.1 c.loop-row.invariant.2 in
    (simp length-set long, I.0, I.1)

pub returns : goal.returns
returns g c =
    let F : Facts = (g.K.Kernel.means c.args.kernel.now).facts in
    let w : ℕ = words_for F.shape Weights c.args.count in
    let size = ap (λ x. x * c.facts-facts.result.shape.weight_words) c.groups_taken.ensures.value ∙ ap (λ (f : Facts). words_for f.shape Weights c.args.count) c.facts-facts.ensures in
    let e = chunk_end c.args.weights.now w F.rows (row_some F c.args.count c.requires.count.0) c.requires.exact c.loop-row.yielded c.into_iter-row-iterator.result c.loop-row.row-iterator c.next.new.self (cc) (cc) (cc) c.loop-row.yielded_by c.in-None.ensures.steps in
    (subst (λ (k : ℕ). first_bad_row (row_codes (g.K.Kernel.unpacked F.shape) F.shape c.args.count c.args.weights.now) k ≡ None) (sym e) c.loop-row.invariant.1, λ r l. c.loop-row.invariant.2 r (omega (arith, e)))
