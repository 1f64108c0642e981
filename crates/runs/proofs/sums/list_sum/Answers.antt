-- A group that packs its codes, the first that does not, and the sum of all.
use Rattle.std.proofs.Common.{◌≡◌, ℕ, ◌-◌, ◌*◌, ◌<◌, length, Some, None, Err, sym, ap, ◌∙◌, arith, w64, SFits, rules}
use mir.ValLaws.{to_z-Fits}
use Rattle.std.proofs.lemmas.Int.{wrapping_add_onto}
use Rattle.std.proofs.lemmas.List.{length_push}
use Rattle.std.proofs.lemmas.Result.{err_from_is_err_and}
use Rattle.codes.specs.declared.facts.Facts.{Facts}
use Rattle.codes.specs.declared.shape.Shape.{Shape}
use Rattle.codes.specs.Codes.{groups}
use Rattle.codes.specs.Shapes.{words_on}
use Rattle.kernels.specs.Lists.{first_codes}
use Rattle.kernels.proofs.ListSizes.{group_starts}
use Rattle.kernels.proofs.UnpackedLists.{rest_none}
use Rattle.runs.specs.Passes.{group_total, list_total, group_words}
use Rattle.runs.proofs.Chunks.{chunk_turn, chunk_end, words_some}
use Rattle.runs.proofs.Totals.{not_ok, total_more, total_bad, total_all}
use Rattle.runs.proofs.sums.list_sum.Goals as goal

pub overflow_mul-group : goal.overflow_mul-group
overflow_mul-group g c =
    let F : Facts = (g.K.Kernel.means c.args.kernel.now).facts in
    let w : ℕ = words_on F.shape c.args.side in
    let e = ap (λ (f : Facts). f.shape.group) c.facts.ensures in
    let size = c.words.ensures ∙ ap (λ (f : Facts). words_on f.shape c.args.side) c.facts.ensures in
    let t = chunk_turn c.args.words.now w (groups F.shape.group c.args.count) (words_some F c.args.side) c.requires.exact c.loop-group.yielded c.into_iter-group-iterator.result c.loop-group.group-iterator c.next.new.self (cc) (cc) (cc) c.loop-group.yielded_by c.in-Some.group c.in-Some.part c.in-Some.ensures.steps in
    let h : c.in-Some.group * F.shape.group < c.args.count = group_starts c.in-Some.group F.shape.group c.args.count F.shape_rules.2.0 (omega (arith, t.at_is, t.below)) in
    record { fits = omega (arith, ap (λ i. c.in-Some.group * i) e, h, c.ranges.count.fits) }

pub overflow_sub-count : goal.overflow_sub-count
overflow_sub-count g c =
    let F : Facts = (g.K.Kernel.means c.args.kernel.now).facts in
    let w : ℕ = words_on F.shape c.args.side in
    let e = ap (λ (f : Facts). f.shape.group) c.facts.ensures in
    let size = c.words.ensures ∙ ap (λ (f : Facts). words_on f.shape c.args.side) c.facts.ensures in
    let t = chunk_turn c.args.words.now w (groups F.shape.group c.args.count) (words_some F c.args.side) c.requires.exact c.loop-group.yielded c.into_iter-group-iterator.result c.loop-group.group-iterator c.next.new.self (cc) (cc) (cc) c.loop-group.yielded_by c.in-Some.group c.in-Some.part c.in-Some.ensures.steps in
    let h : c.in-Some.group * F.shape.group < c.args.count = group_starts c.in-Some.group F.shape.group c.args.count F.shape_rules.2.0 (omega (arith, t.at_is, t.below)) in
    omega (arith, ap (λ i. c.in-Some.group * i) e, h)

pub returns-in_err-more : goal.returns-in_err-more
returns-in_err-more g c =
    let F : Facts = (g.K.Kernel.means c.args.kernel.now).facts in
    let S : Shape = F.shape in
    let side = c.args.side in
    let u = g.K.Kernel.unpacked S side in
    let n : ℕ = c.args.count in
    let words = c.args.words.now in
    let at : ℕ = length c.loop-group.yielded in
    let w : ℕ = words_on S side in
    let p = err_from_is_err_and c.from_residual.result c.from_residual.ensures.1 in
    let bad = not_ok c.group_sum.result c.in-Some.group c.in_err-more.field-0.0 c.in_err-more.ensures.value in
    let size = c.words.ensures ∙ ap (λ (f : Facts). words_on f.shape c.args.side) c.facts.ensures in
    let t = chunk_turn c.args.words.now w (groups S.group n) (words_some F c.args.side) c.requires.exact c.loop-group.yielded c.into_iter-group-iterator.result c.loop-group.group-iterator c.next.new.self (cc) (cc) (cc) c.loop-group.yielded_by c.in-Some.group c.in-Some.part c.in-Some.ensures.steps in
    let same : c.in_err-more.field-0.0 ≡ length c.loop-group.yielded = bad.1 ∙ t.at_is in
    let none : None ≡ group_total (first_codes (n - at * S.group) (u (group_words w words at))) =
    sym bad.0 ∙ c.group_sum.ensures ∙ ap (λ (f : Facts). group_total (first_codes (n - c.in-Some.group * f.shape.group) (u c.in-Some.part.now))) c.facts.ensures
    ∙ ap (λ i. group_total (first_codes (n - i * S.group) (u c.in-Some.part.now))) t.at_is ∙ ap (λ ws. group_total (first_codes (n - at * S.group) (u ws))) t.part_is in
    p.1 ∙ ap Err (p.2 ∙ same) ∙ total_bad u S.group w (groups S.group n) n words at _ _ t.below none c.loop-group.invariant
    ∙ ap list_total (rest_none u S.group w (groups S.group n) n words)

pub loop-group-preserved : goal.loop-group-preserved
loop-group-preserved g c =
    let F : Facts = (g.K.Kernel.means c.args.kernel.now).facts in
    let S : Shape = F.shape in
    let side = c.args.side in
    let u = g.K.Kernel.unpacked S side in
    let n : ℕ = c.args.count in
    let words = c.args.words.now in
    let at : ℕ = length c.loop-group.yielded in
    let w : ℕ = words_on S side in
    let size = c.words.ensures ∙ ap (λ (f : Facts). words_on f.shape c.args.side) c.facts.ensures in
    let t = chunk_turn c.args.words.now w (groups S.group n) (words_some F c.args.side) c.requires.exact c.loop-group.yielded c.into_iter-group-iterator.result c.loop-group.group-iterator c.next.new.self (cc) (cc) (cc) c.loop-group.yielded_by c.in-Some.group c.in-Some.part c.in-Some.ensures.steps in
    let fits : SFits w64 c.in_ok-more.more = search rules in
    let some : Some c.in_ok-more.more ≡ group_total (first_codes (n - at * S.group) (u (group_words w words at))) =
    sym c.in_ok-more.ensures.ok_part ∙ c.group_sum.ensures ∙ ap (λ (f : Facts). group_total (first_codes (n - c.in-Some.group * f.shape.group) (u c.in-Some.part.now))) c.facts.ensures
    ∙ ap (λ i. group_total (first_codes (n - i * S.group) (u c.in-Some.part.now))) t.at_is ∙ ap (λ ws. group_total (first_codes (n - at * S.group) (u ws))) t.part_is in
    total_more u S.group w (groups S.group n) n words at _ _ _ _ c.in_ok-more.more (length_push c.loop-group.yielded (c.in-Some.group, c.in-Some.part)) t.below some (wrapping_add_onto w64 _ c.in_ok-more.more c.loop-group.auto.sum.fits fits) c.loop-group.invariant

pub returns : goal.returns
returns g c =
    let F : Facts = (g.K.Kernel.means c.args.kernel.now).facts in
    let S : Shape = F.shape in
    let side = c.args.side in
    let u = g.K.Kernel.unpacked S side in
    let n : ℕ = c.args.count in
    let words = c.args.words.now in
    let w : ℕ = words_on S side in
    let size = c.words.ensures ∙ ap (λ (f : Facts). words_on f.shape c.args.side) c.facts.ensures in
    let e = chunk_end c.args.words.now w (groups S.group n) (words_some F c.args.side) c.requires.exact c.loop-group.yielded c.into_iter-group-iterator.result c.loop-group.group-iterator c.next.new.self (cc) (cc) (cc) c.loop-group.yielded_by c.in-None.ensures.steps in
    total_all u S.group w (groups S.group n) n words (length c.loop-group.yielded) _ _ (omega (arith, e)) (to_z-Fits w64 _ c.loop-group.auto.sum) c.loop-group.invariant
    ∙ ap list_total (rest_none u S.group w (groups S.group n) n words)
