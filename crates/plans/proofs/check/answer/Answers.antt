use Rattle.std.proofs.Common.{◌≤◌, refl, subst, arith}
use Rattle.codes.specs.declared.shape.Shape.{Shape}
use Rattle.codes.specs.Shapes.{ZerosWithin, SumOverflows}
use Rattle.plans.specs.Questions.{steps_asked}
use Rattle.plans.specs.Answers.{Accepted, with_interval}
use Rattle.plans.proofs.Accepting.{all_yes, longest, accepted_rules}
use Rattle.plans.proofs.check.answer.Goals as goal

pub returns : goal.returns
returns c =
    let k = c.args.kind in
    let r = c.args.request.now in
    let most = c.most_steps-most.result in
    let interval = c.interval_taken-interval.result in
    let s : steps_asked r ≤ most = omega (arith, c.max.ensures) in
    let same = c.shape-shape.ensures.value in
    let zeros = subst (λ (t : Shape). ZerosWithin t r.zeros) same c.if-not-zeros_fit.ensures in
    let sum = subst (λ (t : Shape). SumOverflows t r.zeros r.longest → ⊥) same c.if-not-sum_fits.ensures in
    let a : Accepted k r (with_interval r interval) = record {
      yes = all_yes k r c.if-not-takes_sizes.ensures c.if-not-takes_depth.ensures c.if-not-counts_fit.ensures zeros
          c.if-not-products_fit.ensures (c.most_steps-most.ensures.holds (steps_asked r) s) sum;
      rest = refl;
      asked = c.interval_taken-interval.ensures.asked;
      left = λ z. longest k r most interval (c.interval_taken-interval.ensures.left z) (omega arith) c.most_steps-most.ensures.holds c.most_steps-most.ensures.breaks;
    } in
    let rules = accepted_rules k r (with_interval r interval) a in
    record { answer = a; ranges = rules.ranges; codes = rules.codes; lane = rules.lane }
