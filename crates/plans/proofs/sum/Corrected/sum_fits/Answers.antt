use Rattle.std.proofs.Common.{ℕ, ◌*◌, ap}
use Rattle.plans.proofs.SumBound.{sum_answer, sum_answer_up}
use Rattle.plans.proofs.sum.Corrected.sum_fits.Goals as goal

pub returns-then-most-lt2147483648 : goal.returns-then-most-lt2147483648
returns-then-most-lt2147483648 c =
    let n = c.args.longest in
    let e = ap (λ (m : ℕ). n * m) c.extremes-rise.ensures.rise in
    let f = ap (λ (m : ℕ). n * m) c.extremes-rise.ensures.fall in
    sum_answer c.args.self.now.shape c.args.self.now.zeros n _ _ c.args.self.now.zeros_rule e f c.if-most-lt2147483648.true

pub returns-else-most-lt2147483648 : goal.returns-else-most-lt2147483648
returns-else-most-lt2147483648 c =
    let n = c.args.longest in
    let e = ap (λ (m : ℕ). n * m) c.extremes-rise.ensures.rise in
    sum_answer_up c.args.self.now.shape c.args.self.now.zeros n _ c.args.self.now.zeros_rule e c.if-most-lt2147483648.false
