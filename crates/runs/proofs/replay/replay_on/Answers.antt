-- A call that is made, and one that has no place for its answer.
use Rattle.std.proofs.Common.{◌≡◌, ℕ, length, drop, refl, ◌∙◌, subst, arith}
use Rattle.runs.proofs.Walking.{walked_more, walked_past, walked_all, rest_next, rest_written}
use Rattle.runs.proofs.replay.replay_on.Goals as goal
use Rattle.runs.proofs.replay.replay_on.Goals.{then-place-answers, else-place-answers}

pub loop-place-init : goal.loop-place-init
loop-place-init g c = (refl, (refl, λ p at. record { right = tt; stands = at }))

pub loop-place-preserved : goal.loop-place-preserved
loop-place-preserved g c =
    let I = c.loop-place.invariant in
    let i : ℕ = c.loop-place.place in
    elim c.if-place-answers.branch [
      | then-place-answers w ↦ simp (w.run-is, w.answers-is) (
        rest_written c.loop-place.answers c.args.answers.now i w.turn-next.result.1 I.0,
        let J = I.1 in
            let T = w.turn-next.ensures in (
              T.0 ∙ J.0,
              λ p at.
                  walked_more g.K.Kernel.means g.K.Kernel.unpacked _ c.args.calls.now p i c.loop-place.run w.turn-next.result.0 c.loop-place.answers _ w.turn-next.result.1 c.loop-place-test.true w.if-place-answers.true
                  J.0 w.turn-next.ensures (J.1 p at),
            ),
      )
      | else-place-answers w ↦ simp (w.run-is, w.answers-is) (
        rest_next c.loop-place.answers c.args.answers.now i I.0,
        let J = I.1 in (
          J.0,
          λ p at. walked_past g.K.Kernel.means g.K.Kernel.unpacked _ c.args.calls.now p i c.loop-place.run c.loop-place.answers c.loop-place-test.true w.if-place-answers.false (J.1 p at),
        ),
      )
    ]

pub returns : goal.returns
returns g c =
    let I = c.loop-place.invariant in
    let all : c.loop-place.place ≡ length c.args.calls.now = omega (arith, c.loop-place-test.false, c.loop-place.auto.place-end) in
    record {
      law = let J = I.1 in
          (J.0, λ p at. walked_all g.K.Kernel.means g.K.Kernel.unpacked _ c.args.calls.now p c.loop-place.place c.loop-place.run c.loop-place.answers c.loop-place-test.false (J.1 p at));
      rest = subst (λ (n : ℕ). drop n c.loop-place.answers ≡ drop n c.args.answers.now) all I.0;
      places = c.loop-place.auto.answers;
    }
