-- A new run stands at its start.
use Rattle.std.proofs.Common.{[], refl, ◌∙◌, subst}
use Rattle.codes.specs.declared.facts.Facts.{Facts}
use Rattle.runs.specs.Law.{open_at, Lawful}
use Rattle.runs.proofs.replay.replay.Goals as goal

pub returns : goal.returns
returns g c =
    record {
      law = let e = c.open.ensures.facts in
          let L = c.replay_on.ensures.law in (
            L.0 ∙ e,
            subst (λ (f : Facts). Lawful g.K.Kernel.means f (g.K.Kernel.unpacked f.shape) c.args.calls.now c.replay_on.new.answers (open_at []) c.replay_on.result) e (L.1 (open_at []) (refl, c.open.ensures.story)),
          );
      rest = c.replay_on.ensures.rest;
      places = c.replay_on.ensures.places;
    }
