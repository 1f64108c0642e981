-- A feed that is refused, and one that is taken in.
use Rattle.std.proofs.Common.{sym, refl, ap, Bor, List, ℕ}
use Rattle.std.proofs.lemmas.Result.{err_from_is_err_and}
use Rattle.codes.specs.declared.facts.Facts.{Facts}
use Rattle.runs.proofs.Columns.{feed_packs, feed_refused}
use Rattle.runs.proofs.Taking.{takes_given}
use Rattle.runs.proofs.run.OpenRun.feed.Goals as goal

pub returns-in_err-columns : goal.returns-in_err-columns
returns-in_err-columns g c =
    let p = err_from_is_err_and c.from_residual.result c.from_residual.ensures.1 in
    let checked = c.in_err-columns.ensures.checked in
    rw (p.1, p.2) (record {
      refused = refl;
      after = record { facts = refl; answer = sym checked; story = tt };
      packs = let k = c.args.self.now.kernel in
          let F : Facts = (g.K.Kernel.means k).facts in
          feed_refused (g.K.Kernel.packed F.shape) (g.K.Kernel.unpacked F.shape) F (g.met.K.Kernel.packs k) (g.met.K.Kernel.unpacks k) c.args.self.now.kept.accepted c.args.count c.args.weights.now c.args.activations.now _ checked;
    })

pub returns : goal.returns
returns g c =
    let checked = c.in_ok-columns.ensures.checked in
    let given = c.in_ok-columns.ensures.given in
    record {
      refused = tt;
      after = record {
        facts = c.take_in.ensures.facts;
        answer = sym checked.0;
        story = takes_given _ c.in_ok-columns.columns c.args.count c.args.weights.now c.args.activations.now _ _ _ _ given.0 (ap (λ (b : Bor (List ℕ)). b.now) given.1) (ap (λ (b : Bor (List ℕ)). b.now) given.2) c.take_in.ensures.after checked;
      };
      packs = let k = c.args.self.now.kernel in
          let F : Facts = (g.K.Kernel.means k).facts in
          feed_packs (g.K.Kernel.packed F.shape) (g.K.Kernel.unpacked F.shape) F (g.met.K.Kernel.packs k) (g.met.K.Kernel.unpacks k) c.args.self.now.kept.accepted c.args.count c.args.weights.now c.args.activations.now checked.0;
    }
