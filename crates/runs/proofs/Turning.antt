-- One call of a run leads from each point where it stands to the next.
use Rattle.std.proofs.Common.{◌≡◌, ℕ, List, [], ℤ, Ok, Err, sym, refl, ap, subst, Bor}
use Rattle.codes.specs.declared.facts.Facts.{Facts}
use Rattle.codes.specs.declared.shape.Shape.{Shape}
use Rattle.kernels.specs.Groups.{Unpacking}
use Rattle.kernels.specs.Meanings.{Meaning}
use Rattle.runs.specs.declared.refusal.ReadRefusal.{ReadRefusal}
use Rattle.runs.specs.declared.run.OpenRun.{OpenRun}
use Rattle.runs.specs.declared.run.SettledRun.{SettledRun}
use Rattle.runs.specs.declared.replay.Run.{Run}
use Rattle.runs.specs.declared.replay.Run.TheVariants.{Open, Settled}
use Rattle.runs.specs.declared.calls.Call.{Call}
use Rattle.runs.specs.declared.calls.Call.TheVariants as call
use Rattle.runs.specs.declared.calls.Answer.{Answer}
use Rattle.runs.specs.declared.calls.Answer.TheVariants as answer
use Rattle.runs.specs.Stories.{Story}
use Rattle.runs.specs.Feeds.{feed_answer}
use Rattle.runs.specs.Tells.{Tells, TellsSettled}
use Rattle.runs.specs.Calls.{Feeds, Settles, Reads}
use Rattle.runs.specs.Law.{allowed, Turns}

module _ {K : Type 0} (means : K → Meaning) (unpacked : Shape → Unpacking) where
  abbrev f : OpenRun K → Facts
  f r = (means r.kernel).facts

  pub turned_fed : (r q : OpenRun K) (c : Call) (n : ℕ) (weights activations : Bor (List ℕ)) → c ≡ call.Feed n weights activations
      → Feeds (unpacked (means r.kernel).facts.shape) n weights.now activations.now (Ok tt) (means r.kernel) r.kept (means q.kernel) q.kept
      → Turns means unpacked (Open r) c answer.Fed (Open q)
  turned_fed r q c n weights activations e h =
      subst (λ (d : Call). Turns means unpacked (Open r) d answer.Fed (Open q)) (sym e) (
        h.facts,
        λ p at. (
          (ap (λ b. allowed b (call.Feed n weights activations)) at.0, subst (λ (k : ℕ). feed_answer (unpacked (f r).shape) (f r) k n weights.now activations.now ≡ Ok tt) at.1.accepted (sym h.answer)),
          (refl, h.story p.story at.1),
        ),
      )

  pub turned_settled : (r : OpenRun K) (q : SettledRun K) (c : Call) → c ≡ call.Settle
      → Settles (means r.kernel) r.kept (means q.kernel) q.kept → Turns means unpacked (Open r) c answer.Settled (Settled q)
  turned_settled r q c e h = (h.facts, λ p at. ((at.0, e), (refl, h.story p.story at.1)))

  pub turned_read : (r : SettledRun K) (c : Call) (row : ℕ) (sum written : ℤ) (steps drains : ℕ) → written ≡ sum → c ≡ call.Read row
      → Reads (means r.kernel) r.kept row (Ok (sum, steps, drains)) → Turns means unpacked (Settled r) c (answer.Sum written steps drains) (Settled r)
  turned_read r c row sum written steps drains same e reads =
      subst (λ (z : ℤ). Turns means unpacked (Settled r) c (answer.Sum z steps drains) (Settled r)) (sym same)
      (subst (λ (d : Call). Turns means unpacked (Settled r) d (answer.Sum sum steps drains) (Settled r)) (sym e) (refl, λ p at. ((ap (λ b. allowed b (call.Read row)) at.0, reads p.story at.1), at)))

  pub turned_unread : (r : SettledRun K) (c : Call) (row : ℕ) (e : ReadRefusal) → c ≡ call.Read row → Reads (means r.kernel) r.kept row (Err e)
      → Turns means unpacked (Settled r) c (answer.ReadRefused e) (Settled r)
  turned_unread r c row e is reads =
      subst (λ (d : Call). Turns means unpacked (Settled r) d (answer.ReadRefused e) (Settled r)) (sym is)
      (refl, λ p at. ((ap (λ b. allowed b (call.Read row)) at.0, reads p.story at.1), at))

  pub turned_cleared : (r : SettledRun K) (q : OpenRun K) (c : Call) → c ≡ call.Clear → q.kernel ≡ r.kernel
      → ((s : Story) → TellsSettled (means r.kernel) r.kept s → Tells (means q.kernel) q.kept []) → Turns means unpacked (Settled r) c answer.Cleared (Open q)
  turned_cleared r q c e same story =
      (ap (λ (k : K). (means k).facts) same, λ p at. ((at.0, e), (refl, story p.story at.1)))

  pub turned_as : (r r' q : Run K) (c : Call) (a : Answer) → r ≡ r' → Turns means unpacked r' c a q → Turns means unpacked r c a q
  turned_as r r' q c a e h = subst (λ (x : Run K). Turns means unpacked x c a q) (sym e) h
