-- A group that packs its codes, the first that does not, and the end.
use Rattle.std.proofs.Common.{◌≡◌, ℕ, ◌-◌, ◌*◌, is_some, sym, ap, ◌∙◌, subst, arith, rules}
use Rattle.codes.specs.declared.facts.Facts.{Facts}
use Rattle.codes.specs.Codes.{groups}
use Rattle.codes.specs.Shapes.{words_on}
use Rattle.kernels.specs.Lists.{first_codes, bad_group, unpacked_list}
use Rattle.kernels.proofs.Chunking.{words_turn, exact_end}
use Rattle.kernels.proofs.UnpackedLists.{rest_from, good_more, good_all, bad_here}
use Rattle.kernels.proofs.lists.PackedList.first_bad.Goals as goal

pub overflow_mul-group : goal.overflow_mul-group
overflow_mul-group g c =
    let list = c.args.self.now in
    let F : Facts = (g.K.Kernel.means list.kernel.now).facts in
    let t = words_turn F c.facts.result list.side list.count list.words.now c.loop-group.group-iterator c.next.new.self (c.in-Some.group, c.in-Some.words) c.facts.ensures list.exact c.loop-group.invariant.2 c.in-Some.ensures.steps in
    let below = t.read_starts in
    search (rules, below)

pub overflow_sub-self : goal.overflow_sub-self
overflow_sub-self g c =
    let list = c.args.self.now in
    let F : Facts = (g.K.Kernel.means list.kernel.now).facts in
    let t = words_turn F c.facts.result list.side list.count list.words.now c.loop-group.group-iterator c.next.new.self (c.in-Some.group, c.in-Some.words) c.facts.ensures list.exact c.loop-group.invariant.2 c.in-Some.ensures.steps in
    omega (arith, t.read_starts)

pub returns-then-not-packs_codes : goal.returns-then-not-packs_codes
returns-then-not-packs_codes g c =
    let list = c.args.self.now in
    let F : Facts = (g.K.Kernel.means list.kernel.now).facts in
    let n = list.count in
    let words = list.words.now in
    let u = g.K.Kernel.unpacked F.shape list.side in
    let width = words_on F.shape list.side in
    let count = groups F.shape.group n in
    let P : ℕ → Type 0 = λ i. bad_group (rest_from u F.shape.group width count n words i) ≡ bad_group (unpacked_list (g.K.Kernel.unpacked F.shape) F.shape list.side n words) in
    let t = words_turn F c.facts.result list.side n words c.loop-group.group-iterator c.next.new.self (c.in-Some.group, c.in-Some.words) c.facts.ensures list.exact c.loop-group.invariant.2 c.in-Some.ensures.steps in
    let asked = c.if-not-packs_codes.ensures
    ∙ ap (λ (f : Facts). is_some (first_codes (n - c.in-Some.group * f.shape.group) (u c.in-Some.words.now))) c.facts.ensures
    ∙ ap (λ ws. is_some (first_codes (n - c.in-Some.group * F.shape.group) (u ws))) t.turn.part_is in
    bad_here u F.shape.group width count n words c.in-Some.group _ t.there asked (subst P (sym t.turn.at) c.loop-group.invariant.3)

pub loop-group-preserved : goal.loop-group-preserved
loop-group-preserved g c =
    let list = c.args.self.now in
    let F : Facts = (g.K.Kernel.means list.kernel.now).facts in
    let n = list.count in
    let words = list.words.now in
    let u = g.K.Kernel.unpacked F.shape list.side in
    let width = words_on F.shape list.side in
    let count = groups F.shape.group n in
    let P : ℕ → Type 0 = λ i. bad_group (rest_from u F.shape.group width count n words i) ≡ bad_group (unpacked_list (g.K.Kernel.unpacked F.shape) F.shape list.side n words) in
    let t = words_turn F c.facts.result list.side n words c.loop-group.group-iterator c.next.new.self (c.in-Some.group, c.in-Some.words) c.facts.ensures list.exact c.loop-group.invariant.2 c.in-Some.ensures.steps in
    let asked = c.if-not-packs_codes.ensures
    ∙ ap (λ (f : Facts). is_some (first_codes (n - c.in-Some.group * f.shape.group) (u c.in-Some.words.now))) c.facts.ensures
    ∙ ap (λ ws. is_some (first_codes (n - c.in-Some.group * F.shape.group) (u ws))) t.turn.part_is in
    let at : P c.in-Some.group = subst P (sym t.turn.at) c.loop-group.invariant.3 in (
      search rules,
      search rules,
      t.turn.on,
      subst P (sym t.turn.next) (good_more u F.shape.group width count n words c.in-Some.group _ t.there asked at),
    )

pub returns : goal.returns
returns g c =
    let list = c.args.self.now in
    let F : Facts = (g.K.Kernel.means list.kernel.now).facts in
    let u = g.K.Kernel.unpacked F.shape list.side in
    let width = words_on F.shape list.side in
    let count = groups F.shape.group list.count in
    good_all u F.shape.group width count list.count list.words.now _ _ (exact_end list.words.now width count c.loop-group.group-iterator c.next.new.self list.exact c.loop-group.invariant.2 c.in-None.ensures.steps) c.loop-group.invariant.3
