-- One group more, and all of them.
use Rattle.std.proofs.Common.{◌≡◌, ℕ, ◌+◌, ◌-◌, ◌*◌, min, length, take, drop, sym, ap, ◌∙◌, subst, arith, rules}
use Rattle.std.proofs.lemmas.List.{length-take, length-drop}
use Rattle.std.specs.Iterator.Adapters.{enumerate_count}
use Rattle.codes.specs.declared.facts.Facts.{Facts}
use Rattle.codes.specs.Codes.{groups}
use Rattle.codes.specs.Shapes.{words_on}
use Rattle.kernels.proofs.ListSizes.{size_of, groups_hold}
use Rattle.kernels.proofs.Chunking.{words_turn, exact_end}
use Rattle.kernels.proofs.UnpackedLists.{ReadTo, read_none, read_turn, read_all}
use Rattle.kernels.proofs.lists.PackedList.read.Goals as goal

pub loop-group-init : goal.loop-group-init
loop-group-init g c = (
  search rules,
  search rules,
  search rules,
  λ all h.
      let list = c.args.self.now in
      let F : Facts = (g.K.Kernel.means list.kernel.now).facts in
      let u = g.K.Kernel.unpacked F.shape list.side in
      let width = words_on F.shape list.side in
      let count = groups F.shape.group list.count in
      let start : enumerate_count c.into_iter-group-iterator.result ≡ 0 = search rules in
      subst (λ (i : ℕ). ReadTo u F.shape.group width count list.count list.words.now i c.args.codes.now all) (sym start) (read_none u F.shape.group width count list.count list.words.now c.args.codes.now all h),
)

pub overflow_mul-start : goal.overflow_mul-start
overflow_mul-start g c =
    let list = c.args.self.now in
    let F : Facts = (g.K.Kernel.means list.kernel.now).facts in
    let t = words_turn F c.facts.result list.side list.count list.words.now c.loop-group.group-iterator c.next.new.self (c.in-Some.group, c.in-Some.words) c.facts.ensures list.exact c.loop-group.invariant.2 c.in-Some.ensures.steps in
    let below = t.read_starts in
    let long = c.loop-group.auto.codes ∙ c.requires in
    search (rules, below, long)

pub overflow_add-start : goal.overflow_add-start
overflow_add-start g c =
    let list = c.args.self.now in
    let F : Facts = (g.K.Kernel.means list.kernel.now).facts in
    let t = words_turn F c.facts.result list.side list.count list.words.now c.loop-group.group-iterator c.next.new.self (c.in-Some.group, c.in-Some.words) c.facts.ensures list.exact c.loop-group.invariant.2 c.in-Some.ensures.steps in
    let below = t.read_starts in
    let long = c.loop-group.auto.codes ∙ c.requires in
    let small = c.facts.result.shape_rules.2.1 in
    search (rules, below, long, small)

pub offset_bounds-codes-start : goal.offset_bounds-codes-start
offset_bounds-codes-start g c =
    let list = c.args.self.now in
    let F : Facts = (g.K.Kernel.means list.kernel.now).facts in
    let t = words_turn F c.facts.result list.side list.count list.words.now c.loop-group.group-iterator c.next.new.self (c.in-Some.group, c.in-Some.words) c.facts.ensures list.exact c.loop-group.invariant.2 c.in-Some.ensures.steps in
    let below = t.read_starts in
    let long = c.loop-group.auto.codes ∙ c.requires in
    search (rules, below, long)

pub slice_bounds-read_group-count : goal.slice_bounds-read_group-count
slice_bounds-read_group-count g c =
    let list = c.args.self.now in
    let F : Facts = (g.K.Kernel.means list.kernel.now).facts in
    let t = words_turn F c.facts.result list.side list.count list.words.now c.loop-group.group-iterator c.next.new.self (c.in-Some.group, c.in-Some.words) c.facts.ensures list.exact c.loop-group.invariant.2 c.in-Some.ensures.steps in
    let below = t.read_starts in
    omega (arith, below, c.loop-group.auto.codes, c.requires, c.min-end.ensures)

pub slice_bounds-read_group-start : goal.slice_bounds-read_group-start
slice_bounds-read_group-start g c =
    let list = c.args.self.now in
    let F : Facts = (g.K.Kernel.means list.kernel.now).facts in
    let t = words_turn F c.facts.result list.side list.count list.words.now c.loop-group.group-iterator c.next.new.self (c.in-Some.group, c.in-Some.words) c.facts.ensures list.exact c.loop-group.invariant.2 c.in-Some.ensures.steps in
    let below = t.read_starts in
    omega (arith, below, c.loop-group.auto.codes, c.requires, c.min-end.ensures)

pub loop-group-preserved : goal.loop-group-preserved
loop-group-preserved g c =
    let list = c.args.self.now in
    let F : Facts = (g.K.Kernel.means list.kernel.now).facts in
    let f : Facts = c.facts.result in
    let side = list.side in
    let n = list.count in
    let words = list.words.now in
    let u = g.K.Kernel.unpacked F.shape side in
    let width = words_on F.shape side in
    let at = c.in-Some.group in
    let m : f.shape.group ≡ F.shape.group = size_of f F c.facts.ensures in
    let t = words_turn F f side n words c.loop-group.group-iterator c.next.new.self (at, c.in-Some.words) c.facts.ensures list.exact c.loop-group.invariant.2 c.in-Some.ensures.steps in
    let long : length c.loop-group.codes ≡ n = c.loop-group.auto.codes ∙ c.requires in
    let end : c.min-end.result ≡ min n (at * f.shape.group + f.shape.group) = omega (arith, c.min-end.ensures, long) in
    let short : length (take (c.min-end.result - at * f.shape.group) (drop (at * f.shape.group) c.loop-group.codes)) ≡ min n (at * f.shape.group + f.shape.group) - at * f.shape.group = simp (length-take, length-drop) (omega (arith, end, long)) in (
      search rules,
      search rules,
      t.turn.on,
      λ all h.
          read_turn u F.shape.group width (groups F.shape.group n) n words at _ _ f.shape.group _ c.loop-group.codes c.read_group.new.codes all m t.turn.at t.turn.next t.there t.starts long (c.read_group.auto.codes ∙ short)
          (λ group e. (g.met.K.Kernel.unpacks list.kernel.now side (take width (drop (at * width) words)) group e).0.full)
          (λ group e. c.read_group.ensures group (ap u t.turn.part_is ∙ e) (omega (arith, short, m)) ∙ ap (λ i. take i group) short)
          (c.loop-group.invariant.3 all h),
    )

pub returns : goal.returns
returns g c = λ all h.
    let list = c.args.self.now in
    let F : Facts = (g.K.Kernel.means list.kernel.now).facts in
    let width = words_on F.shape list.side in
    let count = groups F.shape.group list.count in
    read_all (g.K.Kernel.unpacked F.shape list.side) F.shape.group width count list.count list.words.now _ c.loop-group.codes all
    (exact_end list.words.now width count c.loop-group.group-iterator c.next.new.self list.exact c.loop-group.invariant.2 c.in-None.ensures.steps)
    (groups_hold F.shape.group list.count F.shape_rules.2.0) (c.loop-group.auto.codes ∙ c.requires) (c.loop-group.invariant.3 all h)
