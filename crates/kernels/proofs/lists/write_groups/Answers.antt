-- One group more, and all of them.
use Rattle.std.proofs.Common.{◌≡◌, ◌+◌, ◌-◌, ◌*◌, min, List, length, take, drop, ℤ, sym, ap, ◌∙◌, subst, arith, rules}
use Rattle.std.specs.List.{AllByRecursion}
use Rattle.std.proofs.ByRecursion.{All-take, All-drop}
use Rattle.std.proofs.lemmas.List.{length-take, length-drop}
use Rattle.codes.specs.declared.facts.Facts.{Facts}
use Rattle.codes.specs.Codes.{Within, groups}
use Rattle.codes.specs.Shapes.{ends_on, words_on}
use Rattle.kernels.specs.Groups.{filled}
use Rattle.kernels.proofs.ListSizes.{width_of}
use Rattle.kernels.proofs.Chunking.{codes_turn, codes_end}
use Rattle.kernels.proofs.ListLoops.{group_written, write_turn, write_all}
use Rattle.kernels.proofs.lists.write_groups.Goals as goal

pub overflow_mul-start : goal.overflow_mul-start
overflow_mul-start g c =
    let F : Facts = (g.K.Kernel.means c.args.kernel.now).facts in
    let t = codes_turn F c.facts.result c.args.side c.args.codes.now c.loop-group.group-iterator c.next.new.self (c.in-Some.group, c.in-Some.part) c.words-width.result (length c.loop-group.words)
    c.facts.ensures (c.loop-group.auto.words ∙ c.requires) c.words-width.ensures c.loop-group.invariant.2 c.in-Some.ensures.steps in
    let ends = t.ends in
    search (rules, ends)

pub overflow_add-start : goal.overflow_add-start
overflow_add-start g c =
    let F : Facts = (g.K.Kernel.means c.args.kernel.now).facts in
    let t = codes_turn F c.facts.result c.args.side c.args.codes.now c.loop-group.group-iterator c.next.new.self (c.in-Some.group, c.in-Some.part) c.words-width.result (length c.loop-group.words)
    c.facts.ensures (c.loop-group.auto.words ∙ c.requires) c.words-width.ensures c.loop-group.invariant.2 c.in-Some.ensures.steps in
    let ends = t.ends in
    search (rules, ends)

pub offset_bounds-words-start : goal.offset_bounds-words-start
offset_bounds-words-start g c =
    let F : Facts = (g.K.Kernel.means c.args.kernel.now).facts in
    let t = codes_turn F c.facts.result c.args.side c.args.codes.now c.loop-group.group-iterator c.next.new.self (c.in-Some.group, c.in-Some.part) c.words-width.result (length c.loop-group.words)
    c.facts.ensures (c.loop-group.auto.words ∙ c.requires) c.words-width.ensures c.loop-group.invariant.2 c.in-Some.ensures.steps in
    let ends = t.ends in
    search (rules, ends)

pub slice_bounds-pack_group-end : goal.slice_bounds-pack_group-end
slice_bounds-pack_group-end g c =
    let F : Facts = (g.K.Kernel.means c.args.kernel.now).facts in
    let t = codes_turn F c.facts.result c.args.side c.args.codes.now c.loop-group.group-iterator c.next.new.self (c.in-Some.group, c.in-Some.part) c.words-width.result (length c.loop-group.words)
    c.facts.ensures (c.loop-group.auto.words ∙ c.requires) c.words-width.ensures c.loop-group.invariant.2 c.in-Some.ensures.steps in
    omega (arith, t.ends)

pub loop-group-preserved : goal.loop-group-preserved
loop-group-preserved g c =
    let F : Facts = (g.K.Kernel.means c.args.kernel.now).facts in
    let side = c.args.side in
    let codes = c.args.codes.now in
    let width = c.words-width.result in
    let size = F.shape.group in
    let at = c.in-Some.group in
    let count = groups F.shape.group (length codes) in
    let p = g.K.Kernel.packed F.shape side in
    let w : c.words-width.result ≡ words_on F.shape c.args.side = width_of c.facts.result F side width c.words-width.ensures c.facts.ensures in
    let t = codes_turn F c.facts.result side codes c.loop-group.group-iterator c.next.new.self (c.in-Some.group, c.in-Some.part) width (length c.loop-group.words)
    c.facts.ensures (c.loop-group.auto.words ∙ c.requires) c.words-width.ensures c.loop-group.invariant.2 c.in-Some.ensures.steps in
    let short : length c.in-Some.part.now ≡ min size (length codes - at * size) = ap length t.turn.part_is ∙ length-take size (drop (at * size) codes) ∙ ap (min size) (length-drop (at * size) codes) in
    let long : length (take (at * width + width - at * width) (drop (at * width) c.loop-group.words)) ≡ width = simp (length-take, length-drop) (omega (arith, t.ends)) in (
      search rules,
      search rules,
      t.turn.on,
      λ a.
          let within = subst (λ (xs : List ℤ). AllByRecursion (Within (ends_on F.shape side)) xs) (sym t.turn.part_is) (All-take (Within (ends_on F.shape side)) _ _ (All-drop (Within (ends_on F.shape side)) (at * size) codes a)) in
          let written : c.pack_group.new.words ≡ p (filled size c.in-Some.part.now) =
          group_written F.shape side c.in-Some.part.now _ c.pack_group.result c.pack_group.new.words _ _ (omega (arith, short, t.starts, F.shape_rules.2.0)) (omega (arith, short)) (long ∙ w) within c.pack_group.ensures.answer c.pack_group.ensures.after in
          write_turn p size width (words_on F.shape side) codes c.loop-group.words c.pack_group.new.words _ at _ _ count _ w t.turn.at t.turn.next t.there (omega (arith, t.ends)) (c.pack_group.auto.words ∙ long)
          (written ∙ ap (λ xs. p (filled size xs)) t.turn.part_is) (c.loop-group.invariant.3 a),
    )

pub returns : goal.returns
returns g c = λ a.
    let F : Facts = (g.K.Kernel.means c.args.kernel.now).facts in
    let codes = c.args.codes.now in
    write_all (g.K.Kernel.packed F.shape c.args.side) F.shape.group (words_on F.shape c.args.side) codes c.loop-group.words _ _ (groups F.shape.group (length codes))
    (codes_end F codes c.loop-group.group-iterator c.next.new.self c.loop-group.invariant.2 c.in-None.ensures.steps) (c.loop-group.auto.words ∙ c.requires) (c.loop-group.invariant.3 a)
