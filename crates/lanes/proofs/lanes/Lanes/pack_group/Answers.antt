use Rattle.std.proofs.Common.{ℕ, ap, ◌∙◌, arith}
use Rattle.kernels.specs.Groups.{filled}
use Rattle.lanes.specs.Words.{packed_lanes}
use Rattle.lanes.specs.Packings.{within_size, packed_group}
use Rattle.lanes.proofs.lanes.Lanes.pack_group.Goals as goal

pub word-requires : goal.word-requires
word-requires c =
    let l = c.args.self.now in
    let asked = c.in_ok-ask_group.ensures.yes in
    record {
      count = omega (arith, asked.count, l.shape_rule.2);
      within = within_size l.facts.shape l.depth l.weight_size l.activation_size l.shape_rule c.args.side c.args.codes.now asked.within;
    }

pub returns : goal.returns
returns c =
    let l = c.args.self.now in
    let shape = l.facts.shape in
    let asked = c.in_ok-ask_group.ensures in
    record {
      answer = asked.answer;
      after = λ width e. packed_group shape l.width l.depth l.weight_size l.activation_size l.shape_rule c.args.side c.args.codes.now c.args.words.now c.word.result
          asked.yes.words_are c.word.ensures
          ∙ ap (λ (w : ℕ). packed_lanes w c.args.self.now.facts.shape c.args.side (filled c.args.self.now.facts.shape.group c.args.codes.now)) e;
    }
