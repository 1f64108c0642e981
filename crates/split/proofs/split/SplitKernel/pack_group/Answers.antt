use Rattle.split.specs.Packings.{all_bytes, packed_group}
use Rattle.split.proofs.split.SplitKernel.pack_group.Goals as goal

pub word_of-requires : goal.word_of-requires
word_of-requires c = all_bytes c.args.self.now.facts.shape c.args.self.now.shape_rule c.args.side c.args.codes.now c.in_ok-ask_group.ensures.yes.within

pub returns : goal.returns
returns c =
    let asked = c.in_ok-ask_group.ensures in
    record {
      answer = asked.answer;
      after = packed_group c.args.self.now.facts.shape c.args.self.now.shape_rule c.args.side c.args.codes.now c.args.words.now c.word_of.result asked.yes.words_are c.word_of.ensures;
    }
