use Rattle.std.proofs.Common.{length, ◌∙◌, arith}
use Rattle.kernels.proofs.ListSizes.{few_words}
use Rattle.planes.specs.Packings.{within_bytes, packed_filled}
use Rattle.planes.proofs.planes.PlanesKernel.pack_group.Goals as goal

pub write_planes-requires : goal.write_planes-requires
write_planes-requires c =
    let k = c.args.self.now in
    let allowed = c.in_ok-ask_group.ensures.yes in
    let few = few_words k.facts c.args.side (length c.args.words.now) allowed.words_are in
    record {
      words = few;
      count = omega (arith, allowed.count, k.shape_rule.2);
      within = within_bytes k.facts.shape k.shape_rule c.args.side (length c.args.words.now) allowed.words_are few c.args.codes.now allowed.within;
    }

pub returns : goal.returns
returns c =
    let k = c.args.self.now in
    let asked = c.in_ok-ask_group.ensures in
    record {
      answer = asked.answer;
      after = c.write_planes.ensures ∙ packed_filled k.facts.shape c.args.side c.args.codes.now (length c.args.words.now) asked.yes.words_are;
    }
