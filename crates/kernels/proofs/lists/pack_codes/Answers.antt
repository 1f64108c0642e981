-- What a packing that no question refuses ensures.
use Rattle.std.proofs.Common.{◌≡◌, length, Ok, ap, ◌∙◌, subst}
use Rattle.codes.specs.declared.facts.Facts.{Facts}
use Rattle.codes.specs.Codes.{groups}
use Rattle.kernels.specs.Lists.{words_for, pack_list_answer, unpacked_list}
use Rattle.kernels.proofs.ListSizes.{groups_hold, zero_within}
use Rattle.kernels.proofs.ListLoops.{packed_within}
use Rattle.kernels.proofs.PackedLists.{unpacks_back}
use Rattle.kernels.proofs.lists.pack_codes.Goals as goal

pub returns : goal.returns
returns g c =
    let k = c.args.kernel.now in
    let F : Facts = (g.K.Kernel.means k).facts in
    let side = c.args.side in
    let codes = c.args.codes.now in
    let words = length c.args.words.now in
    let P : Facts → Type 0 = λ f. Ok tt ≡ pack_list_answer f.shape side codes words in
    let answer = subst P c.facts.ensures c.in_ok-may_pack.ensures in
    let within = packed_within 65536 (words_for F.shape side (length codes)) F.shape side codes words answer in
    let after = c.write_groups.ensures within in
    record {
      answer = answer;
      after = after;
      back =
          ap (unpacked_list (g.K.Kernel.unpacked F.shape) F.shape side (length codes)) after
          ∙ unpacks_back (g.K.Kernel.packed F.shape) (g.K.Kernel.unpacked F.shape) F.shape side (g.met.K.Kernel.packs k) (g.met.K.Kernel.unpacks k) (zero_within F.shape side F.shape_rules) 0 (groups F.shape.group (length codes)) codes
          (groups_hold F.shape.group (length codes) F.shape_rules.2.0) within;
    }
