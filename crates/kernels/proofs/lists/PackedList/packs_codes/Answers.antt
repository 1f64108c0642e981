-- Where the first place is not read, and where the places of the fill are asked.
use Rattle.std.proofs.Common.{length, is_ok, sym, ap, ◌∙◌}
use Rattle.codes.specs.declared.facts.Facts.{Facts}
use Rattle.kernels.proofs.GroupReads.{packing_length, none_read, some_read, fill_asked}
use Rattle.kernels.proofs.lists.PackedList.packs_codes.Goals as goal

pub returns-then-is_ok : goal.returns-then-is_ok
returns-then-is_ok g c =
    let k = c.args.self.now.kernel.now in
    let F : Facts = (g.K.Kernel.means k).facts in
    let side = c.args.self.now.side in
    let words = c.args.words.now in
    let u = g.K.Kernel.unpacked F.shape in
    let unpacks = g.met.K.Kernel.unpacks k in
    c.fill_reads_zero.ensures
    ∙ fill_asked F.shape side (length words) (u side words) c.args.used (some_read F.shape side (length words) (u side words) 0 (c.if-is_ok.ensures.value ∙ ap is_ok c.read_code.ensures))
    (λ codes is. ((unpacks side words codes is).0.full, packing_length (g.K.Kernel.packed F.shape) u F.shape side (g.met.K.Kernel.packs k) unpacks words codes is))

pub returns-else-is_ok : goal.returns-else-is_ok
returns-else-is_ok g c =
    let k = c.args.self.now.kernel.now in
    let F : Facts = (g.K.Kernel.means k).facts in
    let side = c.args.self.now.side in
    let words = c.args.words.now in
    let u = g.K.Kernel.unpacked F.shape in
    c.if-is_ok.false
    ∙ none_read c.read_code.result F.shape side (length words) (u side words) c.args.used c.read_code.ensures (sym c.if-is_ok.ensures.negation) F.shape_rules.2.0
    (packing_length (g.K.Kernel.packed F.shape) u F.shape side (g.met.K.Kernel.packs k) (g.met.K.Kernel.unpacks k) words)
