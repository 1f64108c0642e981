use Rattle.std.proofs.Common.{◌∙◌, w16}
use Rattle.std.proofs.lemmas.Int.{to_z-of_z}
use Rattle.split.specs.Packings.{code_read}
use Rattle.split.proofs.split.SplitKernel.read_code.Goals as goal

pub returns : goal.returns
returns c =
    let code = to_z-of_z w16 c.code_at.result (record { sfits = c.code_at.type_inv }) ∙ c.code_at.ensures in
    code_read c.args.self.now.facts.shape c.args.self.now.shape_rule c.args.side c.args.words.now c.args.place c.is_packing-packing.result _
    c.in_ok-ask_code.ensures.yes c.is_packing-packing.ensures code
