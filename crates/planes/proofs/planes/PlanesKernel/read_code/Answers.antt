use Rattle.std.proofs.Common.{w16, SFits, rules}
use Rattle.std.proofs.lemmas.Int.{to_z-of_z}
use Rattle.kernels.proofs.TestedWords.{code_refused}
use Rattle.planes.proofs.Reading.{code_read}
use Rattle.planes.proofs.planes.PlanesKernel.read_code.Goals as goal

pub returns-in_err-ask_code : goal.returns-in_err-ask_code
returns-in_err-ask_code c = search (rules, code_refused)

pub returns : goal.returns
returns c =
    let fits : SFits w16 c.code_at.result = search rules in
    simp to_z-of_z
    (code_read c.args.self.now.facts.shape c.args.side c.args.words.now c.args.place c.code_at.result c.in_ok-ask_code.ensures.yes c.type_inv.words c.code_at.ensures)
