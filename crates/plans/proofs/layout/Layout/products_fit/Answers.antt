use Rattle.plans.proofs.SumBound.{products_answer}
use Rattle.plans.proofs.layout.Layout.products_fit.Goals as goal

pub returns-in-Split : goal.returns-in-Split
returns-in-Split c = products_answer c.args.self.now.kind c.args.self.now.request c.in-Split.is
