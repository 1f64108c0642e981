use Rattle.split.specs.Bytes.{code_at}
use Rattle.split.specs.Lanes.{product_at}
use Rattle.split.specs.ByteCodes.{Product, product_is, code_in}
use Rattle.split.proofs.split_row.product_at.Goals as goal

product : (c : goal.After-code_at-2)
    → Product c.code_at.result c.code_at-2.result (code_at c.args.place c.args.weights) (code_at c.args.place c.args.activations)
product c =
    product_is c.code_at.result c.code_at-2.result _ _ (record { sfits = c.code_at.type_inv }) (record { sfits = c.code_at-2.type_inv }) c.code_at.ensures c.code_at-2.ensures
    (code_in c.args.place c.args.weights) (code_in c.args.place c.args.activations)

pub overflow_mul-result : goal.overflow_mul-result
overflow_mul-result c = (product c).fits

pub returns : goal.returns
unfolding product_at
returns c = (product c).is
