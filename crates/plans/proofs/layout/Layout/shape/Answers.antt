use Rattle.std.proofs.Common.{◌≡◌, sym, subst}
use Rattle.codes.specs.declared.shape.Shape.{Shape}
use Rattle.codes.specs.Shapes.{ShapeRules}
use Rattle.plans.specs.Kinds.{shape_of}
use Rattle.plans.proofs.Sizes.{shape_rules_hold}
use Rattle.plans.proofs.layout.Layout.shape.Goals as goal

pub returns : goal.returns
returns c =
    let e : ◌≡◌ {A = Shape} _ (shape_of c.args.self.now.kind c.args.self.now.request) =
    rw (c.ends.ensures, c.ends-2.ensures, c.group_size.ensures, c.group_words.ensures, c.group_words-2.ensures) in
    record { value = e; rules = subst ShapeRules (sym e) (shape_rules_hold c.args.self.now.kind c.args.self.now.request c.args.self.now.sizes c.args.self.now.depth) }
