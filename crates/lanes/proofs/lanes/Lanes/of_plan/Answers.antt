use Rattle.std.proofs.Common.{refl}
use Rattle.lanes.proofs.Planning.{ready_as}
use Rattle.lanes.proofs.lanes.Lanes.of_plan.Goals as goal

pub mask_of-requires : goal.mask_of-requires
mask_of-requires g c =
    let r = ready_as _ c.facts-facts.result (λ _. c.lane_width-width.result) _ c.args.plan.now.numbers c.numbers-numbers.result _ (c.lane_width-width.ensures c.facts-facts.result c.facts-facts.ensures) c.numbers-numbers.ensures refl in
    record { width = r.narrow; depth = r.depth; size = r.kept.laid.weights }

pub mask_of-requires-2 : goal.mask_of-requires-2
mask_of-requires-2 g c =
    let r = ready_as _ c.facts-facts.result (λ _. c.lane_width-width.result) _ c.args.plan.now.numbers c.numbers-numbers.result _ (c.lane_width-width.ensures c.facts-facts.result c.facts-facts.ensures) c.numbers-numbers.ensures refl in
    record { width = r.narrow; depth = r.depth; size = r.kept.laid.activations }

pub invariant_of-result : goal.invariant_of-result
invariant_of-result g c =
    let r = ready_as _ c.facts-facts.result (λ _. c.lane_width-width.result) _ c.args.plan.now.numbers c.numbers-numbers.result _ (c.lane_width-width.ensures c.facts-facts.result c.facts-facts.ensures) c.numbers-numbers.ensures refl in
    record {
      shape_rule = r.kept.shape;
      width_rule = r.narrow;
      depth_rule = r.depth;
      weights_rule = r.kept.laid.weights;
      activations_rule = r.kept.laid.activations;
      weight_mask_rule = c.mask_of.ensures;
      activation_mask_rule = c.mask_of-2.ensures;
    }

pub returns : goal.returns
returns g c =
    let r = ready_as _ c.facts-facts.result (λ _. c.lane_width-width.result) _ c.args.plan.now.numbers c.numbers-numbers.result _ (c.lane_width-width.ensures c.facts-facts.result c.facts-facts.ensures) c.numbers-numbers.ensures refl in
    record { facts = c.facts-facts.ensures; width = r.width_is; kept = r.kept }
