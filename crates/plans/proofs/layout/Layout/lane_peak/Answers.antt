use Rattle.std.proofs.Common.{mul-pos}
use Rattle.plans.proofs.layout.Layout.lane_peak.Goals as goal

pub returns : goal.returns
returns c =
    record {
      value = rw (c.lane_products.ensures.value, c.top_code-weight.ensures.value, c.top_code-activation.ensures.value);
      some = mul-pos c.lane_products.ensures.small.0 (mul-pos c.top_code-weight.ensures.small.0 c.top_code-activation.ensures.small.0);
    }
