use Rattle.site_calls.proofs.packing.node.Node.add.Goals as goal
use Rattle.site_calls.proofs.Light.{light_either}

pub invariant_of-self : goal.invariant_of-self
invariant_of-self c = record {
  light =
      light_either _ c.args.self.now.objects.items _ _ c.args.self.now.light
      c.in_ok-values.ensures.light c.push.ensures.items;
}
