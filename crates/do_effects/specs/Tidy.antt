-- A node that counts nothing that it does not keep.
use Rattle.std.specs.Prelude.{◌≡◌}
use Rattle.do_network.specs.{Counting.{of_held, of_known, over_open_ends}, Own.Own}

-- it counts names over open ends alone, how often it received what it holds, and the classes of
-- what it holds or asked for
pub record IsTidy (p : Own) : Type 0 where
  pub counts : over_open_ends p.node p.counts ≡ p.counts
  pub received : of_held p.node p.received ≡ p.received
  pub classes : of_known p.node p.classes ≡ p.classes
