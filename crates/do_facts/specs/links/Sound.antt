-- What every node keeps of foreign objects.
use Rattle.std.specs.Prelude.{true, ℕ, ◌<◌, ◌≡◌}
use Rattle.do_base.specs.names.Names.{ObjectName}
use Rattle.do_packet.specs.Met.{has_object, same_object}
use Rattle.do_machine.specs.lend.Asking.{same_wanted}
use Rattle.do_facts.specs.{StandOnce.StandOnce, links.{Links.Links, Moves.{opens, stores}}}

-- what is held is held once and over an open end, what is asked for is asked for once, and what is
-- stored was made
pub record IsSound (p : Links) : Type 0 where
  pub held : StandOnce same_object p.held
  pub reached : (o : ObjectName) → has_object p.held o ≡ true → opens p o.node ≡ true
  pub asked : StandOnce same_wanted p.asked
  pub given : (s : ℕ) → stores p s ≡ true → s < p.serial
