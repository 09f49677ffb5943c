-- What holds of foreign objects in every state that a machine comes to.
use Rattle.std.specs.Prelude.{ℕ}
use Rattle.do_machine.specs.declared.state.State.{State}
use Rattle.do_facts.specs.{laws.Entries.HasQueues, View.net_of, links.Facts.{EachSilent, LinksHold}}
use Rattle.do_facts.specs.links.{Links.links, Sound.IsSound}

-- nodes have their queues and are sound, each lend and each ask is in one place, and over an open
-- end no end was told that names an object
pub record LinksAreKept (S : State) : Type 0 where
  pub queues : HasQueues S
  pub sound : (port : ℕ) → IsSound ((net_of links S).part port)
  pub hold : LinksHold (net_of links S)
  pub silent : EachSilent (net_of links S)
