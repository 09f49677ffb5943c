-- In every state that a machine comes to, nodes have ends, lends and asks towards other nodes.
use Rattle.std.proofs.Common.{◌≡◌, ℕ, Bool, true, List, refl, ap}
use Rattle.std.specs.Prelude.{None, Option, Some, is_some}
use Rattle.do_base.specs.declared.events.event.Event.{Event}
use Rattle.do_class.specs.Class.{Class}
use Rattle.do_machine.specs.{declared.{node.Node.Node, state.State.State}, State.node, Step.step}
use Rattle.do_machine.specs.run.Run.{Acting}
use Rattle.do_facts.{proofs.machine.follows.Every.grow_steps, specs.{ByEvents.IsBy, View.net_of}}
use Rattle.do_facts.specs.links.{LinksAreKept.LinksAreKept, Links.links, Moves.link_rules}
use Rattle.do_facts.proofs.{Paths.stays, links.ReachedLinks.{step_keeps, step_moves}}
use Rattle.do_quiet.proofs.EndsWithin.{IsWithin, within_keeps}

module _ (ends : ℕ → ℕ → Bool) (is_there : ℕ → Bool) where
  -- what holds from the opening on
  pub record Stands (S : State) : Type 0 where
    pub kept : LinksAreKept S
    pub within : (port : ℕ) → IsWithin (ends port) ((net_of links S).part port)
    pub there : (port : ℕ) → is_there port ≡ true → is_some (node S port) ≡ true

  module _ (table : List Class) (act : Acting) where
    -- a node that is there is there after a step
    there_after : (S : State) (event : Event) (port : ℕ) (found : Option Node) →
        node S port ≡ found → is_some found ≡ true →
        is_some (node (step table act S event).state port) ≡ true
    there_after S event port None e h = absurd (cc)
    there_after S event port (Some n) e h =
        ap is_some ((grow_steps table act S event).stands port n e).1

    -- a step
    pub step_stands : (S : State) (event : Event) → Stands S → Stands (step table act S event).state
    step_stands S event h = record {
      kept = step_keeps table act S event h.kept;
      within = stays link_rules (λ net. (port : ℕ) → IsWithin (ends port) (net.part port))
          (within_keeps ends) (IsBy event) (net_of links S)
          (net_of links (step table act S event).state) (step_moves table act S event h.kept)
          h.within;
      there = λ port e. there_after S event port (node S port) refl (h.there port e);
    }
