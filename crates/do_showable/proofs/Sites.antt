-- What an input leaves of a site, where a record may have the names of the site's node.
use Rattle.std.proofs.Common.{Bool, cond, false, refl, true, ◌≡◌}
use Rattle.std.specs.{List.AllByRecursion, Prelude.{None, Option, Some, option_map, unwrap_or}}
use Rattle.do_record.specs.GoodShown.{IsShown}
use Rattle.do_machine.specs.{declared.state.Effect.Effect, held.Leaving.leaving}
use Rattle.do_facts.proofs.{EachOfLists.each_joined, walk.Possible.IfAny}
use Rattle.do_network.specs.{Counting.counted, Links.Part, Own.{Own, is_counted}}
use Rattle.do_network.specs.Site.{Handled, handled, moves, passed, site_move}
use Rattle.do_network.specs.declared.input.Done.{Done, TheVariants.Moved}
use Rattle.do_showable.proofs.{Nodes.{IsNamed, left, left_shows}, Runs.Stands}

-- A record may have the names of a site's node after an input, and what the input showed
pub record Came (h : Handled) : Type 0 where
  pub named : IsNamed h.part.own.node
  pub shows : AllByRecursion IsShown h.shown

-- a move by an effect
pub moved : (p : Part) (d : Done) (q : Own) (e : Effect) → Stands e →
    Came (handled p d (site_move q e))
moved p d q e h =
    let entry = is_counted (counted q e) in
    record {
      named = left entry e.node h.named;
      shows = each_joined IsShown e.shown (leaving entry e.node).shown h.shows
          (left_shows entry e.node h.named);
    }

-- an input that is skipped
skipped : (p : Part) → IsNamed p.own.node → Came (passed p)
skipped p h = record { named = h; shows = tt }

-- an effect, where there is one
pub moved_if : (p : Part) → IsNamed p.own.node → (found : Option Effect) → IfAny Stands found →
    Came (unwrap_or (option_map (moves p) found) (passed p))
moved_if p h None k = skipped p h
moved_if p h (Some e) k = moved p Moved p.own e k

-- what a test lets pass
pub tested : (p : Part) → IsNamed p.own.node → (test : Bool) (h : Handled) →
    (test ≡ false → Came h) → Came (unwrap_or (cond test None (Some h)) (passed p))
tested p h true x k = skipped p h
tested p h false x k = k refl
