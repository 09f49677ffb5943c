-- What an input leaves of a site that is within the limits.
use Rattle.std.proofs.Common.{Bool, List, [], arith, cond, false, refl, subst, sym, true, ℕ, ◌≡◌}
use Rattle.std.specs.{List.AllByRecursion, Prelude.{None, Option, Some, option_map, unwrap_or}}
use Rattle.do_class.specs.Class.{Class}
use Rattle.do_sched.specs.Good.{IsPort}
use Rattle.do_machine.specs.{declared.{node.Node.Node, state.Effect.Effect}, held.Leaving.leaving}
use Rattle.do_facts.proofs.{EachOfLists.each_joined, walk.Possible.IfAny}
use Rattle.do_network.specs.{Counting.{counted, of_known}, Frames.all_posted, Links.Part, Own.Own}
use Rattle.do_network.specs.{Own.{is_counted, site_context}, Site.{Handled, handled, moves, passed}}
use Rattle.do_network.specs.{Site.site_move, declared.input.Done.{Done, TheVariants.Moved}}
use Rattle.do_limits.proofs.{Effects.EffectIsSendable, Senders.ContextIsSendable}
use Rattle.do_limits.{proofs.states.States.leaving_sendable, specs.SendableStates.NodeIsSendable}
use Rattle.do_bounds.proofs.{Classes.{ClassesStand, known_kept}, Links.{LinksStand, links_sent}}
use Rattle.do_bounds.{proofs.Rises.RisesBy, specs.Bounds.{IsWithin, SendsWithin}}
use Rattle.do_bounds.proofs.Sent.{Brings, all_bring, sent_within}

module _ (table : List Class) (port : ℕ) where
  -- A site within the limits, whose tables of names read lately are such
  pub record PartIsWithin (p : Part) : Type 0 where
    pub own : IsWithin table port p.own
    pub links : LinksStand table p.links

  -- what its node is judged by
  pub judges : IsPort port → (p : Own) → IsWithin table port p →
      ContextIsSendable (site_context table p)
  judges at p h =
      let home = sym h.values.numbers.0 in
      record {
        node = subst (λ x. NodeIsSendable table x p.node) home h.values;
        port = subst IsPort home at;
        seen = h.classes;
      }

  -- A site after an input of a node, by which the node may have made things so often
  pub record Came (n : Node) (count : ℕ) (h : Handled) : Type 0 where
    pub part : PartIsWithin h.part
    pub rises : RisesBy count n h.part.own.node
    pub sends : AllByRecursion (SendsWithin table port) h.sent

  -- an effect of a node that keeps the limits, and raises numbers so far
  abbrev pub Keeps : Node → ℕ → Effect → Type 0
  Keeps n count e = EffectIsSendable table port e × RisesBy count n e.node

  -- a move by an effect
  pub moved : (n : Node) (count : ℕ) (p : Part) (d : Done) (q : Own) (e : Effect) →
      LinksStand table p.links → ClassesStand table q.classes → Keeps n count e →
      Came n count (handled p d (site_move q e))
  moved n count p d q e links classes h =
      let entry = is_counted (counted q e) in
      let left = leaving_sendable entry e.node h.0.node in
      let r = (counted q e).received in
      record {
        part = record {
          own = record {
            values = left.node;
            classes = known_kept table (leaving entry e.node).node (of_known e.node q.classes)
                (known_kept table e.node q.classes classes);
          };
          links = links_sent table (site_move q e).posted
              (record { links = p.links; sent = [] }) links;
        };
        rises = record { call = h.1.call; serial = h.1.serial; token = h.1.token };
        sends = sent_within table port (site_move q e).posted
            (record { links = p.links; sent = [] })
            (each_joined (Brings table port) (all_posted q.received e.sent)
            (all_posted r (leaving entry e.node).sent)
            (all_bring table port q.received e.sent h.0.sent)
            (all_bring table port r (leaving entry e.node).sent left.sent)) tt;
      }

  -- an input that is skipped
  pub skipped : (count : ℕ) (p : Part) → PartIsWithin p → Came p.own.node count (passed p)
  skipped count p h = record {
    part = h;
    rises = record { call = omega arith; serial = omega arith; token = omega arith };
    sends = tt;
  }

  -- an effect, where there is one
  pub moved_if : (count : ℕ) (p : Part) → PartIsWithin p → (found : Option Effect) →
      IfAny (Keeps p.own.node count) found →
      Came p.own.node count (unwrap_or (option_map (moves p) found) (passed p))
  moved_if count p h None k = skipped count p h
  moved_if count p h (Some e) k =
      moved p.own.node count p Moved p.own e h.links h.own.classes k

  -- what a test lets pass
  pub tested : (count : ℕ) (p : Part) → PartIsWithin p → (test : Bool) (h : Handled) →
      (test ≡ false → Came p.own.node count h) →
      Came p.own.node count (unwrap_or (cond test None (Some h)) (passed p))
  tested count p h true x k = skipped count p h
  tested count p h false x k = k refl

-- what holds of an effect, where there is one, by two facts
pub by_both : (P Q R : Effect → Type 0) → ((e : Effect) → P e → Q e → R e) →
    (found : Option Effect) → IfAny P found → IfAny Q found → IfAny R found
by_both P Q R f None h k = tt
by_both P Q R f (Some e) h k = f e h k
