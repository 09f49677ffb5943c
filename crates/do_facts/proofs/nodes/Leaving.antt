-- What follows a step is moves of the node.
use Rattle.do_facts.specs.nodes.Cause as cause
use Rattle.do_facts.specs.nodes.Moves as moves
use Rattle.do_facts.specs.links.Moves as link
use Rattle.std.proofs.Common.{◌≡◌, Bool, true, false, not, List, [], ◌∷◌, filter, map, refl, ap}
use Rattle.std.proofs.Common.{◌∙◌, inl, inr, ℕ}
use Rattle.do_facts.proofs.links.{HeapsGrow.kept_before, PartsAreSound.sound_moved}
use Rattle.do_base.specs.names.Names.{ObjectName}
use Rattle.do_packet.specs.Met.{has_object, same_object}
use Rattle.do_machine.specs.{declared.node.Node.Node, Lists.IsIn, State.is_open, held.Kept.kept}
use Rattle.do_machine.specs.held.{Leaving.{freeing, leaving, left}, Refers.node_objects}
use Rattle.do_facts.specs.{StandOnce.StandOnce, links.{Links.links_of, Sound.IsSound}}
use Rattle.do_facts.proofs.OnceInLists.{apart_in, filter_agrees, found_in, in_filtered}
use Rattle.do_facts.proofs.OnceInLists.{once_filtered, passing_taken, still_there, taken_out}
use Rattle.do_facts.proofs.{Chains.is_closed, links.SameIsEqual.{object_is, object_itself}}
use Rattle.do_facts.{specs.nodes.{Judged.Judge, After.after}, proofs.nodes.Asking.with_holdings}
use Rattle.do_facts.proofs.nodes.Walks.{Does, once, rests, same_node, does_on}

-- a sound node is sound once it freed what it does not keep
pub freed_sound : (entry : ℕ → ℕ → Bool) (n : Node) → IsSound (links_of n) →
    IsSound (links_of (freeing (kept entry n) n).node)
freed_sound entry n s =
    sound_moved (links_of n) s (link.Strikes (kept entry n)) (kept_before entry n)

module _ (j : Judge) where
  -- the node was sound as the effect began
  abbrev WasSound : Type 0
  WasSound = IsSound (links_of j.first)

  -- the node does not refer to each of these objects, and if it was sound it holds it over an open
  -- end
  abbrev MayLeave : Node → List ObjectName → Type 0
  MayLeave n os = (o : ObjectName) → IsIn os o → (has_object (node_objects n) o ≡ false)
      × (WasSound → (is_open n o.node ≡ true) × (has_object n.held o ≡ true))

  -- objects are left, one after another
  leaves : cause.leaves j.cause ≡ true → (os : List ObjectName) (n : Node) →
      (WasSound → StandOnce same_object os) → MayLeave n os →
      Does j n [] [] (with_holdings (taken_out same_object os n.held) n) (map left os) []
  leaves now [] n apart may = rests j n
  leaves now (o ∷ os) n apart may =
      let q = may o (inl refl) in
      does_on j
      (once j n (moves.Leaves o) (now, q.0, q.1) (left o ∷ []) refl)
      (leaves now os (after n (moves.Leaves o)) (λ s. (apart s).1)
      (λ x i.
      let then = may x (inr i) in (
        then.0,
        λ s. (
          (then.1 s).0,
          still_there same_object object_is o x n.held
              (apart_in same_object o os (apart s).0 x i) (then.1 s).1,
        ),
      )))

  -- a node that freed what it does not keep leaves what it no longer refers to
  pub by_dropping : cause.leaves j.cause ≡ true → (entry : ℕ → ℕ → Bool) (n : Node) →
      let m = (freeing (kept entry n) n).node in
      let e = leaving entry n in
      (WasSound → IsSound (links_of m)) → Does j m [] [] e.node e.sent []
  by_dropping now entry n sound =
      let m = (freeing (kept entry n) n).node in
      let referred = node_objects m in
      let gone : ObjectName → Bool = λ o. not (has_object referred o) in
      same_node j
      (ap (λ held. with_holdings held m)
      (passing_taken same_object object_itself gone (λ a b h. ap gone (object_is a b h)) n.held
      ∙ filter_agrees (λ o. not (gone o)) (has_object referred) n.held
      (λ o i. twice (has_object referred o))))
      (leaves now (filter gone n.held) m
      (λ s. once_filtered same_object gone n.held (sound s).held)
      (λ o i.
      let both = in_filtered gone n.held o i in
      let there = found_in same_object object_itself n.held o both.0 in (
        is_closed (has_object (node_objects m) o) both.1,
        λ s. ((sound s).reached o there, there),
      )))
    where
      twice : (b : Bool) → not (not b) ≡ b
      twice true = refl
      twice false = refl

  -- a node frees what it does not keep, and leaves what it then no longer refers to
  pub by_leaving : cause.frees j.cause ≡ true → cause.leaves j.cause ≡ true →
      let e = leaving j.sees.entry j.first in
      Does j j.first [] [] e.node e.sent e.shown
  by_leaving strikes now =
      let n = j.first in
      let entry = j.sees.entry in
      let d = freeing (kept entry n) n in
      does_on j (once j n (moves.Strikes (kept entry n) d.shown) (strikes, refl, refl) [] refl)
      (by_dropping now entry n (freed_sound entry n))
