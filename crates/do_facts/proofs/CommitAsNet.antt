-- A state after an effect, after a take and after a loss, as a net.
use Rattle.std.proofs.Common.{◌≡◌, ◌==◌, ◌++◌, ℕ, Bool, true, false, cond, List, [], ◌∷◌, map}
use Rattle.std.proofs.Common.{filter, refl, sym, ap, ◌∙◌, subst, append_assoc}
use Rattle.std.specs.{Prelude.{None, Option, Some, option_and_then, option_map}, List.flat_map}
use Rattle.std.proofs.lemmas.{Grind.flat_map-append, Bool.eqb-true}
use mathlib.Core.Path.{fun_ext}
use Rattle.do_machine.specs.declared.{item.Item.Item, node.Node.Node, state.Effect.Effect}
use Rattle.do_machine.specs.{declared.state.{Parcel.Parcel, State.State}, Commit.{commit, items_to}}
use Rattle.do_machine.specs.State.{node, queue, queue_to}
use Rattle.do_facts.proofs.machine.{Frame.elsewhere, Queues.grows_behind, follows.States.changed}
use Rattle.do_facts.{proofs.machine.passing.NoQueue.stays_none, specs.Net.{atoms_of, net_after}}
use Rattle.do_facts.specs.{Net.{noted, with_part}, View.{View, net_of, part_seen, posted}}
use Rattle.do_facts.{specs.View.wire_seen, proofs.Notes.{atoms_behind, atoms_noted, none_noted}}

module _ {P A : Type 0} (view : View P A) where
  -- the notes of parcels behind others
  pub posted_behind : (xs ys : List Parcel) →
      posted view (xs ++ ys) ≡ posted view xs ++ posted view ys
  posted_behind [] ys = refl
  posted_behind (p ∷ xs) ys =
      ap (λ zs. noted p.to (view.atoms p.item) ++ zs) (posted_behind xs ys)
      ∙ sym (append_assoc (noted p.to (view.atoms p.item)) _ _)

  -- the notes of parcels to a peer have the atoms of their items
  pub posted_to : (peer : ℕ) (sent : List Parcel) →
      atoms_of peer (posted view sent) ≡ flat_map view.atoms (items_to peer sent)
  posted_to peer [] = refl
  posted_to peer (p ∷ ps) =
      atoms_behind peer (noted p.to (view.atoms p.item)) (posted view ps)
      ∙ go (p.to == peer) refl (posted_to peer ps)
    where
      go : (b : Bool) → (p.to == peer) ≡ b →
          atoms_of peer (posted view ps) ≡ flat_map view.atoms (items_to peer ps) →
          atoms_of peer (noted p.to (view.atoms p.item)) ++ atoms_of peer (posted view ps)
          ≡ flat_map view.atoms (map (λ x. x.item)
          (cond b (p ∷ filter (λ x. x.to == peer) ps) (filter (λ x. x.to == peer) ps)))
      go true e r =
          ap (λ q. atoms_of q (noted p.to (view.atoms p.item)) ++ atoms_of peer (posted view ps))
          (sym (eqb-true p.to peer e))
          ∙ ap (λ xs. xs ++ atoms_of peer (posted view ps)) (atoms_noted p.to (view.atoms p.item))
          ∙ ap (λ xs. view.atoms p.item ++ xs) r
      go false e r =
          ap (λ xs. xs ++ atoms_of peer (posted view ps))
          (none_noted p.to peer (view.atoms p.item) e)
          ∙ r

  module _ (port : ℕ) (e : Effect) (S : State) (n : Node) (here : node S port ≡ Some n)
      (linked : (peer : ℕ) → queue S port peer ≡ None →
      atoms_of peer (posted view e.sent) ≡ []) where
    -- the state after the effect
    abbrev T : State
    T = commit port e S

    -- the part of a node
    part_committed : (x : ℕ) (b : Bool) → (x == port) ≡ b →
        part_seen view (node T x) ≡ cond b (view.part e.node) (part_seen view (node S x))
    part_committed x true h =
        ap (λ y. part_seen view (node T y)) (eqb-true x port h)
        ∙ ap (part_seen view) (changed port e n S.stations here)
    part_committed x false h =
        ap (λ s. part_seen view (option_map (λ y. y.node) s)) (elsewhere port x e S.stations h)

    -- a queue of the node
    own_committed : (y : ℕ) (found : Option (List Item)) → queue S port y ≡ found →
        wire_seen view (queue T port y)
        ≡ wire_seen view found ++ atoms_of y (posted view e.sent)
    own_committed y None h =
        ap (wire_seen view) (stays_none port y e S.stations h) ∙ sym (linked y h)
    own_committed y (Some w) h =
        ap (wire_seen view) (grows_behind port y e S.stations w h)
        ∙ flat_map-append view.atoms w (items_to y e.sent)
        ∙ ap (λ xs. flat_map view.atoms w ++ xs) (sym (posted_to y e.sent))

    -- any queue
    wire_committed : (x y : ℕ) (b : Bool) → (x == port) ≡ b →
        wire_seen view (queue T x y)
        ≡ cond b (wire_seen view (queue S x y) ++ atoms_of y (posted view e.sent))
        (cond (y == port) (wire_seen view (queue S x y)) (wire_seen view (queue S x y)))
    wire_committed x y true h =
        subst (λ p. wire_seen view (queue T p y)
        ≡ wire_seen view (queue S p y) ++ atoms_of y (posted view e.sent))
        (sym (eqb-true x port h)) (own_committed y (queue S port y) refl)
    wire_committed x y false h =
        ap (λ s. wire_seen view (option_and_then (λ z. queue_to y z) s))
        (elsewhere port x e S.stations h)
        ∙ go (y == port)
      where
        go : (c : Bool) → wire_seen view (queue S x y)
            ≡ cond c (wire_seen view (queue S x y)) (wire_seen view (queue S x y))
        go true = refl
        go false = refl

    -- the state after an effect
    pub net_committed :
        net_of view T ≡ net_after port (view.part e.node) [] (posted view e.sent) (net_of view S)
    net_committed =
        ap (λ f. record { part = f; wire = (net_of view T).wire })
        (fun_ext (λ x. part_committed x (x == port) refl))
        ∙ ap (λ w. record {
          part = with_part port (view.part e.node) (net_of view S).part;
          wire = w;
        }) (fun_ext (λ x. fun_ext (λ y. wire_committed x y (x == port) refl)))
