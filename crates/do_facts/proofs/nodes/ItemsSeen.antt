-- What items say of a part of their nodes, by what their atoms say.
use Rattle.do_facts.specs.nodes.Atoms as parts
use Rattle.std.{proofs.Common.{◌≡◌, ◌++◌, ◌∙◌, ℕ, List, [], ◌∷◌, refl, ap}, specs.List.flat_map}
use Rattle.do_machine.specs.declared.{item.Item.Item, state.Parcel.Parcel}
use Rattle.do_facts.specs.{Net.noted, View.{View, posted}, nodes.{Atoms.Atom, View.nodes}}
use Rattle.do_facts.proofs.nodes.Projected.{seen, seen_behind, seen_noted}

module _ {P A : Type 0} (view : View P A) (said : Atom → List A)
    (item_seen : (item : Item) → flat_map said (parts.atoms item) ≡ view.atoms item) where
  -- what is taken of an item
  pub taken_seen : (from : ℕ) (item : Item) →
      seen said (noted from (parts.atoms item)) ≡ noted from (view.atoms item)
  taken_seen from item =
      seen_noted said from (parts.atoms item) ∙ ap (noted from) (item_seen item)

  -- what parcels say
  pub sent_seen : (sent : List Parcel) → seen said (posted nodes sent) ≡ posted view sent
  sent_seen [] = refl
  sent_seen (p ∷ ps) =
      seen_behind said (noted p.to (parts.atoms p.item)) (posted nodes ps)
      ∙ ap (λ xs. xs ++ seen said (posted nodes ps)) (taken_seen p.to p.item)
      ∙ ap (λ xs. noted p.to (view.atoms p.item) ++ xs) (sent_seen ps)
