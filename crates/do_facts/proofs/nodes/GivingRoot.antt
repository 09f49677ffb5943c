-- Giving the root is moves of the node.
use Rattle.do_machine.specs.declared.item.Item.TheVariants as items
use Rattle.do_facts.specs.nodes.Moves as moves
use Rattle.std.proofs.Common.{◌≡◌, ◌+◌, ℕ, true, false, List, [], ◌∷◌, refl, sym, ap, ◌∙◌}
use Rattle.std.proofs.Common.{append-nil, subst, length, arith}
use Rattle.do_machine.specs.{declared.{node.Node.Node, state.Effect.Effect}, Effect.queueing}
use Rattle.do_machine.specs.{State.is_open, take.Take.root_packet}
use Rattle.do_facts.specs.{Net.{Note, noted}, nodes.Atoms.{Atom, Whole, packet_atoms}}
use Rattle.do_machine.specs.{Packing.packer, lend.Lending.{lending, lends_of}, run.Acts.root_value}
use Rattle.do_facts.{specs.links.Moves.is_there, proofs.links.TokensOfMessages.{owned, to_named}}
use Rattle.do_facts.specs.nodes.{Judged.{AsRoot, IsPacked, Judge, context_of}, After.note}
use Rattle.do_facts.proofs.nodes.{RootLends.root_not_lent, Sending.{packet_sent, since_itself}}
use Rattle.do_facts.proofs.nodes.Walks.{DoesTo, Walks, whole_behind, walks_on, walks_once}

module _ (j : Judge) (from : ℕ) (ends : is_open j.first from ≡ true) where
  -- the node
  abbrev n : Node
  n = j.first

  -- what an item comes to is moves of the node, which take these notes
  abbrev Comes : List (Note Atom) → Effect → Type 0
  Comes taken e = DoesTo j n taken [] e

  -- the root is given
  pub by_root : (number : ℕ) →
      let p = root_packet (context_of j) from in
      Comes (note from (Whole (items.RootAsk number)))
      (queueing from (items.RootAnswer number p) n)
  by_root number =
      let c = context_of j in
      let p = root_packet c from in
      let packed : IsPacked j from p = AsRoot refl in
      let none : lends_of from p ≡ [] = root_not_lent c from n.root in
      let same : lending (lends_of from p) n ≡ n =
      ap (λ ls. lending ls n) none
      ∙ ap (λ ls. record n { lent = ls; next_token = n.next_token + 0 }) (append-nil n.lent)
      ∙ ap (λ k. record n { next_token = k }) (omega arith)
      in
      record {
        walk = subst
            (λ xs. Walks j n (note from (Whole (items.RootAsk number))) [] n xs [])
            (sym (whole_behind from (packet_atoms p) (items.RootAnswer number p)))
            (walks_on j
            (subst (λ q. Walks j n [] [] q (noted from (packet_atoms p)) []) same
            (packet_sent j from p packed ends
            (to_named (packer c) from (is_there n.heap) (owned c) n.next_token
            ((false, root_value n) ∷ []) []) (omega (arith, ap (λ ls. length ls) none))))
            (walks_once j n (moves.Gives from number p)
            (ends, since_itself n, packed)));
      }
