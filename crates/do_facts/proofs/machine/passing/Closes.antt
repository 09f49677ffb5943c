-- What a node held of a peer it gives back as it closes its end.
use Rattle.std.proofs.Common.{◌≡◌, ◌==◌, ◌||◌, ℕ, Bool, true, false, List, [], ◌∷◌, map, refl, ap}
use Rattle.std.proofs.{Common.{◌∙◌, subst, arith}, lemmas.{Bool.eqb-true, Grind.common_steps}}
use Rattle.do_base.specs.names.Names.{ObjectName}
use Rattle.do_packet.specs.Met.{has_object}
use Rattle.do_machine.specs.{declared.node.Node.Node, Effect.each, Entry.is_holder}
use Rattle.do_machine.specs.{Items.{Released, is_released, named_as, naming}, State.is_open}
use Rattle.do_machine.specs.ends.Closing.{asked_of, closing, parted, serials_of}
use Rattle.do_machine.specs.lend.Asking.{settling}
use Rattle.do_facts.proofs.machine.{Parting.parted_parts, passing.Passes.{Passes, gives_back}}
use Rattle.do_facts.proofs.machine.passing.{Passes.gives_none, Quiet.settlings_quiet}
use Rattle.do_facts.proofs.{walk.SmallEffects.settled_node, machine.follows.Follows.open_at}
use Rattle.std.proofs.lemmas.Bool.Decides.{nat_tests}
use Rattle.do_facts.proofs.links.{HeldChanged.held_apart, ListsChanged.open_less}

-- an end that names the objects held of a peer releases each of them
end_releases : (o : ObjectName) (held : List ObjectName) →
    has_object (named_as is_released (map (naming Released o.node) (serials_of o.node held))) o
    ≡ has_object held o
end_releases o [] = refl
end_releases o (x ∷ held) = grind (arith, common_steps, end_releases o held)

module _ (port : ℕ) (o : ObjectName) (peer : ℕ) (n : Node) (ends : is_open n peer ≡ true) where
  -- what is held after, or given back, by whether the peer is the object's home
  passed : (b : Bool) → (peer == o.node) ≡ b →
      gives_back port o (each settling (asked_of peer n) (parted peer n)).sent ≡ false →
      (is_holder o (parted peer n) || gives_back port o (closing peer n).sent)
      ≡ (is_holder o n || false)
  passed true h none =
      let same : peer ≡ o.node = eqb-true peer o.node h in
      let closed = subst (λ k. is_open (parted peer n) k ≡ false) same (parted_parts peer n).ends in
      let released = ap (λ k. has_object (named_as is_released
      (map (naming Released o.node) (serials_of k n.held))) o) same ∙ end_releases o n.held in
      grind (arith, h, closed, open_at n peer o.node ends h, released, none)
  passed false h none =
      let ends = open_less o.node peer n.open_to in
      let held = held_apart o.node o.serial peer n.held in
      grind (arith, nat_tests, h, none, ends, held)

  -- a close
  pub passes_closing : Passes port o n false (closing peer n)
  passes_closing = record {
    same = rw (settled_node (asked_of peer n) (parted peer n))
        (passed (peer == o.node) refl
        (gives_none port o _ (settlings_quiet (asked_of peer n) (parted peer n)).sent));
  }
