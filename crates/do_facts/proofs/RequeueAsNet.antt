-- A state after an item is taken, and after a loss, as a net.
use Rattle.std.proofs.Common.{◌≡◌, ◌==◌, ◌++◌, ℕ, Bool, true, false, cond, List, [], length, drop}
use Rattle.std.{proofs.Common.{refl, sym, ap, ◌∙◌, arith, append-nil}, specs.Prelude.Some}
use Rattle.std.{specs.List.flat_map, proofs.lemmas.Bool.{eqb-true, Decides.nat_tests}}
use mathlib.Core.Path.{fun_ext}
use Rattle.do_machine.specs.declared.{item.Item.Item, state.State.State}
use Rattle.do_machine.specs.State.{change, queue, with_queue}
use Rattle.do_facts.proofs.machine.follows.States.{requeued}
use Rattle.do_facts.proofs.machine.passing.Lookups.{elsewhere_stays, other_stays, that_changed}
use Rattle.do_facts.specs.{Net.{Net, atoms_of, net_after, noted, with_part}, Moves.with_wire}
use Rattle.do_facts.specs.View.{View, net_of, part_seen, wire_seen}
use Rattle.do_facts.proofs.{Nets.part_same, Notes.{atoms_noted, first_dropped, none_noted}}

module _ {P A : Type 0} (view : View P A) (from to : ℕ) (S : State) (waiting items : List Item)
    (here : queue S from to ≡ Some waiting) where
  -- the state with other items in the queue
  abbrev T : State
  T = change from (with_queue to items) S

  -- the parts of nodes stay
  parts_requeued : (net_of view T).part ≡ (net_of view S).part
  parts_requeued = fun_ext (λ x. ap (part_seen view) (requeued from to x items S.stations))

  -- the wires
  wire_requeued : (x y : ℕ) (b c : Bool) → (x == from) ≡ b → (y == to) ≡ c →
      wire_seen view (queue T x y)
      ≡ cond b (cond c (flat_map view.atoms items) (wire_seen view (queue S x y)))
      (wire_seen view (queue S x y))
  wire_requeued x y true true h k =
      ap (λ p. wire_seen view (queue T p y)) (eqb-true x from h)
      ∙ ap (λ p. wire_seen view (queue T from p)) (eqb-true y to k)
      ∙ ap (wire_seen view) (that_changed from to items waiting S.stations here)
  wire_requeued x y true false h k =
      ap (wire_seen view) (other_stays from to items S.stations x y k)
  wire_requeued x y false c h k =
      ap (wire_seen view) (elsewhere_stays from to items S.stations x y h)

  -- the state with other items in a queue
  pub net_requeued : net_of view T ≡ record {
    part = (net_of view S).part;
    wire = with_wire from to (flat_map view.atoms items) (net_of view S).wire;
  }
  net_requeued =
      ap (λ f. record { part = f; wire = (net_of view T).wire }) parts_requeued
      ∙ ap (λ w. record { part = (net_of view S).part; wire = w })
      (fun_ext (λ x. fun_ext (λ y. wire_requeued x y (x == from) (y == to) refl refl)))

module _ {P A : Type 0} (port from : ℕ) (net : Net P A) (atoms rest : List A)
    (here : net.wire from port ≡ atoms ++ rest) (apart : (from == port) ≡ false) where
  -- a wire without what stands first
  wire_taken : (x y : ℕ) (b c : Bool) → (x == port) ≡ b → (y == port) ≡ c →
      with_wire from port rest net.wire x y
      ≡ cond b (net.wire x y ++ [])
      (cond c (drop (length (atoms_of x (noted from atoms))) (net.wire x y)) (net.wire x y))
  wire_taken x y true c h k =
      ap (λ b. cond b (cond (y == port) rest (net.wire x y)) (net.wire x y)) (not_from x h)
      ∙ sym (append-nil (net.wire x y))
    where
      not_from : (x : ℕ) → (x == port) ≡ true → (x == from) ≡ false
      not_from x e = grind (arith, nat_tests, e, apart)
  wire_taken x y false false h k =
      ap (λ b. cond (x == from) (cond b rest (net.wire x y)) (net.wire x y)) k ∙ go (x == from)
    where
      go : (b : Bool) → cond b (net.wire x y) (net.wire x y) ≡ net.wire x y
      go true = refl
      go false = refl
  wire_taken x y false true h k =
      ap (λ b. cond (x == from) (cond b rest (net.wire x y)) (net.wire x y)) k
      ∙ go (x == from) refl
    where
      go : (b : Bool) → (x == from) ≡ b → cond b rest (net.wire x y)
          ≡ drop (length (atoms_of x (noted from atoms))) (net.wire x y)
      go true e =
          sym (ap (λ p. drop (length (atoms_of p (noted from atoms))) (net.wire p y))
          (eqb-true x from e)
          ∙ ap (λ p. drop (length (atoms_of from (noted from atoms))) (net.wire from p))
          (eqb-true y port k)
          ∙ ap (λ xs. drop (length xs) (net.wire from port)) (atoms_noted from atoms)
          ∙ ap (drop (length atoms)) here
          ∙ first_dropped atoms rest)
      go false e =
          sym (ap (λ xs. drop (length xs) (net.wire x y)) (none_noted from x atoms (other x e)))
        where
          other : (x : ℕ) → (x == from) ≡ false → (from == x) ≡ false
          other x e = grind (arith, nat_tests, e)

  -- a net without what stands first on a wire
  pub net_taken : record { part = net.part; wire = with_wire from port rest net.wire }
      ≡ net_after port (net.part port) (noted from atoms) [] net
  net_taken =
      ap (λ f. record { part = f; wire = with_wire from port rest net.wire })
      (sym (part_same port net.part))
      ∙ ap (λ w. record { part = with_part port (net.part port) net.part; wire = w })
      (fun_ext (λ x. fun_ext (λ y. wire_taken x y (x == port) (y == port) refl refl)))
