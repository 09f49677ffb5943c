-- How far the moves of an effect raise the numbers of its node.
use Rattle.do_facts.specs.nodes.Moves as moves
use Rattle.std.proofs.Common.{◌≡◌, ◌+◌, ◌≤◌, ℕ, List, length, ap, arith, ◌∙◌}
use Rattle.std.proofs.lemmas.List.{length-map}
use Rattle.do_base.specs.declared.events.shown.Shown.{Shown}
use Rattle.do_class.specs.Class.{Class}
use Rattle.do_packet.specs.{Copies.most_copies, Limits.most_names}
use Rattle.do_machine.specs.declared.{node.Node.Node, state.Parcel.Parcel}
use Rattle.do_facts.{specs.Net.Note, proofs.EachOfLists.each_of, specs.nodes.Atoms.Atom}
use Rattle.do_facts.specs.nodes.{Judged.Judge, May.may, Moves.{Move, Wrote}, After.{after, takes}}
use Rattle.do_facts.proofs.nodes.{Kept.{AllNotes, by_walk}, Walks.Does}
use Rattle.do_limits.proofs.moves.Atoms.{Comes}

-- By an effect a node makes one call at most, as many objects as a message copies, and as many
-- lends as a message names objects
pub record Rises (n m : Node) : Type 0 where
  pub call : m.next_call ≤ 1 + n.next_call
  pub serial : m.next_serial ≤ n.next_serial + most_copies
  pub token : m.next_token ≤ n.next_token + most_names

-- nothing is said of what is sent
abbrev Any : ℕ → Atom → Type 0
Any to x = Unit {0}

module _ (j : Judge) (table : List Class) (port : ℕ) where
  -- each move
  rises : (n : Node) (v : Move) → Rises j.first n → may j n v →
      AllNotes (Comes table port) (takes v) → Rises j.first (after n v)
  rises n (moves.AsksRoot t to into outs pc) h m come =
      record { call = omega (arith, m.1.since.call); serial = h.serial; token = h.token }
  rises n (moves.Calls t to method x into outs pc) h m come =
      record { call = omega (arith, m.1.since.call); serial = h.serial; token = h.token }
  rises n (moves.Makes t made into pc) h m come =
      record { call = h.call; serial = omega (arith, m.3); token = h.token }
  rises n (moves.Lends to o class) h m come =
      record { call = h.call; serial = h.serial; token = omega (arith, m.2) }
  rises n (moves.Unpacks from packet copies) h m come =
      let count : length copies ≡ length packet.copies =
      ap (λ xs. length xs) m.2 ∙ length-map packet.copies _ in
      record {
        call = h.call;
        serial = omega (arith, m.3, count, come.0.limits.copies);
        token = h.token;
      }
  rises n _ h m come = record { call = h.call; serial = h.serial; token = h.token }

  -- what moves come to, where what they take can be carried
  pub by_moves : {q : Node} {taken : List (Note Atom)} {written : List Wrote}
      {sent : List Parcel} {shown : List Shown} → AllNotes (Comes table port) taken →
      Does j j.first taken written q sent shown → Rises j.first q
  by_moves come d =
      (by_walk j (Rises j.first) (Comes table port) Any (record {
        each = λ n v h m t. (rises n v h m t, each_of (λ k. Any k.peer k.atom) (λ k. tt) _);
      }) d.walk (record { call = omega arith; serial = omega arith; token = omega arith }) come).0
