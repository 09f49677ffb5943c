-- What one more node does to what was read so far.
use Rattle.std.proofs.Common.{◌≡◌, ℕ, ◌+◌, ◌<◌, List, [], length, map, take, drop, get_or, Option}
use Rattle.std.proofs.Common.{Some, None, sym, ◌∙◌, ap, arith, rules, subst}
use Rattle.std.specs.List.{IsDistinct, filter_map}
use Rattle.toml.specs.Data.{Members}
use Rattle.do_class.specs.Class.{Class}
use Rattle.do_document.specs.{Checks.first_behind, declared.fault.WorldFault.WorldFault}
use Rattle.do_document.proofs.{Finding.turn_good, Growing.so_far}
use Rattle.do_machine.specs.declared.state.Seat.{Seat}
use Rattle.do_world.specs.{Faults.{seat_checks, seat_fault}, Sound.AreSeats, Worlds.seat_of}

-- no nodes are nodes of a world
pub seats_none : (classes : List Class) (seats : List Seat) → seats ≡ [] → AreSeats classes seats
unfolding IsDistinct
seats_none classes seats none = rw none (record { distinct = tt; seated = search rules })

module _ {A : Type 0} (classes : List Class) (v : A → Members) (xs : List A) (k : ℕ) (x : A)
    (seats : List Seat) (within : k < length xs) (there : x ≡ get_or xs k x)
    (made : seats ≡ filter_map (seat_of classes) (map v (take k xs))) where
  -- what a table says that stands there
  pub seat_said : (s : Seat) → seat_of classes (v x) ≡ Some s
      → seat_of classes (v (get_or xs k x)) ≡ Some s
  seat_said s said = subst (λ (z : A). seat_of classes (v z) ≡ Some s) there said

  -- what a node is checked for is its fault among the others
  seat_here : seat_fault classes (map v (take k xs)) (v (get_or xs k x))
      ≡ seat_checks classes k seats (v x)
  seat_here =
      let count = so_far v xs k (omega (arith, within)) in
      ap (λ n. seat_checks classes n (filter_map (seat_of classes) (map v (take k xs)))
      (v (get_or xs k x))) count
      ∙ ap (λ ss. seat_checks classes k ss (v (get_or xs k x))) (sym made)
      ∙ ap (λ (z : A). seat_checks classes k seats (v z)) (sym there)

  -- a node has no fault
  pub seat_turn : (all : Option WorldFault)
      → first_behind (seat_fault classes) (map v (take k xs)) (map v (drop k xs)) ≡ all
      → seat_checks classes k seats (v x) ≡ None
      → first_behind (seat_fault classes) (map v (take (k + 1) xs)) (map v (drop (k + 1) xs)) ≡ all
  seat_turn all so none =
      turn_good (seat_fault classes) v xs k x all within so (seat_here ∙ none)
