-- Two inputs of different nodes that are enabled in a reached state commute.
use Rattle.std.proofs.Common.{◌≡◌, ◌==◌, ℕ, false, List, ap, sym, subst, ◌∙◌, ne_eqb}
use Rattle.std.specs.Prelude.{Some}
use Rattle.do_machine.specs.declared.state.{Seat.Seat, State.State, Stepped.Stepped}
use Rattle.do_record.specs.declared.parts.RecordLine.{RecordLine}
use Rattle.do_weave.specs.{Inputs.tried, Orders.{InputsCommute, IsReached}, Rules.Rules}
use Rattle.do_agreement.{specs.Classed.ClassesAreTold, proofs.told.EachState.reached_told}
use Rattle.do_orders.specs.{Inputs.ByMove, Moves.{done, performed}}
use Rattle.do_orders.proofs.{Behind.{behind, move_of}, Commuting.done_past, InputsMove.input_moves}
use Rattle.do_orders.proofs.{InputsMove.move_is_tried, Moving.turned_round, Reached.by_events}
use Rattle.do_orders.proofs.{Reached.reached_stands, SoundInputs.{sound_input, stands_here}}

module _ (R : Rules) (seats : List Seat) (S : State) (there : IsReached R seats S) where
  -- each object that a node knows has a class
  classes_told : ClassesAreTold S
  classes_told =
      let was = by_events R seats S there in
      subst ClassesAreTold (sym was.1) (reached_told R.table R.act seats was.0)

  -- behind an input of another node an input is the same move
  input_behind : (p q : ℕ) (i j : RecordLine) (a b : Stepped) (x : ByMove R S p i a)
      (y : ByMove R S q j b) → (p == q) ≡ false →
      tried R b.state p i
      ≡ Some (performed (move_of R S p i a x) (done (move_of R S q j b y) S))
  input_behind p q i j a b x y apart =
      let well = reached_stands R seats S there in
      let known = classes_told.known in
      let k = move_of R S q j b y in
      let home = well.home.each p x.doer x.here in
      let grows = (sound_input R S p i a x (well.held.each p x.doer x.here)).grows in
      let T = done k S in
      let later = performed (move_of R S p i a x) T in
      let same : b.state ≡ T = ap (λ (s : Stepped). s.state) y.comes in
      subst (λ (U : State). tried R U p i ≡ Some later) (sym same)
      (move_is_tried R T p i later
      (behind R S p i a x home (known p x.doer x.here) (grows.port ∙ home) k y.doer
      (sound_input R S q j b y (well.held.each q y.doer y.here))
      (stands_here R S q j b y well.queues) apart))

-- enabled inputs of different nodes commute in every reached state
pub inputs_commute : (R : Rules) (seats : List Seat) → InputsCommute R seats
inputs_commute R seats S p q i j a b there differ at_p at_q =
    let led = (reached_stands R seats S there).led in
    let x = input_moves R S p led i a at_p in
    let y = input_moves R S q led j b at_q in
    let m = move_of R S p i a x in
    let k = move_of R S q j b y in
    let apart = ne_eqb p q differ in record {
      first_later = performed m (done k S);
      second_later = performed k (done m S);
      first_is = input_behind R seats S there p q i j a b x y apart;
      second_is = input_behind R seats S there q p j i b a y x (turned_round p q apart);
      first_shows = ap (λ (s : Stepped). s.outcome.shown) (sym x.comes);
      second_shows = ap (λ (s : Stepped). s.outcome.shown) (sym y.comes);
      one_state = done_past m k apart S x.stands y.stands;
    }
