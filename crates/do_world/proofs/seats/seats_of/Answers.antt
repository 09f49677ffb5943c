use Rattle.do_world.proofs.seats.seats_of.Goals as goal
use Rattle.std.proofs.Common.{◌≡◌, ◌∙◌, ◌++◌, ◌∷◌, [], ap, arith, length, length-append, refl}
use Rattle.toml.specs.View.{table_view}
use Rattle.do_document.proofs.Growing.{made_more}
use Rattle.do_world.specs.Worlds.{seat_of}
use Rattle.do_world.proofs.{SeatLoops.{seat_said, seat_turn, seats_none}, SeatSteps.seats_more}

pub loop-k-init : goal.loop-k-init
loop-k-init c =
    let none = c.new-seats.ensures in
    record {
      faults = refl;
      made = none;
      all = ap length none;
      seats = seats_none _ _ none;
    }

pub loop-k-preserved : goal.loop-k-preserved
loop-k-preserved c =
    let next = c.in_ok-seat.ensures.1 in
    let grown = c.in_ok-push.ensures.ok in
    let count : length c.push.new.self ≡ length (c.loop-k.seats ++ c.in_ok-seat.seat ∷ []) =
    ap length grown in
    let said =
    seat_said c.args.classes.now (λ t. table_view t.now) c.args.tables.now c.loop-k.k
    c.index-tables-k.result c.loop-k.seats c.loop-k-test.true c.index-tables-k.is
    c.loop-k.invariant.made c.in_ok-seat.seat next.said in
    record {
      faults = seat_turn c.args.classes.now (λ t. table_view t.now) c.args.tables.now c.loop-k.k
          c.index-tables-k.result c.loop-k.seats c.loop-k-test.true c.index-tables-k.is
          c.loop-k.invariant.made _ c.loop-k.invariant.faults c.in_ok-seat.ensures.0;
      made = grown ∙ made_more (seat_of c.args.classes.now) (λ t. table_view t.now)
          c.args.tables.now c.loop-k.k c.index-tables-k.result c.loop-k.seats c.in_ok-seat.seat
          c.loop-k-test.true c.loop-k.invariant.made said;
      all = omega (
        arith,
        count,
        length-append c.loop-k.seats (c.in_ok-seat.seat ∷ []),
        c.loop-k.invariant.all,
      );
      seats = rw grown (seats_more c.args.classes.now c.loop-k.seats c.in_ok-seat.seat
          c.loop-k.invariant.seats next.free next.seated);
    }
