use Rattle.do_world.proofs.seats.seat_at.Goals as goal
use Rattle.std.proofs.lemmas.Result.{err_from_is_err_and}
use Rattle.do_world.proofs.SeatSteps.{seat_good, seat_port, seat_root, seat_unknown}

pub returns-in_err-known_keys : goal.returns-in_err-known_keys
returns-in_err-known_keys c =
    let p = err_from_is_err_and c.from_residual.result c.from_residual.ensures.1 in
    rw (p.1, p.2) (seat_unknown _ _ _ _ c.in_err-known_keys.field-0.0 c.in_err-known_keys.ensures)

pub returns-in_err-node : goal.returns-in_err-node
returns-in_err-node c =
    let p = err_from_is_err_and c.from_residual-in_err-node.result
    c.from_residual-in_err-node.ensures.1 in
    rw (p.1, p.2) (seat_port _ _ _ _ c.in_err-node.field-0.0 c.in_ok-known_keys.ensures.0
    c.in_err-node.ensures)

pub returns-in_err-root : goal.returns-in_err-root
returns-in_err-root c =
    let p = err_from_is_err_and c.from_residual-in_err-root.result
    c.from_residual-in_err-root.ensures.1 in
    rw (p.1, p.2) (seat_root _ _ _ _ c.in_err-root.field-0.0 c.in_ok-known_keys.ensures.0
    c.in_ok-node.ensures.0 c.in_err-root.ensures)

pub returns : goal.returns
returns c =
    let good =
    seat_good c.args.classes.now c.args.k c.args.seats.now _ c.in_ok-node.node c.in_ok-root.root
    c.in_ok-known_keys.ensures.0 c.in_ok-node.ensures.0 c.in_ok-root.ensures.0
    c.in_ok-node.ensures.1.0 c.in_ok-root.ensures.1.0 in (
      good.0,
      record {
        said = good.1;
        free = c.in_ok-node.ensures.1.1;
        seated = record { port = c.in_ok-node.ensures.1.2; root = c.in_ok-root.ensures.1.1 };
      },
    )
