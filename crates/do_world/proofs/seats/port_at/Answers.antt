use Rattle.do_world.proofs.seats.port_at.Goals as goal
use Rattle.std.proofs.{Common.{◌≡◌, None, Some, arith, false, true}, lemmas.Grind.common_steps}
use Rattle.std.proofs.lemmas.Result.{err_from_is_err_and}
use Rattle.toml.specs.View.{view}
use Rattle.do_document.proofs.InOrder.{required_absent}
use Rattle.do_world.specs.{Faults.{is_free, is_new_port}, Worlds.port_of}
use Rattle.do_world.proofs.SeatSteps.{port_good, port_wrong, port_within}

pub returns-in_err-value : goal.returns-in_err-value
returns-in_err-value c =
    let p = err_from_is_err_and c.from_residual.result c.from_residual.ensures.1 in
    rw (p.1, p.2) (required_absent _ _ _ _ c.in_err-value.field-0.0 c.in_err-value.ensures)

pub returns-in_default : goal.returns-in_default
returns-in_default c =
    let none : port_of (view c.in_ok-value.value.now) ≡ None =
    grind (arith, common_steps, c.in_default.ensures, c.node_of.ensures) in
    let fails : is_new_port c.args.seats.now (view c.in_ok-value.value.now) ≡ false = rw none in
    port_wrong _ _ _ (view c.in_ok-value.value.now) _ c.in_ok-value.ensures.1 fails c.wrong.ensures

pub returns-then-not-is_free : goal.returns-then-not-is_free
returns-then-not-is_free c =
    let port : port_of (view c.in_ok-value.value.now) ≡ Some c.in-Some.node =
    grind (arith, common_steps, c.in-Some.ensures, c.node_of.ensures, c.in-Some.is) in
    let taken : is_free c.args.seats.now c.in-Some.node ≡ false =
    grind (arith, common_steps, c.if-not-is_free.true, c.is_free.ensures) in
    let fails : is_new_port c.args.seats.now (view c.in_ok-value.value.now) ≡ false =
    rw (port, taken) in
    port_wrong _ _ _ (view c.in_ok-value.value.now) _ c.in_ok-value.ensures.1 fails
    c.wrong-then-not-is_free.ensures

pub returns : goal.returns
returns c =
    let port : port_of (view c.in_ok-value.value.now) ≡ Some c.in-Some.node =
    grind (arith, common_steps, c.in-Some.ensures, c.node_of.ensures, c.in-Some.is) in
    let free : is_free c.args.seats.now c.in-Some.node ≡ true =
    grind (arith, common_steps, c.if-not-is_free.false, c.is_free.ensures) in
    let good =
    port_good c.args.place c.args.seats.now _ (view c.in_ok-value.value.now) c.in-Some.node
    c.in_ok-value.ensures.1 port free in
    (good.0, (good.1, free, port_within (view c.in_ok-value.value.now) c.in-Some.node port))
