use Rattle.do_serve.proofs.serving.serve.Goals as goal
use Rattle.std.proofs.Common.{refl, inr}
use Rattle.do_output.proofs.ToldMore.{tells_both}

-- the line `end` was used
pub returns-in-Ok-true-clause-tells : goal.returns-in-Ok-true-clause-tells
returns-in-Ok-true-clause-tells g c =
    let e = c.in-Ok.ensures in
    let heard = rw c.as_slice.ensures at c.in-Ok-listen.ensures.told in
    let t = rw (c.in-Ok-true.field-0-test, e.0, c.as_mut_slice-fars.ensures.value, e.1)
    at c.in-Ok-true.ensures.tells in
    (t.0, tells_both _ _ _ _ _ heard t.1, t.2)

-- all turns were taken
pub returns-in-Ok-false-clause-tells : goal.returns-in-Ok-false-clause-tells
returns-in-Ok-false-clause-tells g c =
    let e = c.in-Ok.ensures in
    let heard = rw c.as_slice.ensures at c.in-Ok-listen.ensures.told in
    let t = rw (c.in-Ok-false.field-0-test, e.0, c.as_mut_slice-fars.ensures.value, e.1)
    at c.in-Ok-false.ensures.tells in
    (t.0, tells_both _ _ _ _ _ heard t.1, refl, t.2)

-- the output failed
pub returns-in-Err-Failed-serve_turns-clause-tells :
    goal.returns-in-Err-Failed-serve_turns-clause-tells
returns-in-Err-Failed-serve_turns-clause-tells g c =
    let e = c.in-Ok.ensures in
    let heard = rw c.as_slice.ensures at c.in-Ok-listen.ensures.told in
    let t = rw (c.in-Err-Failed-serve_turns.field-0-is, e.0, c.as_mut_slice-fars.ensures.value, e.1)
    at c.in-Err-Failed-serve_turns.ensures.tells in
    (t.0, tells_both _ _ _ _ _ heard t.1, t.2, t.3)

-- memory ran out in a turn
pub returns-clause-tells : goal.returns-clause-tells
returns-clause-tells g c =
    let e = c.in-Ok.ensures in
    let heard = rw c.as_slice.ensures at c.in-Ok-listen.ensures.told in
    let t = rw (c.in-Err-Memory-serve_turns.field-0-is, e.0, c.as_mut_slice-fars.ensures.value, e.1)
    at c.in-Err-Memory-serve_turns.ensures.tells in
    inr (t.0, tells_both _ _ _ _ _ heard t.1, t.2)
