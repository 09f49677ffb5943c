use Rattle.do_frames.proofs.payload.front.frame_of.Goals as goal
use Rattle.std.proofs.Common.{◌∙◌, arith}
use Rattle.do_grammar.proofs.faults.AnswerExact.{bytes_from_each}
use Rattle.do_grammar.specs.Reader.{no_kind, short, bad}
use Rattle.do_frames.proofs.payloads.TableStays.{numbers_stay}
use Rattle.do_frames.proofs.payloads.WholePayload.{frame_known, whole_spelled, whole_only}
use Rattle.do_frames.proofs.payloads.WholePayload.{whole_never, whole_short, whole_left, whole_bad}

pub overflow_sub-result : goal.overflow_sub-result
overflow_sub-result c =
    whole_left c.args.table.now c.count-classes.ensures.table c.args.from c.args.to
    c.args.recent.now c.len-few.ensures.recent c.requires.known c.in-Some.kind c.args.number
    c.in-Some.ensures.number c.args.bytes.now c.in-Err-Bad.left
    (bytes_from_each c.args.bytes.now (λ i. omega (arith, c.type_inv.bytes i)))
    (rw c.in-Err-Bad.field-0-is at c.in-Err-Bad.ensures.gives)

pub returns-in-Ok-clause-exact : goal.returns-in-Ok-clause-exact
returns-in-Ok-clause-exact c =
    whole_spelled c.args.table.now c.count-classes.ensures.table c.args.from c.args.to
    c.args.recent.now c.len-few.ensures.recent c.requires.known c.in-Some.kind c.args.number
    c.in-Some.ensures.number c.args.bytes.now c.in-Ok.frame
    (bytes_from_each c.args.bytes.now (λ i. omega (arith, c.type_inv.bytes i)))
    c.in-Ok.ensures.gives

pub returns-in-Ok-clause-only : goal.returns-in-Ok-clause-only
returns-in-Ok-clause-only c = λ f spelled.
    whole_only c.args.table.now c.count-classes.ensures.table c.args.from c.args.to
    c.args.recent.now c.len-few.ensures.recent c.requires.known c.in-Some.kind c.args.number
    c.in-Some.ensures.number c.args.bytes.now c.in-Ok.frame f c.in-Ok.ensures.gives spelled

pub returns-in-Ok-clause-stay_known : goal.returns-in-Ok-clause-stay_known
returns-in-Ok-clause-stay_known c =
    let spelled = whole_spelled c.args.table.now c.count-classes.ensures.table c.args.from c.args.to
    c.args.recent.now c.len-few.ensures.recent c.requires.known c.in-Some.kind c.args.number
    c.in-Some.ensures.number c.args.bytes.now c.in-Ok.frame
    (bytes_from_each c.args.bytes.now (λ i. omega (arith, c.type_inv.bytes i)))
    c.in-Ok.ensures.gives in
    rw c.in-Ok.ensures.after (frame_known c.args.table.now c.count-classes.ensures.table c.args.from
    c.args.to c.args.recent.now c.len-few.ensures.recent c.requires.known c.in-Ok.frame
    spelled.fits.1)

pub returns-in-Err-Short-clause-exact : goal.returns-in-Err-Short-clause-exact
returns-in-Err-Short-clause-exact c =
    whole_short c.args.table.now c.count-classes.ensures.table c.args.from c.args.to
    c.args.recent.now c.len-few.ensures.recent c.requires.known c.in-Some.kind c.args.number
    c.in-Some.ensures.number c.args.bytes.now
    (bytes_from_each c.args.bytes.now (λ i. omega (arith, c.type_inv.bytes i)))
    (rw c.in-Err-Short.field-0-is at c.in-Err-Short.ensures.gives)

pub returns-in-Err-Short-clause-only : goal.returns-in-Err-Short-clause-only
returns-in-Err-Short-clause-only c = λ f spelled.
    whole_never c.args.table.now c.count-classes.ensures.table c.args.from c.args.to
    c.args.recent.now c.len-few.ensures.recent c.requires.known c.in-Some.kind c.args.number
    c.in-Some.ensures.number c.args.bytes.now short f
    (rw c.in-Err-Short.field-0-is at c.in-Err-Short.ensures.gives) spelled

pub returns-in-Err-Bad-clause-exact : goal.returns-in-Err-Bad-clause-exact
returns-in-Err-Bad-clause-exact c =
    whole_bad c.args.table.now c.count-classes.ensures.table c.args.from c.args.to
    c.args.recent.now c.len-few.ensures.recent c.requires.known c.in-Some.kind c.args.number
    c.in-Some.ensures.number c.args.bytes.now c.in-Err-Bad.left
    (bytes_from_each c.args.bytes.now (λ i. omega (arith, c.type_inv.bytes i)))
    (rw c.in-Err-Bad.field-0-is at c.in-Err-Bad.ensures.gives)

pub returns-in-Err-Bad-clause-only : goal.returns-in-Err-Bad-clause-only
returns-in-Err-Bad-clause-only c = λ f spelled.
    whole_never c.args.table.now c.count-classes.ensures.table c.args.from c.args.to
    c.args.recent.now c.len-few.ensures.recent c.requires.known c.in-Some.kind c.args.number
    c.in-Some.ensures.number c.args.bytes.now (bad no_kind c.in-Err-Bad.left) f
    (rw c.in-Err-Bad.field-0-is at c.in-Err-Bad.ensures.gives) spelled

pub returns-in-Ok-clause-names_stay : goal.returns-in-Ok-clause-names_stay
returns-in-Ok-clause-names_stay c = λ alone.
    let spelled = whole_spelled c.args.table.now c.count-classes.ensures.table c.args.from c.args.to
    c.args.recent.now c.len-few.ensures.recent c.requires.known c.in-Some.kind c.args.number
    c.in-Some.ensures.number c.args.bytes.now c.in-Ok.frame
    (bytes_from_each c.args.bytes.now (λ i. omega (arith, c.type_inv.bytes i)))
    c.in-Ok.ensures.gives in
    c.in-Ok.ensures.after ∙ numbers_stay c.args.recent.now c.in-Ok.frame c.args.number
    spelled.fits.0 alone
