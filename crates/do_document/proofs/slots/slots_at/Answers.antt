use Rattle.do_document.proofs.slots.slots_at.Goals as goal
use Rattle.std.proofs.lemmas.Result.{err_from_is_err_and}
use Rattle.do_document.proofs.Loops.{slots_listed, slots_read}

pub returns-in_err-check_list : goal.returns-in_err-check_list
returns-in_err-check_list c =
    let p = err_from_is_err_and c.from_residual.result c.from_residual.ensures.1 in
    rw (p.1, p.2) (slots_listed _ _ c.in_err-check_list.field-0.0 c.in_err-check_list.ensures)

pub returns : goal.returns
returns c =
    slots_read _ _ _ _ c.in_ok-check_list.ensures.0 c.in_ok-check_list.ensures.1
    c.in_ok-texts.ensures (rw c.as_slice.ensures.value at c.slots_of.ensures)
