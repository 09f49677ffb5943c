use Rattle.do_base.proofs.outside.mem_shelf.find.Goals as goal
use Rattle.std.proofs.Common.{◌≡◌, sym, ◌∙◌, arith, true≢false}
use Rattle.do_base.proofs.FileSearch.{file_named_here, file_named_later}

pub returns-then-is : goal.returns-then-is
returns-then-is c =
    let name_is = sym (c.is.ensures.0 c.if-is.true ∙ c.as_slice.ensures) in
    let here = file_named_here c.args.name.now c.as_slice-file-items.result.now
    c.loop-file.file-index c.file-item.result (omega arith) c.file-item.is name_is in
    cc (here, c.loop-file.invariant)

pub loop-file-preserved : goal.loop-file-preserved
loop-file-preserved c =
    let differs = λ (e : c.args.name.now ≡ c.file-item.result.name). true≢false
    (sym (c.if-is.ensures.1 (sym (c.as_slice.ensures ∙ e)))) in
    file_named_later c.args.name.now c.as_slice-file-items.result.now c.loop-file.file-index
    c.file-item.result (omega arith) c.file-item.is differs
    ∙ c.loop-file.invariant
