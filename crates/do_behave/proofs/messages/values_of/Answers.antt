use Rattle.do_behave.proofs.messages.values_of.Goals as goal
use Rattle.std.proofs.{Common.{Some, sym, ◌∙◌, ap, add-one}, lemmas.Option.slice_get-get_or}
use Rattle.std.specs.Option.{option_copied}
use Rattle.do_behave.{specs.Steps.local_values, proofs.LocalValues.{values_more, values_none}}

pub returns-in_default : goal.returns-in_default
returns-in_default c =
    let found =
    slice_get-get_or c.as_slice-k-items.result.now c.loop-k.k-index 0 c.loop-k-test.true in
    sym (ap (local_values c.args.inv.now) (sym c.as_slice-k-items.ensures)
    ∙ values_none c.args.inv.now c.as_slice-k-items.result.now c.loop-k.k-index _ found
    (sym c.local.ensures ∙ ap option_copied c.in_default.is))

pub loop-k-preserved : goal.loop-k-preserved
loop-k-preserved c =
    let found =
    slice_get-get_or c.as_slice-k-items.result.now c.loop-k.k-index 0 c.loop-k-test.true in
    rw add-one (values_more c.args.inv.now c.as_slice-k-items.result.now c.loop-k.k-index _
    c.loop-k.values c.in-Some.value.now found c.loop-k.invariant
    (sym c.local.ensures ∙ ap option_copied c.in-Some.is)
    ∙ ap Some (sym c.in_ok-append_copy.ensures.ok))
