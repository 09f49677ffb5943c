use Rattle.do_part.proofs.part.stack.pushing.last_item.Goals as goal
use Rattle.std.proofs.Common.{ap, sym, ◌∙◌, get_or}
use Rattle.do_base.specs.declared.values.value.Value.{List}
use Rattle.do_part.proofs.Pushed.{last-there}

-- what is read is the last item of the list
pub returns : goal.returns
returns c = λ vs item is.
    c.last.ensures.value
    ∙ last-there c.args.inv.now.locals c.args.list c.in_ok-get.field-0.now
    c.as_slice-2.result.now vs item
    (c.in_ok-get.ensures.lookup.1
    ∙ ap (λ l. get_or l c.args.list c.in_ok-get.field-0.now) c.as_slice.ensures)
    (sym c.value.ensures ∙ c.in-List.is ∙ ap List (sym c.as_slice-2.ensures)) is
