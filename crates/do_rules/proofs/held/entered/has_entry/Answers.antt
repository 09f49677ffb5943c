-- An object has an entry where it is among those that are collected.
use Rattle.do_rules.proofs.held.entered.has_entry.Goals as goal
use Rattle.std.proofs.Common.{◌≡◌, ◌++◌, ◌∙◌, ap, rules}
use Rattle.do_rules.{proofs.HeldUp.entry_is, specs.HeldUp.entered}

pub returns : goal.returns
returns c =
    let home : c.object.inside.node ≡ c.args.object.now.node = search rules in
    c.has_object-entry.ensures
    ∙ entry_is c.args.state.now c.args.peer c.args.object.now c.object.inside.node _ home
    (c.in_ok-push_entered.ensures
    ∙ ap (λ os. os ++ entered c.args.state.now c.object.inside.node c.args.peer)
    c.new-entered.ensures)
