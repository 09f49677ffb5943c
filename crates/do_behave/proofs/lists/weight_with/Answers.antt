use Rattle.do_behave.proofs.lists.weight_with.Goals as goal
use Rattle.std.proofs.Common.{sym, ◌∙◌}
use Rattle.do_behave.proofs.KnownWeights.{fitting, too_heavy, without_room}

pub returns-then-not-has_room-clause-none : goal.returns-then-not-has_room-clause-none
returns-then-not-has_room-clause-none c =
    without_room c.args.list.now c.args.item.now c.args.items.now c.requires.same
    (sym c.has_room.ensures ∙ c.if-not-has_room.true)

pub returns-in_default-clause-none : goal.returns-in_default-clause-none
returns-in_default-clause-none c =
    too_heavy c.args.list.now c.args.item.now c.args.items.now c.requires.same
    (sym c.in_default.is ∙ c.left_behind_longer.ensures)

pub returns-clause-some : goal.returns-clause-some
returns-clause-some c =
    fitting c.args.list.now c.args.item.now c.args.items.now c.requires.same c.in-Some.rest
    (sym c.has_room.ensures ∙ c.if-not-has_room.false)
    (sym c.in-Some.is ∙ c.left_behind_longer.ensures)
