use Rattle.do_site.proofs.work.Work.shut.Goals as goal
use Rattle.std.proofs.Common.{◌∙◌, List, ap, ℕ}
use Rattle.do_machine.specs.declared.item.Item.TheVariants.{End}
use Rattle.do_effects.specs.Doing.{doing, moved}
use Rattle.do_site.{specs.Steps.{item_move, with_reading}, proofs.PlansKeep.on_ok}

-- an end that names nothing is taken
pub returns-clause-ok : goal.returns-clause-ok
returns-clause-ok c =
    let old = c.args.self.now.core in
    on_ok c.end_by.result (λ done f read. done f read
    ∙ ap (λ (serials : List ℕ). moved (with_reading c.args.from f (doing old))
    (item_move c.args.table.now c.args.from (End serials) old.part.own)) c.new.ensures)
    c.end_by.ensures.ok
