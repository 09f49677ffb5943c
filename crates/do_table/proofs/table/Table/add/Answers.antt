use Rattle.do_table.proofs.table.Table.add.Goals as goal
use Rattle.std.proofs.{Common.{◌≡◌, false, is_some, arith}, lemmas.Grind.common_steps}
use Rattle.do_table.{specs.Entries.value_of, proofs.AddedEntries.inserted_is_added}

pub returns-in-Ok-clause-ok : goal.returns-in-Ok-clause-ok
returns-in-Ok-clause-ok g c =
    let absent : is_some (value_of c.args.self.now c.args.name) ≡ false =
    grind (arith, common_steps) in
    let entries = inserted_is_added c.args.name c.args.value c.args.self.now absent in
    grind (arith, common_steps, entries)
