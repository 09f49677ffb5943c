use Rattle.do_names.proofs.names.Names.register.Goals as goal
use Rattle.std.proofs.{Common.{◌≡◌, None, arith}, lemmas.Grind.common_steps}
use Rattle.do_table.specs.{Entries.value_of, laws.TableLaws.{added_absent, table_pushed}}
use Rattle.do_names.specs.Core.{Entry, is_entry}

pub invariant_of-self-in-None : goal.invariant_of-self-in-None
invariant_of-self-in-None c =
    let es = c.self.inside.ports in
    let e : Entry = (c.args.name, c.args.port) in
    let absent : value_of es e.0 ≡ None = grind (arith, common_steps) in
    let added = added_absent es e.0 e.1 absent in
    let longer =
    table_pushed 512 is_entry es e (grind (arith, common_steps)) absent c.requires
    c.self.invariant in
    grind (arith, common_steps, added, longer)
