use Rattle.do_services.proofs.services.Services.add.Goals as goal
use Rattle.std.proofs.{Common.{◌≡◌, None, arith}, lemmas.Grind.common_steps}
use Rattle.do_table.specs.{Entries.value_of, laws.TableLaws.{added_absent, table_pushed}}
use Rattle.do_services.specs.{Core.{is_entry, keyed}, laws.SlotsExact.own_entry}

pub invariant_of-self-2 : goal.invariant_of-self-2
invariant_of-self-2 c =
    let es = c.self.inside.services in
    let s = c.args.service in
    let absent : value_of es s.item ≡ None = grind (arith, common_steps) in
    let added = added_absent es s.item s absent in
    let longer =
    table_pushed 256 is_entry es (keyed s) (grind (arith, common_steps)) absent
    (own_entry s c.requires) c.self.invariant in
    grind (arith, common_steps, added, longer)
