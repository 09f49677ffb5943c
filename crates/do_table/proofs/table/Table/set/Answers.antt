use Rattle.do_table.proofs.table.Table.set.Goals as goal
use Rattle.std.proofs.Common.{◌≡◌, Some, true, false, is_some, position, sym, ap, ◌∙◌, arith}
use Rattle.std.{proofs.lemmas.Grind.common_steps, specs.{Map.keys_of, Str.bytes_eq}}
use Rattle.do_table.specs.Entries.{value_of, replaced}
use Rattle.do_table.proofs.ReplacedEntries.{written_is_replaced, replaced_absent}

pub returns-in-Some-clause-new : goal.returns-in-Some-clause-new
returns-in-Some-clause-new g c =
    let es = c.self.inside.map.entries in
    let name = c.args.name.now in
    let there : is_some (value_of es name) ≡ true = grind (arith, common_steps) in
    let found : position (bytes_eq name) (keys_of es) ≡ Some c.in-Some.at =
    grind (arith, common_steps) in
    written_is_replaced name c.args.value es c.in-Some.at found there
    ∙ ap (λ xs. replaced xs name c.args.value) c.self.view_is

pub returns-in-None-clause-new : goal.returns-in-None-clause-new
returns-in-None-clause-new g c =
    let es = c.args.self.now in
    let name = c.args.name.now in
    let absent : is_some (value_of es name) ≡ false = grind (arith, common_steps) in
    sym (replaced_absent name c.args.value es absent)
