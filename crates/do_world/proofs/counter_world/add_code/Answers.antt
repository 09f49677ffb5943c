use Rattle.do_world.proofs.counter_world.add_code.Goals as goal
use Rattle.std.proofs.Common.{◌≡◌, rules}
use Rattle.do_world.proofs.CounterTexts.{add_has_no_fault, add_is_code, slot_names}

pub code_of-requires : goal.code_of-requires
code_of-requires c =
    let named : c.push.new.self ≡ slot_names = search rules in
    add_has_no_fault _ _ named c.requires

pub returns : goal.returns
returns c =
    let named : c.push.new.self ≡ slot_names = search rules in
    add_is_code _ _ _ named c.requires c.code_of.ensures
