use Rattle.do_script.proofs.assembler.assemble.Goals as goal
use Rattle.do_script.specs.{Assembly.scope, Program.program}
use Rattle.do_script.proofs.FirstFault.{accepted_result, refused_result}

pub returns-clause-accepted : goal.returns-clause-accepted
returns-clause-accepted c =
    let names = scope c.args.slots.now c.args.classes.now c.args.text.now in
    λ good. accepted_result names
    (program c.args.text.now) c.read_code.result c.read_code.ensures.fault good

pub returns-clause-refused : goal.returns-clause-refused
returns-clause-refused c =
    λ line kind first.
    refused_result c.args.slots.now c.args.classes.now c.args.text.now c.read_code.result
    c.read_code.ensures.code c.read_code.ensures.fault line kind first
