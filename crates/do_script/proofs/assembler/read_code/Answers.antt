use Rattle.do_script.proofs.assembler.read_code.Goals as goal
use Rattle.std.proofs.Common.{rules, subst}
use Rattle.do_script.specs.{Operands.Scope, Program.program, Assembly.IsCode}
use Rattle.do_script.proofs.LabelsSoFar.{places_within, scope_same}

pub read_lines-requires : goal.read_lines-requires
read_lines-requires c =
    places_within (program c.args.text.now) c.in_ok-labels.labels c.in_ok-labels.ensures

pub returns-in_err-instructions-clause-fault : goal.returns-in_err-instructions-clause-fault
returns-in_err-instructions-clause-fault c =
    let same =
    scope_same c.args.slots.now c.args.classes.now c.args.text.now
    c.in_ok-labels.labels c.in_ok-labels.ensures in
    rw (← same) (search rules)

pub returns-clause-code : goal.returns-clause-code
returns-clause-code c =
    let same =
    scope_same c.args.slots.now c.args.classes.now c.args.text.now
    c.in_ok-labels.labels c.in_ok-labels.ensures in
    rw c.new.ensures (record {
      instructions =
          subst
          (λ (s : Scope).
          IsCode s (program c.args.text.now) c.in_ok-instructions.instructions.items)
          same c.in_ok-instructions.ensures.code;
      slots_given = search rules;
      classes_given = search rules;
    })
