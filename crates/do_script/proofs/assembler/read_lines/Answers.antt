use Rattle.do_script.proofs.assembler.read_lines.Goals as goal
use Rattle.std.proofs.Common.{◌≡◌, ◌+◌, List, Ok, Err, length, sym, subst, arith, rules}
use Rattle.std.specs.Option.{option_to_list}
use Rattle.do_script.specs.{declared.instruction.Instruction.Instruction, Labels.scope_in}
use Rattle.do_script.specs.{Labels.IsInScope, Words.words, Program.{program, statement_of, made}}
use Rattle.do_script.proofs.{LabelsSoFar.{program_cut, program_none}, LinesRead.Reached}
use Rattle.do_script.proofs.LinesRead.{reached_more, reached_fault, reached_end, All-option_to_list}
use Rattle.do_script.specs.Fault.{Reads}
use Rattle.std.proofs.lemmas.List.Elements.{All-append}

pub returns-in-Err-clause-fault : goal.returns-in-Err-clause-fault
returns-in-Err-clause-fault c =
    let next =
    program_cut c.loop-line.rest.now c.in-Some.line.now c.in-Some.more.now c.in-Some.field-0-1
    c.in-Some.ensures.line in
    let len : c.len.result ≡ length c.loop-line.code.items = search rules in
    let value : Reads option_to_list (Err c.in-Err.fault)
    (made (scope_in c.args.names.now) c.loop-line.number c.len.result
    (statement_of (words c.in-Some.line.now))) = search rules in
    rw c.answer_to.ensures
    (reached_fault _ _ _ _ _ _ _ _ c.loop-line.invariant.read next (rw len at value))

pub loop-line-preserved : goal.loop-line-preserved
loop-line-preserved c =
    let next =
    program_cut c.loop-line.rest.now c.in-Some.line.now c.in-Some.more.now c.in-Some.field-0-1
    c.in-Some.ensures.line in
    let len : c.len.result ≡ length c.loop-line.code.items = search rules in
    let value : made (scope_in c.args.names.now) c.loop-line.number c.len.result
    (statement_of (words c.in-Some.line.now)) ≡ Ok (option_to_list c.in-Ok.made) =
    search rules in
    let here : made (scope_in c.args.names.now) c.loop-line.number (length c.loop-line.code.items)
    (statement_of (words c.in-Some.line.now)) ≡ Ok (option_to_list c.in-Ok.made) =
    rw len at value in
    record {
      read =
          subst (λ (code : List Instruction).
          Reached (scope_in c.args.names.now) (program c.args.text.now) (c.loop-line.number + 1)
          (program c.in-Some.more.now) code)
          (sym c.in_ok-push_made.ensures)
          (reached_more _ _ _ _ _ _ _ (option_to_list c.in-Ok.made) c.loop-line.invariant.read next
          here);
      scope =
          rw c.in_ok-push_made.ensures
          (All-append (IsInScope c.args.names.now) _ _ c.loop-line.invariant.scope
          (All-option_to_list (IsInScope c.args.names.now) c.in-Ok.made c.in-Ok.ensures.within));
      within = omega (arith, c.in-Some.ensures.shorter);
    }

pub returns-clause-code : goal.returns-clause-code
returns-clause-code c =
    (reached_end _ _ _ _ _ c.loop-line.invariant.read
    (program_none c.loop-line.rest.now c.in_default.ensures.line)).0

pub returns-clause-size : goal.returns-clause-size
returns-clause-size c =
    (reached_end _ _ _ _ _ c.loop-line.invariant.read
    (program_none c.loop-line.rest.now c.in_default.ensures.line)).1
