use Rattle.do_sched.proofs.reading.lines_of.Goals as goal
use Rattle.std.proofs.Common.{◌+◌, ◌≤◌, List, sym, subst, ◌∙◌, arith, rules}
use Rattle.std.proofs.lemmas.List.{length-append, Sums.sum_by-append}
use Rattle.do_grammar.specs.Lines.{cut}
use Rattle.do_sched.specs.{declared.line.Line.Line, Spelling.{steps, steps_of}, Schedule.Opens}
use Rattle.do_sched.proofs.LinesSoFar.{starts_missing, bad_first, opened, end_missing, ends_well}
use Rattle.do_sched.proofs.LinesSoFar.{bad_behind, bad_between, too_many, goes_on}

pub returns-in_default : goal.returns-in_default
returns-in_default c = starts_missing c.args.version c.args.bytes.now c.in_default.ensures.line

pub returns-then-not-is_whole_line : goal.returns-then-not-is_whole_line
returns-then-not-is_whole_line c =
    bad_first c.args.version c.args.bytes.now _ _ c.in-Some.ensures.line (rw (← c.header.ensures)
    (sym c.is_whole_line.ensures ∙ search rules))

pub lines-init : goal.lines-init
lines-init c = record {
  opens = subst
      (λ (w : List Line). Opens c.args.version c.args.bytes.now w (cut c.in-Some.behind.now))
      (sym c.new-lines.ensures)
      (opened c.args.version c.args.bytes.now _ _ c.in-Some.ensures.line (rw (← c.header.ensures)
      (sym c.is_whole_line.ensures ∙ search rules)));
  number = rw c.new-lines.ensures (omega arith);
  steps = rw c.new-lines.ensures (omega arith);
  room = omega (arith, c.in-Some.ensures.shorter);
}

pub returns-in_default-line_of : goal.returns-in_default-line_of
returns-in_default-line_of c =
    end_missing c.args.version c.args.bytes.now c.lines.rest.now c.lines.lines
    c.lines.invariant.opens
    (c.lines.number + 1) c.in_default-line_of.ensures.line (omega (arith, c.lines.invariant.number))

pub returns-then-is_empty : goal.returns-then-is_empty
returns-then-is_empty c =
    ends_well c.args.version c.args.bytes.now c.lines.rest.now c.lines.lines c.lines.invariant.opens
    _
    c.in-Some-line_of.after.now c.in-Some-line_of.ensures.line
    (sym c.is_whole_line-in-lines.ensures ∙ c.if-is_whole_line.true) (search rules)

pub returns-then-is_whole_line : goal.returns-then-is_whole_line
returns-then-is_whole_line c =
    bad_behind c.args.version c.args.bytes.now c.lines.rest.now c.lines.lines
    c.lines.invariant.opens _
    c.in-Some-line_of.after.now c.in-Some-line_of.ensures.line (c.lines.number + 1 + 1)
    (sym c.is_whole_line-in-lines.ensures
    ∙ c.if-is_whole_line.true) (search rules) (omega (arith, c.lines.invariant.number))

pub returns-in_default-2 : goal.returns-in_default-2
returns-in_default-2 c =
    bad_between c.args.version c.args.bytes.now c.lines.rest.now c.lines.lines
    c.lines.invariant.opens _
    c.in-Some-line_of.after.now c.in-Some-line_of.ensures.line (c.lines.number + 1)
    (sym c.is_whole_line-in-lines.ensures ∙ c.if-is_whole_line.false) (sym c.in_ok-line.ensures
    ∙ c.in_default-2.is) (omega (arith, c.lines.invariant.number))

pub returns-then-more-steps : goal.returns-then-more-steps
returns-then-more-steps c =
    too_many c.args.version c.args.bytes.now c.lines.rest.now c.lines.lines c.lines.invariant.opens
    _
    c.in-Some-line_of.after.now c.in-Some-line_of.ensures.line
    (c.lines.number + 1) c.in-Some-2.line (sym c.in_ok-line.ensures
    ∙ c.in-Some-2.is) (omega (
      arith,
      c.steps_in-more.ensures,
      c.lines.invariant.steps,
      c.if-more-steps.true,
      c.lines.invariant.opens.few,
    ))
    (omega (arith, c.lines.invariant.number))

pub lines-preserved : goal.lines-preserved
lines-preserved c =
    let few : steps_of c.lines.lines + steps c.in-Some-2.line ≤ 1000000 =
    omega (
      arith,
      c.steps_in-more.ensures,
      c.lines.invariant.steps,
      c.if-more-steps.false,
      c.lines.invariant.opens.few,
    ) in
    record {
      opens = subst
          (λ (w : List Line). Opens c.args.version c.args.bytes.now w
          (cut c.in-Some-line_of.after.now))
          (sym c.in_ok-push.ensures.ok)
          (goes_on c.args.version c.args.bytes.now c.lines.rest.now c.lines.lines
          c.lines.invariant.opens _
          c.in-Some-line_of.after.now c.in-Some-line_of.ensures.line c.in-Some-2.line
          (sym c.in_ok-line.ensures ∙ c.in-Some-2.is) few);
      number =
          rw c.in_ok-push.ensures.ok (simp length-append (omega (arith, c.lines.invariant.number)));
      steps = rw c.in_ok-push.ensures.ok
          (simp sum_by-append (omega (arith, c.steps_in-more.ensures, c.lines.invariant.steps)));
      room = omega (arith, c.in-Some-line_of.ensures.shorter, c.lines.invariant.room);
    }
