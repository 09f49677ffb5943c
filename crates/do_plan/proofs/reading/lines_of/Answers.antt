use Rattle.do_plan.proofs.reading.lines_of.Goals as goal
use Rattle.std.proofs.Common.{◌+◌, ◌≤◌, length, List, sym, subst, ◌∙◌, arith, rules}
use Rattle.std.proofs.lemmas.List.{length-append}
use Rattle.do_grammar.specs.Lines.{cut}
use Rattle.do_plan.specs.Form.{Opens}
use Rattle.do_plan.proofs.LinesSoFar.{starts_missing, bad_first, end_missing, ends_well, bad_early}
use Rattle.do_plan.proofs.LinesSoFar.{bad_behind, bad_between, too_many, goes_on}

pub returns-in_default : goal.returns-in_default
returns-in_default g c =
    λ reads. starts_missing g.F.LineForm.form g.F.LineForm.line_at reads c.args.bytes.now
    c.in_default.ensures.line

pub returns-then-not-is_whole_line : goal.returns-then-not-is_whole_line
returns-then-not-is_whole_line g c =
    λ reads. bad_first g.F.LineForm.form g.F.LineForm.line_at reads c.args.bytes.now _ _
    c.in-Some.ensures.line
    (rw (← c.header.ensures) (sym c.is_whole_line.ensures ∙ search rules))

pub returns-in_default-line_of : goal.returns-in_default-line_of
returns-in_default-line_of g c =
    λ reads. end_missing g.F.LineForm.form g.F.LineForm.line_at reads c.args.bytes.now
    c.lines.rest.now c.lines.lines (c.lines.invariant.opens reads) (c.lines.number + 1)
    c.in_default-line_of.ensures.line (omega (arith, c.lines.invariant.number))

pub returns-then-len-least : goal.returns-then-len-least
returns-then-len-least g c =
    λ reads. bad_early g.F.LineForm.form g.F.LineForm.line_at reads c.args.bytes.now
    c.lines.rest.now c.lines.lines (c.lines.invariant.opens reads) _ c.in-Some-line_of.after.now
    c.in-Some-line_of.ensures.line (c.lines.number + 1)
    (sym c.is_whole_line-in-lines.ensures ∙ c.if-is_whole_line.true)
    (omega (arith, c.len.ensures, c.least.ensures, c.if-len-least.true))
    (omega (arith, c.lines.invariant.number))

pub returns-then-is_empty : goal.returns-then-is_empty
returns-then-is_empty g c =
    λ reads. ends_well g.F.LineForm.form g.F.LineForm.line_at reads c.args.bytes.now
    c.lines.rest.now c.lines.lines (c.lines.invariant.opens reads) _ c.in-Some-line_of.after.now
    c.in-Some-line_of.ensures.line
    (sym c.is_whole_line-in-lines.ensures ∙ c.if-is_whole_line.true)
    (omega (arith, c.len.ensures, c.least.ensures, c.if-len-least.false)) (search rules)

pub returns-then-is_whole_line : goal.returns-then-is_whole_line
returns-then-is_whole_line g c =
    λ reads. bad_behind g.F.LineForm.form g.F.LineForm.line_at reads c.args.bytes.now
    c.lines.rest.now c.lines.lines (c.lines.invariant.opens reads) _ c.in-Some-line_of.after.now
    c.in-Some-line_of.ensures.line (c.lines.number + 1 + 1)
    (sym c.is_whole_line-in-lines.ensures ∙ c.if-is_whole_line.true)
    (omega (arith, c.len.ensures, c.least.ensures, c.if-len-least.false)) (search rules)
    (omega (arith, c.lines.invariant.number))

pub returns-in_default-2 : goal.returns-in_default-2
returns-in_default-2 g c =
    λ reads. bad_between g.F.LineForm.form g.F.LineForm.line_at reads c.args.bytes.now
    c.lines.rest.now c.lines.lines (c.lines.invariant.opens reads) _ c.in-Some-line_of.after.now
    c.in-Some-line_of.ensures.line (c.lines.number + 1)
    (sym c.is_whole_line-in-lines.ensures ∙ c.if-is_whole_line.false)
    (sym c.in_ok-line.ensures ∙ c.in_default-2.is) (omega (arith, c.lines.invariant.number))

pub returns-then-len-most : goal.returns-then-len-most
returns-then-len-most g c =
    λ reads. too_many g.F.LineForm.form g.F.LineForm.line_at reads c.args.bytes.now
    c.lines.rest.now c.lines.lines (c.lines.invariant.opens reads) _ c.in-Some-line_of.after.now
    c.in-Some-line_of.ensures.line (c.lines.number + 1) c.in-Some-2.line
    (sym c.in_ok-line.ensures ∙ c.in-Some-2.is)
    (omega (arith, c.len-in-lines.ensures, c.most.ensures, c.if-len-most.true))
    (omega (arith, c.lines.invariant.number))

pub lines-preserved : goal.lines-preserved
lines-preserved g c =
    let few : length c.lines.lines + 1 ≤ g.F.LineForm.form.most =
    omega (arith, c.len-in-lines.ensures, c.most.ensures, c.if-len-most.false) in
    record {
      opens = λ reads. subst (λ (w : List g.row.F.Denot).
          Opens g.F.LineForm.form c.args.bytes.now w (cut c.in-Some-line_of.after.now))
          {y = c.push.new.self} (sym c.in_ok-push.ensures.ok)
          (goes_on g.F.LineForm.form g.F.LineForm.line_at reads c.args.bytes.now c.lines.rest.now
          c.lines.lines (c.lines.invariant.opens reads) _ c.in-Some-line_of.after.now
          c.in-Some-line_of.ensures.line c.in-Some-2.line
          (sym c.in_ok-line.ensures ∙ c.in-Some-2.is) few);
      number =
          rw c.in_ok-push.ensures.ok (simp length-append (omega (arith, c.lines.invariant.number)));
      room = omega (arith, c.in-Some-line_of.ensures.shorter, c.lines.invariant.room);
    }
