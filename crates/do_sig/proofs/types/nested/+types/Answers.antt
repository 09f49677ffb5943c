use Rattle.do_sig.proofs.types.nested.+types.Goals as goal
use Rattle.std.proofs.{Common.arith, lemmas.Result.err_from_is_err_and}
use Rattle.do_grammar.{specs.Reader.until, proofs.faults.AnswerExact.{bytes_from_each, rest_small}}
use Rattle.do_grammar.proofs.loops.UntilLoop.{short_turn, end_turn, value_turn, reads_less}
use Rattle.do_sig.{specs.reading.Types.type_at, proofs.TypeBySteps.ByStep}
use Rattle.do_grammar.proofs.loops.TimesLoop.{front_none}
use Rattle.do_sig.proofs.{MemberLoop.members_fail, TypeExact.{Reads-type, type_apart}}

pub members_of-members-init : goal.members_of-members-init
members_of-members-init t c = (
  front_none c.new-members.result (until 125 (type_at c.args.depth) c.args.bytes.now)
      c.new-members.ensures,
  bytes_from_each c.args.bytes.now
      (λ i. omega (arith, c.type_inv.bytes i)),
)

pub members_of-returns-in_default : goal.members_of-returns-in_default
members_of-returns-in_default t c = record {
  early = tt;
  gives =
      short_turn 125 (omega arith) (ByStep c.args.depth) (type_at c.args.depth)
      (Reads-type c.args.depth) (type_apart c.args.depth) (c.members.members) c.members.rest.now
      (until 125 (type_at c.args.depth) c.args.bytes.now) c.members.invariant.0
      c.in_default.ensures;
}

pub members_of-returns-then-b-eq125 : goal.members_of-returns-then-b-eq125
members_of-returns-then-b-eq125 t c = record {
  early = tt;
  gives =
      end_turn 125 (omega arith) (ByStep c.args.depth) (type_at c.args.depth)
      (Reads-type c.args.depth) (type_apart c.args.depth) (c.members.members) c.members.rest.now
      c.in-Some.b c.in-Some.after.now (until 125 (type_at c.args.depth) c.args.bytes.now)
      c.members.invariant.0 c.in-Some.ensures c.if-b-eq125.true;
}

pub members_of-returns-in_err-member : goal.members_of-returns-in_err-member
members_of-returns-in_err-member t c =
    let p = err_from_is_err_and c.from_residual.result c.from_residual.ensures.1 in
    record {
      gives = rw (p.1, p.2) (members_fail c.in_err-member.field-0.0 c.args.depth c.members.members
          c.members.rest.now c.in-Some.b c.in-Some.after.now
          (until 125 (type_at c.args.depth) c.args.bytes.now) c.members.invariant.0
          c.in-Some.ensures c.if-b-eq125.false c.in_err-member.ensures.gives);
      early = rw (p.1, p.2) c.in_err-member.ensures.early;
    }

pub members_of-members-smaller : goal.members_of-members-smaller
members_of-members-smaller t c =
    reads_less 125 (omega arith) (ByStep c.args.depth) (type_at c.args.depth)
    (Reads-type c.args.depth) (type_apart c.args.depth) c.members.rest.now
    (c.in_ok-member.member) c.in_ok-member.after.now c.members.invariant.1
    c.in_ok-member.ensures.gives

pub members_of-members-preserved : goal.members_of-members-preserved
members_of-members-preserved t c =
    let n = c.in_ok-member.member in
    let e = c.in_ok-push.ensures.ok in (
      rw e (value_turn 125 (omega arith) (ByStep c.args.depth) (type_at c.args.depth)
          (Reads-type c.args.depth) (type_apart c.args.depth) c.members.members c.members.rest.now
          c.in-Some.b c.in-Some.after.now n c.in_ok-member.after.now
          (until 125 (type_at c.args.depth) c.args.bytes.now) c.members.invariant.0
          c.in-Some.ensures c.if-b-eq125.false c.members.invariant.1
          c.in_ok-member.ensures.gives),
      rest_small (ByStep c.args.depth)
          (type_at c.args.depth) (Reads-type c.args.depth) c.members.rest.now n
          c.in_ok-member.after.now c.members.invariant.1
          c.in_ok-member.ensures.gives,
    )
