use Rattle.do_rules.proofs.run.fresh.add_nils.Given as goal
use Rattle.std.{proofs.Common.{◌≡◌, ◌+◌, ◌++◌, replicate}, specs.Prelude.{vec_capacity, vec_len}}
use Rattle.do_base.specs.declared.values.value.Value.TheVariants.{Nil}

abbrev pub invariant-loop-at : goal.invariant-loop-at
invariant-loop-at l = record {
  items : l.locals.items ≡ l.fn.locals.items ++ replicate l._at Nil;
  count : vec_len l.locals ≡ vec_len l.fn.locals + l._at;
  room : vec_capacity l.locals ≡ vec_capacity l.fn.locals;
}
