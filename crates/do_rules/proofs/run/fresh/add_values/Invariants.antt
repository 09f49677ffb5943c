use Rattle.do_rules.proofs.run.fresh.add_values.Given as goal
use Rattle.std.{proofs.Common.{◌≡◌, ◌+◌, ◌++◌, take}, specs.Prelude.{vec_capacity, vec_len}}

abbrev pub invariant-loop-value : goal.invariant-loop-value
invariant-loop-value l = record {
  items : l.locals.items ≡ l.fn.locals.items ++ take l.value-index l.value-items;
  count : vec_len l.locals ≡ vec_len l.fn.locals + l.value-index;
  room : vec_capacity l.locals ≡ vec_capacity l.fn.locals;
}
