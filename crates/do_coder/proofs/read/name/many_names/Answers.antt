use Rattle.do_coder.proofs.read.name.many_names.Goals as goal
use Rattle.std.proofs.Common.{ap, refl}
use Rattle.do_coder.specs.{Recent.after_name, NameLog.Tables}
use Rattle.do_grammar.specs.OneSpelling.{times_by}
use Rattle.do_coder.specs.Names.{name_at}
use Rattle.do_grammar.proofs.loops.TimesByLoop.{value_turn_by, fold_push}

pub loop-preserved : goal.loop-preserved
loop-preserved c =
    let r = name_at c.args.sides.now in
    let table = c.loop.invariant.table in
    let now = ap (λ (w : Tables). w.now) table in
    let kept = ap (λ (w : Tables). w.kept) table in
    let total = times_by r after_name c.args.count c.args.recent.now.now c.args.bytes.now in
    rw (c.in_ok-push-in-Ok.ensures.ok, c.in-Ok.ensures.after) (record {
      so_far =
          value_turn_by r after_name c.loop.names c.args.count c.loop.counter c.loop.recent.now
          c.loop.rest.now total c.loop.invariant.so_far c.loop-test.true c.in-Ok.name
          c.in-Ok.after.now c.in-Ok.ensures.gives;
      table = rw (
        fold_push after_name c.args.recent.now.now c.loop.names c.in-Ok.name,
        now,
        kept,
      ) refl;
    })
