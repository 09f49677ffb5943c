use Rattle.do_net_lost.proofs.ways.push_lane.Goals as goal
use Rattle.std.proofs.{Common.{◌∙◌, ◌++◌, ◌+◌, ap, drop, sym}, lemmas.List.append-nil}
use Rattle.do_net_named.specs.Waiting.{lane_names}
use Rattle.do_net_lost.proofs.LaneTurn.{drop_at}

-- where a frame cannot be read, nothing behind it is
pub returns-then-not-branch : goal.returns-then-not-branch
returns-then-not-branch c =
    let xs = c.args.lane.now.waiting in
    let i = c.loop-place.place in
    sym (c.loop-place.invariant.1
    ∙ ap (λ ys. c.loop-place.objects ++ lane_names c.args.table.now c.args.way.now.from
    c.args.way.now.to c.loop-place.names ys) (drop_at xs i _ (sym c.in-Some.ensures))
    ∙ (rw c.if-not-branch.true at c.in_ok-push_kept.ensures.added (drop (i + 1) xs))
    ∙ append-nil c.push_kept.new.objects)

-- one place more was read
pub loop-place-preserved : goal.loop-place-preserved
loop-place-preserved c =
    let xs = c.args.lane.now.waiting in
    let i = c.loop-place.place in (
      c.push_kept.ensures.known,
      c.loop-place.invariant.1
          ∙ ap (λ ys. c.loop-place.objects ++ lane_names c.args.table.now c.args.way.now.from
          c.args.way.now.to c.loop-place.names ys) (drop_at xs i _ (sym c.in-Some.ensures))
          ∙ (rw c.if-not-branch.false at c.in_ok-push_kept.ensures.added (drop (i + 1) xs)),
    )
