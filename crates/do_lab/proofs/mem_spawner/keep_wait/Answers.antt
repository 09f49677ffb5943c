use Rattle.do_lab.proofs.mem_spawner.keep_wait.Goals as goal
use Rattle.std.proofs.Common.{arith}
use Rattle.do_lab.proofs.ChildFlags.{running_waited}

pub post-requires : goal.post-requires
post-requires c =
    omega (
      arith,
      running_waited c.args.waited.now.items c.args.child c.requires.runs,
      c.requires.room,
    )

pub returns-clause-room : goal.returns-clause-room
returns-clause-room c =
    omega (
      arith,
      running_waited c.args.waited.now.items c.args.child c.requires.runs,
      c.requires.room,
      c.post.ensures.spare,
    )
