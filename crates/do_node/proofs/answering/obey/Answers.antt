use Rattle.do_node.proofs.answering.obey.Goals as goal
use Rattle.std.proofs.Common.{refl}
use Rattle.do_cli.specs.Help.{help_text, version_text}
use Rattle.do_cli.specs.declared.command.Command.TheVariants.{Help, Make, Version}
use Rattle.do_node.specs.{Replaying.made_text, Running.{link_seen, spawner_seen}}
use Rattle.do_node.proofs.AsOneMachine.{answered_so, summary_adds}
use Rattle.do_node.proofs.{NodesCome.{node_comes, plan_comes}, Obeying.obeys_writing}
use Rattle.do_node.proofs.{OrdersKept.answer_altered, TextsCome.text_comes}

-- a replay comes to what its call says
pub returns-in-Replay-clause-comes : goal.returns-in-Replay-clause-comes
returns-in-Replay-clause-comes g c = rw c.in-Replay.is (rw c.answer_of.ensures
    (text_comes _ _ _ _ _ _ _ c.replay_given.ensures.obeys))

-- so does what nothing can reach
pub returns-in-Leaks-clause-comes : goal.returns-in-Leaks-clause-comes
returns-in-Leaks-clause-comes g c = rw c.in-Leaks.is (rw c.answer_of-in-Leaks.ensures
    (text_comes _ _ _ _ _ _ _ c.leaks_given.ensures.obeys))

-- so do woven records
pub returns-in-Weave-clause-comes : goal.returns-in-Weave-clause-comes
returns-in-Weave-clause-comes g c = rw c.in-Weave.is (rw c.answer_of-in-Weave.ensures
    (text_comes _ _ _ _ _ _ _ c.write_woven.ensures.obeys))

-- so does an upgraded schedule
pub returns-in-Upgrade-clause-comes : goal.returns-in-Upgrade-clause-comes
returns-in-Upgrade-clause-comes g c = rw c.in-Upgrade.is (rw c.answer_of-in-Upgrade.ensures
    (text_comes _ _ _ _ _ _ _ c.write_upgraded.ensures.obeys))

-- so does a summary
pub returns-in-Make-clause-comes : goal.returns-in-Make-clause-comes
returns-in-Make-clause-comes g c = rw c.in-Make.is (rw c.answer_of-in-Make.ensures
    (text_comes _ _ _ _ _ _ _ (obeys_writing _ (Make c.in-Make.number c.in-Make.count) _ _ _ _
    (made_text c.in-Make.number c.in-Make.count) _ refl (λ files st is none. none)
    c.write_made.ensures.ok c.write_made.ensures.prefix c.write_made.ensures.stopped)))

-- a node that is served comes to what its serving says
pub returns-in-Node-clause-comes : goal.returns-in-Node-clause-comes
returns-in-Node-clause-comes g c =
    let seen = link_seen g.L.Link.told g.L.Link.faults g.K.Sink.written g.K.Sink.faults in
    rw c.in-Node.is (node_comes _ c.in-Node.port c.in-Node.world c.in-Node.starts c.in-Node.turns
    (seen c.args.link.now c.args.out.now) (seen c.serve_given.new.link c.serve_given.new.out) _ _
    c.serve_given.result c.serve_given.ensures.serves)

-- a plan comes to what its run says
pub returns-in-Lab-clause-comes : goal.returns-in-Lab-clause-comes
returns-in-Lab-clause-comes g c =
    let seen = spawner_seen g.P.Spawner.told g.P.Spawner.faults g.K.Sink.written g.K.Sink.faults in
    rw c.in-Lab.is (plan_comes _ c.in-Lab.plan (seen c.args.spawn.now c.args.out.now)
    (seen c.lab_given.new.spawn c.lab_given.new.out) _ _ c.lab_given.result
    c.lab_given.ensures.runs)

-- the help is written, and refused for nothing
pub returns-in-Help-clause-comes : goal.returns-in-Help-clause-comes
returns-in-Help-clause-comes g c = rw c.in-Help.is (rw c.answer_of-in-Help.ensures
    (text_comes _ _ _ _ _ _ _ (obeys_writing _ Help _ _ _ _ help_text _ refl
    (λ files st is none. none) c.write_help.ensures.ok c.write_help.ensures.prefix
    c.write_help.ensures.stopped)))

-- so is the version
pub returns-in-Version-clause-comes : goal.returns-in-Version-clause-comes
returns-in-Version-clause-comes g c = rw c.in-Version.is (rw c.answer_of-in-Version.ensures
    (text_comes _ _ _ _ _ _ _ (obeys_writing _ Version _ _ _ _ version_text _ refl
    (λ files st is none. none) c.write_version.ensures.ok c.write_version.ensures.prefix
    c.write_version.ensures.stopped)))

-- what a replay writes of a network is what one machine comes to
pub returns-in-Replay-clause-one_machine : goal.returns-in-Replay-clause-one_machine
returns-in-Replay-clause-one_machine g c = rw c.in-Replay.is (rw c.answer_of.ensures
    (answered_so _ _ _ _ _ _ _ _ c.replay_given.ensures.obeys c.replay_given.ensures.one_machine))

-- so is what a summary counts
pub returns-in-Make-clause-one_machine : goal.returns-in-Make-clause-one_machine
returns-in-Make-clause-one_machine g c = rw c.in-Make.is (rw c.answer_of-in-Make.ensures
    (answered_so _ _ (record { before = 0; now = 0 }) (record {
      before = g.K.Sink.faults c.args.out.now;
      now = g.K.Sink.faults c.write_made.new.out;
    }) _ _ _ _
    (obeys_writing (g.H.Shelf.files c.args.shelf.now) (Make c.in-Make.number c.in-Make.count) _ _ _
    _ (made_text c.in-Make.number c.in-Make.count) _ refl (λ files st is none. none)
    c.write_made.ensures.ok c.write_made.ensures.prefix c.write_made.ensures.stopped)
    (summary_adds c.in-Make.number c.in-Make.count _ _ _ c.write_made.ensures.one_machine
    c.write_made.ensures.ok c.write_made.ensures.prefix c.write_made.ensures.one_machine_first)))

-- of what nothing can reach no such thing is said
pub returns-in-Leaks-clause-one_machine : goal.returns-in-Leaks-clause-one_machine
returns-in-Leaks-clause-one_machine g c = rw c.in-Leaks.is tt

-- nor of woven records
pub returns-in-Weave-clause-one_machine : goal.returns-in-Weave-clause-one_machine
returns-in-Weave-clause-one_machine g c = rw c.in-Weave.is tt

-- nor of an upgraded schedule
pub returns-in-Upgrade-clause-one_machine : goal.returns-in-Upgrade-clause-one_machine
returns-in-Upgrade-clause-one_machine g c = rw c.in-Upgrade.is tt

-- nor of a node that is served
pub returns-in-Node-clause-one_machine : goal.returns-in-Node-clause-one_machine
returns-in-Node-clause-one_machine g c = rw c.in-Node.is tt

-- nor of a plan
pub returns-in-Lab-clause-one_machine : goal.returns-in-Lab-clause-one_machine
returns-in-Lab-clause-one_machine g c = rw c.in-Lab.is tt

-- nor of the help
pub returns-in-Help-clause-one_machine : goal.returns-in-Help-clause-one_machine
returns-in-Help-clause-one_machine g c = rw c.in-Help.is tt

-- nor of the version
pub returns-in-Version-clause-one_machine : goal.returns-in-Version-clause-one_machine
returns-in-Version-clause-one_machine g c = rw c.in-Version.is tt

-- records that are woven to a contradiction are altered
pub returns-in-Weave-clause-altered : goal.returns-in-Weave-clause-altered
returns-in-Weave-clause-altered g c = rw c.in-Weave.is (rw c.answer_of-in-Weave.ensures
    (answer_altered _ _ _ _ c.write_woven.ensures.altered))

-- of no other command is this said: of a replay
pub returns-in-Replay-clause-altered : goal.returns-in-Replay-clause-altered
returns-in-Replay-clause-altered g c = rw c.in-Replay.is tt

-- of what nothing can reach
pub returns-in-Leaks-clause-altered : goal.returns-in-Leaks-clause-altered
returns-in-Leaks-clause-altered g c = rw c.in-Leaks.is tt

-- of an upgraded schedule
pub returns-in-Upgrade-clause-altered : goal.returns-in-Upgrade-clause-altered
returns-in-Upgrade-clause-altered g c = rw c.in-Upgrade.is tt

-- of a summary
pub returns-in-Make-clause-altered : goal.returns-in-Make-clause-altered
returns-in-Make-clause-altered g c = rw c.in-Make.is tt

-- of a node that is served
pub returns-in-Node-clause-altered : goal.returns-in-Node-clause-altered
returns-in-Node-clause-altered g c = rw c.in-Node.is tt

-- of a plan
pub returns-in-Lab-clause-altered : goal.returns-in-Lab-clause-altered
returns-in-Lab-clause-altered g c = rw c.in-Lab.is tt

-- of the help
pub returns-in-Help-clause-altered : goal.returns-in-Help-clause-altered
returns-in-Help-clause-altered g c = rw c.in-Help.is tt

-- of the version
pub returns-in-Version-clause-altered : goal.returns-in-Version-clause-altered
returns-in-Version-clause-altered g c = rw c.in-Version.is tt

-- a schedule that is replayed stays within what frames can spell
pub returns-in-Replay-clause-within : goal.returns-in-Replay-clause-within
returns-in-Replay-clause-within g c =
    rw c.in-Replay.is (rw c.answer_of.ensures c.replay_given.ensures.within)

-- so does one after which is looked for what nothing can reach
pub returns-in-Leaks-clause-within : goal.returns-in-Leaks-clause-within
returns-in-Leaks-clause-within g c =
    rw c.in-Leaks.is (rw c.answer_of-in-Leaks.ensures c.leaks_given.ensures.within)

-- so does all that is done over a world for records
pub returns-in-Weave-clause-within : goal.returns-in-Weave-clause-within
returns-in-Weave-clause-within g c =
    rw c.in-Weave.is (rw c.answer_of-in-Weave.ensures c.write_woven.ensures.within)

-- and over that of the mesh
pub returns-in-Make-clause-within : goal.returns-in-Make-clause-within
returns-in-Make-clause-within g c =
    rw c.in-Make.is (rw c.answer_of-in-Make.ensures c.write_made.ensures.within)

-- of no other command is this said: of an upgraded schedule
pub returns-in-Upgrade-clause-within : goal.returns-in-Upgrade-clause-within
returns-in-Upgrade-clause-within g c = rw c.in-Upgrade.is tt

-- of a node that is served
pub returns-in-Node-clause-within : goal.returns-in-Node-clause-within
returns-in-Node-clause-within g c = rw c.in-Node.is tt

-- of a plan
pub returns-in-Lab-clause-within : goal.returns-in-Lab-clause-within
returns-in-Lab-clause-within g c = rw c.in-Lab.is tt

-- of the help
pub returns-in-Help-clause-within : goal.returns-in-Help-clause-within
returns-in-Help-clause-within g c = rw c.in-Help.is tt

-- of the version
pub returns-in-Version-clause-within : goal.returns-in-Version-clause-within
returns-in-Version-clause-within g c = rw c.in-Version.is tt
