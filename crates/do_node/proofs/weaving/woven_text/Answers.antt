use Rattle.do_node.proofs.weaving.woven_text.Goals as goal
use Rattle.std.proofs.Common.{Err, Ok, arith}
use Rattle.do_machine.specs.World.{opening}
use Rattle.do_weave.specs.Telling.{Tells}
use Rattle.do_node.{specs.Weaving.{rules_of, world_woven}, proofs.WovenTold.lines_agree}
use Rattle.do_node.proofs.WovenTold.{lines_must_weave, lines_weave, opened_machine, records_within}
use Rattle.do_node.proofs.WovenTold.{told_woven, weaving_must_stop, weaving_refuses, weaving_stops}

-- the network stands for the opening of the one machine
pub weave-requires-clause-stands : goal.weave-requires-clause-stands
weave-requires-clause-stands g c =
    let w = c.args.world in
    let opened = c.in_ok-net.ensures in (
      rules_of w,
      opening w.table w.nodes,
      opened_machine g.S.Hosted.seen w c.in_ok-net.net opened.table opened.acts opened.stands
          opened.one_machine,
    )

-- records have no more blocks than steps
pub weave-requires-clause-blocks : goal.weave-requires-clause-blocks
weave-requires-clause-blocks g c =
    omega (arith, records_within c.args.records.now, c.requires.steps)

-- the lines that were woven are a text
pub returns-in-Ok-clause-says : goal.returns-in-Ok-clause-says
returns-in-Ok-clause-says g c =
    let opened = c.in_ok-net.ensures in
    let told : Tells (world_woven c.args.world c.args.records.now) (Ok c.in-Ok.lines) =
    told_woven g.S.Hosted.seen c.args.world c.args.records.now c.in_ok-net.net (Ok c.in-Ok.lines)
    opened.table opened.acts opened.stands opened.one_machine
    (λ R state is. c.in-Ok.ensures R state is) in
    lines_weave c.args.world c.args.records.now c.in-Ok.lines _ told
    c.in_ok-schedule_text-in-Ok.ensures

-- and no other text is woven
pub returns-in-Ok-clause-accepts : goal.returns-in-Ok-clause-accepts
returns-in-Ok-clause-accepts g c = λ text weaves.
    let opened = c.in_ok-net.ensures in
    let told : Tells (world_woven c.args.world c.args.records.now) (Ok c.in-Ok.lines) =
    told_woven g.S.Hosted.seen c.args.world c.args.records.now c.in_ok-net.net (Ok c.in-Ok.lines)
    opened.table opened.acts opened.stands opened.one_machine
    (λ R state is. c.in-Ok.ensures R state is) in
    lines_must_weave c.args.world c.args.records.now c.in-Ok.lines _ text told
    c.in_ok-schedule_text-in-Ok.ensures weaves

-- nor do the records contradict
pub returns-in-Ok-clause-refuses : goal.returns-in-Ok-clause-refuses
returns-in-Ok-clause-refuses g c = λ status bad.
    let opened = c.in_ok-net.ensures in
    let told : Tells (world_woven c.args.world c.args.records.now) (Ok c.in-Ok.lines) =
    told_woven g.S.Hosted.seen c.args.world c.args.records.now c.in_ok-net.net (Ok c.in-Ok.lines)
    opened.table opened.acts opened.stands opened.one_machine
    (λ R state is. c.in-Ok.ensures R state is) in
    absurd (lines_agree c.args.world c.args.records.now c.in-Ok.lines status told bad)

-- what contradicts stops the weaving
pub returns-clause-stopped : goal.returns-clause-stopped
returns-clause-stopped g c =
    let opened = c.in_ok-net.ensures in
    let told : Tells (world_woven c.args.world c.args.records.now) (Err c.in-Err.fault) =
    told_woven g.S.Hosted.seen c.args.world c.args.records.now c.in_ok-net.net
    (Err c.in-Err.fault) opened.table opened.acts opened.stands opened.one_machine
    (λ R state is. c.in-Err.ensures R state is) in
    rw c.told_of_weaving.ensures
    (weaving_stops c.args.world c.args.records.now c.in-Err.fault told)

-- and no text is woven then
pub returns-clause-accepts : goal.returns-clause-accepts
returns-clause-accepts g c = λ text weaves.
    let opened = c.in_ok-net.ensures in
    let told : Tells (world_woven c.args.world c.args.records.now) (Err c.in-Err.fault) =
    told_woven g.S.Hosted.seen c.args.world c.args.records.now c.in_ok-net.net
    (Err c.in-Err.fault) opened.table opened.acts opened.stands opened.one_machine
    (λ R state is. c.in-Err.ensures R state is) in
    rw c.told_of_weaving.ensures
    (weaving_must_stop c.args.world c.args.records.now c.in-Err.fault text told weaves)

-- and the status is that of the contradiction
pub returns-clause-refuses : goal.returns-clause-refuses
returns-clause-refuses g c = λ status bad.
    let opened = c.in_ok-net.ensures in
    let told : Tells (world_woven c.args.world c.args.records.now) (Err c.in-Err.fault) =
    told_woven g.S.Hosted.seen c.args.world c.args.records.now c.in_ok-net.net
    (Err c.in-Err.fault) opened.table opened.acts opened.stands opened.one_machine
    (λ R state is. c.in-Err.ensures R state is) in
    rw c.told_of_weaving.ensures
    (weaving_refuses c.args.world c.args.records.now c.in-Err.fault status told bad)
