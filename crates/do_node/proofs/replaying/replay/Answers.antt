use Rattle.do_node.proofs.replaying.replay.Goals as goal
use Rattle.std.{proofs.Common.{◌≡◌, ◌∙◌, subst}, specs.Prelude.OnOk}
use Rattle.do_base.specs.outside.Bytes.{HasWritten, with_more}
use Rattle.do_node.proofs.OpenedNetwork.{first_as_one, has_node, nothing_as_one, whole_as_one}
use Rattle.do_node.proofs.OpenedNetwork.{wired_world}

-- a world has a node
pub net_of-requires : goal.net_of-requires
net_of-requires g c = has_node c.args.world c.in_ok-parts.parts.nodes
    c.in_ok-parts.ensures.nodes c.requires.opens

-- what is written is the transcript of the network that opened
pub returns-clause-ok : goal.returns-clause-ok
returns-clause-ok g c =
    let parts = c.in_ok-parts.ensures in
    let opened = c.in_ok-net.ensures in
    let told = g.K.Sink.written in
    subst (λ text. OnOk c.write_transcript.result
    (told c.write_transcript.new.out ≡ with_more (told c.args.out.now) text))
    (wired_world c.args.world _ _ _ c.args.lines
    (c.get.ensures ∙ c.in_ok-table.ensures.cases ∙ parts.table) (opened.acts ∙ parts.acts)
    (rw (parts.table, parts.nodes) at opened.net))
    c.write_transcript.ensures.ok

-- or it begins that
pub returns-clause-prefix : goal.returns-clause-prefix
returns-clause-prefix g c =
    let parts = c.in_ok-parts.ensures in
    let opened = c.in_ok-net.ensures in
    let told = g.K.Sink.written in
    subst (HasWritten (told c.args.out.now) (told c.write_transcript.new.out))
    (wired_world c.args.world _ _ _ c.args.lines
    (c.get.ensures ∙ c.in_ok-table.ensures.cases ∙ parts.table) (opened.acts ∙ parts.acts)
    (rw (parts.table, parts.nodes) at opened.net))
    c.write_transcript.ensures.prefix

-- before the network opened, nothing was written
pub returns-in_err-parts-clause-one_machine_first :
    goal.returns-in_err-parts-clause-one_machine_first
returns-in_err-parts-clause-one_machine_first g c =
    nothing_as_one c.args.world c.requires.opens c.args.lines (g.K.Sink.written c.args.out.now)

pub returns-in_err-table-clause-one_machine_first :
    goal.returns-in_err-table-clause-one_machine_first
returns-in_err-table-clause-one_machine_first g c =
    nothing_as_one c.args.world c.requires.opens c.args.lines (g.K.Sink.written c.args.out.now)

pub returns-in_err-net-clause-one_machine_first : goal.returns-in_err-net-clause-one_machine_first
returns-in_err-net-clause-one_machine_first g c =
    nothing_as_one c.args.world c.requires.opens c.args.lines (g.K.Sink.written c.args.out.now)

-- the whole is the transcript of one machine with what was sent put in
pub returns-clause-one_machine : goal.returns-clause-one_machine
returns-clause-one_machine g c =
    let parts = c.in_ok-parts.ensures in
    let opened = c.in_ok-net.ensures in
    whole_as_one c.args.world _ _ _ c.args.lines
    (c.get.ensures ∙ c.in_ok-table.ensures.cases ∙ parts.table) (opened.acts ∙ parts.acts)
    (rw (parts.table, parts.nodes) at opened.net) c.requires.opens c.write_transcript.result
    c.write_transcript.ensures.one_machine

-- and what was written begins such a text
pub returns-clause-one_machine_first : goal.returns-clause-one_machine_first
returns-clause-one_machine_first g c =
    let parts = c.in_ok-parts.ensures in
    let opened = c.in_ok-net.ensures in
    let told = g.K.Sink.written in
    first_as_one c.args.world _ _ _ c.args.lines
    (c.get.ensures ∙ c.in_ok-table.ensures.cases ∙ parts.table) (opened.acts ∙ parts.acts)
    (rw (parts.table, parts.nodes) at opened.net) c.requires.opens (told c.args.out.now)
    (told c.write_transcript.new.out) c.write_transcript.ensures.one_machine_first
