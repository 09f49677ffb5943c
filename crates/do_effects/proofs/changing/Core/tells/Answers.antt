use Rattle.do_effects.proofs.changing.Core.tells.Goals as goal
use Rattle.std.proofs.Common.{◌≡◌, true, refl, sym, ◌∙◌, subst}
use Rattle.do_base.specs.declared.values.value.Value.TheVariants.{Nil}
use Rattle.do_machine.specs.{declared.{item.Item.TheVariants.Oneway, node.Node.Node}, State.is_open}
use Rattle.do_machine.specs.run.Changes.{goes_on}
use Rattle.do_network.specs.Own.{Own}
use Rattle.do_effects.specs.{Doing.{Doing, doing}, Plans.top_changed, Sends.{CanSend, sends}}
use Rattle.do_effects.{specs.Tidy.IsTidy, proofs.{Alone.tidy_node, Did.does_from, Turned.turned}}

-- a node whose top invocation goes on counts nothing that it does not keep
pub send-requires-clause-tidy : goal.send-requires-clause-tidy
send-requires-clause-tidy c =
    let p = c.args.self.now.part.own in
    subst IsTidy (sym c.goes.ensures.own)
    (tidy_node p (top_changed (goes_on c.args.into Nil c.args.pc) p.node)
    (record { ends = refl; held = refl; asked = refl }) c.requires.tidy)

-- its end towards the peer is still open
pub send-requires-clause-open : goal.send-requires-clause-open
send-requires-clause-open c =
    subst (λ (p : Own). is_open p.node c.args.peer ≡ true) (sym c.goes.ensures.own)
    c.requires.can.open_end

-- it can still name what the message names
pub send-requires-clause-can : goal.send-requires-clause-can
send-requires-clause-can c =
    subst (λ (p : Own). CanSend p.node (Oneway c.args.message)) (sym c.goes.ensures.own)
    c.requires.can.names

-- the top invocation goes on, and the message is sent
pub returns-clause-done : goal.returns-clause-done
returns-clause-done c = λ r run.
    let d : Doing = doing c.args.self.now in
    let n = d.own.node in
    c.send.ensures.sent
    ∙ does_from d c.goes.new.part.own (top_changed (goes_on c.args.into Nil c.args.pc) n) _
    (λ (x : Node). sends c.args.peer (Oneway c.args.message) x) refl c.goes.ensures.own
    (turned n r (goes_on c.args.into Nil c.args.pc) run)
