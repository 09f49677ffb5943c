use Rattle.do_effects.proofs.changing.Core.asks.Goals as goal
use Rattle.std.proofs.Common.{◌≡◌, ℕ, true, refl, sym, ◌∙◌, ap, arith, subst}
use Rattle.do_behave.specs.declared.invocation.InvState.TheVariants.{Waits}
use Rattle.do_machine.specs.{declared.{item.Item.Item, node.Node.Node}, State.is_open}
use Rattle.do_machine.specs.run.{Changes.{stands, uses_number}, Fresh.with_stack, Delivery.with_top}
use Rattle.do_machine.specs.run.Verdicts.{requesting, waits_for}
use Rattle.do_network.specs.Own.{Own}
use Rattle.do_stack.specs.Waiting.{with_top as first_changed}
use Rattle.do_effects.specs.{Doing.{Doing, does, doing}, Plans.{requested, top_changed}}
use Rattle.do_effects.specs.{Sends.{CanSend, GivesNothingUp, names_counted, sends}, Tidy.IsTidy}
use Rattle.do_effects.proofs.{Alone.tidy_node, Did.{does_from, requested_can, requested_keeps}}
use Rattle.do_effects.proofs.{Did.{requested_names, requested_sends}, Outs.{some_runs, used_up}}

-- there is a top invocation, since one runs
pub call_peer-number-requires-clause-top : goal.call_peer-number-requires-clause-top
call_peer-number-requires-clause-top c =
    some_runs c.args.self.now.part.own.node.stack c.requires.runs

-- it waits for nothing, since it runs
pub call_peer-number-requires-clause-used : goal.call_peer-number-requires-clause-used
call_peer-number-requires-clause-used c =
    λ top is. used_up c.args.self.now.part.own.node.stack top c.requires.runs is

-- a node whose top invocation waits counts nothing that it does not keep
pub send-requires-clause-tidy : goal.send-requires-clause-tidy
send-requires-clause-tidy c =
    let p = c.args.self.now.part.own in
    subst IsTidy (sym c.call_peer-number.ensures.own)
    (tidy_node p (uses_number (top_changed (stands c.args.pc c.args.into c.args.outs
    (Waits (record { node = p.node.port; number = p.node.next_call }) c.args.peer
    c.awaited-what.result)) p.node))
    (record { ends = refl; held = refl; asked = refl }) c.requires.tidy)

-- its end towards the peer is still open
pub send-requires-clause-open : goal.send-requires-clause-open
send-requires-clause-open c =
    subst (λ (p : Own). is_open p.node c.args.peer ≡ true) (sym c.call_peer-number.ensures.own)
    c.requires.can.1.open_end

-- a request gives nothing up
pub send-requires-clause-keeps : goal.send-requires-clause-keeps
send-requires-clause-keeps c =
    subst (GivesNothingUp c.args.peer) (sym c.requested.ensures)
    (requested_keeps c.call_peer-number.result c.args.peer c.args.request)

-- the node can still name what the request names, under whatever number
pub send-requires-clause-can : goal.send-requires-clause-can
send-requires-clause-can c =
    let n = c.args.self.now.part.own.node in
    subst (λ (i : Item). CanSend c.call_peer-number.new.self.own.node i) (sym c.requested.ensures)
    (requested_can n.next_call c.call_peer-number.result c.args.request n
    c.call_peer-number.new.self.own.node
    (ap (λ (p : Own). p.node.heap) c.call_peer-number.ensures.own)
    (ap (λ (p : Own). p.node.port) c.call_peer-number.ensures.own)
    (ap (λ (p : Own). p.node.next_token) c.call_peer-number.ensures.own) c.requires.can.1.names)

-- and has a token left for each name
pub send-requires-clause-tokens : goal.send-requires-clause-tokens
send-requires-clause-tokens c =
    let n = c.args.self.now.part.own.node in
    let same : names_counted c.requested.result
    ≡ names_counted (requested n.next_call c.args.request) =
    ap names_counted c.requested.ensures
    ∙ requested_names c.call_peer-number.result n.next_call c.args.request in
    let token : c.call_peer-number.new.self.own.node.next_token ≡ n.next_token =
    ap (λ (p : Own). p.node.next_token) c.call_peer-number.ensures.own in
    let few = c.requires.can.1.tokens in
    omega arith

-- the room for a request is the same under whatever number
pub send-requires-clause-room : goal.send-requires-clause-room
send-requires-clause-room c =
    let same : names_counted c.requested.result ≡ names_counted (requested 0 c.args.request) =
    ap names_counted c.requested.ensures
    ∙ requested_names c.call_peer-number.result 0 c.args.request in
    let room = c.requires.room in
    record {
      part = record {
        objects = omega arith;
        invocations = omega arith;
        names = omega arith;
        entries = omega arith;
      };
      waiting = omega arith;
    }

-- the top invocation waits, and the request is sent under the next number
pub returns-clause-done : goal.returns-clause-done
returns-clause-done c = λ r run.
    let d : Doing = doing c.args.self.now in
    let n = d.own.node in
    let own = c.call_peer-number.new.self.own in
    let request = c.args.request in
    let peer = c.args.peer in
    let m : Node = uses_number (top_changed (stands c.args.pc c.args.into c.args.outs
    (Waits (record { node = n.port; number = n.next_call }) peer c.awaited-what.result)) n) in
    let k : Node = uses_number (with_top r (stands c.args.pc c.args.into c.args.outs
    (waits_for r.context.node peer request) r.top)) in
    c.send.ensures.sent
    ∙ ap (λ (i : Item). does (record d { own = own }) (sends peer i own.node))
    (c.requested.ensures ∙ ap (λ (x : ℕ). requested x request) c.call_peer-number.ensures.number)
    ∙ does_from d own m k (λ (x : Node). sends peer (requested n.next_call request) x) refl
    c.call_peer-number.ensures.own
    (λ j. uses_number (with_stack (first_changed (stands c.args.pc c.args.into c.args.outs
    (Waits (record { node = (run.node j).port; number = (run.node j).next_call }) peer
    (sym c.awaited-what.ensures j))) (sym run.stack j)) (run.node j)))
    ∙ ap (λ e. does d e) (requested_sends n.next_call peer request k)
    ∙ ap (λ (x : ℕ). does d (requesting peer x request k))
    (sym (ap (λ (y : Node). y.next_call) run.node))
