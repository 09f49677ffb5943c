use Rattle.do_effects.proofs.changing.Core.receive_lent.Goals as goal
use Rattle.std.proofs.Common.{◌≡◌, ap, sym, true, ◌∙◌, subst}
use Rattle.do_base.specs.names.Names.{ObjectName}
use Rattle.do_frames.specs.declared.frame.Frame.TheVariants.{Retain}
use Rattle.do_machine.specs.State.{is_open}
use Rattle.do_network.specs.Links.{sending}
use Rattle.do_effects.specs.{Doing.{Doing, doing}, Tidy.IsTidy}
use Rattle.do_effects.proofs.Lent.{chosen_own, closed_settled, either_own, was_asked, was_new}
use Rattle.do_effects.proofs.{NamesAlone.{asked_alone, new_alone}, NamesInTurn.new_tidy}
use Rattle.do_effects.proofs.changing.Core.receive_lent.Goals.{After-ask_home-asks}

-- where the home cannot be reached the lend is over at once
pub returns-then-not-reachable-clause-done : goal.returns-then-not-reachable-clause-done
returns-then-not-reachable-clause-done c =
    let d : Doing = doing c.args.self.now in
    c.settle.ensures.settled c.args.oid
    ∙ closed_settled d c.args.oid c.args.class c.args.token c.requires.tidy
    c.classes_are_known.ensures c.requires.open
    (sym (ap (λ (o : ObjectName). is_open d.own.node o.node) c.oid.view_is)
    ∙ sym c.is_open-reachable.ensures ∙ c.if-not-reachable.true)

-- the end towards the home is open where the home can be reached
home_is_open : (c : After-ask_home-asks) →
    is_open c.args.self.now.part.own.node c.args.oid.node ≡ true
home_is_open c =
    sym (ap (λ (o : ObjectName). is_open c.args.self.now.part.own.node o.node) c.oid.view_is)
    ∙ sym c.is_open-reachable.ensures ∙ c.if-not-reachable.false

-- where the same was asked for under this lend nothing changes
pub returns-then-not-asks-clause-done : goal.returns-then-not-asks-clause-done
returns-then-not-asks-clause-done c =
    let d : Doing = doing c.args.self.now in
    let own = either_own c.ask_home-asks.result _ _ _ c.if-not-asks.true
    c.ask_home-asks.ensures.own in
    (λ j. record { own = own j; out = d.out; shown = d.shown })
    ∙ sym (asked_alone d c.args.token.lender c.requires.tidy c.args.oid c.args.class
    c.args.token.number c.classes_are_known.ensures
    (home_is_open (goal.at.returns-then-not-asks-clause-done c).After-ask_home-asks)
    (was_asked _ (sym c.ask_home-asks.ensures.which ∙ c.if-not-asks.true)))

-- else the home is asked for the object
pub returns-clause-done : goal.returns-clause-done
returns-clause-done c =
    let d : Doing = doing c.args.self.now in
    let own = chosen_own c.ask_home-asks.result _ _ _ c.if-not-asks.false
    c.ask_home-asks.ensures.own in
    let out = c.post.ensures.sent
    ∙ ap (λ (o : ObjectName). sending d.out (record {
      to = o.node;
      frame = Retain o.serial c.args.token;
    })) c.oid-2.view_is in
    (λ j. record { own = own j; out = out j; shown = c.post.ensures.shown j })
    ∙ sym (new_alone d c.args.token.lender c.requires.tidy c.args.oid c.args.class
    c.args.token.number
    (home_is_open (goal.at.returns-clause-done c).After-ask_home-asks)
    (was_new _ (sym c.ask_home-asks.ensures.which ∙ c.if-not-asks.false)))

-- and the node keeps the class of what it asked for
pub returns-clause-tidy : goal.returns-clause-tidy
returns-clause-tidy c =
    let d : Doing = doing c.args.self.now in
    let own = chosen_own c.ask_home-asks.result _ _ _ c.if-not-asks.false
    c.ask_home-asks.ensures.own in
    subst IsTidy (sym own) (new_tidy d c.args.token.lender c.requires.tidy c.args.oid
    c.args.class c.args.token.number
    (home_is_open (goal.at.returns-clause-tidy c).After-ask_home-asks)
    (was_new _ (sym c.ask_home-asks.ensures.which ∙ c.if-not-asks.false)))
