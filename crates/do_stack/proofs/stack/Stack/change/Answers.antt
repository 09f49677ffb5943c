use Rattle.do_stack.proofs.stack.Stack.change.Goals as goal
use Rattle.std.proofs.Common.{◌≡◌, ◌+◌, cond, Some, List, [], sym, ap, ◌∙◌, subst}
use Rattle.std.{specs.Prelude.slice_set, proofs.lemmas.Option.get_or_from_slice_get}
use Rattle.do_base.specs.declared.values.value.Value.{Value}
use Rattle.do_behave.specs.{Changes.{IsFitting, meaning}, InPlace.{AfterAct, after_act}}
use Rattle.do_behave.specs.declared.invocation.Invocation.{Invocation}
use Rattle.do_stack.specs.{Exchange.{given, taken, named_again}, Uses.{uses, stack_uses}}
use Rattle.do_stack.proofs.{UsesExchanged.uses_exchanged, UsesMove.{change_uses, keeps_rest}}

-- what the top invocation takes and gives is what is named more and less
pub returns-clause-uses : goal.returns-clause-uses
returns-clause-uses c = λ top o is.
    let stack = c.self.inside.invs.items in
    let i = c.index_mut.result.now in
    let j = c.exchange.new.inv in
    let there = rw (← c.self.view_is) at is in
    let same : i ≡ top = c.index_mut.ensures.value ∙ get_or_from_slice_get stack 0 top i there in
    let after = ap (λ (r : AfterAct). r.inv) (c.in_ok-done.ensures.done []) in
    let rest = keeps_rest (meaning i c.args.change) i [] in
    let fits = subst (λ (k : Invocation). IsFitting k c.args.change) (sym same)
    (c.requires.fits top is) in
    let again = cond (named_again o i c.args.change) 1 0 in
    let out = taken c.in_ok-done.done.taken in
    let used : uses o j.locals + uses o out + again
    ≡ uses o i.locals + uses o (given c.args.change) =
    ap (λ (k : Invocation). uses o k.locals + uses o out + again) after
    ∙ ap (λ (vs : List Value).
    uses o (after_act (meaning i c.args.change) i []).inv.locals + uses o vs + again)
    c.in_ok-done.ensures.taken ∙ uses_exchanged o i c.args.change [] fits in
    let moved = change_uses o stack i j _ _ _ (there ∙ ap Some (sym same))
    (ap (λ (k : Invocation). k.object) after ∙ rest.0)
    (ap (λ (k : Invocation). k.state) after ∙ rest.1) used in
    rw (← c.self.view_is) (subst (λ (k : Invocation). stack_uses o (slice_set stack 0 j)
    + uses o (taken c.in_ok-done.done.taken) + cond (named_again o k c.args.change) 1 0
    ≡ stack_uses o stack + uses o (given c.args.change)) same moved)
