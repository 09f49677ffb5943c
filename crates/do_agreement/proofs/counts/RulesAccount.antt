-- Each effect accounts for what its node held.
use Rattle.do_machine.specs.declared.item.Item.TheVariants as items
use Rattle.std.proofs.Common.{◌≡◌, ℕ, Bool, true, false, List, refl, sym, subst}
use Rattle.do_base.specs.declared.events.event.Event.{Event}
use Rattle.do_base.specs.declared.events.event.Event.TheVariants.{Close, Run, Start, Timeout}
use Rattle.do_class.specs.Class.{Class}
use Rattle.do_machine.specs.declared.{node.Node.Node, state.{Effect.Effect, State.State}}
use Rattle.do_machine.specs.{declared.item.Item.Item, Context.Context, Items.exported}
use Rattle.do_machine.specs.{State.is_open, ends.Closing.closing, held.Leaving.leaving}
use Rattle.do_machine.specs.{run.Run.Acting, take.Take.{arrival, holding, take_effect}}
use Rattle.do_facts.proofs.machine.follows.Steady.{is_end}
use Rattle.do_facts.proofs.machine.passing.Quiet.{arrival_quiet, rule_quiet}
use Rattle.do_facts.specs.{links.{Links.links_of, Sound.IsSound}, steps.IsStep.IsRuleOf}
use Rattle.do_facts.proofs.links.Bridge.{link_bridge}
use Rattle.do_agreement.{specs.Accounted.AccountsFor, proofs.counts.EffectAccounts.effect_accounts}
use Rattle.do_agreement.proofs.{hands.InHandCounts.end_exports, counts.QuietAccounts.quiet_accounts}

-- the effect of an event's rule
pub rule_accounts : (table : List Class) (act : Acting) (S : State) (event : Event) (n : Node)
    (e : Effect) → IsSound (links_of n) → IsRuleOf table act S event n e → (home : ℕ) →
    AccountsFor home n e
rule_accounts table act S (Start port selector values) n e ok rule home = λ s c.
    quiet_accounts home s c n e
    (rule_quiet table act S (Start port selector values) n e rule refl)
rule_accounts table act S (Run port) n e ok rule home = λ s c.
    quiet_accounts home s c n e (rule_quiet table act S (Run port) n e rule refl)
rule_accounts table act S (Close port peer) n e ok rule home = λ s c.
    subst (λ d. AccountsFor home n d) (sym rule.1)
    (λ r k. effect_accounts home r k n (closing peer n) (link_bridge.close n peer rule.0 ok)) s c
rule_accounts table act S (Timeout port) n e ok rule home = λ s c.
    quiet_accounts home s c n e (rule_quiet table act S (Timeout port) n e rule refl)
rule_accounts table act S _ n e ok rule home = absurd rule

-- what a node leaves after a step
pub leaving_accounts : (n : Node) (entry : ℕ → ℕ → Bool) → IsSound (links_of n) → (home : ℕ) →
    AccountsFor home n (leaving entry n)
leaving_accounts n entry ok home = λ s c.
    effect_accounts home s c n (leaving entry n) (link_bridge.leave entry n ok)

-- the effect of an item that is taken, beside what it exports
pub take_accounts : (c : Context) (from : ℕ) (item : Item) → is_open c.node from ≡ true →
    IsSound (links_of c.node) → (home : ℕ) →
    AccountsFor home (holding (exported from c.node.port item) c.node) (take_effect c from item)
take_accounts c from item ends ok home = go item
  where
    -- the node that holds what an item exports
    holder : Item → Node
    holder x = holding (exported from c.node.port x) c.node

    quiet : (x : Item) → is_end x ≡ false → AccountsFor home (holder x) (take_effect c from x)
    quiet x e = λ s k.
        quiet_accounts home s k (holder x) (arrival c from x (holder x))
        (arrival_quiet c from x (holder x) e)

    go : (x : Item) → AccountsFor home (holder x) (take_effect c from x)
    go (items.End serials) =
        subst (λ os. AccountsFor home (holding os c.node) (closing from (holding os c.node)))
        (sym (end_exports c.node.port serials))
        (λ s k. effect_accounts home s k c.node (closing from c.node)
        (link_bridge.close c.node from ends ok))
    go x = quiet x refl
