-- What is known of the effects of a step.
use Rattle.do_machine.specs.declared.item.Item.TheVariants as items
use Rattle.std.proofs.Common.{◌≡◌, ◌==◌, ℕ, Bool, true, false, List, [], ◌∷◌, filter, not, refl}
use Rattle.std.proofs.Common.{sym, ap, ◌∙◌, subst}
use Rattle.do_base.specs.declared.events.event.Event.{Event, TheVariants.{Close, Run, Start}}
use Rattle.do_base.specs.{declared.events.event.Event.TheVariants.Timeout, names.Names.ObjectName}
use Rattle.do_class.specs.Class.{Class}
use Rattle.do_packet.specs.Met.{has_object}
use Rattle.do_machine.specs.declared.{item.Item.Item, node.Node.Node, state.Effect.Effect}
use Rattle.do_machine.specs.{declared.state.State.State, Context.Context, Items.exported}
use Rattle.do_machine.specs.{State.is_open, ends.Closing.{asked_of, closing, parted}}
use Rattle.do_machine.specs.held.{Kept.kept, Leaving.{freeing, leaving}, Refers.node_objects}
use Rattle.do_facts.specs.laws.Follows.{Grows, HoldsOpen}
use Rattle.do_machine.specs.{run.Run.Acting, take.Take.{arrival, holding, take_effect}}
use Rattle.do_facts.proofs.machine.follows.{Follows.by_leaving, Steady.is_end, Steps.rule_grows}
use Rattle.do_facts.proofs.machine.passing.Quiet.{Quiet, arrival_quiet, rule_quiet}
use Rattle.do_facts.specs.{links.{Links.links_of, Sound.IsSound}, steps.IsStep.IsRuleOf}
use Rattle.do_agreement.specs.{Accounted.AccountsFor, IsEffectOf.{IsEffectOf, Thins}}
use Rattle.do_agreement.proofs.counts.RulesAccount.{leaving_accounts, rule_accounts, take_accounts}
use Rattle.do_facts.proofs.{walk.SmallEffects.settled_node, machine.follows.SteadyTakes.by_take}

-- all pass
all_pass : (os : List ObjectName) → os ≡ filter (λ o. true) os
all_pass [] = refl
all_pass (o ∷ os) = ap (λ xs. o ∷ xs) (all_pass os)

-- what a quiet effect leaves held
quiet_thins : (n : Node) (e : Effect) → Quiet n e → Thins n e
quiet_thins n e quiet = record { test = λ o. true; held = quiet.held ∙ all_pass n.held }

-- what a close leaves held
closing_thins : (peer : ℕ) (n : Node) → Thins n (closing peer n)
closing_thins peer n = record {
  test = λ o. not (o.node == peer);
  held = ap (λ (m : Node). m.held) (settled_node (asked_of peer n) (parted peer n));
}

-- what a node leaves held after a step
leaving_thins : (n : Node) (entry : ℕ → ℕ → Bool) → Thins n (leaving entry n)
leaving_thins n entry = record {
  test = has_object (node_objects (freeing (kept entry n) n).node);
  held = refl;
}

-- what is known of an effect after which a node stands so
effect_of : (n : Node) (e : Effect) → HoldsOpen n → Grows n e.node → Thins n e →
    ((home : ℕ) → AccountsFor home n e) → IsEffectOf n e
effect_of n e holds grows thins account = record {
  same = grows.port;
  ends = grows.ends;
  opened = grows.holding holds;
  thins = thins;
  account = account;
}

-- the effect of an event's rule
pub rule_effect : (table : List Class) (act : Acting) (S : State) (event : Event) (n : Node)
    (e : Effect) → IsSound (links_of n) → HoldsOpen n → IsRuleOf table act S event n e →
    IsEffectOf n e
rule_effect table act S (Start port selector values) n e ok holds rule =
    effect_of n e holds
    (rule_grows table act S (Start port selector values) n e rule)
    (quiet_thins n e (rule_quiet table act S (Start port selector values) n e rule refl))
    (rule_accounts table act S (Start port selector values) n e ok rule)
rule_effect table act S (Run port) n e ok holds rule =
    effect_of n e holds
    (rule_grows table act S (Run port) n e rule)
    (quiet_thins n e (rule_quiet table act S (Run port) n e rule refl))
    (rule_accounts table act S (Run port) n e ok rule)
rule_effect table act S (Close port peer) n e ok holds rule =
    effect_of n e holds
    (rule_grows table act S (Close port peer) n e rule)
    (subst (Thins n) (sym rule.1) (closing_thins peer n))
    (rule_accounts table act S (Close port peer) n e ok rule)
rule_effect table act S (Timeout port) n e ok holds rule =
    effect_of n e holds
    (rule_grows table act S (Timeout port) n e rule)
    (quiet_thins n e (rule_quiet table act S (Timeout port) n e rule refl))
    (rule_accounts table act S (Timeout port) n e ok rule)
rule_effect table act S _ n e ok holds rule = absurd rule

-- what a node frees and leaves after a step
pub leaving_effect : (n : Node) (entry : ℕ → ℕ → Bool) → IsSound (links_of n) → HoldsOpen n →
    IsEffectOf n (leaving entry n)
leaving_effect n entry ok holds =
    effect_of n (leaving entry n) holds (by_leaving entry n).grows (leaving_thins n entry)
    (leaving_accounts n entry ok)

-- what a take leaves held, of what the node held with the item in hand
take_thins : (c : Context) (from : ℕ) (item : Item) →
    Thins (holding (exported from c.node.port item) c.node) (take_effect c from item)
take_thins c from item = go item
  where
    -- the node that holds what an item exports
    holder : Item → Node
    holder x = holding (exported from c.node.port x) c.node

    quiet : (x : Item) → is_end x ≡ false → Thins (holder x) (take_effect c from x)
    quiet x e =
        let thin = quiet_thins (holder x) (arrival c from x (holder x))
        (arrival_quiet c from x (holder x) e)
        in
        record { test = thin.test; held = thin.held }

    go : (x : Item) → Thins (holder x) (take_effect c from x)
    go (items.End serials) =
        let thin = closing_thins from (holder (items.End serials)) in
        record { test = thin.test; held = thin.held }
    go x = quiet x refl

-- the effect of a take, of the node with the item in hand
pub take_is_effect : (c : Context) (from : ℕ) (item : Item) → is_open c.node from ≡ true →
    IsSound (links_of c.node) → HoldsOpen c.node →
    IsEffectOf (holding (exported from c.node.port item) c.node) (take_effect c from item)
take_is_effect c from item ends ok holds =
    let grows = (by_take c from item ends).grows in
    record {
      same = grows.port;
      ends = grows.ends;
      opened = grows.holding holds;
      thins = take_thins c from item;
      account = take_accounts c from item ends ok;
    }
