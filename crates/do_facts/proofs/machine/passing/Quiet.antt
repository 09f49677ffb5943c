-- Effects that leave what a node holds, and over which ends, as it was, and release nothing.
use Rattle.std.{proofs.Common.{◌≡◌, ℕ, Bool, false, List, refl}, specs.List.AllByRecursion}
use Rattle.do_base.specs.declared.events.event.Event.{Event}
use Rattle.do_class.specs.Class.{Class}
use Rattle.do_machine.specs.declared.{item.Item.Item, node.{Node.Node, Wanted.Wanted}}
use Rattle.do_machine.specs.declared.state.{Effect.Effect, Parcel.Parcel, State.State}
use Rattle.do_machine.specs.{Context.Context, Effect.each, lend.Asking.settling, run.Run.Acting}
use Rattle.do_machine.specs.take.Take.{arrival}
use Rattle.do_facts.{specs.steps.IsStep.IsRuleOf, proofs.EachOfLists.each_weaker}
use Rattle.do_facts.proofs.machine.follows.Steady.{IsSteady, NoRelease, by_settlings, is_end}
use Rattle.do_facts.proofs.machine.follows.{Steady.is_release, Steps.{is_close, is_time_out}}
use Rattle.do_facts.proofs.machine.follows.{Steps.rule_steady, SteadyTakes.by_arrival}

-- none of these parcels releases anything
abbrev pub NoneReleases : List Parcel → Type 0
NoneReleases = AllByRecursion (λ p. is_release p.item ≡ false)

-- such an effect of a node
pub record Quiet (n : Node) (e : Effect) : Type 0 where
  pub held : e.node.held ≡ n.held
  pub ends : e.node.open_to ≡ n.open_to
  pub sent : NoneReleases e.sent

-- an effect by which a node parts from no peer is quiet
pub quiet_of : (timed parts : Bool) → parts ≡ false → (n : Node) (e : Effect) →
    IsSteady timed parts n e → Quiet n e
quiet_of timed parts none n e s = record {
  held = s.node.held none;
  ends = s.node.ends none;
  sent = each_weaker (λ p. NoRelease parts p.to p.item) (λ p. is_release p.item ≡ false)
      (λ p sends. sends none) e.sent s.sent;
}

-- so is that of the rule of an event, but for a close
pub rule_quiet : (table : List Class) (act : Acting) (S : State) (event : Event) (n : Node)
    (e : Effect) → IsRuleOf table act S event n e → is_close event ≡ false → Quiet n e
rule_quiet table act S event n e rule none =
    quiet_of (is_time_out event) (is_close event) none n e (rule_steady table act S event n e rule)

-- what an item comes to, but for an end
pub arrival_quiet : (c : Context) (from : ℕ) (item : Item) (n : Node) → is_end item ≡ false →
    Quiet n (arrival c from item n)
arrival_quiet c from item n none =
    quiet_of false (is_end item) none n (arrival c from item n) (by_arrival c from item n)

-- and lends that are over
pub settlings_quiet : (ws : List Wanted) (n : Node) → Quiet n (each settling ws n)
settlings_quiet ws n = quiet_of false false refl n (each settling ws n) (by_settlings ws n)
