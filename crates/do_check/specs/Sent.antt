-- What a checker sends and what it never does: it sends only what a rule allows, and only to its
-- target; a target that is set stays; a denial raises its text.
use Rattle.std.specs.{Prelude.{◌≡◌, ℕ, false, List, Some, codes}, Str.bytes_eq}
use Rattle.do_base.specs.{values.Kinds.is_nil, declared.values.value.Value.Value}
use Rattle.do_base.specs.declared.events.exception.Exc.TheVariants.{User}
use Rattle.do_class.specs.Class.{Class}
use Rattle.do_behave.specs.declared.{invocation.Invocation.Invocation, act.Act.Act}
use Rattle.do_behave.specs.declared.act.Act.TheVariants.{Step, Send, Raise}
use Rattle.do_native_acts.specs.Places.{selector_in}
use Rattle.do_check.specs.{Acts.{target_in, check_act}, Rules.verdict_of, declared.rules.Rule.Rule}
use Rattle.do_check.specs.declared.rules.Verdict.TheVariants.{Forward, Deny}

-- a Send is of the message at hand, which a rule allows, to the target
abbrev pub IsAllowed : List Rule → List Class → Invocation → List Value → Act → Type 0
IsAllowed rules table inv slots (Send target selector args into from pc) =
    (selector_in table inv ≡ Some selector) × (verdict_of rules selector ≡ Some Forward)
    × (target_in slots ≡ Some target)
IsAllowed rules table inv slots _ = Unit {0}

-- an act that is no step, and so writes no slot
abbrev pub IsNoStep : Act → Type 0
IsNoStep (Step pc locals handler writes) = ⊥
IsNoStep _ = Unit {0}

-- each act of each checker is allowed
abbrev pub OnlyAllowedIsSent : Type 0
OnlyAllowedIsSent =
    (rules : List Rule) (table : List Class) (inv : Invocation) (slots : List Value)
    → IsAllowed rules table inv slots (check_act rules table inv slots)

-- where a target is set, no act of a checker writes a slot
abbrev pub TargetStays : Type 0
TargetStays =
    (rules : List Rule) (table : List Class) (inv : Invocation) (slots : List Value)
    (target : Value) → target_in slots ≡ Some target → is_nil target ≡ false
    → IsNoStep (check_act rules table inv slots)

-- at every place, a message that is denied raises the text of its rule
abbrev pub DenialRaises : Type 0
DenialRaises =
    (rules : List Rule) (table : List Class) (inv : Invocation) (slots : List Value)
    (selector text : List ℕ) → selector_in table inv ≡ Some selector
    → bytes_eq selector (codes "guard:") ≡ false → verdict_of rules selector ≡ Some (Deny text)
    → check_act rules table inv slots ≡ Raise (User text)
