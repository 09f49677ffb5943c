-- The acts of a checker.
use Rattle.std.specs.Prelude.{ℕ, Option, Some, None, List, [], ◌∷◌, if◌then◌else◌, codes}
use Rattle.std.specs.{List.range_with_len, Str.bytes_eq}
use Rattle.do_base.specs.{values.Kinds.{is_nil, object}, declared.values.value.Value.Value}
use Rattle.do_base.specs.declared.values.value.Value.TheVariants.{Nil, Obj}
use Rattle.do_base.specs.declared.events.exception.Exc.TheVariants.{User}
use Rattle.do_class.specs.Class.{Class}
use Rattle.do_grammar.specs.{Names.colons, Words.◌>>?◌}
use Rattle.do_behave.specs.{Steps.{local, local_values}, declared.invocation.Invocation.Invocation}
use Rattle.do_behave.specs.declared.act.Act.{Act, TheVariants.{Send, Return, Raise}}
use Rattle.do_native_acts.specs.{Places.{at_place, by_selector, returns}, Steps.steps}
use Rattle.do_check.specs.{Rules.verdict_of, declared.rules.{Rule.Rule, Verdict.Verdict}}
use Rattle.do_check.specs.declared.rules.Verdict.TheVariants.{Forward, Deny}

-- the target, which is the one slot
abbrev pub target_in : List Value → Option Value
target_in (target ∷ []) = Some target
target_in _ = None

-- the object that the first argument names becomes the target
abbrev pub sets_target : Invocation → Option Act
sets_target inv =
    local inv 0 >>? object >>? λ o.
    Some (steps inv 1 [] inv.handler (record { slot = 0; value = Obj o } ∷ []))

-- a target is set once: where there is one, that is said
abbrev pub keeps_target : Invocation → List Value → Option Act
keeps_target inv slots =
    target_in slots >>? λ target.
    if is_nil target then sets_target inv else Some (Raise (User (codes "guarded")))

-- the places of `guard:`
abbrev pub guard_places : Invocation → List Value → List (Option Act)
guard_places inv slots = keeps_target inv slots ∷ Some (Return Nil) ∷ []

-- sets the target
abbrev pub guards : Invocation → List Value → Option Act
guards inv slots = at_place inv (guard_places inv slots)

-- the first locals, as many
abbrev pub firsts : ℕ → List ℕ
firsts count = range_with_len 0 count

-- Sends the same message to the target. Its result goes to local 14, and what comes out of an
-- argument to the argument's own local.
abbrev pub passes_on : Invocation → List Value → List ℕ → Option Act
passes_on inv slots selector =
    target_in slots >>? λ target. local_values inv (firsts (colons selector)) >>? λ args.
    Some (Send target selector args 14 (firsts (colons selector)) 1)

-- the places of a method that is allowed
abbrev pub forward_places : Invocation → List Value → List ℕ → List (Option Act)
forward_places inv slots selector = passes_on inv slots selector ∷ returns inv ∷ []

-- passes on the message, and returns what it gave
abbrev pub forwards : Invocation → List Value → List ℕ → Option Act
forwards inv slots selector = at_place inv (forward_places inv slots selector)

-- a message is passed on, or raises the text of its denial
abbrev pub follows : Invocation → List Value → List ℕ → Verdict → Option Act
follows inv slots selector Forward = forwards inv slots selector
follows inv slots selector (Deny text) = Some (Raise (User text))

-- the act of the method with a selector; none where no rule is for it
abbrev pub checks : List Rule → Invocation → List Value → List ℕ → Option Act
checks rules inv slots selector =
    if bytes_eq selector (codes "guard:") then guards inv slots
    else (verdict_of rules selector >>? follows inv slots selector)

-- the act of a checker
abbrev pub check_act : List Rule → List Class → Invocation → List Value → Act
check_act rules table inv slots = by_selector table inv (checks rules inv slots)
