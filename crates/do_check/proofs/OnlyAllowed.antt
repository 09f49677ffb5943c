-- A checker sends only what a rule allows, and only to its target; a target that is set stays, and
-- each denial raises the text of its rule.
use Rattle.std.proofs.Common.{◌≡◌, ℕ, zero, suc, ◌&&◌, Bool, true, false, List as Listed, [], ◌∷◌}
use Rattle.std.proofs.Common.{Option, Some, None, refl, sym, ◌∙◌, ap, subst}
use Rattle.std.specs.{Prelude.{codes, if◌then◌else◌, slice_index_or}, List.list_all, Str.bytes_eq}
use Rattle.do_base.specs.{names.Names.ObjectName, values.Kinds.{is_nil, object}}
use Rattle.do_base.specs.declared.values.value.Value.{Value, TheVariants.{Nil, Obj}}
use Rattle.do_base.specs.declared.events.exception.Exc.TheVariants.{Range, TypeFault, User}
use Rattle.do_class.specs.Class.{Class}
use Rattle.do_grammar.specs.{Names.colons, Words.◌>>?◌}
use Rattle.do_behave.specs.Steps.{local, local_values, or_fault}
use Rattle.do_behave.specs.declared.{invocation.Invocation.Invocation, act.Act.Act}
use Rattle.do_behave.specs.declared.act.{Act.TheVariants.{Step, Send, Return, Raise}, Write.Write}
use Rattle.do_behave.specs.declared.change.LocalSet.{LocalSet}
use Rattle.do_native_acts.specs.{Limited.is_limited, Places.{selector_in, returns}, Steps.steps}
use Rattle.do_check.specs.Acts.{target_in, sets_target, keeps_target, guards, firsts, passes_on}
use Rattle.do_check.specs.{Acts.{forwards, follows, checks, check_act}, Rules.verdict_of}
use Rattle.do_check.specs.Sent.{IsAllowed, IsNoStep, OnlyAllowedIsSent, TargetStays, DenialRaises}
use Rattle.do_check.specs.declared.rules.{Rule.Rule, Verdict.{Verdict, TheVariants.{Forward, Deny}}}

-- what is shown of every act where it is shown of a fault of type
module _ (P : Act → Type 0) (fault : P (Raise TypeFault)) where
  -- P holds of the act, if there is one
  abbrev Holds : Option Act → Type 0
  Holds o = P (or_fault o)

  -- P holds of what is led to by what is found
  then_holds : {A : Type 0} (o : Option A) (f : A → Option Act)
      → ((x : A) → o ≡ Some x → Holds (f x)) → Holds (o >>? f)
  then_holds None f each = fault
  then_holds (Some x) f each = each x refl

  -- P holds of the one that is chosen
  choice_holds : (b : Bool) (one other : Option Act) → (b ≡ true → Holds one) → Holds other
      → Holds (if b then one else other)
  choice_holds true one other first second = first refl
  choice_holds false one other first second = second

  -- P holds at each of two places, and so of the method
  two_places : (first second : Option Act) (k : ℕ) → Holds first → Holds second
      → Holds (slice_index_or (first ∷ second ∷ []) k None)
  two_places first second zero one other = one
  two_places first second (suc zero) one other = other
  two_places first second (suc (suc k)) one other = fault

  -- P holds of a Return of what a local holds, where it holds of all Returns
  returned_holds : (inv : Invocation) → ((v : Value) → P (Return v)) → Holds (returns inv)
  returned_holds inv each =
      then_holds (local inv 14) (λ v. Some (Return v)) (λ v _. each v)

module _ (rules : Listed Rule) (table : Listed Class) (inv : Invocation)
    (slots : Listed Value) where
  -- an act that is allowed here
  abbrev Allowed : Act → Type 0
  Allowed = IsAllowed rules table inv slots

  -- a step that writes the target sends nothing
  step_allowed : (o : ObjectName)
      → Allowed (steps inv 1 [] inv.handler (record { slot = 0; value = Obj o } ∷ []))
  step_allowed o =
      by (list_all (λ (s : LocalSet). is_limited s.value) []
      && list_all (λ (w : Write). is_limited w.value) (record { slot = 0; value = Obj o } ∷ []))
    where
      by : (b : Bool) → Allowed (if b
          then Step 1 inv.locals inv.handler (record { slot = 0; value = Obj o } ∷ [])
          else Raise Range)
      by true = tt
      by false = tt

  -- setting the target sends nothing
  sets_allowed : Allowed (or_fault (sets_target inv))
  sets_allowed =
      then_holds Allowed tt (local inv 0 >>? object)
      (λ o. Some (steps inv 1 [] inv.handler (record { slot = 0; value = Obj o } ∷ [])))
      (λ o _. step_allowed o)

  -- nor does any act of `guard:`
  guards_allowed : Allowed (or_fault (guards inv slots))
  guards_allowed =
      two_places Allowed tt (keeps_target inv slots) (Some (Return Nil)) inv.pc
      (then_holds Allowed tt (target_in slots)
      (λ target. if is_nil target then sets_target inv else Some (Raise (User (codes "guarded"))))
      (λ target _. choice_holds Allowed tt (is_nil target) (sets_target inv)
      (Some (Raise (User (codes "guarded")))) (λ _. sets_allowed) tt)) tt

  -- a message that is forwarded goes to the target
  forwards_allowed : (selector : Listed ℕ) → selector_in table inv ≡ Some selector
      → verdict_of rules selector ≡ Some Forward
      → Allowed (or_fault (forwards inv slots selector))
  forwards_allowed selector at_hand allowed =
      two_places Allowed tt (passes_on inv slots selector) (returns inv) inv.pc
      (then_holds Allowed tt (target_in slots)
      (λ target. local_values inv (firsts (colons selector)) >>? λ args.
      Some (Send target selector args 14 (firsts (colons selector)) 1))
      (λ target there. then_holds Allowed tt (local_values inv (firsts (colons selector)))
      (λ args. Some (Send target selector args 14 (firsts (colons selector)) 1))
      (λ args _. (at_hand, allowed, there))))
      (returned_holds Allowed tt inv (λ v. tt))

  -- what follows from a verdict is allowed
  follows_allowed : (selector : Listed ℕ) (v : Verdict) → selector_in table inv ≡ Some selector
      → verdict_of rules selector ≡ Some v
      → Allowed (or_fault (follows inv slots selector v))
  follows_allowed selector Forward at_hand found = forwards_allowed selector at_hand found
  follows_allowed selector (Deny text) at_hand found = tt

  -- a checker sends only what a rule allows, to its target
  check_allowed : Allowed (check_act rules table inv slots)
  check_allowed =
      then_holds Allowed tt (selector_in table inv) (checks rules inv slots)
      (λ selector at_hand. choice_holds Allowed tt (bytes_eq selector (codes "guard:"))
      (guards inv slots) (verdict_of rules selector >>? follows inv slots selector)
      (λ _. guards_allowed)
      (then_holds Allowed tt (verdict_of rules selector) (follows inv slots selector)
      (λ v found. follows_allowed selector v at_hand found)))

  module _ (target : Value) (there : target_in slots ≡ Some target)
      (set : is_nil target ≡ false) where
    -- where there is a target none is set
    kept_by_guard : IsNoStep (or_fault (keeps_target inv slots))
    kept_by_guard =
        subst (λ o. IsNoStep (or_fault (o >>? λ t.
        if is_nil t then sets_target inv else Some (Raise (User (codes "guarded"))))))
        (sym there)
        (subst (λ b. IsNoStep (or_fault (if b then sets_target inv
        else Some (Raise (User (codes "guarded")))))) (sym set) tt)

    -- a message that is forwarded is no step
    kept_by_forward : (selector : Listed ℕ) → IsNoStep (or_fault (forwards inv slots selector))
    kept_by_forward selector =
        two_places IsNoStep tt (passes_on inv slots selector) (returns inv) inv.pc
        (then_holds IsNoStep tt (target_in slots)
        (λ t. local_values inv (firsts (colons selector)) >>? λ args.
        Some (Send t selector args 14 (firsts (colons selector)) 1))
        (λ t _. then_holds IsNoStep tt (local_values inv (firsts (colons selector)))
        (λ args. Some (Send t selector args 14 (firsts (colons selector)) 1)) (λ args _. tt)))
        (returned_holds IsNoStep tt inv (λ v. tt))

    -- nor is what follows from any verdict
    kept_by_verdict : (selector : Listed ℕ) (v : Verdict)
        → IsNoStep (or_fault (follows inv slots selector v))
    kept_by_verdict selector Forward = kept_by_forward selector
    kept_by_verdict selector (Deny text) = tt

    -- a target that is set stays: no act of the checker writes a slot
    target_kept : IsNoStep (check_act rules table inv slots)
    target_kept =
        then_holds IsNoStep tt (selector_in table inv) (checks rules inv slots)
        (λ selector _. choice_holds IsNoStep tt (bytes_eq selector (codes "guard:"))
        (guards inv slots) (verdict_of rules selector >>? follows inv slots selector)
        (λ _. two_places IsNoStep tt (keeps_target inv slots) (Some (Return Nil)) inv.pc
        kept_by_guard tt)
        (then_holds IsNoStep tt (verdict_of rules selector) (follows inv slots selector)
        (λ v _. kept_by_verdict selector v)))

  -- a message that is denied raises the text of its rule, at every place
  denial_raised : (selector text : Listed ℕ) → selector_in table inv ≡ Some selector
      → bytes_eq selector (codes "guard:") ≡ false
      → verdict_of rules selector ≡ Some (Deny text)
      → check_act rules table inv slots ≡ Raise (User text)
  denial_raised selector text at_hand differs denied =
      ap (λ o. or_fault (o >>? checks rules inv slots)) at_hand
      ∙ ap (λ b. or_fault (if b then guards inv slots
      else (verdict_of rules selector >>? follows inv slots selector))) differs
      ∙ ap (λ o. or_fault (o >>? follows inv slots selector)) denied

-- each act of each checker is allowed
pub only_allowed_is_sent : OnlyAllowedIsSent
only_allowed_is_sent rules table inv slots = check_allowed rules table inv slots

-- where a target is set, no act of a checker writes a slot
pub target_stays : TargetStays
target_stays rules table inv slots target there set =
    target_kept rules table inv slots target there set

-- a message that is denied raises the text of its rule
pub denial_raises : DenialRaises
denial_raises rules table inv slots selector text at_hand differs denied =
    denial_raised rules table inv slots selector text at_hand differs denied
