-- Checkers keep what can be carried.
use Rattle.do_kept.proofs.Acts as acts
use Rattle.std.proofs.Common.{◌≡◌, ℕ, Bool, true, false, cond, List as Listed, [], ◌∷◌, length}
use Rattle.std.{proofs.Common.{arith, refl}, specs.Prelude.{Option, Some, codes, option_map}}
use Rattle.std.specs.{List.find, Option.IfSome, Str.bytes_eq}
use Rattle.do_base.specs.values.Kinds.{is_nil, object}
use Rattle.do_base.specs.declared.{events.exception.Exc.TheVariants.User, values.value.Value.Value}
use Rattle.do_base.specs.declared.values.value.Value.TheVariants.{Obj}
use Rattle.do_class.specs.Class.{Class}
use Rattle.do_grammar.specs.{Names.colons, Words.◌>>?◌}
use Rattle.do_coder.proofs.values.PartFacts.{all_bytes}
use Rattle.do_behave.specs.{Steps.{local, local_values}, declared.act.Act.{Act, TheVariants.Raise}}
use Rattle.do_behave.specs.declared.{act.Act.TheVariants.Send, invocation.Invocation.Invocation}
use Rattle.do_native_acts.specs.Steps.{steps}
use Rattle.do_check.specs.Acts.{check_act, checks, firsts, follows, forward_places, guard_places}
use Rattle.do_check.specs.Acts.{guards, keeps_target, passes_on, sets_target, target_in}
use Rattle.do_check.specs.{Rules.verdict_of, declared.rules.{Rule.Rule, Verdict.Verdict}}
use Rattle.do_check.specs.declared.rules.Verdict.TheVariants.{Deny, Forward}
use Rattle.do_limits.specs.{Sendable.{AreSendable, IsSendable}, SendableActs.KeepsSendable}
use Rattle.do_limits.proofs.{scripts.Locals.each_local, values.Carried.{carry-Nil, carry-Obj}}
use Rattle.do_kept.specs.Kept.{RulesAreSendable, VerdictIsSendable}

-- the verdict of a rule that is found
verdict_found : (rules : Listed Rule) (selector : Listed ℕ) → RulesAreSendable rules →
    IfSome (verdict_of rules selector) VerdictIsSendable
verdict_found [] selector h = tt
verdict_found (r ∷ rules) selector h =
    go (bytes_eq selector r.selector) (verdict_found rules selector h.1)
  where
    go : (b : Bool) → IfSome (verdict_of rules selector) VerdictIsSendable →
        IfSome (option_map (λ (x : Rule). x.verdict) (cond b (Some r)
        (find (λ (x : Rule). bytes_eq selector x.selector) rules))) VerdictIsSendable
    go true k = h.0
    go false k = k

module _ (table : Listed Class) (inv : Invocation) (slots : Listed Value)
    (all : AreSendable inv.locals) (sixteen : length inv.locals ≡ 16)
    (of_slots : AreSendable slots) where
  -- an act with such values, or the fault of type
  abbrev MaySound : Option Act → Type 0
  MaySound o = acts.MaySound table inv all sixteen o

  -- the target
  target_kept : IfSome (target_in slots) IsSendable
  target_kept = go slots of_slots
    where
      go : (vs : Listed Value) → AreSendable vs → IfSome (target_in vs) IsSendable
      go [] h = tt
      go (v ∷ []) h = h.0
      go (v ∷ w ∷ vs) h = tt

  -- a target is set
  sets_sound : MaySound (sets_target inv)
  sets_sound =
      acts.whatever_sound table inv all sixteen (local inv 0 >>? object)
      (λ o. Some (steps inv 1 [] inv.handler (record { slot = 0; value = Obj o } ∷ [])))
      (λ o. acts.step_sound table inv all sixteen 1 [] inv.handler
      (record { slot = 0; value = Obj o } ∷ []) tt ((λ e. carry-Obj 8 o), tt))

  -- once
  keeps_sound : MaySound (keeps_target inv slots)
  keeps_sound =
      acts.whatever_sound table inv all sixteen (target_in slots)
      (λ target. cond (is_nil target) (sets_target inv) (Some (Raise (User (codes "guarded")))))
      (λ target. acts.one_sound table inv all sixteen (is_nil target) (sets_target inv)
      (Some (Raise (User (codes "guarded")))) sets_sound
      (acts.fault table inv all sixteen (User (codes "guarded")) guarded))
    where
      guarded : VerdictIsSendable (Deny (codes "guarded"))
      guarded = (omega arith, all_bytes (codes "guarded") refl)

  -- a message is passed on
  passes_sound : (selector : Listed ℕ) → MaySound (passes_on inv slots selector)
  passes_sound selector =
      let from = firsts (colons selector) in
      acts.then_sound table inv all sixteen IsSendable (target_in slots)
      (λ target. local_values inv from >>? λ args. Some (Send target selector args 14 from 1))
      target_kept
      (λ target q. acts.then_sound table inv all sixteen AreSendable (local_values inv from)
      (λ args. Some (Send target selector args 14 from 1))
      (each_local inv all from) (λ args r. ((q, r), (tt, (tt, tt)))))

  -- by the verdict
  follows_sound : (selector : Listed ℕ) (verdict : Verdict) → VerdictIsSendable verdict →
      MaySound (follows inv slots selector verdict)
  follows_sound selector Forward h =
      acts.places_sound table inv all sixteen (forward_places inv slots selector)
      (passes_sound selector, (acts.returns_sound table inv all sixteen, tt))
  follows_sound selector (Deny text) h = acts.fault table inv all sixteen (User text) h

  -- each method
  checks_sound : (rules : Listed Rule) → RulesAreSendable rules → (selector : Listed ℕ) →
      MaySound (checks rules inv slots selector)
  checks_sound rules h selector =
      acts.one_sound table inv all sixteen (bytes_eq selector (codes "guard:"))
      (guards inv slots) (verdict_of rules selector >>? follows inv slots selector)
      (acts.places_sound table inv all sixteen (guard_places inv slots)
      (keeps_sound, (((carry-Nil 8, tt), (tt, (tt, tt))), tt)))
      (acts.then_sound table inv all sixteen VerdictIsSendable (verdict_of rules selector)
      (follows inv slots selector) (verdict_found rules selector h) (follows_sound selector))

-- checkers keep what can be carried
pub checkers_keep : (rules : Listed Rule) → RulesAreSendable rules → (table : Listed Class) →
    KeepsSendable table (check_act rules)
checkers_keep rules h table inv slots all sixteen of_slots =
    acts.selector_sound table inv all sixteen (checks rules inv slots)
    (checks_sound table inv slots all sixteen of_slots rules h)
