-- The acts of `guard:` are good.
use Rattle.std.proofs.Common.{◌≡◌, ℕ, ◌<◌, ◌≤◌, List as Listed, [], ◌∷◌, length, Option, Some, None}
use Rattle.std.{proofs.Common.{sym, subst, arith}, specs.Prelude.{codes, if◌then◌else◌}}
use Rattle.std.{specs.Option.IfSome, proofs.lemmas.List.Elements.{All-nil, All-cons}}
use Rattle.do_base.specs.{names.Names.ObjectName, values.Kinds.{is_nil, object}}
use Rattle.do_base.specs.{values.Texts.longest_text, declared.values.value.Value.Value}
use Rattle.do_base.specs.declared.values.value.Value.TheVariants.{Nil, Obj}
use Rattle.do_base.specs.declared.events.exception.Exc.TheVariants.{User}
use Rattle.do_class.specs.Class.{Class}
use Rattle.do_grammar.specs.Words.{◌>>?◌}
use Rattle.do_behave.specs.{Steps.local, declared.invocation.Invocation.Invocation}
use Rattle.do_behave.specs.declared.act.{Act.TheVariants.{Return, Raise}, Write.Write}
use Rattle.do_behave.specs.declared.change.LocalSet.{LocalSet}
use Rattle.do_native_acts.specs.{Steps.steps, laws.GoodActs.{IsGood, MayGood, kept_good, then_good}}
use Rattle.do_native_acts.specs.laws.{GoodActs.{choice_good, places_good}, GoodSteps.steps_good}
use Rattle.do_native_acts.specs.laws.{KindLaws.object_read, NamedValues.{Named, local_named}}
use Rattle.do_check.specs.Acts.{target_in, sets_target, keeps_target, guard_places, guards}

module _ (made : Type 0) (table : Listed Class) (inv : Invocation) (slots : Listed Value) where
  -- a text that is raised is good where it is within the limit
  pub raises_good : (text : Listed ℕ) → (made → length text ≤ longest_text)
      → IsGood made table inv slots (Raise (User text))
  raises_good text short = record {
    shown = record { locals = tt; objects = All-nil _ };
    well =
        λ is_made _. record {
          range = tt;
          limits = λ most high all. (All-nil _, short is_made);
          weights = All-nil _;
        };
  }

  -- returning nil is good
  nil_good : IsGood made table inv slots (Return Nil)
  nil_good =
      kept_good made table inv slots (Return Nil)
      (λ Q T L R is_made kept all of_slots. record {
        values = All-cons Q Nil [] kept.nil (All-nil Q);
        locals = tt;
        range = λ _. tt;
        raises = tt;
      })

  -- a slot that is there
  abbrev SetIn : Write → Type 0
  SetIn w = w.slot < length slots

  -- a value that may be named
  abbrev WritesNamed : Write → Type 0
  WritesNamed w = Named inv slots w.value

  -- a step that writes an object that was shown is good
  target_good : length inv.locals ≡ 16 → 0 < length slots → (o : ObjectName)
      → Named inv slots (Obj o)
      → IsGood made table inv slots
      (steps inv 1 [] inv.handler (record { slot = 0; value = Obj o } ∷ []))
  target_good sixteen there o named =
      let write : Write = record { slot = 0; value = Obj o } in
      steps_good made table inv slots sixteen 1 [] inv.handler (write ∷ [])
      (λ ready. ready.handler)
      (All-cons SetIn write [] there (All-nil SetIn))
      (All-nil (λ (s : LocalSet). Named inv slots s.value))
      (All-cons WritesNamed write [] named (All-nil WritesNamed))

  -- what a local holds that is an object may be named
  argument_named : (o : Option Value) (found : ObjectName) → IfSome o (Named inv slots)
      → (o >>? object) ≡ Some found → Named inv slots (Obj found)
  argument_named None found named is = cc
  argument_named (Some v) found named is =
      subst (Named inv slots) (sym (object_read v found is)) named

  -- setting the target is good
  sets_good : length inv.locals ≡ 16 → 0 < length slots
      → MayGood made table inv slots (sets_target inv)
  sets_good sixteen there =
      then_good made table inv slots (local inv 0 >>? object)
      (λ o. Some (steps inv 1 [] inv.handler (record { slot = 0; value = Obj o } ∷ [])))
      (λ o found. target_good sixteen there o
      (argument_named (local inv 0) o (local_named inv slots 0) found))

  -- where there is a target there is a slot
  pub slot_there : (vs : Listed Value) (target : Value) → target_in vs ≡ Some target
      → 0 < length vs
  slot_there [] target is = cc
  slot_there (v ∷ []) target is = omega arith
  slot_there (v ∷ w ∷ vs) target is = cc

  -- setting it once is good
  keeps_good : length inv.locals ≡ 16 → MayGood made table inv slots (keeps_target inv slots)
  keeps_good sixteen =
      then_good made table inv slots (target_in slots)
      (λ target.
      if is_nil target then sets_target inv else Some (Raise (User (codes "guarded"))))
      (λ target found. choice_good made table inv slots (is_nil target) (sets_target inv)
      (Some (Raise (User (codes "guarded")))) (sets_good sixteen (slot_there slots target found))
      (raises_good (codes "guarded") (λ _. omega arith)))

  -- each act of `guard:` is good
  pub guards_good : length inv.locals ≡ 16 → MayGood made table inv slots (guards inv slots)
  guards_good sixteen =
      places_good made table inv slots (guard_places inv slots)
      (keeps_good sixteen, (nil_good, tt))
