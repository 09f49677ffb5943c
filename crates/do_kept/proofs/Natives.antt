-- A behaviour of classes of all kinds keeps what can be carried.
use Rattle.do_kept.proofs.Acts as acts
use Rattle.std.proofs.Common.{◌≡◌, ℕ, List as Listed, [], ◌∷◌, length}
use Rattle.std.specs.{Prelude.{Some, slice_get, suc, zero}, List.AllByRecursion, Option.IfSome}
use Rattle.do_base.specs.declared.values.value.Value.{Value}
use Rattle.do_class.specs.Class.{Class}
use Rattle.do_behave.specs.declared.invocation.Invocation.{Invocation}
use Rattle.do_check.specs.Acts.{check_act}
use Rattle.do_class_kinds.specs.declared.kind.Kind.{Kind, TheVariants.{Center, Checker, Names}}
use Rattle.do_class_kinds.specs.declared.kind.Kind.TheVariants.{Pasteboard, Script, Services}
use Rattle.do_native.specs.{Acts.{acts_as, native_act}, declared.native.Native.Native}
use Rattle.do_limits.specs.{Sendable.AreSendable, SendableActs.KeepsSendable}
use Rattle.do_limits.specs.SendableCodes.{CodesAreSendable}
use Rattle.do_limits.proofs.scripts.Instructions.{scripts_keep}
use Rattle.do_kept.specs.Kept.{RulesAreSendable}
use Rattle.do_kept.proofs.{Boards.pasteboards_keep, Centers.centers_keep, Checkers.checkers_keep}
use Rattle.do_kept.proofs.{Names.names_keep, Services.services_keep}

-- what holds of each holds of one that is found
found : {X : Type 0} (P : X → Type 0) (xs : Listed X) (k : ℕ) → AllByRecursion P xs →
    IfSome (slice_get xs k) P
found P [] k h = tt
found P (x ∷ xs) zero h = h.0
found P (x ∷ xs) (suc k) h = found P xs k h.1

module _ (b : Native) (codes : CodesAreSendable b.program)
    (rules : AllByRecursion RulesAreSendable b.rules) (table : Listed Class) (inv : Invocation)
    (slots : Listed Value) (all : AreSendable inv.locals) (sixteen : length inv.locals ≡ 16)
    (of_slots : AreSendable slots) where
  -- the act of each kind
  kind_sound : (kind : Kind) →
      acts.MaySound table inv all sixteen (acts_as b kind table inv slots)
  kind_sound Script = scripts_keep b.program codes table inv slots all sixteen of_slots
  kind_sound Names = names_keep table inv slots all sixteen of_slots
  kind_sound Pasteboard = pasteboards_keep table inv slots all sixteen of_slots
  kind_sound Services = services_keep table inv slots all sixteen of_slots
  kind_sound Center = centers_keep table inv slots all sixteen of_slots
  kind_sound Checker =
      acts.then_sound table inv all sixteen RulesAreSendable
      (slice_get b.rules inv.method.class.0) (λ rs. Some (check_act rs table inv slots))
      (found RulesAreSendable b.rules inv.method.class.0 rules)
      (λ rs k. checkers_keep rs k table inv slots all sixteen of_slots)

-- each act
pub natives_keep : (b : Native) → CodesAreSendable b.program →
    AllByRecursion RulesAreSendable b.rules → (table : Listed Class) →
    KeepsSendable table (native_act b)
natives_keep b codes rules table inv slots all sixteen of_slots =
    acts.whatever_sound table inv all sixteen (slice_get b.kinds inv.method.class.0)
    (λ kind. acts_as b kind table inv slots)
    (kind_sound b codes rules table inv slots all sixteen of_slots)
