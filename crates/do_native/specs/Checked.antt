-- What checkers do among classes of other kinds.
use Rattle.std.specs.Prelude.{◌≡◌, List, Some, slice_get}
use Rattle.do_base.specs.declared.values.value.Value.{Value}
use Rattle.do_class.specs.Class.{Class}
use Rattle.do_behave.specs.declared.invocation.Invocation.{Invocation}
use Rattle.do_check.specs.{Acts.check_act, declared.rules.Rule.Rule}
use Rattle.do_class_kinds.specs.declared.kind.Kind.TheVariants.{Checker}
use Rattle.do_native.specs.{Acts.native_act, declared.native.Native.Native}

-- an invocation of a class of checkers acts by the rules of its class
abbrev pub FollowTheirRules : Type 0
FollowTheirRules =
    (b : Native) (rules : List Rule) (table : List Class) (inv : Invocation) (slots : List Value)
    → slice_get b.kinds inv.method.class.0 ≡ Some Checker
    → slice_get b.rules inv.method.class.0 ≡ Some rules
    → native_act b table inv slots ≡ check_act rules table inv slots
