-- The acts of classes of all kinds.
use Rattle.do_behave.specs.Programs as programs
use Rattle.std.specs.Prelude.{List, Option, Some, slice_get}
use Rattle.do_base.specs.declared.values.value.Value.{Value}
use Rattle.do_class.specs.Class.{Class}
use Rattle.do_grammar.specs.Words.{◌>>?◌}
use Rattle.do_behave.specs.{Script.script, Steps.or_fault}
use Rattle.do_behave.specs.declared.{invocation.Invocation.Invocation, act.Act.Act}
use Rattle.do_check.specs.Acts.{check_act}
use Rattle.do_class_kinds.specs.{Kinds.AreKindsOf, declared.kind.Kind.Kind}
use Rattle.do_class_kinds.specs.declared.kind.Kind.TheVariants.{Script, Names, Pasteboard, Services}
use Rattle.do_class_kinds.specs.declared.kind.Kind.TheVariants.{Center, Checker}
use Rattle.do_names.specs.Acts.{names_act}
use Rattle.do_pboard.specs.Acts.{pasteboard_act}
use Rattle.do_services.specs.Acts.{services_act}
use Rattle.do_center.specs.Acts.{center_act}
use Rattle.do_native.specs.declared.native.Native.{Native}

-- the act of a checker, by the rules of its class
abbrev pub checker_act : Native → List Class → Invocation → List Value → Option Act
checker_act b table inv slots =
    slice_get b.rules inv.method.class.0 >>? λ rules. Some (check_act rules table inv slots)

-- the act of an object of a kind
abbrev pub acts_as : Native → Kind → List Class → Invocation → List Value → Option Act
acts_as b Script table inv slots = Some (script b.program table inv slots)
acts_as b Names table inv slots = Some (names_act table inv slots)
acts_as b Pasteboard table inv slots = Some (pasteboard_act table inv slots)
acts_as b Services table inv slots = Some (services_act table inv slots)
acts_as b Center table inv slots = Some (center_act table inv slots)
acts_as b Checker table inv slots = checker_act b table inv slots

-- The act of an invocation: that of the kind of its method's class. Where the class has no kind, or
-- a checker no rules, it is a fault of type.
abbrev pub native_act : Native → List Class → Invocation → List Value → Act
native_act b table inv slots =
    or_fault (slice_get b.kinds inv.method.class.0 >>? λ kind. acts_as b kind table inv slots)

-- its program is made for the table, and each class has a kind and rules
pub record IsMadeFor (b : Native) (table : List Class) : Type 0 where
  pub program : programs.IsMadeFor b.program table
  pub kinds : AreKindsOf table b.kinds b.rules
