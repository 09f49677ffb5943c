-- When an invocation can act.
use Rattle.std.specs.Prelude.{◌≡◌, List, length, Option, Some}
use Rattle.std.specs.Option.{option_map, IsSome, IfSome}
use Rattle.do_base.specs.declared.values.value.Value.{Value}
use Rattle.do_class.specs.{Class.Class, Table.{method_at, slots_of}}
use Rattle.do_script.specs.Listing.{IsLocal}
use Rattle.do_behave.specs.declared.invocation.{Handler.Handler, Invocation.Invocation}
use Rattle.do_behave.specs.declared.invocation.InvState.TheVariants.{Running}

-- the handler's local is there
abbrev pub IsHandler : Option Handler → Type 0
IsHandler handler = IfSome handler (λ h. IsLocal h.into)

-- it runs a method of the table, has 16 locals, and its object has the slots of the method's class
pub record IsReady (table : List Class) (inv : Invocation) (slots : List Value) : Type 0 where
  pub running : inv.state ≡ Running
  pub method : IsSome (method_at table inv.method)
  pub locals : length inv.locals ≡ 16
  pub handler : IsHandler inv.handler
  pub slot_count : option_map length (slots_of table inv.method.class) ≡ Some (length slots)
