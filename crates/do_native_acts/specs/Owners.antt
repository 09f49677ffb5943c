-- Objects that may be nil, as the owner of a pasteboard.
use Rattle.std.specs.Prelude.{Option, Some, None}
use Rattle.do_base.specs.{names.Names.ObjectName, declared.values.value.Value.{Value, out-Value}}
use Rattle.do_base.specs.declared.values.value.Value.TheOpen.{Value-F}

abbrev owner_level : Value-F Value → Option (Option ObjectName)
owner_level Value-F.Nil = Some None
owner_level (Value-F.Obj o) = Some (Some o)
owner_level _ = None

-- the owner that a value names: nil for none
abbrev pub owner_in : Value → Option (Option ObjectName)
owner_in v = owner_level (out-Value v)
