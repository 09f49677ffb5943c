-- Ports as numbers.
use Rattle.std.specs.Prelude.{ℕ, ℤ, pos, ◌&&◌, nat_lt, Option, Some, None, if◌then◌else◌}
use Rattle.do_base.specs.{values.Kinds.number, declared.values.value.Value.Value}
use Rattle.do_grammar.specs.Words.{◌>>?◌}

-- a number, where it is one from 1 to 65,535
abbrev pub port_number : ℤ → Option ℕ
port_number (pos n) = if nat_lt 0 n && nat_lt n 65536 then Some n else None
port_number _ = None

-- the number, where it is a port
abbrev pub port_in : Value → Option ℕ
port_in v = number v >>? port_number
