use Rattle.do_world.proofs.method_codes.no_codes.Given as goal
use Rattle.std.{proofs.Common.{◌≡◌, Some, map, take}, specs.Option.option_map}
use Rattle.do_class.specs.{Class.Class, Table.class_at, declared.method.Method.Method}
use Rattle.do_world.specs.Worlds.{no_code}

abbrev pub invariant-loop-index : goal.invariant-loop-index
invariant-loop-index l =
    option_map (λ (c : Class). map (λ (m : Method). no_code) (take l.index c.methods))
    (class_at l.classes l.class) ≡ Some l.codes
