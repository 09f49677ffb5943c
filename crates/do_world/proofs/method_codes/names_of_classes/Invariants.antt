use Rattle.do_world.proofs.method_codes.names_of_classes.Given as goal
use Rattle.std.proofs.Common.{◌≡◌, map, take}
use Rattle.do_class.specs.Class.{Class}

abbrev pub invariant-loop-class : goal.invariant-loop-class
invariant-loop-class l = l.names ≡ map (λ (c : Class). c.name) (take l.class l.classes)
