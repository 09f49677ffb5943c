-- What decides the acts of a world's objects.
use Rattle.do_native.specs.declared.native.Native.{Native}
use Rattle.do_world.specs.declared.world.World.{World}

-- the behaviour of a world's classes
abbrev pub behaviour_of : World → Native
behaviour_of w = record { kinds = w.kinds; program = w.program; rules = w.rules }
