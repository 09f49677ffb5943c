-- What a part sends to the homes of objects that it left.
use Rattle.std.specs.Prelude.{ℕ}
use Rattle.do_base.specs.names.Names.{ObjectName}
use Rattle.do_frames.specs.declared.frame.Frame.TheVariants.{Release}
use Rattle.do_network.specs.Frames.{Posted}

-- the frame that gives all names of an object back
abbrev pub given_up : ObjectName × ℕ → Posted
given_up x = record { to = x.0.node; frame = Release x.0.serial x.1 }
