-- The frames that tell lenders that their lends are over.
use Rattle.do_frames.specs.declared.frame.Frame.TheVariants as frames
use Rattle.std.specs.Prelude.{List, [], if◌then◌else◌, not, ◌++◌, ◌∷◌}
use Rattle.do_base.specs.names.Names.{TokenName}
use Rattle.do_machine.specs.{declared.node.Node.Node, State.is_open}
use Rattle.do_network.specs.Frames.{Posted}

-- the frame that tells a lender, where the end towards it is open
abbrev pub settle_post : Node → TokenName → List Posted
settle_post n t = if not (is_open n t.lender) then []
    else record { to = t.lender; frame = frames.Settle t.number } ∷ []

-- the frames that tell all lenders
abbrev pub settle_posts : Node → List TokenName → List Posted
settle_posts n [] = []
settle_posts n (t ∷ ts) = settle_post n t ++ settle_posts n ts
