-- The transcript that a replay over a network writes.
use Rattle.std.specs.Prelude.{List, Option, [], ℕ, ◌∷◌}
use Rattle.do_base.specs.outside.Bytes.{HasWritten}
use Rattle.do_class.specs.Class.{Class}
use Rattle.do_machine.specs.{declared.state.State.State, check.Blocks.line_step, run.Run.Acting}
use Rattle.do_sched.specs.declared.line.Line.{Line}
use Rattle.do_network.specs.{Net.Net, Wired.{net_blocks, net_line_step, wired}}
use Rattle.do_agreement.specs.HasWires.{HasWires}

-- the transcript of these lines with what was sent in each, from a network on, of classes whose
-- objects act so
unfoldable pub wired_from : List Class → Acting → Net → List Line → List ℕ
wired_from table act N lines = wired table (net_blocks table act N lines)

-- What was added to a sink is the beginning of a text that is another but for lines `wire ..`
pub record WritesWithWires (old new : Option (List ℕ)) (plain : List ℕ) : Type 0 where
  pub text : List ℕ
  pub wires : HasWires plain text
  pub written : HasWritten old new text

module _ (table : List Class) (act : Acting) where
  -- the network to which these lines lead, one after another
  abbrev pub net_after : Net → List Line → Net
  net_after N [] = N
  net_after N (line ∷ lines) = net_after (net_line_step table act N line).net lines

  -- the state of the one machine to which they lead
  abbrev pub state_after : State → List Line → State
  state_after S [] = S
  state_after S (line ∷ lines) = state_after (line_step table act S line).state lines
