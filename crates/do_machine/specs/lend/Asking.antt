-- Asks: what a node that was lent an object does until it holds it.
use Rattle.do_machine.specs.declared.item.Item.TheVariants as items
use Rattle.std.specs.Prelude.{Bool, List, [], filter, is_some, not, ℕ, ◌&&◌, ◌==◌, ◌∷◌}
use Rattle.std.specs.List.{list_any}
use Rattle.do_base.specs.{names.Names.{ObjectName, TokenName}, values.Kinds.number}
use Rattle.do_packet.specs.Met.{same_object}
use Rattle.do_machine.specs.declared.{node.{Node.Node, Wanted.Wanted}, state.Effect.Effect}
use Rattle.do_machine.specs.{Chain.{when◌then◌, ◌>>◌}, Effect.{only, queueing}}
use Rattle.do_machine.specs.{Lists.{inserted, numbers_lt}, State.{is_open, stored}}

-- an object that a lender named under a number
abbrev pub wanted : ObjectName → ℕ → ℕ → Wanted
wanted o lender number = record { object = o; token = record { lender = lender; number = number } }

-- what asks stand by: lender, number, port and serial
abbrev keys : Wanted → List ℕ
keys w = w.token.lender ∷ w.token.number ∷ w.object.node ∷ w.object.serial ∷ []

-- one ask stands before another
abbrev pub wanted_lt : Wanted → Wanted → Bool
wanted_lt v w = numbers_lt (keys v) (keys w)

-- two asks are one: they are of one object and one token
abbrev pub same_wanted : Wanted → Wanted → Bool
same_wanted v w =
    same_object v.object w.object
    && (v.token.lender == w.token.lender) && (v.token.number == w.token.number)

-- the node with an ask more
abbrev pub with_wanted : Wanted → Node → Node
with_wanted w n = record n { asked = inserted wanted_lt w n.asked }

-- the node with an ask less
abbrev pub without_wanted : Wanted → Node → Node
without_wanted w n = record n { asked = filter (λ v. not (same_wanted w v)) n.asked }

-- the lender is told that the lend is over, if the end towards it is open
abbrev pub settling : Wanted → Node → Effect
settling w n = do
  when not (is_open n w.token.lender) then only n
  queueing w.token.lender (items.Settled w.token.number) n

-- a node asks the home for an object that it was lent; where it can't ask, the lend is over
abbrev pub asking : Wanted → Node → Effect
asking w n = do
  when not (is_open n w.object.node) then settling w n
  when list_any (same_wanted w) n.asked then only n
  queueing w.object.node (items.Ask w.object.serial w.token) (with_wanted w n)

-- an ask is over, and so is the lend
abbrev pub ask_over : Wanted → Node → Effect
ask_over w n = settling w (without_wanted w n)

-- the home answers an ask: it grants what it stores
abbrev pub granting : ℕ → ℕ → TokenName → Node → Effect
granting peer serial token n = do
  when is_some (stored serial n.heap) then queueing peer (items.Granted serial token) n
  queueing peer (items.Gone serial token) n
