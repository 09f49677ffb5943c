-- How what was sent is lost.
use Rattle.do_machine.specs.declared.item.Item.TheVariants as items
use Rattle.std.specs.{Prelude.{None, Option, Some, [], length, nat_lt, not, ℕ}, List.insert}
use Rattle.do_machine.specs.{declared.state.State.State, Chain.{when◌then◌, ◌>>=◌, ◌>>◌}}
use Rattle.do_machine.specs.{Chain.◌otherwise◌, State.{change, is_open, node, queue, with_queue}}

-- an end that names nothing stands behind so many items, where the reader's end is open
abbrev pub lost : State → ℕ → ℕ → ℕ → Option State
lost S from to after = do
  n ← node S to otherwise None
  when not (is_open n from) then None
  waiting ← queue S from to otherwise None
  when nat_lt (length waiting) after then None
  Some (change from (with_queue to (insert waiting after (items.End []))) S)
