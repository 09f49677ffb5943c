-- Items whose frames have spellings.
use Rattle.do_frames.specs.declared.frame.Frame.TheVariants as frames
use Rattle.do_machine.specs.declared.item.Item.TheVariants as items
use Rattle.std.specs.Prelude.{List, length, ℕ, ◌≤◌}
use Rattle.do_coder.specs.{Packets.Surroundings, Recent.IsSerial, declared.recent.pair.Pair.Pair}
use Rattle.do_frames.specs.{Frames.{IsFrame, payload_spelling}, declared.frame.Frame.Frame}
use Rattle.do_lengths.specs.Short.{longest_payload}
use Rattle.do_machine.specs.declared.item.Item.{Item}

-- a frame has a spelling that its reader reads, and its payload is not too long, whatever was named
-- lately
abbrev pub FrameIsSpelled : Surroundings → Frame → Type 0
FrameIsSpelled s f =
    IsFrame s f × ((recent : List Pair) → length (payload_spelling recent f) ≤ longest_payload)

-- the frame of an item has a spelling that its reader reads, and so has that of a release of any
-- amount that has one
abbrev pub ItemIsSpelled : Surroundings → Item → Type 0
ItemIsSpelled s (items.Call number m) =
    FrameIsSpelled s (frames.Call number m.target m.selector m.packet)
ItemIsSpelled s (items.Oneway m) = FrameIsSpelled s (frames.Oneway m.target m.selector m.packet)
ItemIsSpelled s (items.Reply number packet) = FrameIsSpelled s (frames.Reply number packet)
ItemIsSpelled s (items.Raised number e) = FrameIsSpelled s (frames.Raised number e)
ItemIsSpelled s (items.RootAsk number) = FrameIsSpelled s (frames.RootAsk number)
ItemIsSpelled s (items.RootAnswer number packet) =
    FrameIsSpelled s (frames.RootAnswer number packet)
ItemIsSpelled s (items.Ask serial token) = FrameIsSpelled s (frames.Retain serial token)
ItemIsSpelled s (items.Granted serial token) = FrameIsSpelled s (frames.Granted serial token)
ItemIsSpelled s (items.Gone serial token) = FrameIsSpelled s (frames.Gone serial token)
ItemIsSpelled s (items.Left serial) =
    (amount : ℕ) → IsSerial amount → FrameIsSpelled s (frames.Release serial amount)
ItemIsSpelled s (items.Settled number) = FrameIsSpelled s (frames.Settle number)
ItemIsSpelled s (items.End serials) = FrameIsSpelled s frames.Shutdown
