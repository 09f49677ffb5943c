-- What a frame brings that was read of bytes keeps the limits.
use Rattle.do_frames.specs.declared.frame.Frame.TheVariants as frames
use Rattle.std.proofs.Common.{Err, List, Ok, ap, length, refl, ℕ, ◌≡◌}
use Rattle.std.specs.{List.AllByRecursion, Prelude.{None, Option, Result, Some}}
use Rattle.do_grammar.specs.{Grammar.IsBytes, Reader.Stop}
use Rattle.do_class.specs.{Class.Class, Table.IsTable}
use Rattle.do_coder.specs.{Packets.surroundings, Recent.{IsKnown, IsRecent}}
use Rattle.do_coder.specs.declared.recent.pair.Pair.{Pair}
use Rattle.do_frames.proofs.payloads.WholePayload.{whole_spelled}
use Rattle.do_frames.specs.{Frames.IsFrame, Kinds.{kind_at, kind_number}}
use Rattle.do_frames.specs.declared.{frame.{Frame.Frame, RawFrame.RawFrame}, kind.Kind.Kind}
use Rattle.do_network.specs.Frames.{item_of, payload_read, read_frame, read_or_place}
use Rattle.do_limits.{proofs.values.Reading.packet_read, specs.SendableStates.ItemIsReadable}

-- what was read was found
was_read : (payload : List ℕ) (answer : Result Frame (Stop (Unit {0}))) (f : Frame) →
    read_or_place payload answer ≡ Ok f → answer ≡ Ok f
was_read payload (Ok g) f e = let same : g ≡ f = cc (e) in ap (λ x. Ok x) same
was_read payload (Err stop) f e = absurd (cc (e))

module _ (table : List Class) (t : IsTable table) (from to : ℕ) (recent : List Pair)
    (r : IsRecent recent) (known : AllByRecursion (IsKnown (length table)) recent) where
  -- what is read of bytes has a spelling
  pub read_is : (raw : RawFrame) (f : Frame) → IsBytes raw.payload →
      read_frame table from to recent raw ≡ Ok f → IsFrame (surroundings table from to) f
  unfolding read_frame
  read_is raw f small e = by_kind (kind_at raw.kind) e
    where
      by_kind : (kind : Option Kind) →
          payload_read (surroundings table from to) recent raw.payload kind ≡ Ok f →
          IsFrame (surroundings table from to) f
      by_kind None k = absurd (cc (k))
      by_kind (Some kind) k =
          (whole_spelled table t from to recent r known kind (kind_number kind) refl raw.payload f
          small (was_read raw.payload _ f k)).fits.1

module _ (table : List Class) (from to : ℕ) where
  -- what a frame that has a spelling brings keeps the limits
  pub frame_read : (f : Frame) → IsFrame (surroundings table from to) f →
      ItemIsReadable table from to (item_of f)
  frame_read (frames.Call number serial selector packet) h = record {
    target = h.1.0.0;
    selector = h.1.1.0;
    packet = packet_read table from to packet h.1.1.1;
  }
  frame_read (frames.Oneway serial selector packet) h = record {
    target = h.0.0;
    selector = h.1.0;
    packet = packet_read table from to packet h.1.1;
  }
  frame_read (frames.Reply number packet) h = packet_read table from to packet h.1
  frame_read (frames.Raised number e) h = h.1
  frame_read (frames.RootAsk number) h = tt
  frame_read (frames.RootAnswer number packet) h = packet_read table from to packet h.1
  frame_read (frames.Retain serial token) h = h.0.0
  frame_read (frames.Granted serial token) h = h.0.0
  frame_read (frames.Gone serial token) h = h.0.0
  frame_read (frames.Release serial amount) h = h.0.0
  frame_read (frames.Settle number) h = tt
  frame_read frames.Shutdown h = tt
