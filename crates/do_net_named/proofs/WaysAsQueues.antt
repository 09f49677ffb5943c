-- What is under way in a network names what the items name that wait in the machine's queues.
use Rattle.do_machine.specs.declared.item.Item.TheVariants as items
use Rattle.std.proofs.Common.{◌≡◌, ◌==◌, ◌∙◌, ◌++◌, ℕ, Bool, true, false, cond, List, [], ◌∷◌, map}
use Rattle.std.proofs.Common.{Result, Ok, Err, Option, Some, None, length, refl, sym, ap}
use Rattle.std.specs.{Prelude.{option_map, unwrap_or}, List.{AllByRecursion, flat_map}}
use Rattle.do_base.specs.names.Names.{ObjectName}
use Rattle.do_class.specs.{Class.Class, Table.IsTable}
use Rattle.do_coder.specs.{declared.recent.pair.Pair.Pair, Packets.surroundings}
use Rattle.do_coder.specs.Recent.{IsKnown, IsRecent}
use Rattle.do_frames.specs.{declared.frame.Frame.Frame, Frames.{IsFrame, after_frame, raw}}
use Rattle.do_frames.proofs.payloads.WholePayload.{frame_known}
use Rattle.do_agreement.specs.{Agrees.Agrees, CountsFit.ChannelCarries}
use Rattle.do_agreement.proofs.{agreement.AgreesFits.queue_is, channels.FirstTaken.frame_recent}
use Rattle.do_lost.specs.Named.{item_names}
use Rattle.do_machine.specs.declared.{item.Item.Item, state.State.State}
use Rattle.do_network.specs.{Frames.{frame_of, item_of}, Links.{Link, Part, names_read}}
use Rattle.do_network.specs.Net.{Lost, Net, Whole, part_at}
use Rattle.do_network.{specs.fits.Notes.{Note, carried, note_frame}, proofs.FramesRead.read_back}
use Rattle.do_net_named.specs.Waiting.{channel_names, items_in, lane_names, names_by, way_names}
use Rattle.do_net_named.proofs.StateNamed.{between_names, items_names}

-- a frame names what its item names; its end names nothing
sent_names : (from to amount : ℕ) (item : Item) →
    item_names from to false (item_of (frame_of amount item)) ≡ item_names from to false item
sent_names from to amount (items.Call number m) = refl
sent_names from to amount _ = refl

module _ (table : List Class) (t : IsTable table) (from to : ℕ) where
  -- what the items of notes name
  abbrev notes_names : List Note → List ObjectName
  notes_names xs = flat_map (item_names from to false) (map (λ x. x.item) xs)

  -- what stands in a channel names what the items under way name
  pub carried_names : (xs : List Note) (front : List Pair) → IsRecent front →
      AllByRecursion (IsKnown (length table)) front →
      AllByRecursion (λ x. IsFrame (surroundings table from to) (note_frame x)) xs →
      AllByRecursion (λ x. x.lost ≡ true → x.item ≡ items.End []) xs →
      lane_names table from to front (carried front xs) ≡ notes_names xs
  carried_names [] front recent known spelled lost = refl
  carried_names (x ∷ xs) front recent known spelled lost =
      go x.lost refl (carried_names xs front recent known spelled.1 lost.1)
      (carried_names xs after (frame_recent table from to front recent known f spelled.0)
      (frame_known table t from to front recent known f spelled.0) spelled.1 lost.1)
    where
      f : Frame
      f = note_frame x

      after : List Pair
      after = after_frame front f

      -- a frame is read, and what follows by the names behind it
      framed : lane_names table from to after (carried after xs) ≡ notes_names xs →
          lane_names table from to front (Whole (raw front f) ∷ carried after xs)
          ≡ item_names from to false x.item ++ notes_names xs
      framed rest =
          ap (λ (r : Result Frame ℕ). flat_map (item_names from to false) (elim r [
            | Ok g ↦ item_of g ∷ items_in table from to (after_frame front g) (carried after xs)
            | Err place ↦ []
          ])) (read_back table t from to front recent known f spelled.0)
          ∙ ap (λ os. os ++ lane_names table from to after (carried after xs))
          (sent_names from to x.amount x.item)
          ∙ ap (λ os. item_names from to false x.item ++ os) rest

      go : (b : Bool) → x.lost ≡ b →
          lane_names table from to front (carried front xs) ≡ notes_names xs →
          lane_names table from to after (carried after xs) ≡ notes_names xs →
          lane_names table from to front
          (cond b (Lost ∷ carried front xs) (Whole (raw front f) ∷ carried after xs))
          ≡ item_names from to false x.item ++ notes_names xs
      go true e skipped rest =
          skipped ∙ ap (λ item. item_names from to false item ++ notes_names xs) (sym (lost.0 e))
      go false e skipped rest = framed rest

module _ (table : List Class) (t : IsTable table) (N : Net) (S : State)
    (agrees : Agrees table N S) (from to : ℕ) (p q : Part) (h : part_at N from ≡ Some p)
    (k : part_at N to ≡ Some q) (apart : (from == to) ≡ false) where
  -- the channel
  abbrev way : ChannelCarries table N from to p q (agrees.tallies.under_way from to)
  way = agrees.tallies.counts.channels from to p q h k apart

  -- the names by which its reader reads
  read_by : names_by N to from ≡ way.carries.tables.front
  read_by =
      ap (λ (found : Option Part). elim found [
        | None ↦ []
        | Some r ↦ names_read r from
      ]) k
      ∙ ap (λ o. unwrap_or (option_map (λ (l : Link). l.read) o) []) way.reads
      ∙ sym (way.carries.tables.read refl)

  -- what is under way names what waits in the machine's queue
  pub way_named : way_names table N from to ≡ between_names S from to
  way_named =
      ap (channel_names table from to (names_by N to from)) way.stands
      ∙ ap (λ names. lane_names table from to names way.between.waiting) read_by
      ∙ ap (lane_names table from to way.carries.tables.front) way.carries.waiting
      ∙ carried_names table t from to (agrees.tallies.under_way from to) way.carries.tables.front
      way.carries.tables.recent way.carries.tables.known way.carries.spelled way.marks.lost
      ∙ sym (ap (items_names from to) (queue_is table N S agrees from to p q h k apart))
