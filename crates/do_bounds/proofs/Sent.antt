-- Where the items that a node sends keep the limits, so do the frames that go to its peers.
use Rattle.do_machine.specs.declared.item.Item.TheVariants as items
use Rattle.std.proofs.Common.{Bool, List, [], cond, false, fold, map, true, ℕ, ◌∷◌}
use Rattle.std.specs.{List.AllByRecursion, Prelude.{None, Option, Some}}
use Rattle.do_class.specs.Class.{Class}
use Rattle.do_export.specs.Counts.{Counts}
use Rattle.do_frames.specs.Frames.{raw}
use Rattle.do_machine.specs.declared.{item.Item.Item, state.Parcel.Parcel}
use Rattle.do_facts.proofs.EachOfLists.{each_joined}
use Rattle.do_network.specs.{Frames.{Posted, all_posted, frame_of, item_of}, Links.Framed}
use Rattle.do_network.specs.Links.{Greeting, Link, Outbox, Piece, link_to, sending, sendings}
use Rattle.do_limits.{specs.SendableStates.ItemIsSendable, proofs.Effects.ParcelIsSendable}
use Rattle.do_bounds.specs.Bounds.{SendsWithin}

module _ (table : List Class) (port : ℕ) where
  -- a frame of an item that keeps the limits
  abbrev pub Brings : Posted → Type 0
  Brings x = ItemIsSendable table port x.to (item_of x.frame)

  -- the frame of an item
  frame_brings : (to amount : ℕ) (item : Item) → ItemIsSendable table port to item →
      ItemIsSendable table port to (item_of (frame_of amount item))
  frame_brings to amount (items.Call number m) h = h
  frame_brings to amount (items.Oneway m) h = h
  frame_brings to amount (items.Reply number packet) h = h
  frame_brings to amount (items.Raised number e) h = h
  frame_brings to amount (items.RootAsk number) h = tt
  frame_brings to amount (items.RootAnswer number packet) h = h
  frame_brings to amount (items.Ask serial token) h = h
  frame_brings to amount (items.Granted serial token) h = h
  frame_brings to amount (items.Gone serial token) h = h
  frame_brings to amount (items.Left serial) h = h
  frame_brings to amount (items.Settled number) h = tt
  frame_brings to amount (items.End serials) h = tt

  -- those of parcels
  pub all_bring : (received : Counts) (ps : List Parcel) →
      AllByRecursion (ParcelIsSendable table port) ps →
      AllByRecursion Brings (all_posted received ps)
  all_bring received [] h = tt
  all_bring received (x ∷ ps) h = (frame_brings x.to _ x.item h.0, all_bring received ps h.1)

  -- what goes to a peer for a frame
  pieces_within : (x : Posted) (found : Option Link) → Brings x →
      AllByRecursion (SendsWithin table port) (sendings x found)
  pieces_within x None h = tt
  pieces_within x (Some l) h = go l.greeted
    where
      go : (b : Bool) → AllByRecursion (SendsWithin table port)
          (map (λ (piece : Piece). record { to = x.to; piece = piece })
          (cond b (Framed x.frame (raw l.sent x.frame) ∷ [])
          (Greeting ∷ Framed x.frame (raw l.sent x.frame) ∷ [])))
      go true = (h, tt)
      go false = (tt, (h, tt))

  -- what goes to peers for frames, one after another
  pub sent_within : (xs : List Posted) (o : Outbox) → AllByRecursion Brings xs →
      AllByRecursion (SendsWithin table port) o.sent →
      AllByRecursion (SendsWithin table port) (fold sending o xs).sent
  sent_within [] o h k = k
  sent_within (x ∷ xs) o h k =
      sent_within xs (sending o x) h.1
      (each_joined (SendsWithin table port) o.sent (sendings x (link_to o.links x.to)) k
      (pieces_within x (link_to o.links x.to) h.0))
