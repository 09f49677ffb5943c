-- The channels of a network while one of its sites has an item in hand.
use Rattle.do_agreement.proofs.hands.HandSites as sites
use Rattle.std.proofs.Common.{◌≡◌, ◌==◌, ◌&&◌, ℕ, Bool, true, false, List, ◌∷◌, refl, sym, ap, ◌∙◌}
use Rattle.std.{proofs.Common.subst, specs.Prelude.{Some, not, option_and_then, option_map}}
use Rattle.std.{specs.List.AllByRecursion, proofs.lemmas.Bool.eqb-true}
use Rattle.do_class.specs.Class.{Class}
use Rattle.do_coder.specs.{declared.recent.pair.Pair.Pair, Packets.surroundings}
use Rattle.do_frames.specs.Frames.{IsFrame}
use Rattle.do_network.specs.{Links.Part, Net.{Net, Place, channel_to, part_at}, Step.advanced}
use Rattle.do_network.specs.fits.{Channels.Carries, Notes.{Note, carried, names_behind, note_frame}}
use Rattle.do_agreement.specs.CountsFit.{ChannelCarries, MarksFit}
use Rattle.do_agreement.specs.NetInHand.{carried_as, link_read, part_in_hand, with_part}
use Rattle.do_agreement.proofs.channels.FirstTaken.{first_taken, marks_taken}
use Rattle.do_agreement.proofs.places.KeyedLists.{found_changed, found_elsewhere}
use Rattle.do_agreement.proofs.places.PlacesChanged.{channel_elsewhere, channel_here, some_is}
use Rattle.do_agreement.proofs.places.Numbers.{flipped, never_apart, same_number}
use Rattle.do_agreement.proofs.hands.HandSites.{Hand, at_from, at_port, by_hand, keeps_less}
use Rattle.do_agreement.proofs.hands.HandSites.{keeps_part, now_from, now_rest, now_to, other}
use Rattle.do_agreement.proofs.hands.{HandSites.there_still, LinksRead.{found_read, read_if}}
use Rattle.do_agreement.proofs.{hands.LinksRead.read_keeps, channels.ChannelsStay.carries_still}

module _ {table : List Class} {port from : ℕ} {N : Net} {under_way : ℕ → ℕ → List Note} {x : Note}
    {xs : List Note} (hand : Hand table port from N under_way x xs) where
  -- the site that takes
  abbrev p : Part
  p = sites.p hand

  -- the site whose item it takes
  abbrev q : Part
  q = sites.q hand

  -- the network without the item
  abbrev K : Net
  K = sites.K hand

  -- the network with the item in hand
  abbrev H : Net
  H = sites.H hand

  -- the channel from the second to the first
  abbrev way : ChannelCarries table N from port q p (under_way from port)
  way = sites.way hand

  -- the names by which the item is spelled
  abbrev front : List Pair
  front = sites.front hand

  -- the change of the sender's place
  abbrev less : Place → Place
  less = sites.less hand

  -- what is under way
  abbrev now : ℕ → ℕ → List Note
  now = sites.now hand

  -- the item stands first in its channel
  abbrev first_carried : Carries table from port true way.writer way.reader way.between (x ∷ xs)
  first_carried =
      let c = way.carries in
      record {
        tables = record {
          front = front;
          read = c.tables.read;
          behind = ap (names_behind front) (sym hand.first) ∙ c.tables.behind;
          recent = c.tables.recent;
          known = c.tables.known;
        };
        waiting = c.waiting ∙ ap (carried front) hand.first;
        greeting = c.greeting;
        spelled = subst (AllByRecursion
            (λ y. IsFrame (surroundings table from port) (note_frame y))) hand.first c.spelled;
      }

  -- and its marks fit
  first_marks : MarksFit way.writer way.between (x ∷ xs)
  first_marks = subst (MarksFit way.writer way.between) hand.first way.marks

  -- the channel without the item
  channel_less : ChannelCarries table H from port q (part_in_hand from x p) (now from port)
  channel_less =
      let c = first_taken table hand.is_table from port way.writer way.reader way.between x xs
      first_carried first_marks in
      subst (ChannelCarries table H from port q (part_in_hand from x p)) (sym (now_rest hand))
      (record {
        between = advanced (carried_as front x) way.between;
        stands =
            channel_elsewhere port (with_part (part_in_hand from x p)) (keeps_part hand) K from port
            (flipped from port (other hand))
            ∙ channel_here from less (keeps_less hand) N hand.pf hand.sender port
            ∙ found_changed (λ d. d.to) (advanced (carried_as front x)) (λ d. refl) port
            hand.pf.channels
            ∙ ap (option_map (advanced (carried_as front x)))
            (sym (ap (option_and_then (channel_to port)) hand.sender) ∙ way.stands);
        writer = way.writer;
        writes = way.writes;
        reader = link_read x way.reader;
        reads = found_read from x p.links from way.reader way.reads
            ∙ ap (λ b. Some (read_if b x way.reader)) (same_number from);
        carries = c;
        marks = marks_taken table hand.is_table from port way.writer way.reader way.between x xs
            first_carried first_marks;
      })

  module _ (m : ℕ) (w : Part) (third : (port == m) ≡ false) (n : part_at N m ≡ Some w) where
    -- another channel of the sender
    channel_of_sender : (from == m) ≡ false → ChannelCarries table H from m q w (now from m)
    channel_of_sender ne =
        let old = hand.fit.channels from m q w (at_from hand) n ne in
        subst (ChannelCarries table H from m q w) (sym (now_to hand from m third))
        (carries_still old
        (channel_elsewhere port (with_part (part_in_hand from x p)) (keeps_part hand) K from m
        (flipped from port (other hand))
        ∙ channel_here from less (keeps_less hand) N hand.pf hand.sender m
        ∙ found_elsewhere (λ d. d.to) (advanced (carried_as front x)) (λ d. refl) port m third
        hand.pf.channels
        ∙ sym (ap (option_and_then (channel_to m)) hand.sender) ∙ old.stands))

    -- a channel of the taker
    channel_of_taker : ChannelCarries table H port m (part_in_hand from x p) w (now port m)
    channel_of_taker =
        let old = hand.fit.channels port m p w (at_port hand) n third in
        let c = old.carries in
        let is = read_keeps (from == m) x old.writer in
        subst (ChannelCarries table H port m (part_in_hand from x p) w)
        (sym (now_from hand port m (other hand)))
        (record {
          between = old.between;
          stands =
              channel_here port (with_part (part_in_hand from x p)) (keeps_part hand) K hand.pl
              (there_still hand) m
              ∙ sym (ap (option_and_then (channel_to m)) hand.there) ∙ old.stands;
          writer = read_if (from == m) x old.writer;
          writes = found_read from x p.links m old.writer old.writes;
          reader = old.reader;
          reads = old.reads;
          carries = record {
            tables = record {
              front = c.tables.front;
              read = c.tables.read;
              behind = c.tables.behind ∙ sym is.0;
              recent = c.tables.recent;
              known = c.tables.known;
            };
            waiting = c.waiting;
            greeting = c.greeting ∙ ap (λ b. b && not old.between.begun) (sym is.1);
            spelled = c.spelled;
          };
          marks = record {
            lost = old.marks.lost;
            unbegun = λ e. old.marks.unbegun (sym is.1 ∙ e);
          };
        })

    -- a channel to the taker from a third
    channel_to_taker : (from == m) ≡ false →
        ChannelCarries table H m port w (part_in_hand from x p) (now m port)
    channel_to_taker ne =
        let old = hand.fit.channels m port w p n (at_port hand) (flipped port m third) in
        subst (ChannelCarries table H m port w (part_in_hand from x p))
        (sym (now_from hand m port ne))
        (record {
          between = old.between;
          stands =
              channel_elsewhere port (with_part (part_in_hand from x p)) (keeps_part hand) K m port
              third
              ∙ channel_elsewhere from less (keeps_less hand) N m port ne ∙ old.stands;
          writer = old.writer;
          writes = old.writes;
          reader = old.reader;
          reads = found_read from x p.links m old.reader old.reads
              ∙ ap (λ b. Some (read_if b x old.reader)) ne;
          carries = old.carries;
          marks = old.marks;
        })

  -- a channel between two others
  channel_of_thirds : (b c : ℕ) (y w : Part) → (port == b) ≡ false → part_at N b ≡ Some y →
      (port == c) ≡ false → part_at N c ≡ Some w → (b == c) ≡ false →
      ChannelCarries table H b c y w (now b c)
  channel_of_thirds b c y w third l fourth n ne = go (from == b) refl
    where
      go : (d : Bool) → (from == b) ≡ d → ChannelCarries table H b c y w (now b c)
      go true e =
          let is : from ≡ b = eqb-true from b e in
          subst (λ k. ChannelCarries table H k c y w (now k c)) is
          (subst (λ z. ChannelCarries table H from c z w (now from c))
          (some_is q y (sym (at_from hand) ∙ ap (part_at N) is ∙ l))
          (channel_of_sender c w fourth n (ap (λ k. k == c) is ∙ ne)))
      go false e =
          let old = hand.fit.channels b c y w l n ne in
          subst (ChannelCarries table H b c y w) (sym (now_to hand b c fourth))
          (carries_still old
          (channel_elsewhere port (with_part (part_in_hand from x p)) (keeps_part hand) K b c third
          ∙ channel_elsewhere from less (keeps_less hand) N b c e ∙ old.stands))

  -- a channel to the taker
  channel_to_hand : (b : ℕ) (y : Part) → (port == b) ≡ false → part_at N b ≡ Some y →
      ChannelCarries table H b port y (part_in_hand from x p) (now b port)
  channel_to_hand b y third l = go (from == b) refl
    where
      go : (d : Bool) → (from == b) ≡ d →
          ChannelCarries table H b port y (part_in_hand from x p) (now b port)
      go true e =
          let is : from ≡ b = eqb-true from b e in
          subst (λ k. ChannelCarries table H k port y (part_in_hand from x p) (now k port)) is
          (subst (λ z. ChannelCarries table H from port z (part_in_hand from x p) (now from port))
          (some_is q y (sym (at_from hand) ∙ ap (part_at N) is ∙ l)) channel_less)
      go false e = channel_to_taker b y third l e

  -- each channel
  pub channels_in_hand : (a m : ℕ) (y z : Part) → part_at H a ≡ Some y → part_at H m ≡ Some z →
      (a == m) ≡ false → ChannelCarries table H a m y z (now a m)
  channels_in_hand a m y z h k =
      by_hand hand (λ b y. (c : ℕ) (w : Part) → part_at H c ≡ Some w → (b == c) ≡ false →
      ChannelCarries table H b c y w (now b c))
      (by_hand hand (λ c w. (port == c) ≡ false →
      ChannelCarries table H port c (part_in_hand from x p) w (now port c))
      (λ ne. absurd (never_apart port ne))
      (λ c w third n ne. channel_of_taker c w third n))
      (λ b y third l. by_hand hand (λ c w. (b == c) ≡ false →
      ChannelCarries table H b c y w (now b c))
      (λ ne. channel_to_hand b y third l)
      (λ c w fourth n ne. channel_of_thirds b c y w third l fourth n ne))
      a y h m z k
