-- The oldest of what stands in a channel is taken.
use Rattle.do_frames.specs.declared.frame.Frame.TheVariants as frames
use Rattle.std.proofs.Common.{◌≡◌, ℕ, Bool, true, false, cond, List, ◌∷◌, length, drop, refl, sym}
use Rattle.std.{proofs.Common.{ap, ◌∙◌, subst}, specs.Prelude.{not, ◌&&◌, ◌||◌}}
use Rattle.std.{specs.List.AllByRecursion, proofs.lemmas.List.length-map}
use Rattle.do_class.specs.{Class.Class, Table.IsTable, declared.packet.Packet.Packet}
use Rattle.do_coder.specs.declared.recent.pair.Pair.{Pair}
use Rattle.do_coder.specs.Packets.{IsPacket, after_packet, surroundings}
use Rattle.do_coder.{specs.Recent.{IsKnown, IsRecent}, proofs.packets.PacketsExact.kept_names}
use Rattle.do_frames.specs.{declared.frame.Frame.Frame, Frames.{IsFrame, after_frame, raw}}
use Rattle.do_frames.proofs.payloads.WholePayload.{frame_known}
use Rattle.do_network.specs.{Links.Link, Net.{Channel, Lost, Whole}, Step.advanced}
use Rattle.do_network.specs.fits.{Channels.Carries, Notes.{Note, carried, names_behind, note_frame}}
use Rattle.do_agreement.specs.{CountsFit.MarksFit, NetInHand.{carried_as, link_read}}

module _ (table : List Class) (from to : ℕ) (recent : List Pair) (r : IsRecent recent)
    (known : AllByRecursion (IsKnown (length table)) recent) where
  -- a packet leaves a table of recent names that is none too long and in which all differ
  packet_recent : (p : Packet) → IsPacket (surroundings table from to) p →
      IsRecent (after_packet recent p)
  packet_recent p h =
      (kept_names (surroundings table from to) recent p.names h.names.each
      (record {
        recent = r;
        known = subst (λ (n : ℕ). AllByRecursion (IsKnown n) recent)
            (sym (length-map table (λ (c : Class). length c.slots))) known;
      })).recent

  -- so does a frame
  pub frame_recent : (f : Frame) → IsFrame (surroundings table from to) f →
      IsRecent (after_frame recent f)
  frame_recent (frames.Call call serial selector packet) h = packet_recent packet h.1.1.1
  frame_recent (frames.Oneway serial selector packet) h = packet_recent packet h.1.1
  frame_recent (frames.Reply call packet) h = packet_recent packet h.1
  frame_recent (frames.RootAnswer call packet) h = packet_recent packet h.1
  frame_recent _ h = r

module _ (table : List Class) (t : IsTable table) (from to : ℕ) (w r : Link) (c : Channel)
    (x : Note) (xs : List Note) (carries : Carries table from to true w r c (x ∷ xs))
    (marks : MarksFit w c (x ∷ xs)) where
  -- the names by which the oldest is spelled
  abbrev front : List Pair
  front = carries.tables.front

  -- it stands first in the channel
  pub stands_first : c.waiting ≡ carried_as front x
      ∷ carried (cond x.lost front (after_frame front (note_frame x))) xs
  stands_first = carries.waiting ∙ go x.lost
    where
      f : Frame
      f = note_frame x

      go : (b : Bool) →
          cond b (Lost ∷ carried front xs) (Whole (raw front f) ∷ carried (after_frame front f) xs)
          ≡ cond b Lost (Whole (raw front f)) ∷ carried (cond b front (after_frame front f)) xs
      go true = refl
      go false = refl

  -- nothing follows from what passes and fails
  never : {b : Bool} → b ≡ false → b ≡ true → ⊥
  never h k = cc

  -- a frame is no greeting
  no_more : (a b d : Bool) → (a && false) ≡ (b && not (d || true))
  no_more true true true = refl
  no_more true true false = refl
  no_more true false d = refl
  no_more false true true = refl
  no_more false true false = refl
  no_more false false d = refl

  -- a mark leaves the greeting
  no_less : (a b d : Bool) → a ≡ (b && not d) → (a && true) ≡ (b && not (d || false))
  no_less true b true h = h
  no_less true b false h = h
  no_less false b true h = h
  no_less false b false h = h

  -- it is a frame
  frame_taken : x.lost ≡ false →
      Carries table from to true w (record r { read = after_frame r.read (note_frame x) })
      (advanced (Whole (raw front (note_frame x))) c) xs
  frame_taken new =
      let f = note_frame x in
      record {
        tables = record {
          front = after_frame front f;
          read = λ o. ap (λ n. after_frame n f) (carries.tables.read o);
          behind =
              ap (λ b. names_behind (cond b front (after_frame front f)) xs) (sym new)
              ∙ carries.tables.behind;
          recent = frame_recent table from to front carries.tables.recent carries.tables.known f
              carries.spelled.0;
          known = frame_known table t from to front carries.tables.recent carries.tables.known f
              carries.spelled.0;
        };
        waiting = ap (drop 1) stands_first
            ∙ ap (λ b. carried (cond b front (after_frame front f)) xs) new;
        greeting = no_more c.greeting w.greeted c.begun;
        spelled = carries.spelled.1;
      }

  -- it is the mark of a loss
  mark_taken : x.lost ≡ true → Carries table from to true w r (advanced Lost c) xs
  mark_taken lost =
      let f = note_frame x in
      record {
        tables = record {
          front = front;
          read = carries.tables.read;
          behind =
              ap (λ b. names_behind (cond b front (after_frame front f)) xs) (sym lost)
              ∙ carries.tables.behind;
          recent = carries.tables.recent;
          known = carries.tables.known;
        };
        waiting = ap (drop 1) stands_first
            ∙ ap (λ b. carried (cond b front (after_frame front f)) xs) lost;
        greeting = no_less c.greeting w.greeted c.begun carries.greeting;
        spelled = carries.spelled.1;
      }

  -- the rest is carried
  pub first_taken : Carries table from to true w (link_read x r) (advanced (carried_as front x) c)
      xs
  first_taken = go x.lost refl
    where
      go : (b : Bool) → x.lost ≡ b →
          Carries table from to true w
          (cond b r (record r { read = after_frame r.read (note_frame x) }))
          (advanced (cond b Lost (Whole (raw front (note_frame x)))) c) xs
      go true e = mark_taken e
      go false e = frame_taken e

  -- and its marks fit
  pub marks_taken : MarksFit w (advanced (carried_as front x) c) xs
  marks_taken = record {
    lost = marks.lost.1;
    unbegun = λ e.
        let all = marks.unbegun e in
        (still (x.lost) all.1.0 all.0, all.1.1);
  }
    where
      still : (b : Bool) → b ≡ true → c.begun ≡ false →
          (advanced (cond b Lost (Whole (raw front (note_frame x)))) c).begun ≡ false
      still true e h = ap (λ d. d || false) h
      still false e h = absurd (never refl e)
