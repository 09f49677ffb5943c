-- The counts of a network fit after an effect of one of its sites.
use Rattle.std.proofs.Common.{map, ◌≡◌, ◌==◌, ◌++◌, ◌+◌, ℕ, Bool, true, false, cond, List, refl}
use Rattle.std.proofs.Common.{sym, ap, ◌∙◌, subst, fold, arith}
use Rattle.std.specs.{Prelude.{Some, [], is_some, option_and_then, option_map}, List.AllByRecursion}
use Rattle.do_class.specs.Class.{Class}
use Rattle.do_machine.specs.{World.others as other_ports, declared.state.Effect.Effect}
use Rattle.do_machine.specs.{Objects.object_at, State.{holds, is_open}}
use Rattle.do_network.specs.{Frames.all_posted, Links.{Link, Part}}
use Rattle.do_network.specs.Net.{Net, Place, channel_to, net_ports, part_at, place_at}
use Rattle.do_network.specs.{Spelled.IsSpelledSending, Step.{place_after, with_sending}}
use Rattle.do_network.specs.fits.{Counted.Counted, Notes.{Note, tells_of, total}}
use Rattle.do_agreement.specs.CountsFit.{ChannelCarries, CountsFit, HoldsReceived, none_closes}
use Rattle.do_agreement.specs.{IsEffectOf.IsEffectOf, NetCommit.{effected, net_commit, with_sent}}
use Rattle.do_agreement.{specs.NotesSent.notes_to, proofs.channels.SendingsSpelled.notes_spelled}
use Rattle.do_agreement.proofs.channels.SendsCarried.{CarriesTo, all_carried}
use Rattle.do_agreement.proofs.counts.{MovesAccount.apart, NamesCounted.names_counted}
use Rattle.do_agreement.proofs.counts.{ReturnsCounted.returns_counted, ReturnsSent.told_sent}
use Rattle.do_agreement.proofs.places.PlacesChanged.{by_part, channel_elsewhere, channel_here}
use Rattle.do_agreement.proofs.places.PlacesChanged.{part_there, ports_same}
use Rattle.do_agreement.proofs.{pairs.NotesAsAtoms.total_behind, sites.HeldKept.holds_after}
use Rattle.do_agreement.proofs.sites.ReaderStays.{ReadFrom, peers_stay, reader_stays}
use Rattle.do_agreement.proofs.places.Numbers.{flipped, never_apart}
use Rattle.do_agreement.proofs.channels.ChannelsStay.{carries_still}

module _ (table : List Class) (port : ℕ) (N : Net) (under_way : ℕ → ℕ → List Note)
    (closes : ℕ → ℕ → Bool) (fit : CountsFit table N under_way closes) (pl : Place)
    (there : place_at N port ≡ Some pl) (e : Effect) (is : IsEffectOf pl.part.own.node e)
    (spelled : AllByRecursion (IsSpelledSending table port) (effected pl.part e).sent)
    (shuts : (m : ℕ) → closes port m ≡ true → is_open e.node m ≡ false)
    (others : (a m : ℕ) → (port == a) ≡ false → closes a m ≡ false) where
  -- the site
  abbrev p : Part
  p = pl.part

  -- the site is there
  at_port : part_at N port ≡ Some p
  at_port = ap (option_map (λ x. x.part)) there

  -- the network after the effect
  abbrev M : Net
  M = net_commit port p e N

  -- what is under way then
  abbrev now : ℕ → ℕ → List Note
  now = with_sent port p.own.received e.sent under_way

  -- the site after the effect
  abbrev after : Part
  after = (effected p e).part

  -- a place keeps its port
  keeps : (x : Place) → (place_after (effected p e) x).port ≡ x.port
  keeps x = refl

  -- what the site sent is under way
  now_here : (to : ℕ) → now port to ≡ under_way port to ++ notes_to p.own.received to e.sent
  now_here to = go (port == port) refl
    where
      go : (b : Bool) → (port == port) ≡ b →
          cond b (under_way port to ++ notes_to p.own.received to e.sent) (under_way port to)
          ≡ under_way port to ++ notes_to p.own.received to e.sent
      go true k = refl
      go false k = absurd (never_apart port k)

  -- what others sent is as it was
  now_other : (from to : ℕ) → (port == from) ≡ false → now from to ≡ under_way from to
  now_other from to k =
      ap (λ b. cond b (under_way from to ++ notes_to p.own.received to e.sent) (under_way from to))
      (flipped port from k)

  -- the site holds what it received
  own_fit : HoldsReceived port p.own
  own_fit = fit.owns port p at_port

  -- after the effect too
  own_after : HoldsReceived port after.own
  own_after = holds_after port p.own own_fit e is.same is.ends is.opened is.thins

  -- ---- counts

  module _ (m : ℕ) (q : Part) (other : (port == m) ≡ false) (k : part_at N m ≡ Some q) where
    -- the other's port
    is_m : q.own.node.port ≡ m
    is_m = (fit.owns m q k).port_is

    -- what the site counts, where the end stays open
    own_counted : is_open e.node q.own.node.port ≡ true →
        Counted p.own q.own (under_way port m) (under_way m port)
    own_counted o = go (closes port m) refl
      where
        go : (b : Bool) → closes port m ≡ b →
            Counted p.own q.own (under_way port m) (under_way m port)
        go true c = absurd (apart (ap (λ x. is_open e.node x) (sym is_m) ∙ o) (shuts m c))
        go false c = fit.counted port m p q at_port k other c

    -- over an open end no end tells of an object
    own_silent : is_open p.own.node q.own.node.port ≡ true → (s : ℕ) →
        total (tells_of s) (under_way port m) ≡ 0
    own_silent o = fit.silent port m p at_port (ap (λ x. is_open p.own.node x) (sym is_m) ∙ o)

    -- what the other counts
    peer_counted : Counted q.own p.own (under_way m port) (under_way port m)
    peer_counted = fit.counted m port q p k at_port (flipped port m other) (others m port other)

    -- over an open end nothing was told, and nothing is
    silent : is_open e.node q.own.node.port ≡ true → (s : ℕ) →
        total (tells_of s) (under_way port m ++ notes_to p.own.received q.own.node.port e.sent) ≡ 0
    silent o s =
        total_behind (tells_of s) (under_way port m)
        (notes_to p.own.received q.own.node.port e.sent)
        ∙ plus (own_silent (is.ends q.own.node.port o) s)
        (told_sent p.own.received q.own.node.port s 0 e.sent
        ∙ (is.account q.own.node.port s 0).quiet o)
      where
        plus : {a b : ℕ} → a ≡ 0 → b ≡ 0 → a + b ≡ 0
        plus x y = omega (arith, x, y)

    -- what the site counts after the effect
    counts_after : Counted after.own q.own (now port m) (now m port)
    counts_after =
        subst (λ back. Counted after.own q.own (now port m) back) (sym (now_other m port other))
        (subst (λ new. Counted after.own q.own new (under_way m port)) (sym (now_here m))
        (subst (λ x. Counted after.own q.own
        (under_way port m ++ notes_to p.own.received x e.sent) (under_way m port)) is_m
        (names_counted p.own q.own e is.same (is.ends q.own.node.port) (under_way port m)
        (under_way m port) own_counted
        (λ s shut. not_held s shut) silent)))
      where
        not_held : (s : ℕ) → is_open e.node q.own.node.port ≡ false →
            holds e.node (object_at q.own.node.port s) ≡ false
        not_held s shut = go (holds e.node (object_at q.own.node.port s)) refl
          where
            go : (b : Bool) → holds e.node (object_at q.own.node.port s) ≡ b → b ≡ false
            go false h = refl
            go true h = absurd (apart (is.opened.reached (object_at q.own.node.port s) h) shut)

    -- what the other counts after it
    peers_after : Counted q.own after.own (now m port) (now port m)
    peers_after =
        subst (λ fore. Counted q.own after.own fore (now port m)) (sym (now_other m port other))
        (subst (λ new. Counted q.own after.own (under_way m port) new) (sym (now_here m))
        (subst (λ x. Counted q.own after.own (under_way m port)
        (under_way port m ++ notes_to p.own.received x e.sent)) is_m
        (returns_counted p.own q.own e (is.account q.own.node.port) is.same (under_way m port)
        (under_way port m) peer_counted
        (λ s. own_fit.received (object_at q.own.node.port s))
        (λ o s. own_silent o s))))

  -- what each counts for each
  counted_after : (a m : ℕ) (x y : Part) → part_at M a ≡ Some x → part_at M m ≡ Some y →
      (a == m) ≡ false → Counted x.own y.own (now a m) (now m a)
  counted_after a m x y h k =
      by_part port (place_after (effected p e)) keeps N pl there
      (λ b z. (c : ℕ) (w : Part) → part_at M c ≡ Some w → (b == c) ≡ false →
      Counted z.own w.own (now b c) (now c b))
      (by_part port (place_after (effected p e)) keeps N pl there
      (λ c w. (port == c) ≡ false → Counted after.own w.own (now port c) (now c port))
      (λ ne. absurd (never_apart port ne))
      (λ c w other l ne. counts_after c w other l))
      (λ b z other l. by_part port (place_after (effected p e)) keeps N pl there
      (λ c w. (b == c) ≡ false → Counted z.own w.own (now b c) (now c b))
      (λ ne. peers_after b z other l)
      (λ c w third n ne.
      subst (λ back. Counted z.own w.own (now b c) back) (sym (now_other c b third))
      (subst (λ fore. Counted z.own w.own fore (under_way c b)) (sym (now_other b c other))
      (fit.counted b c z w l n ne (others b c other)))))
      a x h m y k

  -- over an open end no end tells of an object
  silent_after : (a m : ℕ) (x : Part) → part_at M a ≡ Some x → is_open x.own.node m ≡ true →
      (s : ℕ) → total (tells_of s) (now a m) ≡ 0
  silent_after a m x h =
      by_part port (place_after (effected p e)) keeps N pl there
      (λ b z. is_open z.own.node m ≡ true → (s : ℕ) → total (tells_of s) (now b m) ≡ 0)
      (λ o s.
      ap (total (tells_of s)) (now_here m)
      ∙ total_behind (tells_of s) (under_way port m) (notes_to p.own.received m e.sent)
      ∙ nothing (fit.silent port m p at_port (is.ends m o) s)
      (told_sent p.own.received m s 0 e.sent ∙ (is.account m s 0).quiet o))
      (λ b z other l o s.
      ap (total (tells_of s)) (now_other b m other) ∙ fit.silent b m z l o s) a x h
    where
      nothing : {b c : ℕ} → b ≡ 0 → c ≡ 0 → b + c ≡ 0
      nothing y z = omega (arith, y, z)

  -- ---- channels

  module _ (m : ℕ) (q : Part) (other : (port == m) ≡ false) (k : part_at N m ≡ Some q) where
    -- the channel to the other
    to_other : ChannelCarries table N port m p q (under_way port m)
    to_other = fit.channels port m p q at_port k other

    -- the channel from the other
    from_other : ChannelCarries table N m port q p (under_way m port)
    from_other = fit.channels m port q p k at_port (flipped port m other)

    -- the link and the channel to the other
    carries_before : CarriesTo table port m true to_other.reader p.links pl.channels
        (under_way port m)
    carries_before = record {
      writer = to_other.writer;
      writes = to_other.writes;
      between = to_other.between;
      stands = sym (ap (option_and_then (channel_to m)) there) ∙ to_other.stands;
      carries = to_other.carries;
      marks = to_other.marks;
    }

    -- what the site sent stands in the channel
    carries_after : CarriesTo table port m true to_other.reader after.links
        (fold with_sending pl.channels (effected p e).sent)
        (under_way port m ++ notes_to p.own.received m e.sent)
    carries_after =
        all_carried table port m true to_other.reader p.own.received e.sent
        (record { links = p.links; sent = [] }) pl.channels (under_way port m) carries_before
        (notes_spelled table port m p.own.received e.sent p.links to_other.writer to_other.writes
        spelled)

    -- the channel to the other afterwards
    channel_to_other : ChannelCarries table M port m after q (now port m)
    channel_to_other =
        subst (ChannelCarries table M port m after q) (sym (now_here m))
        (record {
          between = carries_after.between;
          stands = channel_here port (place_after (effected p e)) keeps N pl there m
              ∙ carries_after.stands;
          writer = carries_after.writer;
          writes = carries_after.writes;
          reader = to_other.reader;
          reads = to_other.reads;
          carries = carries_after.carries;
          marks = carries_after.marks;
        })

    -- what the site read from the other
    read_after : ReadFrom after.links m from_other.reader.read
    read_after =
        reader_stays m from_other.reader.read (all_posted p.own.received e.sent)
        (record { links = p.links; sent = [] })
        (record { link = from_other.reader; found = from_other.reads; reads = refl })

    -- the channel from the other afterwards
    channel_from_other : ChannelCarries table M m port q after (now m port)
    channel_from_other =
        let c = from_other.carries in
        subst (ChannelCarries table M m port q after) (sym (now_other m port other))
        (record {
          between = from_other.between;
          stands = channel_elsewhere port (place_after (effected p e)) keeps N m port other
              ∙ from_other.stands;
          writer = from_other.writer;
          writes = from_other.writes;
          reader = read_after.link;
          reads = read_after.found;
          carries = record {
            tables = record {
              front = c.tables.front;
              read = λ o. c.tables.read o ∙ sym read_after.reads;
              behind = c.tables.behind;
              recent = c.tables.recent;
              known = c.tables.known;
            };
            waiting = c.waiting;
            greeting = c.greeting;
            spelled = c.spelled;
          };
          marks = from_other.marks;
        })

  -- a channel between two others
  channel_of_others : (b c : ℕ) (z w : Part) → (port == b) ≡ false → part_at N b ≡ Some z →
      part_at N c ≡ Some w → (b == c) ≡ false → ChannelCarries table M b c z w (now b c)
  channel_of_others b c z w other l n ne =
      let old = fit.channels b c z w l n ne in
      subst (ChannelCarries table M b c z w) (sym (now_other b c other))
      (carries_still old
      (channel_elsewhere port (place_after (effected p e)) keeps N b c other ∙ old.stands))

  -- each channel
  channels_after : (a m : ℕ) (x y : Part) → part_at M a ≡ Some x → part_at M m ≡ Some y →
      (a == m) ≡ false → ChannelCarries table M a m x y (now a m)
  channels_after a m x y h k =
      by_part port (place_after (effected p e)) keeps N pl there
      (λ b z. (c : ℕ) (w : Part) → part_at M c ≡ Some w → (b == c) ≡ false →
      ChannelCarries table M b c z w (now b c))
      (by_part port (place_after (effected p e)) keeps N pl there
      (λ c w. (port == c) ≡ false → ChannelCarries table M port c after w (now port c))
      (λ ne. absurd (never_apart port ne))
      (λ c w other l ne. channel_to_other c w other l))
      (λ b z other l. by_part port (place_after (effected p e)) keeps N pl there
      (λ c w. (b == c) ≡ false → ChannelCarries table M b c z w (now b c))
      (λ ne. channel_from_other b z other l)
      (λ c w third n ne. channel_of_others b c z w other l n ne))
      a x h m y k

  -- ---- all

  -- the counts fit after the effect
  pub commit_fits : CountsFit table M now none_closes
  commit_fits = record {
    owns = by_part port (place_after (effected p e)) keeps N pl there
        (λ x q. HoldsReceived x q.own) own_after (λ x q other k. fit.owns x q k);
    counted = λ a m x y h k ne none. counted_after a m x y h k ne;
    silent = silent_after;
    channels = channels_after;
    links =
        let same = ports_same port (place_after (effected p e)) keeps N in
        by_part port (place_after (effected p e)) keeps N pl there
        (λ b z. map (λ (l : Link). l.peer) z.links ≡ other_ports (net_ports M) b)
        (peers_stay (all_posted p.own.received e.sent) (record { links = p.links; sent = [] })
        ∙ fit.links port p at_port ∙ ap (λ ps. other_ports ps port) (sym same))
        (λ b z other k. fit.links b z k ∙ ap (λ ps. other_ports ps b) (sym same));
    peers = λ x peer q h.
        by_part port (place_after (effected p e)) keeps N pl there
        (λ b z. is_open z.own.node peer ≡ true → is_some (part_at M peer) ≡ true)
        (λ o. part_there port (place_after (effected p e)) keeps N pl there peer
        (fit.peers port peer p at_port (is.ends peer o)))
        (λ b z other l o. part_there port (place_after (effected p e)) keeps N pl there peer
        (fit.peers b peer z l o)) x q h;
  }
