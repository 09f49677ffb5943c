-- In a network that fits, a node knows by its counts what it knows of the state.
use Rattle.std.proofs.Common.{◌≡◌, ℕ, Bool, true, false, List, map, refl, ap, sym, ◌∙◌, subst, ◌==◌}
use Rattle.std.proofs.Common.{◌+◌, ◌<◌, ◌||◌, ◌&&◌, arith}
use Rattle.std.specs.{Prelude.{None, Option, Some, is_some, nat_lt, option_map}, List.list_any}
use Rattle.std.proofs.lemmas.Bool.{eqb-true}
use Rattle.do_base.specs.names.Names.{ObjectName}
use Rattle.do_class.specs.Class.{Class}
use Rattle.do_coder.specs.Packets.{surroundings}
use Rattle.do_export.specs.Counts.{count_of}
use Rattle.do_packet.specs.Met.{has_object}
use Rattle.do_machine.specs.declared.{item.Item.Item, node.Node.Node, state.State.State}
use Rattle.do_machine.specs.{Entry.{has_entry, is_holder}, Items.{exported, released}}
use Rattle.do_machine.specs.{Lists.some_passes, Objects.object_at}
use Rattle.do_machine.specs.State.{holds, is_open, node, queue}
use Rattle.do_network.specs.{Links.Part, Net.{Net, part_at}, Own.{Own, is_counted}}
use Rattle.do_network.specs.fits.{Fits.{Fits, PairFits}, Notes.{Note, exports_of, returns_of}}
use Rattle.do_network.specs.{fits.Notes.{tells_of, total}, laws.Sites.SeesAs}
use Rattle.do_network.proofs.{ListSearch.turned, NotesCounted.{some_export, some_release}}

-- both ends are open: what is counted is held, or under way there, or back
pub counted_open : (c r x y t : ℕ) → c ≡ r + (x + y) → t ≡ 0 →
    nat_lt 0 c ≡ (nat_lt 0 r || (nat_lt 0 x || (nat_lt 0 y || nat_lt 0 t)))
counted_open c r x y t e f = grind (arith, e, f)

-- the peer's end is closed: what is counted is under way there, or back, or told
pub counted_closed : (c x y t : ℕ) → (t ≡ 0 → c ≡ x + y) → (0 < t → x + y < c) →
    nat_lt 0 c ≡ (nat_lt 0 x || (nat_lt 0 y || nat_lt 0 t))
counted_closed c x y t e f = grind (arith, e, f)

-- three tests, the first two together
pub grouped : (a b c : Bool) → (a || (b || c)) ≡ ((a || b) || c)
grouped true b c = refl
grouped false b c = refl

-- the entry of a peer, by the home, the peer, and what is under way between them
abbrev entry_of : ℕ → ObjectName → Option Node → Option Node → Option (List Item) →
    Option (List Item) → Bool
entry_of peer o home holder there back =
    some_passes (λ n. is_open n peer) home
    && (some_passes (is_holder o) holder
    || some_passes (list_any (λ item. has_object (exported o.node peer item) o)) there
    || some_passes (list_any (λ item. has_object (released peer o.node item) o)) back)

-- over an open end, what a pair counts is the peer's entry
pair_entry : (p q : Own) (there back : List Note) (serial : ℕ) → PairFits p q there back →
    is_open p.node q.node.port ≡ true →
    (is_open q.node p.node.port ≡ true → total (tells_of serial) back ≡ 0) →
    nat_lt 0 (count_of q.received p.node.port serial)
    ≡ holds q.node (object_at p.node.port serial) →
    nat_lt 0 (count_of p.counts q.node.port serial)
    ≡ ((is_open q.node p.node.port && holds q.node (object_at p.node.port serial))
    || (nat_lt 0 (total (exports_of p.node.port q.node.port serial) there)
    || (nat_lt 0 (total (returns_of serial) back) || nat_lt 0 (total (tells_of serial) back))))
pair_entry p q there back serial fit here silent held =
    go (is_open q.node p.node.port) refl
  where
    rest : Bool
    rest = nat_lt 0 (total (exports_of p.node.port q.node.port serial) there)
        || (nat_lt 0 (total (returns_of serial) back) || nat_lt 0 (total (tells_of serial) back))

    go : (b : Bool) → is_open q.node p.node.port ≡ b →
        nat_lt 0 (count_of p.counts q.node.port serial)
        ≡ ((b && holds q.node (object_at p.node.port serial)) || rest)
    go true e =
        counted_open _ _ _ _ _ (fit.counted.agree here e serial) (silent e)
        ∙ ap (λ b. b || rest) held
    go false e =
        let ended = fit.counted.ended here e serial in
        counted_closed _ _ _ _ ended.untold ended.told

module _ (table : List Class) (N : Net) (S : State) (F : Fits table N S) where
  -- the machine's node at the port of a site
  node_is : (port : ℕ) (p : Part) → part_at N port ≡ Some p → node S port ≡ Some p.own.node
  node_is port p h =
      sym (F.nodes port) ∙ ap (λ o. option_map (λ (x : Part). x.own.node) o) h

  -- the machine's queue between the ports of two sites
  queue_is : (a m : ℕ) (p q : Part) → part_at N a ≡ Some p → part_at N m ≡ Some q →
      (a == m) ≡ false → queue S a m ≡ Some (map (λ x. x.item) (F.under_way a m))
  queue_is a m p q h k apart =
      sym (F.queues a m)
      ∙ ap (λ o. option_map (λ c. map (λ (x : Note). x.item) (F.under_way a m)) o)
      (F.channels a m p q h k apart).stands

  -- over an open end to another site, a count is an entry
  count_is_entry : (p q : Part) (serial : ℕ) → part_at N p.own.node.port ≡ Some p →
      part_at N q.own.node.port ≡ Some q → (p.own.node.port == q.own.node.port) ≡ false →
      is_open p.own.node q.own.node.port ≡ true →
      is_counted p.own q.own.node.port serial
      ≡ has_entry S q.own.node.port (object_at p.own.node.port serial)
  count_is_entry p q serial h k apart here =
      let a = p.own.node.port in
      let m = q.own.node.port in
      let o : ObjectName = object_at a serial in
      let apart' = turned a m apart in
      let there = F.under_way a m in
      let back = F.under_way m a in
      let pair = F.pairs a m p q h k apart in
      let other = F.pairs m a q p k h apart' in
      let spelled = (F.channels m a q p k h apart').carries.spelled in
      ap (λ b. b && nat_lt 0 (count_of p.own.counts m serial)) here
      ∙ pair_entry p.own q.own there back serial pair here
      (λ open_there. other.counted.silent open_there serial)
      ((F.owns m q k).received o)
      ∙ grouped (is_holder o q.own.node) (nat_lt 0 (total (exports_of a m serial) there))
      (nat_lt 0 (total (returns_of serial) back) || nat_lt 0 (total (tells_of serial) back))
      ∙ sym (ap (λ x. entry_of m o x (node S m) (queue S a m) (queue S m a)) (node_is a p h)
      ∙ ap (λ x. entry_of m o (Some p.own.node) x (queue S a m) (queue S m a)) (node_is m q k)
      ∙ ap (λ x. entry_of m o (Some p.own.node) (Some q.own.node) x (queue S m a))
      (queue_is a m p q h k apart)
      ∙ ap (λ x. entry_of m o (Some p.own.node) (Some q.own.node)
      (Some (map (λ y. y.item) there)) x) (queue_is m a q p k h apart')
      ∙ ap (λ b. b && (is_holder o q.own.node
      || list_any (λ item. has_object (exported a m item) o) (map (λ y. y.item) there)
      || list_any (λ item. has_object (released m a item) o) (map (λ y. y.item) back))) here
      ∙ ap (λ b. is_holder o q.own.node || b
      || list_any (λ item. has_object (released m a item) o) (map (λ y. y.item) back))
      (some_export a m serial there)
      ∙ ap (λ b. is_holder o q.own.node || nat_lt 0 (total (exports_of a m serial) there) || b)
      (some_release (surroundings table m a) m a serial back spelled))

  -- a node whose end towards a port is open is not of this port
  pub not_itself : (port peer : ℕ) (p : Part) → part_at N port ≡ Some p →
      is_open p.own.node peer ≡ true → (port == peer) ≡ false
  not_itself port peer p h here = go (port == peer) refl
    where
      go : (b : Bool) → (port == peer) ≡ b → b ≡ false
      go true e =
          let same : port ≡ peer = eqb-true port peer e in
          let shut : is_open p.own.node peer ≡ false =
          ap (λ n. is_open p.own.node n) (sym same) ∙ (F.owns port p h).apart in
          absurd cc
      go false e = refl

  -- a site of a network that fits sees what its node sees
  pub fits_sees : (port : ℕ) (p : Part) → part_at N port ≡ Some p → SeesAs S p.own
  fits_sees port p h = record {
    classes = (F.owns port p h).classes;
    entries = λ peer serial. go peer serial (is_open p.own.node peer) refl;
  }
    where
      at_own : part_at N p.own.node.port ≡ Some p
      at_own = subst (λ n. part_at N n ≡ Some p) (sym (F.owns port p h).port_is) h

      reach : (peer serial : ℕ) → is_open p.own.node peer ≡ true →
          (o : Option Part) → part_at N peer ≡ o → is_some o ≡ true →
          is_counted p.own peer serial ≡ has_entry S peer (object_at p.own.node.port serial)
      reach peer serial here None k some = absurd cc
      reach peer serial here (Some q) k some =
          let is = (F.owns peer q k).port_is in
          let at_peer = subst (λ n. part_at N n ≡ Some q) (sym is) k in
          let over = ap (λ n. is_open p.own.node n) is ∙ here in
          subst (λ n. is_counted p.own n serial
          ≡ has_entry S n (object_at p.own.node.port serial)) is
          (count_is_entry p q serial at_own at_peer
          (not_itself p.own.node.port q.own.node.port p at_own over) over)

      go : (peer serial : ℕ) (b : Bool) → is_open p.own.node peer ≡ b →
          is_counted p.own peer serial ≡ has_entry S peer (object_at p.own.node.port serial)
      go peer serial true here =
          let some = F.peers port peer p h here in
          reach peer serial here (part_at N peer) refl some
      go peer serial false shut =
          ap (λ b. b && nat_lt 0 (count_of p.own.counts peer serial)) shut
          ∙ sym (ap (λ x. entry_of peer (object_at p.own.node.port serial) x (node S peer)
          (queue S p.own.node.port peer) (queue S peer p.own.node.port))
          (node_is p.own.node.port p at_own)
          ∙ ap (λ b. b && (some_passes (is_holder (object_at p.own.node.port serial)) (node S peer)
          || some_passes (list_any (λ item.
          has_object (exported p.own.node.port peer item) (object_at p.own.node.port serial)))
          (queue S p.own.node.port peer)
          || some_passes (list_any (λ item.
          has_object (released peer p.own.node.port item) (object_at p.own.node.port serial)))
          (queue S peer p.own.node.port))) shut)
