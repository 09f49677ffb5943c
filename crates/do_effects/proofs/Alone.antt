-- Effects that change a tidy node and tell nothing of counts, by themselves and behind another.
use Rattle.std.proofs.Common.{◌≡◌, ℕ, List, [], ◌∷◌, ◌++◌, refl, ap, sym, ◌∙◌, append_assoc, fold}
use Rattle.std.proofs.Common.{Option, Some, None, add-zero, subst}
use Rattle.std.proofs.lemmas.List.{append-nil, map-append, Sums.fold-append}
use Rattle.do_base.specs.{names.Names.ObjectName, declared.events.shown.Shown.Shown}
use Rattle.do_class.specs.declared.packet.Packet.{Packet}
use Rattle.do_machine.specs.{declared.{item.Item.Item, node.Lend.Lend}, lend.Lending.lending}
use Rattle.do_machine.specs.declared.{node.Node.Node, state.Effect.Effect}
use Rattle.do_machine.specs.Effect.{only, queueing, showing, ◌>>=◌}
use Rattle.do_export.specs.Counts.{Counts, raised}
use Rattle.do_import.specs.ByObject.{object_of}
use Rattle.do_machine.specs.{Items.exported, State.{holds, is_known, is_open}}
use Rattle.do_network.specs.Counting.{named_to, packet_of, of_held, of_known, over_open_ends}
use Rattle.do_network.specs.{Frames.{all_posted, frame_of, posted}, Links.sending, Own.Own}
use Rattle.do_effects.specs.Doing.{Doing, does, effected, moved}
use Rattle.do_effects.specs.{Sends.{GivesNothingUp, sends, sends_with}, Taking.lent_by, Tidy.IsTidy}
use Rattle.do_effects.proofs.TidyCounts.{counted_is_tidy, kept_twice, node_alone}

-- a node that keeps its ends, and what it holds and asked for
pub record KeepsCounts (n m : Node) : Type 0 where
  pub ends : m.open_to ≡ n.open_to
  pub held : m.held ≡ n.held
  pub asked : m.asked ≡ n.asked

-- such a node is tidy still
pub tidy_node : (p : Own) (m : Node) → KeepsCounts p.node m → IsTidy p →
    IsTidy (record p { node = m })
tidy_node p m kept tidy = record {
  counts = (λ j. over_open_ends (record p.node { open_to = kept.ends j }) p.counts)
      ∙ tidy.counts;
  received = (λ j. of_held (record p.node { held = kept.held j }) p.received) ∙ tidy.received;
  classes = (λ j. of_known (record p.node { held = kept.held j; asked = kept.asked j })
      p.classes) ∙ tidy.classes;
}

-- an effect that only changes a tidy node so, and shows
pub shows_alone : (d : Doing) (m : Node) (shown : List Shown) → IsTidy d.own →
    KeepsCounts d.own.node m →
    does d (record { node = m; sent = []; shown = shown })
    ≡ record d { own = record d.own { node = m }; shown = d.shown ++ shown }
shows_alone d m shown tidy kept =
    ap (λ (p : Own). record { own = p; out = d.out; shown = d.shown ++ shown })
    (node_alone d.own m shown tidy kept.ends kept.held kept.asked)

-- and shows nothing
pub only_alone : (d : Doing) (m : Node) → IsTidy d.own → KeepsCounts d.own.node m →
    does d (only m) ≡ record d { own = record d.own { node = m } }
only_alone d m tidy kept = shows_alone d m [] tidy kept
    ∙ ap (λ (s : List Shown). record { own = record d.own { node = m }; out = d.out; shown = s })
    (append-nil d.shown)

-- behind another effect, too
pub then_shows : (d : Doing) (p : Own) (e : Effect) (m : Node) (shown : List Shown) →
    KeepsCounts e.node m →
    moved d (effected p (e >>= (λ (_ : Node). record { node = m; sent = []; shown = shown })))
    ≡ (let l = moved d (effected p e) in
    record l { own = record l.own { node = m }; shown = l.shown ++ shown })
then_shows d p e m shown kept = λ j. record {
  own = record {
    node = m;
    counts = over_open_ends (record m { open_to = kept.ends j })
        (fold (named_to p.node.port) p.counts (append-nil e.sent j));
    received = of_held (record m { held = kept.held j }) p.received;
    classes = of_known (record m { held = kept.held j; asked = kept.asked j }) p.classes;
  };
  out = fold sending d.out (all_posted p.received (append-nil e.sent j));
  shown = sym (append_assoc d.shown e.shown shown) j;
}

-- an item that names nothing to be counted, and gives nothing up
pub record IsPlain (to : ℕ) (item : Item) : Type 0 where
  pub exports : (port : ℕ) → exported port to item ≡ []
  pub gives : GivesNothingUp to item

-- such an item that is sent behind an effect is sent by itself
pub then_sends : (d : Doing) (p : Own) (e : Effect) (to : ℕ) (item : Item) → IsPlain to item →
    moved d (effected p (e >>= queueing to item))
    ≡ does (moved d (effected p e)) (queueing to item e.node)
then_sends d p e to item plain =
    (λ j. record {
      own = record {
        node = e.node;
        counts = over_open_ends e.node (counts j);
        received = sym (kept_twice p.received (λ k. holds e.node (object_of k))) j;
        classes = sym (kept_twice p.classes (λ k. is_known e.node (object_of k))) j;
      };
      out = sent j;
      shown = sym (append_assoc d.shown e.shown []) j;
    })
    ∙ (λ j. record (does (moved d (effected p e)) (queueing to item e.node)) {
      own = record (does (moved d (effected p e)) (queueing to item e.node)).own {
        counts = again j;
      };
    })
  where
    -- what the effect names
    named : Counts
    named = fold (named_to p.node.port) p.counts e.sent

    -- the item names nothing
    names_none : (port : ℕ) (c : Counts) →
        named_to port c (record { to = to; item = item }) ≡ c
    names_none port c = ap (λ (os : List ObjectName). fold (λ a o. raised a to o.serial) c os)
        (plain.exports port)

    -- the item names nothing more
    counts : fold (named_to p.node.port) p.counts (e.sent ++ record { to = to; item = item } ∷ [])
        ≡ named
    counts = fold-append (named_to p.node.port) p.counts e.sent
        (record { to = to; item = item } ∷ []) ∙ names_none p.node.port named

    -- and counting it by itself changes nothing
    again : over_open_ends e.node named
        ≡ over_open_ends e.node (named_to e.node.port (over_open_ends e.node named)
        (record { to = to; item = item }))
    again = sym (ap (over_open_ends e.node) (names_none e.node.port (over_open_ends e.node named))
        ∙ kept_twice named (λ k. is_open e.node k.0))

    -- a frame is the same by whatever was received
    frame : (r s : Counts) → posted r (record { to = to; item = item })
        ≡ posted s (record { to = to; item = item })
    frame r s = ap (λ (amount : ℕ). record { to = to; frame = frame_of amount item })
        (plain.gives r ∙ sym (plain.gives s))

    -- it is sent behind what is sent before
    sent : fold sending d.out
        (all_posted p.received (e.sent ++ record { to = to; item = item } ∷ []))
        ≡ sending (fold sending d.out (all_posted p.received e.sent))
        (posted (of_held e.node p.received) (record { to = to; item = item }))
    sent = ap (fold sending d.out) (map-append (posted p.received) e.sent
        (record { to = to; item = item } ∷ []))
        ∙ fold-append sending d.out (all_posted p.received e.sent)
        (posted p.received (record { to = to; item = item }) ∷ [])
        ∙ ap (sending (fold sending d.out (all_posted p.received e.sent)))
        (frame p.received (of_held e.node p.received))

-- a line that is shown before an effect
pub line_first : (d : Doing) (p : Own) (line : Shown) (n : Node) (e : Effect) →
    moved d (effected p (showing line n >>= (λ (_ : Node). e)))
    ≡ moved (record d { shown = d.shown ++ line ∷ [] }) (effected p e)
line_first d p line n e =
    ap (λ (s : List Shown). record (moved d (effected p e)) { shown = s })
    (sym (append_assoc d.shown (line ∷ []) e.shown))

-- what is told by a step that leaves a tidy node
pub tidy_after : (a d : Doing) (p : Own) (e : Effect) → a ≡ moved d (effected p e) → IsTidy a.own
tidy_after a d p e is =
    subst IsTidy (sym (ap (λ (x : Doing). x.own) is)) (counted_is_tidy p e)

-- an item that names nothing of a third node is only queued
pub lends_none : (to : ℕ) (item : Item) (n : Node) → lent_by to (packet_of item) ≡ [] →
    sends to item n ≡ queueing to item n
lends_none to item n none = go (packet_of item) none
  where
    -- with a message or without
    go : (packet : Option Packet) → lent_by to packet ≡ [] →
        sends_with packet to item n ≡ queueing to item n
    go None e = refl
    go (Some packet) e =
        ap (λ (ls : List Lend). queueing to item (lending ls n)) e
        ∙ (λ j. queueing to item (record n {
          lent = append-nil n.lent j;
          next_token = add-zero n.next_token j;
        }))

-- such an item that a tidy node sends by itself
pub does_tells : (d : Doing) (to : ℕ) (item : Item) → IsTidy d.own → IsPlain to item →
    does d (queueing to item d.own.node)
    ≡ record d { out = sending d.out (record { to = to; frame = frame_of 0 item }) }
does_tells d to item tidy plain = λ j. record {
  own = record {
    node = d.own.node;
    counts = (ap (λ (os : List ObjectName).
        over_open_ends d.own.node (fold (λ a o. raised a to o.serial) d.own.counts os))
        (plain.exports d.own.node.port) ∙ tidy.counts) j;
    received = tidy.received j;
    classes = tidy.classes j;
  };
  out = sending d.out (record { to = to; frame = frame_of (plain.gives d.own.received j) item });
  shown = append-nil d.shown j;
}

-- a step behind an effect that only changes the node so, and shows
pub then_node : (d : Doing) (p : Own) (e : Effect) (a b : Doing) (f : Node → Node)
    (lines : List Shown) → ((n : Node) → KeepsCounts n (f n)) → a ≡ moved d (effected p e) →
    b.own ≡ record a.own { node = f a.own.node } → b.out ≡ a.out → b.shown ≡ a.shown ++ lines →
    b ≡ moved d (effected p (e >>= (λ n. record { node = f n; sent = []; shown = lines })))
then_node d p e a b f lines keeps is own out shown =
    (λ j. record { own = own j; out = out j; shown = shown j })
    ∙ ap (λ (x : Doing). record x {
      own = record x.own { node = f x.own.node };
      shown = x.shown ++ lines;
    }) is
    ∙ sym (then_shows d p e (f e.node) lines (keeps e.node))
