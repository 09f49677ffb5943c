-- What a core is once an item was sent.
use Rattle.std.proofs.Common.{◌≡◌, ℕ, ◌+◌, ◌≤◌, List, [], ◌∷◌, ◌++◌, length, refl, ap, sym, ◌∙◌}
use Rattle.std.{proofs.Common.arith, specs.Prelude.{None, Option, Some, fold}}
use Rattle.std.proofs.lemmas.List.{append-nil}
use Rattle.do_base.specs.declared.events.shown.Shown.{Shown}
use Rattle.do_class.specs.declared.packet.Packet.{Packet}
use Rattle.do_machine.specs.declared.{item.Item.Item, node.Node.Node, state.Parcel.Parcel}
use Rattle.do_network.specs.{Counting.{counted, packet_of}, Frames.{all_posted, frame_of}}
use Rattle.do_network.specs.{Links.{Outbox, sending}, Own.Own}
use Rattle.do_effects.specs.{Doing.{Doing, does}, declared.changing.Core.Core}
use Rattle.do_effects.specs.Room.{HasRoom, IsWithin, PartHasRoom, PartKeepsRoom, to_name, to_send}
use Rattle.do_effects.specs.Sends.{GivesNothingUp, names_counted, sends, sends_with}

-- one item alone is sent, nothing is shown, and no object comes or goes
pub record SendsOne (to : ℕ) (item : Item) (n : Node) : Type 0 where
  pub sent : (sends to item n).sent ≡ record { to = to; item = item } ∷ []
  pub shown : (sends to item n).shown ≡ []
  pub heap : (sends to item n).node.heap ≡ n.heap
  pub held : (sends to item n).node.held ≡ n.held
  pub asked : (sends to item n).node.asked ≡ n.asked

-- so for every item
pub sends_one : (to : ℕ) (item : Item) (n : Node) → SendsOne to item n
sends_one to item n = record {
  sent = by_sent (packet_of item);
  shown = by_shown (packet_of item);
  heap = by_heap (packet_of item);
  held = by_held (packet_of item);
  asked = by_asked (packet_of item);
}
  where
    -- with a message or without, the item alone is sent
    by_sent : (o : Option Packet) →
        (sends_with o to item n).sent ≡ record { to = to; item = item } ∷ []
    by_sent None = refl
    by_sent (Some packet) = refl

    -- and nothing is shown
    by_shown : (o : Option Packet) → (sends_with o to item n).shown ≡ []
    by_shown None = refl
    by_shown (Some packet) = refl

    -- the same objects are stored
    by_heap : (o : Option Packet) → (sends_with o to item n).node.heap ≡ n.heap
    by_heap None = refl
    by_heap (Some packet) = refl

    -- the same are held
    by_held : (o : Option Packet) → (sends_with o to item n).node.held ≡ n.held
    by_held None = refl
    by_held (Some packet) = refl

    -- and the same are asked for
    by_asked : (o : Option Packet) → (sends_with o to item n).node.asked ≡ n.asked
    by_asked None = refl
    by_asked (Some packet) = refl

-- names counted and a frame that waits are the item sent
pub sent_doing : (p q : Own) (o later : Outbox) (shown lines : List Shown) (to : ℕ)
    (item : Item) → counted p (sends to item p.node) ≡ q →
    later ≡ sending o (record { to = to; frame = frame_of 0 item }) → lines ≡ shown →
    GivesNothingUp to item →
    let now : Doing = record { own = q; out = later; shown = lines } in
    now ≡ does (record { own = p; out = o; shown = shown }) (sends to item p.node)
sent_doing p q o later shown lines to item counts posts shows keeps =
    let one = sends_one to item p.node in
    λ j. record {
      own = sym counts j;
      out = (posts
          ∙ ap (λ (amount : ℕ). sending o (record { to = to; frame = frame_of amount item }))
          (sym (keeps p.received))
          ∙ ap (λ (sent : List Parcel). fold sending o (all_posted p.received sent))
          (sym one.sent)) j;
      shown = (shows ∙ sym (append-nil shown)
          ∙ ap (λ (more : List Shown). shown ++ more) (sym one.shown)) j;
    }

-- room to send an item is room to name what it names
pub room_to_name : (item : Item) (c : Core) → HasRoom (to_send item) c →
    PartHasRoom (to_name (names_counted item)) c.part.room
room_to_name item c r = record {
  objects = r.part.objects;
  invocations = r.part.invocations;
  names = r.part.names;
  entries = r.part.entries;
}

-- an item that was sent took no more
pub sent_within : (to : ℕ) (item : Item) (was now : Core) →
    counted was.part.own (sends to item was.part.own.node) ≡ now.part.own →
    PartKeepsRoom (to_name (names_counted item)) was.part.room now.part.room →
    was.streams.room ≤ now.streams.room + 1 → now.streams.classes ≡ was.streams.classes →
    IsWithin (to_send item) was now
sent_within to item was now counts keeps room classes =
    let one = sends_one to item was.part.own.node in
    let heap = ap (λ (p : Own). length p.node.heap) (sym counts) ∙ ap (λ xs. length xs) one.heap in
    let held = ap (λ (p : Own). length p.node.held) (sym counts) ∙ ap (λ xs. length xs) one.held in
    let asked = ap (λ (p : Own). length p.node.asked) (sym counts)
    ∙ ap (λ xs. length xs) one.asked in
    record {
      part = record {
        objects = keeps.objects;
        invocations = keeps.invocations;
        names = keeps.names;
        entries = keeps.entries;
      };
      waiting = room;
      stored = omega (arith, heap);
      held = omega (arith, held);
      asked = omega (arith, asked);
      classes = classes;
    }
