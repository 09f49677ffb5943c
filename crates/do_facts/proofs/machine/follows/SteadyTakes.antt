-- Closes and takes are steady, but that a node parts from a peer by an end.
use Rattle.do_machine.specs.declared.item.Item.TheVariants as items
use Rattle.std.proofs.Common.{◌≡◌, ℕ, Bool, true, false, refl, ap}
use Rattle.do_class.specs.declared.packet.Packet.{Packet}
use Rattle.do_machine.specs.{declared.{item.Item.Item, node.Node.Node}, Context.Context}
use Rattle.do_machine.specs.{Items.exported, State.is_open, ends.Closing.{closing, parted}}
use Rattle.do_machine.specs.take.Receipt.{arrived, receiving}
use Rattle.do_machine.specs.take.Take.{arrival, holding, take_effect}
use Rattle.do_facts.specs.laws.Follows.{Follows}
use Rattle.do_facts.proofs.machine.follows.Follows.{after, by_holding, by_parted}
use Rattle.do_facts.proofs.walk.SmallEffects.{by_closing as closes}
use Rattle.do_facts.proofs.walk.Takes.{Takes, by_arrival as arrives, by_receiving as receives}
use Rattle.do_facts.proofs.machine.follows.Steady.{IsSteady, NoRelease, Steady, answers, parts_so}
use Rattle.do_facts.proofs.machine.follows.Steady.{is_end, makes, small, steady, still, then_so}

-- a close
pub by_closing : (peer : ℕ) (n : Node) → IsSteady false true n (closing peer n)
by_closing peer n =
    closes (small false true n) peer n
    (parts_so false true n (parted peer n) refl (by_parted peer n)) (λ p. absurd (cc (p)))

module _ (c : Context) (from : ℕ) (item : Item) (first : Node) where
  -- it closes an end
  abbrev ends : Bool
  ends = is_end item

  -- what is made of an item, once its exports are held
  takes : Takes (Steady false ends first) (NoRelease ends) c from item
  takes = record {
    small = small false ends first;
    asks = λ packet is o class token among n open_end h.
        (still false ends first n _ refl h, λ p. refl);
    grants = λ serial token is n e h p. refl;
    lacks = λ serial token is n e h p. refl;
    makes = λ packet is n h. makes false ends first (arrived c from packet).copies n h;
    begins = λ reason m f is found fit n h. still false ends first n _ refl h;
    refuses = λ number e h p. refl;
    answers = λ k packet is n h. answers false ends first k _ n h;
    fails = λ k number e is n h. answers false ends first k _ n h;
    gives = λ number p. refl;
    settles = λ number n h. still false ends first n _ refl h;
    parts = λ serials is n h.
        let closes : ends ≡ true = ap is_end is in (
          then_so false ends first n (parted from n) h
              (parts_so false ends n (parted from n) closes (by_parted from n)),
          λ p. absurd (cc (closes, p)),
        );
  }

-- a message that is received
pub by_receiving : (c : Context) (from : ℕ) (packet : Packet) (n : Node) →
    Steady false false n (receiving c from packet n).node
by_receiving c from packet n =
    let reply = items.Reply 0 packet in
    (receives c from reply (takes c from reply n) packet refl n (steady false false n n refl)).node

-- what an item comes to, once its exports are held
pub by_arrival : (c : Context) (from : ℕ) (item : Item) (n : Node) →
    IsSteady false (is_end item) n (arrival c from item n)
by_arrival c from item n =
    arrives c from item (takes c from item n) n (steady false (is_end item) n n refl)

-- a take
pub by_take : (c : Context) (from : ℕ) (item : Item) → is_open c.node from ≡ true →
    Follows c.node (take_effect c from item).node
by_take c from item ends =
    let m = holding (exported from c.node.port item) c.node in
    let s = (by_arrival c from item m).node in
    after c.node m _ (by_holding from item c.node ends)
    (record { grows = s.grows; late = s.late refl })
