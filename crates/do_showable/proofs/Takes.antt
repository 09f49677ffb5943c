-- A record may have the names of a node after a take, where it may have those of the item.
use Rattle.std.proofs.Common.{Bool, List, [], arith, cond, false, length, map, refl, subst, true, ℕ}
use Rattle.std.proofs.{Common.{◌+◌, ◌<◌, ◌==◌, ◌∷◌, ◌≡◌}, lemmas.Bool.eqb-true}
use Rattle.std.specs.{List.AllByRecursion, Prelude.{None, Option, Some, option_map, ◌≤◌}}
use Rattle.do_base.specs.declared.values.value.Value.{Value, TheVariants.{Nil, Obj}}
use Rattle.do_base.specs.names.Names.{ObjectName}
use Rattle.do_class.specs.declared.packet.Name.{Name, TheVariants.{Lent, Mine, Yours}}
use Rattle.do_class.specs.declared.packet.Packet.{Packet}
use Rattle.do_packet.specs.{Unpacking.{name_value, name_values}, declared.receipt.Receipt.Receipt}
use Rattle.do_behave.specs.declared.invocation.{Answer.{Answer, TheVariants.Raised}, Waited.Waited}
use Rattle.do_machine.specs.{Context.{Context, Found, method_for, own_class}, Objects.object_at}
use Rattle.do_machine.specs.{State.{own, stored}, declared.{item.Item.Item, node.Node.Node}}
use Rattle.do_machine.specs.{declared.node.Stored.Stored, ends.Closing.closing}
use Rattle.do_machine.specs.{held.Refers.answer_values, take.Awaiting.{AnsweredCall, answering}}
use Rattle.do_machine.specs.take.{Awaiting.values_answer, Receipt.{arrived, is_entered}}
use Rattle.do_machine.specs.take.{Receipt.{is_reachable, reading}, Take.take_effect}
use Rattle.do_facts.proofs.walk.SmallEffects.{by_closing}
use Rattle.do_facts.proofs.walk.Takes.{Takes, by_take as taken, packet_in}
use Rattle.do_limits.proofs.Lists.{found_by}
use Rattle.do_at_hand.proofs.{Answers.{answered, answers, parts}, Arrivals.copies_fine}
use Rattle.do_at_hand.proofs.{Arrivals.parts_fine, Shown.{AllName, Names, nil, one}, Within.begins}
use Rattle.do_showable.proofs.{Frames.{ItemPasses, message_passes}, Naming.{is_nameable, named_at}}
use Rattle.do_showable.proofs.Nodes.{IsNamed, IsSmall, made, restacked, within}
use Rattle.do_showable.proofs.Packets.{NamePasses, PacketPasses}

-- as long as the serials of a node are small, a record may have its names
abbrev StaysNamed : Node → Type 0
StaysNamed n = IsSmall n → IsNamed n

module _ (c : Context) (from : ℕ) (ok : IsNamed c.node)
    (room : c.node.next_serial + 4096 ≤ 9223372036854775808) (item : Item)
    (passes : ItemPasses from c.node.port item) where
  -- the node
  abbrev n : Node
  n = c.node

  module _ (packet : Packet) (is : packet_in item ≡ Some packet) where
    -- its message
    message : PacketPasses from n.port packet
    message = message_passes from n.port item passes packet is

    -- how it is read
    abbrev r : Receipt
    r = reading c from packet

    -- an object by a test, or nil
    object_if : (b : Bool) (o : ObjectName) → is_nameable o ≡ true →
        Names is_nameable (cond b (Obj o) Nil)
    object_if true o h = one is_nameable o h
    object_if false o h = nil is_nameable

    -- the value of a name
    name_named : (x : Name) → NamePasses from n.port x → (entry ends : Bool) →
        Names is_nameable (name_value r x entry ends)
    name_named (Mine serial class) h entry ends = one is_nameable (object_at from serial) h
    name_named (Yours serial) h entry ends = object_if entry (object_at n.port serial) h
    name_named (Lent o class token) h entry ends = object_if ends o h

    -- the values of names
    names_named : (xs : List Name) → AllByRecursion (NamePasses from n.port) xs →
        (entries ends : List Bool) → AllName is_nameable (name_values r xs entries ends)
    names_named [] h entries ends = tt
    names_named (x ∷ xs) h [] ends = tt
    names_named (x ∷ xs) h (e ∷ entries) [] = tt
    names_named (x ∷ xs) h (e ∷ entries) (o ∷ ends) =
        (name_named x h.0 e o, names_named xs h.1 entries ends)

    -- those of the message
    abbrev named : List Value
    named =
        name_values r packet.names (map (is_entered c from) packet.names)
        (map (is_reachable c) packet.names)

    -- they pass
    all_named : AllName is_nameable named
    all_named =
        names_named packet.names message.names (map (is_entered c from) packet.names)
        (map (is_reachable c) packet.names)

    -- so does the object of each copy
    copied : (k : ℕ) → k < length packet.copies →
        is_nameable (object_at n.port (n.next_serial + k)) ≡ true
    copied k few =
        named_at n.port (n.next_serial + k) ok.home
        (omega (arith, ok.first), omega (arith, room, few, message.few))

    -- the values of the message
    values : AllName is_nameable (arrived c from packet).values
    values = parts_fine is_nameable r named all_named copied packet.values

    -- and the slots of its copies
    copies : AllByRecursion (λ m. AllName is_nameable m.slots) (arrived c from packet).copies
    copies = copies_fine is_nameable r named all_named copied packet.copies

  -- an own object that has a method
  target : (serial : ℕ) (selector : List ℕ) (f : Found) →
      method_for c.table (own_class n serial) selector ≡ Some f → is_nameable (own n serial) ≡ true
  target serial selector f found = go (stored serial n.heap) refl found
    where
      go : (x : Option Stored) → stored serial n.heap ≡ x →
          method_for c.table (option_map (λ y. y.class) x) selector ≡ Some f →
          is_nameable (own n serial) ≡ true
      go None e q = absurd (cc (q))
      go (Some x) e q =
          let k = found_by (λ y. is_nameable (object_at n.port y.serial) ≡ true)
          (λ y. y.serial == serial) n.heap x ok.own e in
          subst (λ s. is_nameable (object_at n.port s) ≡ true) (eqb-true x.serial serial k.1) k.0

  -- a node whose invocation has its answer
  has_answer : (k : AnsweredCall) (answer : Waited → Answer) →
      ((what : Waited) → AllName is_nameable (answer_values (answer what))) → (m : Node) →
      StaysNamed m → StaysNamed (answering k answer m).node
  has_answer k answer h m stays small =
      let it = stays small in
      restacked m _ it (answered is_nameable k answer h m (within m it)).stack

  -- what a take is made of
  takes : Takes StaysNamed (λ to sent. Unit {0}) c from item
  takes = record {
    small = record { over = λ w m h. h; settles = λ w m o h. tt };
    asks = λ packet is o class token among m ends h. (h, tt);
    grants = λ serial token is m e h. tt;
    lacks = λ serial token is m e h. tt;
    makes = λ packet is m h small.
        made (arrived c from packet).copies m (copies packet is) (h (omega (arith, small))) small;
    begins = λ reason x f is found fit m h small.
        let it = h small in
        let vs = (arrived c from x.packet).values in
        restacked m _ it (
          begins is_nameable (own n x.target) f.id reason vs (target x.target x.selector f found)
              (values x.packet is),
          it.calls,
        );
    refuses = λ number e h. tt;
    answers = λ k packet is m h.
        has_answer k (values_answer c.table (arrived c from packet).values)
        (answers is_nameable c.table (arrived c from packet).values (values packet is)) m h;
    fails = λ k number e is m h. has_answer k (λ what. Raised e) (λ what. tt) m h;
    gives = λ number. tt;
    settles = λ number m h. h;
    parts = λ serials is m h. (
      λ small.
          let it = h small in
          restacked m _ it (parts is_nameable from m (within m it)).stack,
      tt,
    );
  }

  -- a take
  pub take_named : IsSmall (take_effect c from item).node → IsNamed (take_effect c from item).node
  take_named = (taken c from item takes (λ small. ok)).node

-- an end that closes
pub closing_named : (peer : ℕ) (n : Node) → IsNamed n → IsNamed (closing peer n).node
closing_named peer n h =
    (by_closing {G = IsNamed} {E = λ to sent. Unit {0}} (record {
      over = λ w m k. k;
      settles = λ w m o k. tt;
    }) peer n (restacked n _ h (parts is_nameable peer n (within n h)).stack) tt).node
