-- Effects that leave and send only what a message can carry.
use Rattle.std.proofs.Common.{arith, length-append, ◌≤◌, ap, sym, slice_get, zero, ◌<◌, ◌≡◌, ℕ, not}
use Rattle.std.proofs.Common.{List, [], ◌∷◌, ◌-◌, length, filter, map, refl, Bool, true, false}
use Rattle.std.proofs.{Common.cond, lemmas.List.{length-map, length-replicate}}
use Rattle.std.specs.{Prelude.{None, Option, Some, option_map, replicate, suc}, List.AllByRecursion}
use Rattle.do_base.specs.{names.Names.ObjectName, declared.values.value.Value.Value}
use Rattle.do_base.specs.declared.values.value.Value.TheVariants.{Nil}
use Rattle.do_class.specs.{Class.Class, Table.slots_of, declared.ids.ClassId.ClassId}
use Rattle.do_class.specs.declared.ids.{MethodId.MethodId, Slot.Slot}
use Rattle.do_packet.specs.declared.receipt.Made.{Made}
use Rattle.do_behave.specs.declared.invocation.{Invocation.Invocation, Reason.Reason}
use Rattle.do_machine.specs.declared.{node.{Node.Node, Wanted.Wanted}, state.Effect.Effect}
use Rattle.do_machine.specs.{declared.state.Parcel.Parcel, Lists.inserted}
use Rattle.do_machine.specs.lend.Asking.{same_wanted, wanted_lt, with_wanted, without_wanted}
use Rattle.do_machine.specs.Objects.{joined, object_lt}
use Rattle.do_packet.specs.Met.{has_object}
use Rattle.do_machine.specs.run.Fresh.{blank, fresh, pushed, with_objects, with_serials}
use Rattle.do_limits.specs.Sendable.{AreSendable, HasSlots, IsOfTable, IsSendable}
use Rattle.do_limits.specs.SendableStates.{InvocationIsSendable, ItemIsSendable, NodeIsSendable}
use Rattle.do_limits.specs.SendableStates.{AsksForOne, HasNumbers, HasSerial, ObjectIsSendable}
use Rattle.do_facts.proofs.EachOfLists.{each_filtered, each_joined, each_replicated}
use Rattle.do_limits.proofs.{Lists.each_placed, values.Carried.carry-Nil}

-- an item that is sent
abbrev pub ParcelIsSendable : List Class → ℕ → Parcel → Type 0
ParcelIsSendable table port p = ItemIsSendable table port p.to p.item

-- The node of an effect has such values, and what is sent has
pub record EffectIsSendable (table : List Class) (port : ℕ) (e : Effect) : Type 0 where
  pub node : NodeIsSendable table port e.node
  pub sent : AllByRecursion (ParcelIsSendable table port) e.sent

-- ---- asks

-- a node that asks for other objects
asking_more : (port : ℕ) (n : Node) → HasNumbers port n → (asked : List Wanted) →
    AllByRecursion AsksForOne asked → HasNumbers port (record n { asked = asked })
asking_more port n h asked a = (h.0, (h.1.0, (h.1.1.0, (h.1.1.1.0, a))))

-- a node that holds other objects
pub holding_more : (port : ℕ) (n : Node) → HasNumbers port n → (held : List ObjectName) →
    AllByRecursion HasSerial held → HasNumbers port (record n { held = held })
holding_more port n h held a = (h.0, (h.1.0, (h.1.1.0, (a, h.1.1.1.1))))

-- a node that asks for an object
pub asks_for : {table : List Class} {port : ℕ} → (w : Wanted) → AsksForOne w → (n : Node) →
    NodeIsSendable table port n → NodeIsSendable table port (with_wanted w n)
asks_for {table} {port} w one n h = record {
  heap = h.heap;
  stack = h.stack;
  numbers = asking_more port n h.numbers (inserted wanted_lt w n.asked)
      (each_placed AsksForOne wanted_lt w n.asked one h.numbers.1.1.1.1);
}

-- an ask that is over
pub ask_over : {table : List Class} {port : ℕ} → (w : Wanted) → (n : Node) →
    NodeIsSendable table port n → NodeIsSendable table port (without_wanted w n)
ask_over {table} {port} w n h = record {
  heap = h.heap;
  stack = h.stack;
  numbers = asking_more port n h.numbers (filter (λ v. not (same_wanted w v)) n.asked)
      (each_filtered AsksForOne (λ v. not (same_wanted w v)) n.asked h.numbers.1.1.1.1);
}

-- an object that joins those that are held
pub joins : (o : ObjectName) (held : List ObjectName) → HasSerial o →
    AllByRecursion HasSerial held → AllByRecursion HasSerial (joined held o)
joins o held h k = one (has_object held o)
  where
    placed : AllByRecursion HasSerial (inserted object_lt o held)
    placed = each_placed HasSerial object_lt o held h k

    one : (b : Bool) → AllByRecursion HasSerial (cond b held (inserted object_lt o held))
    one true = k
    one false = placed

-- ---- invocations and objects

-- an invocation as it begins
pub begins : (o : ObjectName) (method : MethodId) (reason : Reason) (values : List Value) →
    AreSendable values → length values ≤ 16 →
    InvocationIsSendable (fresh o method reason values)
begins o method reason values h few = record {
  locals = each_joined IsSendable values (replicate (16 - length values) Nil) h
      (each_replicated IsSendable (16 - length values) Nil (carry-Nil 8));
  sixteen = omega (
    arith,
    few,
    length-append values (replicate (16 - length values) Nil),
    length-replicate (16 - length values) Nil,
  );
  answer = tt;
}

-- a node with one more invocation
pub pushes : {table : List Class} {port : ℕ} → (i : Invocation) (n : Node) →
    InvocationIsSendable i → NodeIsSendable table port n →
    NodeIsSendable table port (pushed i n)
pushes i n k h = record { heap = h.heap; stack = (k, h.stack); numbers = h.numbers }

-- what an object has as it is made
abbrev pub MadeIsSendable : List Class → Made → Type 0
MadeIsSendable table m = AreSendable m.slots × HasSlots table m.class (length m.slots)

-- objects under serials
numbered : (table : List Class) (serial : ℕ) (new : List Made) → 1 ≤ serial →
    AllByRecursion (MadeIsSendable table) new →
    AllByRecursion (ObjectIsSendable table) (with_serials serial new)
numbered table serial [] one h = tt
numbered table serial (m ∷ ms) one h = (
  record { serial = one; slots = h.0.0; whole = h.0.1 },
  numbered table (suc serial) ms (omega (arith, one)) h.1,
)

-- a node with new objects
pub makes : {table : List Class} {port : ℕ} → (new : List Made) (n : Node) →
    AllByRecursion (MadeIsSendable table) new → NodeIsSendable table port n →
    NodeIsSendable table port (with_objects new n)
makes {table} new n k h = record {
  heap = each_joined (ObjectIsSendable table) n.heap (with_serials n.next_serial new) h.heap
      (numbered table n.next_serial new h.numbers.1.0 k);
  stack = h.stack;
  numbers = (h.numbers.0, (omega (arith, h.numbers.1.0), h.numbers.1.1));
}

-- nil slots
nils_sendable : (slots : List Slot) → AreSendable (map (λ s. Nil) slots)
nils_sendable [] = tt
nils_sendable (s ∷ slots) = (carry-Nil 8, nils_sendable slots)

-- an object as it is made
pub blank_sendable : (table : List Class) (class : ClassId) → IsOfTable table class →
    MadeIsSendable table (blank table class)
blank_sendable table class known = go (slots_of table class) refl
  where
    lacking : (table : List Class) (k : ℕ) → k < length table →
        option_map (λ (c : Class). c.slots) (slice_get table k) ≡ None → ⊥
    lacking [] k lt e = omega (arith, lt)
    lacking (c ∷ table) zero lt e = cc (e)
    lacking (c ∷ table) (suc k) lt e = lacking table k (omega (arith, lt)) e

    nils : Option (List Slot) → List Value
    nils found = elim found [ None ↦ [] | Some slots ↦ map (λ s. Nil) slots ]

    go : (found : Option (List Slot)) → slots_of table class ≡ found →
        AreSendable (nils found)
        × (option_map (λ (x : List Slot). length x) found ≡ Some (length (nils found)))
    go None e = absurd (lacking table class.0 known e)
    go (Some slots) e =
        (nils_sendable slots, ap Some (sym (length-map slots (λ (s : Slot). Nil))))
