-- What a node sees as a sender of messages.
use Rattle.std.proofs.Common.{◌≡◌, ◌==◌, ◌<◌, ◌≤◌, ℕ, Bool, true, false, cond, List, [], ◌∷◌}
use Rattle.std.proofs.Common.{length, arith, refl, sym, subst, slice_get, suc, zero}
use Rattle.std.specs.Prelude.{None, Option, Some, option_map, unwrap_or}
use Rattle.std.proofs.lemmas.Bool.{eqb-true}
use Rattle.do_base.specs.names.Names.{ObjectName}
use Rattle.do_sched.specs.Good.{IsPort}
use Rattle.do_class.specs.{Class.Class, declared.ids.ClassId.ClassId}
use Rattle.do_packet.specs.Copies.{slot_values}
use Rattle.do_machine.specs.{declared.node.Stored.Stored, Context.{Context, class_seen}}
use Rattle.do_machine.specs.{Packing.packer, State.{is_own, stored}}
use Rattle.do_limits.specs.Sendable.{AreSendable, HasSlots, IsOfTable}
use Rattle.do_limits.specs.SendableStates.{NodeIsSendable, ObjectIsSendable}
use Rattle.do_limits.proofs.{Lists.found_by, values.Naming.SenderIsSendable}

-- A node, and what it is told of the classes of foreign objects
pub record ContextIsSendable (c : Context) : Type 0 where
  pub node : NodeIsSendable c.table c.node.port c.node
  pub port : IsPort c.node.port
  pub seen : (o : ObjectName) (class : ClassId) → c.around.class_of o ≡ Some class →
      IsOfTable c.table class × ((1 ≤ o.serial) × IsPort o.node)

-- a class that has slots is of the table
pub slots_known : (table : List Class) (class : ClassId) (count : ℕ) →
    HasSlots table class count → IsOfTable table class
slots_known table class count h = go table class.0 h
  where
    go : (table : List Class) (k : ℕ) → option_map (λ slots. length slots)
        (option_map (λ (c : Class). c.slots) (slice_get table k)) ≡ Some count → k < length table
    go [] k e = absurd (cc (e))
    go (c ∷ table) zero e = omega arith
    go (c ∷ table) (suc k) e = omega (arith, go table k e)

module _ (c : Context) (ok : ContextIsSendable c) where
  -- an object that is stored
  there : (serial : ℕ) (x : Stored) → stored serial c.node.heap ≡ Some x →
      ObjectIsSendable c.table x × ((x.serial == serial) ≡ true)
  there serial x e =
      found_by (ObjectIsSendable c.table) (λ x. x.serial == serial) c.node.heap x ok.node.heap e

  -- the slots of an object
  slots_of_own : (o : ObjectName) → AreSendable (slot_values (packer c) o)
  slots_of_own o = go (is_own c.node o)
    where
      found_there : (found : Option Stored) → stored o.serial c.node.heap ≡ found →
          AreSendable (unwrap_or (option_map (λ x. x.slots) found) [])
      found_there None e = tt
      found_there (Some x) e = (there o.serial x e).0.slots

      go : (b : Bool) → AreSendable (unwrap_or
          (option_map (λ x. x.slots) (cond b (stored o.serial c.node.heap) None)) [])
      go true = found_there (stored o.serial c.node.heap) refl
      go false = tt

  -- they are those of its class
  whole_own : (o : ObjectName) (class : ClassId) → is_own c.node o ≡ true →
      class_seen c o ≡ Some class →
      HasSlots c.table class (length (slot_values (packer c) o))
  whole_own o class own e = go (is_own c.node o) own e
    where
      found_there : (found : Option Stored) → stored o.serial c.node.heap ≡ found →
          option_map (λ x. x.class) found ≡ Some class →
          HasSlots c.table class (length (unwrap_or (option_map (λ x. x.slots) found) []))
      found_there None q e = absurd (cc (e))
      found_there (Some x) q e =
          let same : x.class ≡ class = cc (e) in
          subst (λ k. HasSlots c.table k (length x.slots)) same (there o.serial x q).0.whole

      go : (b : Bool) → b ≡ true →
          cond b (option_map (λ x. x.class) (stored o.serial c.node.heap)) (c.around.class_of o)
          ≡ Some class →
          HasSlots c.table class (length (unwrap_or
          (option_map (λ x. x.slots) (cond b (stored o.serial c.node.heap) None)) []))
      go true h e = found_there (stored o.serial c.node.heap) refl e
      go false h e = absurd (cc (h))

  -- the class of an object
  pub class_known : (o : ObjectName) (class : ClassId) → class_seen c o ≡ Some class →
      IsOfTable c.table class × ((1 ≤ o.serial) × IsPort o.node)
  class_known o class e = go (is_own c.node o) refl e
    where
      found_there : (o.node == c.node.port) ≡ true → (found : Option Stored) →
          stored o.serial c.node.heap ≡ found → option_map (λ x. x.class) found ≡ Some class →
          IsOfTable c.table class × ((1 ≤ o.serial) × IsPort o.node)
      found_there own None q e = absurd (cc (e))
      found_there own (Some x) q e =
          let same : x.class ≡ class = cc (e) in
          let is = there o.serial x q in (
            subst (IsOfTable c.table) same
                (slots_known c.table x.class (length x.slots) is.0.whole),
            (
              subst (λ n. 1 ≤ n) (eqb-true x.serial o.serial is.1) is.0.serial,
              subst IsPort (sym (eqb-true o.node c.node.port own)) ok.port,
            ),
          )

      go : (b : Bool) → (o.node == c.node.port) ≡ b →
          cond b (option_map (λ x. x.class) (stored o.serial c.node.heap)) (c.around.class_of o)
          ≡ Some class →
          IsOfTable c.table class × ((1 ≤ o.serial) × IsPort o.node)
      go true own e = found_there own (stored o.serial c.node.heap) refl e
      go false own e = ok.seen o class e

  -- a node as a sender
  pub sender_sendable : SenderIsSendable (packer c)
  sender_sendable = record { seen = class_known; slots = slots_of_own; whole = whole_own }
