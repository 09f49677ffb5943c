-- What becomes of an act, and the values and the message in it.
use Rattle.do_machine.specs.declared.verdict.Request.TheVariants as requests
use Rattle.std.{specs.Prelude.{length, ◌≤◌, None, Option, Some}, proofs.Common.{◌≡◌, ℕ, Bool, true}}
use Rattle.std.proofs.Common.{false, cond, List, [], ◌∷◌, Err, Ok, Result, map, ap, arith}
use Rattle.std.{specs.List.{AllByRecursion, zip}, proofs.lemmas.Slice.Zip.length-zip}
use Rattle.std.specs.Result.{result_ok}
use Rattle.do_base.specs.declared.{events.exception.Exc.Exc, values.value.Value.Value}
use Rattle.do_base.specs.declared.values.value.Value.TheVariants.{Nil, Obj}
use Rattle.do_class.specs.{Class.Class, declared.packet.Packet.Packet}
use Rattle.do_sig.specs.{Calls.{is_in, qualifier_of}, declared.encoding.Encoding.Encoding}
use Rattle.do_packet.specs.{Copies.Placed, Limits.KeepsLimits, Packing.packed}
use Rattle.do_packet.{proofs.Keeping.packed_keeps, specs.declared.fault.PackFault.PackFault}
use Rattle.do_frames.specs.Exceptions.{exc_text}
use Rattle.do_behave.specs.declared.act.Write.{Write}
use Rattle.do_machine.specs.declared.{node.Node.Node, verdict.{Request.Request, Verdict.Verdict}}
use Rattle.do_machine.specs.declared.verdict.Verdict.TheVariants.{Asks, Begins, Fails, Goes, Makes}
use Rattle.do_machine.specs.declared.verdict.Verdict.TheVariants.{Returns, Says, Steps, Tells, Uses}
use Rattle.do_machine.specs.{declared.verdict.Verdict.TheVariants.Vends, Context.Context}
use Rattle.do_machine.specs.{Packing.{packed_for, packer}, State.own, run.Acts.root_value}
use Rattle.do_machine.specs.run.Send.{input, inputs_by, outs_by}
use Rattle.do_limits.specs.Sendable.{AreSendable, IsOfTable, IsSendable, IsSendableExc}
use Rattle.do_limits.specs.{Sendable.IsSendablePacket, SendableStates.MessageIsSendable}
use Rattle.do_limits.proofs.Senders.{ContextIsSendable, sender_sendable}
use Rattle.do_limits.proofs.values.{Packing.packed_sendable, Carried.{carry-Nil, carry-Obj}}

-- the message of a request to a peer
abbrev pub RequestIsSendable : List Class → ℕ → ℕ → Request → Type 0
RequestIsSendable table from to requests.Root = Unit {0}
RequestIsSendable table from to (requests.Call method m) = MessageIsSendable table from to m

-- the values, the class, the message or the exception of a verdict
abbrev pub VerdictIsSendable : List Class → ℕ → Verdict → Type 0
VerdictIsSendable table port (Goes into value pc) = IsSendable value
VerdictIsSendable table port (Uses value outs) = IsSendable value × AreSendable outs
VerdictIsSendable table port (Steps pc locals handler writes) =
    AreSendable locals × ((length locals ≡ 16)
    × AllByRecursion (λ w. IsSendable w.value) writes)
VerdictIsSendable table port (Makes class into pc) = IsOfTable table class
VerdictIsSendable table port (Vends root pc) = Unit {0}
VerdictIsSendable table port (Says value pc) = Unit {0}
VerdictIsSendable table port (Asks peer request into outs pc) =
    RequestIsSendable table port peer request
VerdictIsSendable table port (Begins o method values into outs pc) =
    AreSendable values × (length values ≤ 16)
VerdictIsSendable table port (Tells peer m into pc) = MessageIsSendable table port peer m
VerdictIsSendable table port (Returns value outs) = IsSendable value × AreSendable outs
VerdictIsSendable table port (Fails e) = IsSendableExc e

-- a verdict, where there is one
abbrev pub VerdictIfSendable : List Class → ℕ → Option Verdict → Type 0
VerdictIfSendable table port None = Unit {0}
VerdictIfSendable table port (Some v) = VerdictIsSendable table port v

-- an exception without a text
pub textless : (e : Exc) → exc_text e ≡ [] → IsSendableExc e
textless e h = rw h (omega arith, tt)

-- ---- values

-- the root of a node, or nil
pub root_sendable : (n : Node) → IsSendable (root_value n)
root_sendable n = go n.root
  where
    go : (root : Option ℕ) →
        IsSendable (elim root [ None ↦ Nil | Some serial ↦ Obj (own n serial) ])
    go None = carry-Nil 8
    go (Some serial) = carry-Obj 8 (own n serial)

-- a value as it is passed
input_sendable : (e : Encoding) (v : Value) → IsSendable v → IsSendable (input e v)
input_sendable e v h = go (is_in e.value_type e.qualifiers)
  where
    go : (b : Bool) → IsSendable (cond b v Nil)
    go true = h
    go false = carry-Nil 8

-- values as they are passed
pub inputs_sendable : (es : List Encoding) (vs : List Value) → AreSendable vs →
    AreSendable (inputs_by es vs)
inputs_sendable [] vs h = tt
inputs_sendable (e ∷ es) [] h = tt
inputs_sendable (e ∷ es) (v ∷ vs) h = (input_sendable e v h.0, inputs_sendable es vs h.1)

-- those that come out
pub outs_sendable : (oneway : Bool) (es : List Encoding) (vs : List Value) → AreSendable vs →
    AreSendable (outs_by oneway es vs)
outs_sendable oneway [] vs h = tt
outs_sendable oneway (e ∷ es) [] h = tt
outs_sendable oneway (e ∷ es) (v ∷ vs) h =
    go (qualifier_of oneway e).comes_out (outs_sendable oneway es vs h.1)
  where
    go : (b : Bool) → AreSendable (outs_by oneway es vs) →
        AreSendable (cond b (v ∷ outs_by oneway es vs) (outs_by oneway es vs))
    go true k = (h.0, k)
    go false k = k

-- the values of writes
pub written_values : (ws : List Write) → AreSendable (map (λ w. w.value) ws) →
    AllByRecursion (λ w. IsSendable w.value) ws
written_values [] h = tt
written_values (w ∷ ws) h = (h.0, written_values ws h.1)

-- ---- messages

-- a message that was packed is one that was made
was_packed : (found : Result Packet PackFault) (p : Packet) → result_ok found ≡ Some p →
    found ≡ Ok p
was_packed (Ok q) p e = ap Ok (cc)
was_packed (Err x) p e = absurd (cc)

-- a message of a node
pub message_sendable : (c : Context) → ContextIsSendable c → (to : ℕ) (values : List Placed) →
    AllByRecursion (λ q. IsSendable q.1) values → length values ≤ 9 → (p : Packet) →
    packed_for c to values ≡ Some p → IsSendablePacket c.table c.node.port to p
message_sendable c ok to values h few p e =
    packed_sendable (packer c) to c.node.next_token values (sender_sendable c ok)
    ok.node.numbers.1.1.0 h few p (was_packed (packed (packer c) to c.node.next_token values) p e)

-- it keeps the limits
pub message_keeps : (c : Context) (to : ℕ) (values : List Placed) (p : Packet) →
    packed_for c to values ≡ Some p → KeepsLimits p
message_keeps c to values p e =
    packed_keeps (packer c) to c.node.next_token values p
    (was_packed (packed (packer c) to c.node.next_token values) p e)

-- values at so many places are no more
pub few_places : (marks : List Bool) (vs : List Value) → length marks ≤ 9 →
    length (zip marks vs) ≤ 9
few_places marks vs few = omega (arith, few, length-zip marks vs)
