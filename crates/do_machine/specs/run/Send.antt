-- What becomes of a message that an invocation sends.
use Rattle.do_machine.specs.declared.verdict.Request.TheVariants as requests
use Rattle.std.specs.{Prelude.{Bool, List, [], if◌then◌else◌, map, not, ◌&&◌, ◌∷◌}, List.zip}
use Rattle.do_base.specs.{names.Names.ObjectName, values.Kinds.{is_nil, object}}
use Rattle.do_packet.specs.Copies.{Placed}
use Rattle.do_base.specs.declared.values.value.Value.{Value, TheVariants.Nil}
use Rattle.do_base.specs.declared.events.exception.Exc.TheVariants.{ConnectionDied, Deep}
use Rattle.do_base.specs.declared.events.exception.Exc.TheVariants.{NotUnderstood, NotVended}
use Rattle.do_base.specs.declared.events.exception.Exc.TheVariants.{TooLarge, TypeFault}
use Rattle.do_class.specs.declared.packet.Packet.{Packet}
use Rattle.do_sig.specs.Calls.{inputs_fit, is_in, is_oneway, qualifier_of, qualifiers_of}
use Rattle.do_sig.specs.declared.{encoding.Encoding.Encoding, signature.Signature.Signature}
use Rattle.do_machine.specs.declared.{item.Message.Message, node.Node.Node, verdict.SendAct.SendAct}
use Rattle.do_machine.specs.declared.verdict.Verdict.{Verdict}
use Rattle.do_machine.specs.declared.verdict.Verdict.TheVariants.{Asks, Begins, Fails, Goes, Tells}
use Rattle.do_machine.specs.{Chain.{when◌then◌, ◌>>=◌, ◌>>◌, ◌otherwise◌}, Context.{Context, Found}}
use Rattle.do_machine.specs.{Context.{RunContext, class_seen, method_for}, Packing.packed_for}
use Rattle.do_machine.specs.{State.{is_known, is_open, is_own}, run.Fresh.is_full}

-- a value at an argument that does not go in is passed as nil
abbrev pub input : Encoding → Value → Value
input e v = if is_in e.value_type e.qualifiers then v else Nil

-- values as they are passed, one for each argument
abbrev pub inputs_by : List Encoding → List Value → List Value
inputs_by (e ∷ es) (v ∷ vs) = input e v ∷ inputs_by es vs
inputs_by _ _ = []

-- the values of a send as they are passed
abbrev pub inputs : Signature → SendAct → List Value
inputs s x = inputs_by s.args x.args

-- of a list with one member for each argument those at arguments that come out
abbrev pub outs_by : {X : Type 0} → Bool → List Encoding → List X → List X
outs_by oneway (e ∷ es) (x ∷ xs) =
    if (qualifier_of oneway e).comes_out then x ∷ outs_by oneway es xs else outs_by oneway es xs
outs_by oneway _ _ = []

-- of a list with one member for each argument of a signature those that come out
abbrev pub outs_of : {X : Type 0} → Signature → List X → List X
outs_of s xs = outs_by (is_oneway s) s.args xs

-- the arguments as they are packed
abbrev pub arguments : Signature → SendAct → List Placed
arguments s x = zip (map (λ q. q.copy) (qualifiers_of s)) (inputs s x)

-- what a send says to its target
abbrev pub message : ObjectName → SendAct → Packet → Message
message o x packet = record { target = o.serial; selector = x.selector; packet = packet }

-- a send to an own object pushes its invocation, where there is room
abbrev pub local_rule : Node → ObjectName → Found → SendAct → Verdict
local_rule n o m x = do
  when is_full n then Fails Deep
  Begins o m.id (inputs m.signature x) x.into (outs_of m.signature x.from) x.pc

-- a send to a foreign object goes as a message, which is waited for unless it is oneway
abbrev pub remote_rule : Context → ObjectName → Found → SendAct → Verdict
remote_rule c o m x = do
  packet ← packed_for c o.node (arguments m.signature x) otherwise Fails TooLarge
  when is_oneway m.signature then Tells o.node (message o x packet) x.into x.pc
  Asks o.node (requests.Call m.id (message o x packet)) x.into (outs_of m.signature x.from) x.pc

-- what becomes of a send: the first of these rules that applies decides
abbrev pub send_rule : RunContext → SendAct → Verdict
send_rule r x = do
  when is_nil x.target then Goes x.into Nil x.pc
  o ← object x.target otherwise Fails TypeFault
  let n = r.context.node
  when not (is_own n o) && not (is_open n o.node) then Fails ConnectionDied
  when not (is_own n o) && not (is_known n o) then Fails NotVended
  m ← method_for r.context.table (class_seen r.context o) x.selector otherwise Fails NotUnderstood
  when not (inputs_fit m.signature x.args) then Fails TypeFault
  when is_own n o then local_rule n o m x
  remote_rule r.context o m x
