-- What becomes of each act of an invocation.
use Rattle.do_behave.specs.declared.act.Act.TheVariants as acts
use Rattle.do_machine.specs.declared.verdict.Request.TheVariants as requests
use Rattle.std.specs.Prelude.{Bool, List, None, Option, Some, [], if◌then◌else◌, map, nat_lt}
use Rattle.std.specs.Prelude.{negsuc, not, pos, ℕ, ℤ, ◌&&◌, ◌==◌, ◌||◌}
use Rattle.do_base.specs.{values.Kinds.{is_nil, number, object}, declared.values.value.Value.Value}
use Rattle.do_base.specs.declared.values.value.Value.TheVariants.{Nil, Obj}
use Rattle.do_base.specs.declared.events.exception.Exc.TheVariants.{ConnectionDied, TypeFault}
use Rattle.do_class.specs.Table.{signature_of}
use Rattle.do_sig.specs.{Calls.{encoding_fits, is_void, returned_fits}, Fits.each_takes}
use Rattle.do_sig.specs.declared.signature.Signature.{Signature}
use Rattle.do_behave.specs.declared.act.Act.{Act}
use Rattle.do_machine.specs.declared.{node.Node.Node, verdict.Verdict.Verdict}
use Rattle.do_machine.specs.declared.verdict.Verdict.TheVariants.{Asks, Fails, Goes, Makes, Returns}
use Rattle.do_machine.specs.declared.verdict.Verdict.TheVariants.{Says, Steps, Vends}
use Rattle.do_machine.specs.{Chain.{when◌then◌, ◌>>=◌, ◌>>◌, ◌otherwise◌}, Context.RunContext}
use Rattle.do_machine.specs.{State.{is_open, is_own, own}, run.Send.{outs_of, send_rule}}

-- a node's root, or nil
abbrev pub root_value : Node → Value
root_value n = elim n.root [ None ↦ Nil | Some serial ↦ Obj (own n serial) ]

-- a number that names a port
abbrev pub port_of : ℤ → Option ℕ
port_of (pos n) = if nat_lt 0 n && nat_lt n 65536 then Some n else None
port_of (negsuc m) = None

-- the root of a node: the own one is there at once, and another is asked for over an open end
abbrev pub root_rule : RunContext → Value → ℕ → ℕ → Verdict
root_rule r value into pc = do
  z ← number value otherwise Fails TypeFault
  port ← port_of z otherwise Fails ConnectionDied
  let n = r.context.node
  when port == n.port then Goes into (root_value n) pc
  when not (is_open n port) then Fails ConnectionDied
  Asks port requests.Root into [] pc

-- an own object or nil becomes the root
abbrev pub vend_rule : RunContext → Value → ℕ → Verdict
vend_rule r value pc = do
  when is_nil value then Vends None pc
  o ← object value otherwise Fails TypeFault
  when not (is_own r.context.node o) then Fails TypeFault
  Vends (Some o.serial) pc

-- the locals that come out fit their arguments
abbrev pub outs_fit : Signature → List Value → Bool
outs_fit s locals = each_takes (map encoding_fits (outs_of s s.args)) (outs_of s locals)

-- what is returned fits the result, if that is not void, and what comes out fits its arguments
abbrev pub return_rule : RunContext → Value → Verdict
return_rule r value = do
  s ← signature_of r.context.table r.top.method otherwise Fails TypeFault
  when not (is_void s || returned_fits s value) then Fails TypeFault
  when not (outs_fit s r.top.locals) then Fails TypeFault
  when is_void s then Returns Nil (outs_of s r.top.locals)
  Returns value (outs_of s r.top.locals)

-- what becomes of the next act
abbrev pub act_rule : RunContext → Act → Verdict
act_rule r (acts.Step pc locals handler writes) = Steps pc locals handler writes
act_rule r (acts.New class into pc) = Makes class into pc
act_rule r (acts.Send target selector args into from pc) = send_rule r (record {
  target = target;
  selector = selector;
  args = args;
  into = into;
  from = from;
  pc = pc;
})
act_rule r (acts.Root port into pc) = root_rule r port into pc
act_rule r (acts.Vend value pc) = vend_rule r value pc
act_rule r (acts.Say value pc) = Says value pc
act_rule r (acts.Return value) = return_rule r value
act_rule r (acts.Raise e) = Fails e
