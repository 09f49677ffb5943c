-- What holds of each verdict that a rule of an act may give holds of the one that it gives.
use Rattle.do_machine.specs.declared.verdict.Request.TheVariants as requests
use Rattle.std.proofs.Common.{◌≡◌, ◌==◌, ◌&&◌, ◌||◌, ℕ, Bool, true, false, cond, not, [], refl}
use Rattle.std.specs.Prelude.{None, Option, Some}
use Rattle.do_base.specs.{names.Names.ObjectName, values.Kinds.{is_nil, number, object}}
use Rattle.do_base.specs.declared.values.value.Value.{Value, TheVariants.Nil}
use Rattle.do_base.specs.declared.events.exception.Exc.{Exc, TheVariants.{ConnectionDied, Deep}}
use Rattle.do_base.specs.declared.events.exception.Exc.TheVariants.{NotUnderstood, NotVended}
use Rattle.do_base.specs.declared.events.exception.Exc.TheVariants.{TooLarge, TypeFault}
use Rattle.do_class.specs.{Table.signature_of, declared.packet.Packet.Packet}
use Rattle.do_sig.specs.Calls.{inputs_fit, is_oneway, is_void, returned_fits}
use Rattle.do_sig.specs.declared.signature.Signature.{Signature}
use Rattle.do_machine.specs.declared.verdict.{SendAct.SendAct, Verdict.Verdict}
use Rattle.do_machine.specs.declared.verdict.Verdict.TheVariants.{Asks, Begins, Fails, Goes}
use Rattle.do_machine.specs.declared.verdict.Verdict.TheVariants.{Returns, Tells, Vends}
use Rattle.do_machine.specs.Context.{Found, RunContext, class_seen, method_for}
use Rattle.do_machine.specs.{Packing.packed_for, State.{is_known, is_open, is_own}}
use Rattle.do_machine.specs.run.Acts.{outs_fit, port_of, return_rule, root_rule, root_value}
use Rattle.do_machine.specs.run.{Acts.vend_rule, Fresh.is_full, Send.{arguments, inputs}}
use Rattle.do_machine.specs.run.Send.{local_rule, message, outs_of, remote_rule, send_rule}
use Rattle.do_facts.proofs.Chains.{either, found_or, not_closed}

-- of an object that is not the node's own, what did not fail holds
passed : (own ends : Bool) → own ≡ false → (not own && not ends) ≡ false → ends ≡ true
passed true ends h k = absurd (cc)
passed false true h k = refl
passed false false h k = absurd (cc)

-- the exceptions that these rules raise
abbrev pub is_raised : Exc → Bool
is_raised ConnectionDied = true
is_raised Deep = true
is_raised NotUnderstood = true
is_raised NotVended = true
is_raised TooLarge = true
is_raised TypeFault = true
is_raised _ = false

-- a send is for this object, and names this method of its class
pub record IsFor (r : RunContext) (x : SendAct) (o : ObjectName) (m : Found) : Type 0 where
  pub target : object x.target ≡ Some o
  pub method : method_for r.context.table (class_seen r.context o) x.selector ≡ Some m
  pub fits : inputs_fit m.signature x.args ≡ true

-- the object is a peer's, is known over an open end, and the arguments go into this message
pub record IsToPeer (r : RunContext) (x : SendAct) (o : ObjectName) (m : Found) (packet : Packet) :
    Type 0 where
  pub sent : IsFor r x o m
  pub ends : is_open r.context.node o.node ≡ true
  pub known : is_known r.context.node o ≡ true
  pub packed : packed_for r.context o.node (arguments m.signature x) ≡ Some packet

-- What may come of a send: nothing, or it begins an invocation of an own object, or is told to a
-- peer or asked of it
pub record Sends (P : Verdict → Type 0) (r : RunContext) (x : SendAct) : Type 0 where
  pub goes : P (Goes x.into Nil x.pc)
  pub begins : (o : ObjectName) (m : Found) → IsFor r x o m → is_own r.context.node o ≡ true →
      P (Begins o m.id (inputs m.signature x) x.into (outs_of m.signature x.from) x.pc)
  pub tells : (o : ObjectName) (m : Found) (packet : Packet) → IsToPeer r x o m packet →
      P (Tells o.node (message o x packet) x.into x.pc)
  pub asks : (o : ObjectName) (m : Found) (packet : Packet) → IsToPeer r x o m packet →
      P (Asks o.node (requests.Call m.id (message o x packet)) x.into
      (outs_of m.signature x.from) x.pc)

module _ (P : Verdict → Type 0) (r : RunContext)
    (fails : (e : Exc) → is_raised e ≡ true → P (Fails e)) where
  -- a root is asked for
  pub by_root : (value : Value) (into pc : ℕ) → P (Goes into (root_value r.context.node) pc) →
      ((port : ℕ) → is_open r.context.node port ≡ true → P (Asks port requests.Root into [] pc)) →
      P (root_rule r value into pc)
  by_root value into pc goes asks =
      found_or P (number value) (Fails TypeFault) _ (fails TypeFault refl)
      (λ z _. found_or P (port_of z) (Fails ConnectionDied) _ (fails ConnectionDied refl)
      (λ port _. either P (port == r.context.node.port) (Goes into (root_value r.context.node) pc) _
      (λ _. goes)
      (λ _. either P (not (is_open r.context.node port)) (Fails ConnectionDied)
      (Asks port requests.Root into [] pc) (λ _. fails ConnectionDied refl)
      (λ o. asks port (not_closed (is_open r.context.node port) o)))))

  -- a value is vended
  pub by_vend : (value : Value) (pc : ℕ) → ((root : Option ℕ) → P (Vends root pc)) →
      P (vend_rule r value pc)
  by_vend value pc vends =
      either P (is_nil value) (Vends None pc) _ (λ _. vends None)
      (λ _. found_or P (object value) (Fails TypeFault) _ (fails TypeFault refl)
      (λ o _. either P (not (is_own r.context.node o)) (Fails TypeFault) (Vends (Some o.serial) pc)
      (λ _. fails TypeFault refl) (λ _. vends (Some o.serial))))

  -- a value is returned, or nil
  pub by_return : (value : Value) → ((s : Signature) → P (Returns Nil (outs_of s r.top.locals))) →
      ((s : Signature) → P (Returns value (outs_of s r.top.locals))) → P (return_rule r value)
  by_return value nothing returns =
      found_or P (signature_of r.context.table r.top.method) (Fails TypeFault) _
      (fails TypeFault refl)
      (λ s _. either P (not (is_void s || returned_fits s value)) (Fails TypeFault) _
      (λ _. fails TypeFault refl)
      (λ _. either P (not (outs_fit s r.top.locals)) (Fails TypeFault) _ (λ _. fails TypeFault refl)
      (λ _. either P (is_void s) (Returns Nil (outs_of s r.top.locals))
      (Returns value (outs_of s r.top.locals)) (λ _. nothing s) (λ _. returns s))))

  module _ (x : SendAct) (may : Sends P r x) where
    -- a send to a peer
    by_remote : (o : ObjectName) (m : Found) → IsFor r x o m →
        is_open r.context.node o.node ≡ true → is_known r.context.node o ≡ true →
        P (remote_rule r.context o m x)
    by_remote o m is ends known =
        found_or P (packed_for r.context o.node (arguments m.signature x)) (Fails TooLarge) _
        (fails TooLarge refl)
        (λ packet h.
        let to : IsToPeer r x o m packet = record {
          sent = is;
          ends = ends;
          known = known;
          packed = h;
        } in
        either P (is_oneway m.signature) (Tells o.node (message o x packet) x.into x.pc) _
        (λ _. may.tells o m packet to) (λ _. may.asks o m packet to))

    -- a send to an own object or to a peer
    by_target : (o : ObjectName) (m : Found) → IsFor r x o m →
        (not (is_own r.context.node o) && not (is_open r.context.node o.node)) ≡ false →
        (not (is_own r.context.node o) && not (is_known r.context.node o)) ≡ false →
        P (cond (is_own r.context.node o) (local_rule r.context.node o m x)
        (remote_rule r.context o m x))
    by_target o m is h k =
        let n = r.context.node in
        either P (is_own n o) (local_rule n o m x) (remote_rule r.context o m x)
        (λ own. either P (is_full n) (Fails Deep)
        (Begins o m.id (inputs m.signature x) x.into (outs_of m.signature x.from) x.pc)
        (λ _. fails Deep refl) (λ _. may.begins o m is own))
        (λ f. by_remote o m is (passed (is_own n o) (is_open n o.node) f h)
        (passed (is_own n o) (is_known n o) f k))

    -- any send
    pub by_send : P (send_rule r x)
    by_send =
        either P (is_nil x.target) (Goes x.into Nil x.pc) _ (λ _. may.goes)
        (λ _. found_or P (object x.target) (Fails TypeFault) _ (fails TypeFault refl)
        (λ o q. either P (not (is_own r.context.node o) && not (is_open r.context.node o.node))
        (Fails ConnectionDied) _ (λ _. fails ConnectionDied refl)
        (λ h. either P (not (is_own r.context.node o) && not (is_known r.context.node o))
        (Fails NotVended) _ (λ _. fails NotVended refl)
        (λ k. found_or P (method_for r.context.table (class_seen r.context o) x.selector)
        (Fails NotUnderstood) _ (fails NotUnderstood refl)
        (λ m found. either P (not (inputs_fit m.signature x.args)) (Fails TypeFault) _
        (λ _. fails TypeFault refl)
        (λ fit. by_target o m (record {
          target = q;
          method = found;
          fits = not_closed (inputs_fit m.signature x.args) fit;
        }) h k))))))
