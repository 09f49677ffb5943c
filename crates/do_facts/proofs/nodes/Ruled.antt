-- What the rules say of each verdict: over which ends it sends, what begins, and what is written.
use Rattle.do_behave.specs.declared.act.Act.TheVariants as acts
use Rattle.do_behave.specs.declared.invocation.InvState.TheVariants as states
use Rattle.do_machine.specs.declared.verdict.Request.TheVariants as requests
use Rattle.std.proofs.Common.{◌≡◌, ◌∙◌, ℕ, true, cond, List, [], ◌∷◌, refl, ap, sym, length, ◌≤◌}
use Rattle.do_base.specs.names.Names.{ObjectName}
use Rattle.do_behave.specs.declared.{act.Act.Act, invocation.Answer.Answer}
use Rattle.do_behave.specs.declared.invocation.Answer.TheVariants.{Given, Raised}
use Rattle.do_behave.specs.declared.invocation.{Invocation.Invocation, InvState.InvState}
use Rattle.do_class.specs.declared.packet.Packet.{Packet}
use Rattle.do_machine.specs.declared.verdict.{SendAct.SendAct, Verdict.Verdict}
use Rattle.do_machine.specs.declared.verdict.Verdict.TheVariants.{Asks, Begins, Steps, Tells}
use Rattle.do_machine.specs.{declared.item.Message.Message, lend.Lending.lends_of}
use Rattle.do_packet.specs.Limits.{most_names}
use Rattle.do_machine.specs.Context.{Found, RunContext, method_for, own_class}
use Rattle.do_machine.specs.{State.{is_known, is_open}, run.Acts.act_rule}
use Rattle.do_machine.specs.run.{Run.{answer_rule, next_act}, Send.{arguments, message}}
use Rattle.do_facts.proofs.nodes.Messages.{IsMessage}
use Rattle.do_facts.proofs.RulesOfActs.{IsToPeer, Sends, by_return, by_root, by_send, by_vend}
use Rattle.do_facts.proofs.{links.TokensOfMessages.names_lent, Chains.both_pass}
use Rattle.do_facts.specs.nodes.{Judged.{IsBegun, Judge, run_of}, Moves.{Top, Wrote}}
use Rattle.do_facts.proofs.nodes.Sending.{few_lent}

-- what a verdict on an invocation writes
abbrev pub wrote_in : Invocation → Verdict → List Wrote
wrote_in i (Steps pc locals handler writes) =
    record { serial = i.object.serial; writes = writes } ∷ []
wrote_in i _ = []

-- what an act of it writes: only a step has any
abbrev pub wrote_of : Invocation → Act → List Wrote
wrote_of i (acts.Step pc locals handler writes) =
    record { serial = i.object.serial; writes = writes } ∷ []
wrote_of i _ = []

-- what an invocation of a state writes: one that waits, or has an answer to use, does no act
abbrev pub wrote_at : Invocation → InvState → Act → List Wrote
wrote_at i states.Running a = wrote_of i a
wrote_at i _ a = []

-- what a run by a stack writes
abbrev pub run_wrote : Judge → List Invocation → List Wrote
run_wrote j [] = []
run_wrote j (i ∷ is) =
    wrote_at i i.state (next_act j.act (run_of j (record { top = i; below = is })))

module _ (j : Judge) (t : Top) where
  -- what the run is judged by
  abbrev r : RunContext
  r = run_of j t

  -- a message goes over an open end, names what may be named, and lends no more than it may name
  abbrev pub MayBeSent : ℕ → Message → Type 0
  MayBeSent to m =
      (is_open j.first to ≡ true) × IsMessage j.first to m
      × (length (lends_of to m.packet) ≤ most_names)

  -- what an act comes to: what is sent goes over an open end and names what may be named, what
  -- begins is a method, and only a step writes
  abbrev pub IsRuled : Act → Verdict → Type 0
  IsRuled a (Begins o method values into outs pc) = IsBegun j o method values
  IsRuled a (Steps pc locals handler writes) =
      (t.top.state ≡ states.Running) × (a ≡ acts.Step pc locals handler writes)
  IsRuled a (Asks to requests.Root into outs pc) = is_open j.first to ≡ true
  IsRuled a (Asks to (requests.Call method m) into outs pc) = MayBeSent to m
  IsRuled a (Tells to m into pc) = MayBeSent to m
  IsRuled a v = Unit {0}

  -- so it is with a verdict that writes nothing
  abbrev Still : Act → Verdict → Type 0
  Still a v = IsRuled a v × (wrote_in t.top v ≡ [])

  -- a message to a peer
  to_peer : (x : SendAct) (o : ObjectName) (m : Found) (packet : Packet) →
      IsToPeer r x o m packet → MayBeSent o.node (message o x packet)
  to_peer x o m packet to = (
    to.ends,
    (
      both_pass (is_known j.first o) (is_open j.first o.node) to.known to.ends,
      names_lent r.context o.node (arguments m.signature x) packet to.packed,
    ),
    few_lent r.context o.node (arguments m.signature x) packet to.packed,
  )

  -- a send
  sends : (a : Act) (x : SendAct) → Sends (Still a) r x
  sends a x = record {
    goes = (tt, refl);
    begins = λ o m is own. (
      record {
        found = m;
        send = x;
        own = own;
        method_found =
            ap (λ b. method_for j.table
            (cond b (own_class j.first o.serial) (j.sees.class_of o)) x.selector) (sym own)
            ∙ is.method;
        fits = is.fits;
        method_is = refl;
        values_are = refl;
      },
      refl,
    );
    tells = λ o m packet to. (to_peer x o m packet to, refl);
    asks = λ o m packet to. (to_peer x o m packet to, refl);
  }

  -- any act
  pub by_act : t.top.state ≡ states.Running → (a : Act) →
      IsRuled a (act_rule r a) × (wrote_in t.top (act_rule r a) ≡ wrote_of t.top a)
  by_act running (acts.Send target selector args into from pc) =
      let a : Act = acts.Send target selector args into from pc in
      let x : SendAct = record {
        target = target;
        selector = selector;
        args = args;
        into = into;
        from = from;
        pc = pc;
      } in
      by_send (Still a) r (λ e h. (tt, refl)) x (sends a x)
  by_act running (acts.Root port into pc) =
      by_root (Still (acts.Root port into pc)) r (λ e h. (tt, refl)) port into pc (tt, refl)
      (λ peer o. (o, refl))
  by_act running (acts.Vend value pc) =
      by_vend (Still (acts.Vend value pc)) r (λ e h. (tt, refl)) value pc (λ root. (tt, refl))
  by_act running (acts.Return value) =
      by_return (Still (acts.Return value)) r (λ e h. (tt, refl)) value (λ s. (tt, refl))
      (λ s. (tt, refl))
  by_act running (acts.Step pc locals handler writes) =
      ((running, refl), refl)
  by_act running (acts.New class into pc) = (tt, refl)
  by_act running (acts.Say value pc) = (tt, refl)
  by_act running (acts.Raise e) = (tt, refl)

  -- an answer that is used
  pub by_answer : (act : Act) (a : Answer) →
      IsRuled act (answer_rule a) × (wrote_in t.top (answer_rule a) ≡ [])
  by_answer act (Given v outs) = (tt, refl)
  by_answer act (Raised e) = (tt, refl)
