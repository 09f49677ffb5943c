-- Where inputs of different nodes commute, a contradiction stands in every order.
use Rattle.do_base.specs.declared.events.event.Event.TheVariants as events
use Rattle.std.proofs.Common.{◌≡◌, ◌≢◌, true, ℕ, zero, suc, List, [], Option, Some, None, Err, refl}
use Rattle.std.{proofs.Common.{sym, ap, ◌∙◌, arith, subst, inl, inr}, specs.Prelude.slice_get}
use Rattle.std.proofs.lemmas.Bool.{cases_eq, cond-true}
use Rattle.do_base.specs.declared.events.event.Event.{Event}
use Rattle.do_machine.specs.{Step.step, declared.state.{Seat.Seat, State.State, Stepped.Stepped}}
use Rattle.do_record.specs.declared.parts.{Record.Record, RecordLine.RecordLine}
use Rattle.do_record.specs.declared.parts.RecordLine.TheVariants.{Close, Ended, Run, Start, Take}
use Rattle.do_weave.specs.Inputs.{ending, lines_of, shown_at, takes, tried, tried_step}
use Rattle.do_weave.specs.{Orders.{HasOrder, InputsCommute, IsReached}, Rules.Rules}
use Rattle.do_weave.specs.Threads.{advanced, is_cut, next_block}
use Rattle.do_weave.specs.Weaving.{Turn, Woven, agreed, agrees, before, contradiction, ended}
use Rattle.do_weave.specs.Weaving.{threads_after, turn_in, turn_of, turned, woven_in}
use Rattle.do_weave.specs.declared.{fault.WeaveFault.WeaveFault, thread.Thread.Thread}
use Rattle.do_weave.proofs.Found.{IsTurnOf, before_err, ended_none, found, no_error, none_found}
use Rattle.do_weave.proofs.{Found.parts, Orders.turn_again}
use Rattle.do_weave.proofs.{Places.{get_set_other, one_there, set_set_other}, Saying.chosen_is}
use Rattle.do_weave.proofs.Woven.{ThreadsApart, still_apart}

-- a turn at a place is one turn
one_turn : (R : Rules) (S : State) (records : List Record) (a b : Turn) → IsTurnOf R S records a →
    turn_of R S records a.place a.thread ≡ Some b → a ≡ b
one_turn R S records a b is e = one_there a b (sym (turn_again R records S a is) ∙ e)

module _ (R : Rules) (records : List Record) (seats : List Seat) where
  -- the state after an event that was tried is one of the world
  event_reached : (S : State) (e : Event) (s : Stepped) → IsReached R seats S →
      tried_step R S e ≡ Some s → IsReached R seats s.state
  event_reached S e s there was =
      subst (λ (x : Stepped). IsReached R seats x.state)
      (chosen_is (step R.table R.act S e).outcome.enabled (step R.table R.act S e) s was)
      (IsReached.by_event S e there)

  -- and so is that after an input
  input_reached : (S : State) (port : ℕ) (input : RecordLine) (s : Stepped) →
      IsReached R seats S → tried R S port input ≡ Some s → IsReached R seats s.state
  input_reached S port (Start selector values) s there was =
      event_reached S (events.Start port selector values) s there was
  input_reached S port Run s there was = event_reached S (events.Run port) s there was
  input_reached S port (Take from) s there was = event_reached S (events.Take port from) s there was
  input_reached S port (Close peer) s there was =
      event_reached S (events.Close port peer) s there was
  input_reached S port (Ended peer) s there was =
      let lost = events.Lose peer port 0 in
      subst (λ (x : Stepped). IsReached R seats x.state)
      (chosen_is (takes S port peer) (ending R S port peer) s was)
      (IsReached.by_event (step R.table R.act S lost).state (events.Take port peer)
      (IsReached.by_event S lost there))

  module _ (commute : InputsCommute R seats) where
    -- an enabled turn may come first: its block agrees, and the rest can still be done
    may_come_first : (n : ℕ) (S : State) (threads : List Thread) (turn : Turn) →
        IsReached R seats S → ThreadsApart threads →
        slice_get threads turn.place ≡ Some turn.thread → IsTurnOf R S records turn →
        HasOrder n R S records threads →
        (m : ℕ) × (n ≡ suc m) × (agreed records turn ≡ true)
        × HasOrder m R turn.stepped.state records (threads_after turn threads)
    may_come_first zero S threads turn there apart at is order =
        let none = (ended_none records threads [] order).1 turn.place turn.thread at in
        absurd (nothing (next_block records turn.thread) turn.block none is.next)
      where
        nothing : {X : Type 0} (o : Option X) (x : X) → o ≡ None → o ≡ Some x → ⊥
        nothing o x e f = cc
    may_come_first (suc n) S threads turn there apart at is order =
        let q = order.2 in
        let of_q = parts R S records order.0 order.1 q order.4 in
        elim (cases_eq turn.place order.0) [
          | inl same ↦ first q of_q same
          | inr other ↦ later of_q other
              (may_come_first n q.stepped.state (threads_after q threads))
        ]
      where
        first : (q : Turn) → (q.place ≡ order.0) × (q.thread ≡ order.1) × IsTurnOf R S records q →
            turn.place ≡ order.0 →
            (m : ℕ) × (suc n ≡ suc m) × (agreed records turn ≡ true)
            × HasOrder m R turn.stepped.state records (threads_after turn threads)
        first q of_q same =
            let same_thread : turn.thread ≡ order.1 = one_there turn.thread order.1
            (sym at ∙ ap (slice_get threads) same ∙ order.3) in
            let one : turn ≡ order.2 = one_turn R S records turn order.2 is
            (ap (λ n. turn_of R S records n turn.thread) same
            ∙ ap (turn_of R S records order.0) same_thread ∙ order.4) in (
              n,
              refl,
              ap (agreed records) one ∙ order.5,
              subst (λ (x : Turn). HasOrder n R x.stepped.state records (threads_after x threads))
                  (sym one) order.6,
            )

        later : (order.2.place ≡ order.0) × (order.2.thread ≡ order.1)
            × IsTurnOf R S records order.2 → turn.place ≢ order.0 →
            ((t : Turn) → IsReached R seats order.2.stepped.state →
            ThreadsApart (threads_after order.2 threads) →
            slice_get (threads_after order.2 threads) t.place ≡ Some t.thread →
            IsTurnOf R order.2.stepped.state records t →
            HasOrder n R order.2.stepped.state records (threads_after order.2 threads) →
            (m : ℕ) × (n ≡ suc m) × (agreed records t ≡ true)
            × HasOrder m R t.stepped.state records
            (threads_after t (threads_after order.2 threads))) →
            (m : ℕ) × (suc n ≡ suc m) × (agreed records turn ≡ true)
            × HasOrder m R turn.stepped.state records (threads_after turn threads)
        later of_q other ih =
            let q = order.2 in
            let at_q : slice_get threads q.place ≡ Some q.thread =
            ap (slice_get threads) of_q.0 ∙ order.3 ∙ ap Some (sym of_q.1) in
            let differ : turn.place ≢ q.place = λ e. other (e ∙ of_q.0) in
            let back : q.place ≢ turn.place = λ e. differ (sym e) in
            let ports = apart turn.place q.place turn.thread q.thread at at_q differ in
            let c = commute S turn.thread.port q.thread.port turn.block.input q.block.input
            turn.stepped q.stepped there ports is.was of_q.2.was in
            let t : Turn = record turn { stepped = c.first_later } in
            let r = ih t (input_reached S q.thread.port q.block.input q.stepped there of_q.2.was)
            (still_apart R records S threads apart q q.place at_q refl of_q.2)
            (get_set_other threads q.place turn.place (advanced q.thread) differ ∙ at)
            (record { next = is.next; was = c.first_is }) order.6 in
            let u : Turn = record q { stepped = c.second_later } in
            let lists : threads_after t (threads_after q threads)
            ≡ threads_after u (threads_after turn threads) =
            set_set_other threads q.place turn.place (advanced q.thread) (advanced turn.thread)
            back in
            let rest : HasOrder r.0 R c.second_later.state records
            (threads_after u (threads_after turn threads)) =
            subst (λ (T : State). HasOrder r.0 R T records
            (threads_after u (threads_after turn threads))) c.one_state
            (subst (λ (ts : List Thread). HasOrder r.0 R c.first_later.state records ts) lists r.3)
            in (
              n,
              refl,
              ap (λ shown. agrees (is_cut records turn.thread) (shown_at turn.thread.port shown)
                  turn.block.shown) (sym c.first_shows) ∙ r.2,
              subst (λ k. HasOrder k R turn.stepped.state records (threads_after turn threads))
                  (sym r.1) (
                    q.place,
                    q.thread,
                    u,
                    get_set_other threads turn.place q.place (advanced turn.thread) back ∙ at_q,
                    turn_again R records turn.stepped.state u
                        (record { next = of_q.2.next; was = c.second_is }),
                    ap (λ shown. agrees (is_cut records q.thread) (shown_at q.thread.port shown)
                        q.block.shown) c.second_shows ∙ order.5,
                    rest,
                  ),
            )

    -- a fault of the weaving leaves no order in which all could be done
    pub fault_stands : (n : ℕ) (S : State) (threads : List Thread) (fault : WeaveFault) →
        IsReached R seats S → ThreadsApart threads → woven_in n R S records threads ≡ Err fault →
        HasOrder n R S records threads → ⊥
    fault_stands zero S threads fault there apart e order = no_error fault [] (sym e ∙ order)
    fault_stands (suc n) S threads fault there apart e order =
        go (turn_in R S records 0 threads) refl e
        (λ turn. fault_stands n turn.stepped.state (threads_after turn threads) fault)
      where
        none : {X : Type 0} (o : Option X) (x : X) → o ≡ None → o ≡ Some x → ⊥
        none o x f g = cc

        go : (o : Option Turn) → turn_in R S records 0 threads ≡ o →
            ◌≡◌ {A = Woven} (elim o [
              | None ↦ ended records threads
              | Some turn ↦ turned records turn
                  (woven_in n R turn.stepped.state records (threads_after turn threads))
            ]) (Err fault) →
            ((turn : Turn) → IsReached R seats turn.stepped.state →
            ThreadsApart (threads_after turn threads) →
            woven_in n R turn.stepped.state records (threads_after turn threads) ≡ Err fault →
            HasOrder n R turn.stepped.state records (threads_after turn threads) → ⊥) → ⊥
        go None is f later = none (turn_of R S records order.0 order.1) order.2
            (ap (λ k. turn_of R S records k order.1) (omega arith)
            ∙ none_found R S records 0 threads order.0 order.1 is order.3) order.4
        go (Some turn) is f later =
            let p = found R S records 0 threads turn is in
            let at : slice_get threads turn.place ≡ Some turn.thread =
            ap (slice_get threads) (p.2 ∙ omega arith) ∙ p.1 in
            let r = may_come_first (suc n) S threads turn there apart at p.3 order in
            let same : n ≡ r.0 = omega (arith, r.1) in
            let rest = woven_in n R turn.stepped.state records (threads_after turn threads) in
            let out = before_err (lines_of turn.thread.port turn.block.input) rest fault
            (sym (cond-true (agreed records turn)
            (before (lines_of turn.thread.port turn.block.input) rest)
            (Err (contradiction turn.thread turn.block)) r.2) ∙ f) in
            later turn
            (input_reached S turn.thread.port turn.block.input turn.stepped there p.3.was)
            (still_apart R records S threads apart turn turn.place at refl p.3) out
            (subst (λ k. HasOrder k R turn.stepped.state records (threads_after turn threads))
            (sym same) r.3)
