-- A schedule that was woven gives each record again.
use Rattle.std.proofs.Common.{◌≡◌, ◌≢◌, true, ℕ, zero, suc, List, ◌++◌, Option, Some, None, Ok, Err}
use Rattle.std.proofs.Common.{refl, sym, ap, ◌∙◌, arith, subst, inl, inr}
use Rattle.std.specs.Prelude.{option_and_then, slice_get, slice_set}
use Rattle.std.proofs.lemmas.Bool.{cases_Bool, cases_eq, cond-false, cond-true}
use Rattle.do_machine.specs.{check.Blocks.blocks, declared.state.State.State}
use Rattle.do_record.specs.declared.parts.Record.{Record}
use Rattle.do_sched.specs.declared.line.Line.{Line}
use Rattle.do_weave.specs.{Inputs.{lines_of, shown_at}, Rules.Rules, Said.{AreSaid, said_at}}
use Rattle.do_weave.specs.{Threads.{advanced, is_cut_in, next_block}, Weaving.{Turn, Woven, agreed}}
use Rattle.do_weave.specs.Weaving.{agrees, before, contradiction, ended, threads_after, turn_in}
use Rattle.do_weave.specs.{Weaving.{turned, woven_in}, declared.thread.Thread.Thread}
use Rattle.do_weave.proofs.Found.{IsTurnOf, before_ok, ended_none, found, no_error}
use Rattle.do_weave.proofs.Places.{get_none, get_set_other, get_set_same, one_there}
use Rattle.do_weave.proofs.Saying.{other_lines, own_lines}

-- no two threads are of one node
abbrev pub ThreadsApart : List Thread → Type 0
ThreadsApart threads = (j k : ℕ) (t u : Thread) → slice_get threads j ≡ Some t →
    slice_get threads k ≡ Some u → j ≢ k → t.port ≢ u.port

module _ (R : Rules) (records : List Record) where
  -- what lines say of a thread's node is what is left of its record
  abbrev pub ThreadSaid : State → List Line → Thread → Type 0
  ThreadSaid S lines t = (r : Record) → slice_get records t.index ≡ Some r →
      AreSaid r t.at (said_at t.port None (blocks R.table R.act S lines))

  -- and that holds for each thread
  abbrev pub AllSaid : State → List Line → List Thread → Type 0
  AllSaid S lines threads = (k : ℕ) (t : Thread) → slice_get threads k ≡ Some t →
      ThreadSaid S lines t

  -- the next block of a thread, by its record
  next_is : (t : Thread) (r : Record) → slice_get records t.index ≡ Some r →
      next_block records t ≡ slice_get r.blocks t.at
  next_is t r there = ap (option_and_then (λ (r : Record). slice_get r.blocks t.at)) there

  -- where nothing is left, nothing more is said
  at_end : (S : State) (threads : List Thread) (lines : List Line) →
      ended records threads ≡ Ok lines → AllSaid S lines threads
  at_end S threads lines e k t there r record_is =
      let n = ended_none records threads lines e in
      let none = sym (next_is t r record_is) ∙ n.1 k t there in
      subst (λ ls. AreSaid r t.at (said_at t.port None (blocks R.table R.act S ls))) (sym n.0)
      (get_none r.blocks t.at none)

  module _ (S : State) (threads : List Thread) (apart : ThreadsApart threads) (turn : Turn)
      (place : ℕ)
      (there : slice_get threads place ≡ Some turn.thread) (place_is : turn.place ≡ place)
      (is : IsTurnOf R S records turn) where
    -- the threads then, at the thread's place
    after_same : slice_get (threads_after turn threads) place ≡ Some (advanced turn.thread)
    after_same = ap (λ n. slice_get (slice_set threads n (advanced turn.thread)) place) place_is
        ∙ get_set_same threads place turn.thread (advanced turn.thread) there

    -- and at another
    after_other : (k : ℕ) → k ≢ place →
        slice_get (threads_after turn threads) k ≡ slice_get threads k
    after_other k other =
        ap (λ n. slice_get (slice_set threads n (advanced turn.thread)) k) place_is
        ∙ get_set_other threads place k (advanced turn.thread) other

    -- each thread has the port that it had
    before_port : (k : ℕ) (t : Thread) → slice_get (threads_after turn threads) k ≡ Some t →
        (u : Thread) × (slice_get threads k ≡ Some u) × (u.port ≡ t.port)
    before_port k t e = elim (cases_eq k place) [
      | inr other ↦ (t, sym (after_other k other) ∙ e, refl)
      | inl same ↦ (
        turn.thread,
        ap (slice_get threads) same ∙ there,
        ap (λ (u : Thread). u.port) (one_there (advanced turn.thread) t
            (sym after_same ∙ ap (slice_get (threads_after turn threads)) (sym same) ∙ e)),
      )
    ]

    -- no two threads are of one node then
    pub still_apart : ThreadsApart (threads_after turn threads)
    still_apart j k t u e f other same =
        let a = before_port j t e in
        let b = before_port k u f in
        apart j k a.0 b.0 a.1 b.1 other (a.2 ∙ same ∙ sym b.2)

    -- one turn said, all is
    one_more : (more lines : List Line) → agreed records turn ≡ true →
        lines ≡ lines_of turn.thread.port turn.block.input ++ more →
        AllSaid turn.stepped.state more (threads_after turn threads) → AllSaid S lines threads
    one_more more lines same lines_is later k t here r record_is =
        subst (λ ls. AreSaid r t.at (said_at t.port None (blocks R.table R.act S ls)))
        (sym lines_is)
        (elim (cases_eq k place) [
          | inl at ↦ own at
          | inr other ↦ rest other
        ])
      where
        port : ℕ
        port = turn.thread.port

        rest : k ≢ place → AreSaid r t.at
            (said_at t.port None (blocks R.table R.act S
            (lines_of turn.thread.port turn.block.input ++ more)))
        rest other = subst (AreSaid r t.at)
            (sym (other_lines R S turn.thread.port more turn.block.input turn.stepped t.port
            (λ e. apart k place t turn.thread here there other (sym e)) is.was))
            (later k t (after_other k other ∙ here) r record_is)

        own : k ≡ place → AreSaid r t.at
            (said_at t.port None (blocks R.table R.act S
            (lines_of turn.thread.port turn.block.input ++ more)))
        own at =
            let same_thread : turn.thread ≡ t = one_there turn.thread t
            (sym there ∙ ap (slice_get threads) (sym at) ∙ here) in
            let found_there : slice_get records turn.thread.index ≡ Some r =
            ap (λ (u : Thread). slice_get records u.index) same_thread ∙ record_is in
            subst (λ (u : Thread). AreSaid r u.at (said_at u.port None
            (blocks R.table R.act S (lines_of turn.thread.port turn.block.input ++ more))))
            same_thread
            (subst (AreSaid r turn.thread.at)
            (sym (own_lines R S turn.thread.port more turn.block.input turn.stepped is.was)) (
              turn.block,
              sym (next_is turn.thread r found_there) ∙ is.next,
              refl,
              ap
                  (λ c. agrees c (shown_at turn.thread.port turn.stepped.outcome.shown)
                  turn.block.shown)
                  (ap (is_cut_in turn.thread.at) (sym found_there)) ∙ same,
              later place (advanced turn.thread) after_same r found_there,
            ))

  -- what is woven says of each thread what is left of its record
  pub all_said : (turns : ℕ) (S : State) (threads : List Thread) (lines : List Line) →
      ThreadsApart threads → woven_in turns R S records threads ≡ Ok lines → AllSaid S lines threads
  all_said zero S threads lines apart e = at_end S threads lines e
  all_said (suc turns) S threads lines apart e =
      go (turn_in R S records 0 threads) refl e
      (λ turn more a f. all_said turns turn.stepped.state (threads_after turn threads) more a f)
    where
      agreeing : (turn : Turn) → turn_in R S records 0 threads ≡ Some turn → (more : List Line) →
          lines ≡ lines_of turn.thread.port turn.block.input ++ more →
          agreed records turn ≡ true → (ThreadsApart (threads_after turn threads) →
          AllSaid turn.stepped.state more (threads_after turn threads)) → AllSaid S lines threads
      agreeing turn is more lines_is same later =
          let p = found R S records 0 threads turn is in
          one_more S threads apart turn p.0 p.1 (p.2 ∙ omega arith) p.3 more lines same lines_is
          (later (still_apart S threads apart turn p.0 p.1 (p.2 ∙ omega arith) p.3))

      go : (o : Option Turn) → turn_in R S records 0 threads ≡ o →
          ◌≡◌ {A = Woven} (elim o [
            | None ↦ ended records threads
            | Some turn ↦ turned records turn
                (woven_in turns R turn.stepped.state records (threads_after turn threads))
          ]) (Ok lines) →
          ((turn : Turn) (more : List Line) → ThreadsApart (threads_after turn threads) →
          woven_in turns R turn.stepped.state records (threads_after turn threads) ≡ Ok more →
          AllSaid turn.stepped.state more (threads_after turn threads)) → AllSaid S lines threads
      go None is f later = at_end S threads lines f
      go (Some turn) is f later = elim (cases_Bool (agreed records turn)) [
        | inr differs ↦
            let out = sym (cond-false (agreed records turn)
            (before (lines_of turn.thread.port turn.block.input)
            (woven_in turns R turn.stepped.state records (threads_after turn threads)))
            (Err (contradiction turn.thread turn.block)) differs) ∙ f in
            absurd (no_error (contradiction turn.thread turn.block) lines out)
        | inl same ↦
            let out = sym (cond-true (agreed records turn)
            (before (lines_of turn.thread.port turn.block.input)
            (woven_in turns R turn.stepped.state records (threads_after turn threads)))
            (Err (contradiction turn.thread turn.block)) same) ∙ f in
            let b = before_ok (lines_of turn.thread.port turn.block.input)
            (woven_in turns R turn.stepped.state records (threads_after turn threads)) lines out in
            agreeing turn is b.0 b.2 same (λ a. later turn b.0 a b.1)
      ]
