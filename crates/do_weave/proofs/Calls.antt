-- What the calls of a turn say together.
use Rattle.std.proofs.Common.{◌≡◌, Bool, true, false, ℕ, suc, ◌<◌, List, ◌++◌, Option, Some, None}
use Rattle.std.proofs.Common.{Err, refl, sym, ap, ◌∙◌, drop, get_or, length}
use Rattle.std.specs.Prelude.{option_and_then, option_map, slice_set}
use Rattle.do_machine.specs.declared.state.{State.State, Stepped.Stepped}
use Rattle.do_record.specs.declared.parts.{Block.Block, Record.Record}
use Rattle.do_sched.specs.declared.line.Line.{Line}
use Rattle.do_trace.specs.declared.outcome.Outcome.{Outcome}
use Rattle.do_weave.specs.{Inputs.{lines_of, shown_at, tried}, Rules.Rules, Telling.DoesThread}
use Rattle.do_weave.specs.Telling.{DoesTurn, HasTried, Tells, ThreadCall, TurnCall, woven_with}
use Rattle.do_weave.specs.{Threads.{advanced, is_cut, next_block}, Weaving.{Turn, Woven, agreed}}
use Rattle.do_weave.specs.Weaving.{agrees, before, contradiction, threads_after, turn_in, turn_of}
use Rattle.do_weave.specs.{Weaving.woven_in, declared.fault.WeaveFault.WeaveFault}
use Rattle.do_weave.specs.declared.fault.WeaveFault.TheVariants.{Contradiction, Memory}
use Rattle.do_weave.{specs.declared.thread.Thread.Thread, proofs.Turning.{before_before, chosen}}
use Rattle.do_weave.proofs.Turning.{turn_place, woven_agreed, woven_disagreed}

-- A thread had its turn, and whether its block agreed.
pub record HadTurn (Stands : State → Type 0) (R : Rules) (S : State) (records : List Record)
    (place : ℕ) (t : Thread) (b : Block) (same : Bool) : Type 0 where
  pub turn : Turn
  pub is : turn_of R S records place t ≡ Some turn
  pub agreed_is : agreed records turn ≡ same
  pub stands : Stands turn.stepped.state
  pub thread_is : turn.thread ≡ t
  pub block_is : turn.block ≡ b

module _ (Stands : State → Type 0) (R : Rules) (S : State) (records : List Record) (place : ℕ)
    (t : Thread) where
  -- a thread whose block's input was enabled had its turn
  pub had_turn : (b : Block) (o : Outcome) (cut same : Bool) → next_block records t ≡ Some b →
      HasTried Stands S (tried R S t.port b.input) (Some o) → cut ≡ is_cut records t →
      same ≡ agrees cut (shown_at t.port o.shown) b.shown →
      HadTurn Stands R S records place t b same
  had_turn b o cut same next had cut_is same_is = go (tried R S t.port b.input) refl had
    where
      go : (s : Option Stepped) → tried R S t.port b.input ≡ s → HasTried Stands S s (Some o) →
          HadTurn Stands R S records place t b same
      go None e h = absurd h
      go (Some s) e h = record {
        turn = record { place = place; thread = t; block = b; stepped = s };
        is = ap (λ x. option_and_then (λ b. option_map
            (λ s. record { place = place; thread = t; block = b; stepped = s })
            (tried R S t.port b.input)) x) next
            ∙ ap (option_map (λ s. record { place = place; thread = t; block = b; stepped = s })) e;
        agreed_is = ap (λ k. agrees k (shown_at t.port s.outcome.shown) b.shown) (sym cut_is)
            ∙ ap (λ shown. agrees cut (shown_at t.port shown) b.shown) (sym h.1) ∙ sym same_is;
        stands = h.2;
        thread_is = refl;
        block_is = refl;
      }

module _ (R : Rules) (S : State) (records : List Record) (threads : List Thread) (place : ℕ)
    (t : Thread) (turn : Turn) (within : place < length threads) (is : t ≡ get_or threads place t)
    (passed : turn_in R S records 0 threads ≡ turn_in R S records place (drop place threads))
    (some : turn_of R S records place t ≡ Some turn) where
  -- the thread's turn is the turn
  the_turn : turn_in R S records 0 threads ≡ Some turn
  the_turn = passed ∙ chosen R S records threads place t turn within is some

  -- what is woven goes on behind the turn's lines
  pub goes_on : (after : Thread) (all : List Thread) (lines more : List Line) →
      agreed records turn ≡ true → after ≡ advanced turn.thread →
      all ≡ slice_set threads place after →
      more ≡ lines ++ lines_of turn.thread.port turn.block.input → (turns : ℕ) →
      before lines (woven_in (suc turns) R S records threads)
      ≡ before more (woven_in turns R turn.stepped.state records all)
  goes_on after all lines more same after_is all_is more_is turns =
      let here : threads_after turn threads ≡ all =
      ap (λ n. slice_set threads n (advanced turn.thread))
      (turn_place R S records place t turn some).0
      ∙ ap (slice_set threads place) (sym after_is) ∙ sym all_is in
      ap (before lines) (woven_agreed R S records threads turns turn the_turn same)
      ∙ before_before lines (lines_of turn.thread.port turn.block.input)
      (woven_in turns R turn.stepped.state records (threads_after turn threads))
      ∙ ap (λ ls. before ls
      (woven_in turns R turn.stepped.state records (threads_after turn threads))) (sym more_is)
      ∙ ap (λ ts. before more (woven_in turns R turn.stepped.state records ts)) here

  -- or the turn's block contradicts
  pub contradicts : (lines : List Line) (fault : WeaveFault) → agreed records turn ≡ false →
      contradiction turn.thread turn.block ≡ fault → (turns : ℕ) →
      before lines (woven_in (suc turns) R S records threads) ≡ Err fault
  contradicts lines fault other e turns =
      ap (before lines) (woven_disagreed R S records threads turns turn the_turn other) ∙ ap Err e

-- a thread whose turn failed fails the turn
pub fails_turn : (Stands After : State → Type 0) (R : Rules) (S : State) (records : List Record)
    (threads : List Thread) (place : ℕ) (t : Thread) → place < length threads →
    t ≡ get_or threads place t →
    turn_in R S records 0 threads ≡ turn_in R S records place (drop place threads) →
    (tc : ThreadCall) (all : List Thread) (lines more : List Line) (fault : WeaveFault) →
    DoesThread Stands (turn_of R S records place t) S records tc (Err fault) →
    DoesTurn After R S records (record {
      threads_before = threads;
      threads_after = all;
      lines_before = lines;
      lines_after = more;
    }) (Err fault)
fails_turn Stands After R S records threads place t within is passed tc all lines more
    (Contradiction index line) d = λ turns.
    contradicts R S records threads place t d.0 within is passed d.1 lines
    (Contradiction index line) d.2 d.3 turns
fails_turn Stands After R S records threads place t within is passed tc all lines more Memory d = tt

-- a turn that failed fails the weaving
pub fails_weaving : (Stands : State → Type 0) (R : Rules) (T : State) (records : List Record)
    (c : TurnCall) (turns : ℕ) (w : Woven) (fault : WeaveFault) →
    DoesTurn Stands R T records c (Err fault) → w ≡ woven_with R T records c turns →
    Tells w (Err fault)
fails_weaving Stands R T records c turns w (Contradiction index line) d e = e ∙ d turns
fails_weaving Stands R T records c turns w Memory d e = tt
