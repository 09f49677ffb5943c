-- What one turn comes to.
use Rattle.std.proofs.Common.{◌≡◌, true, false, ℕ, suc, ◌+◌, ◌<◌, List, [], ◌++◌, Option, Some}
use Rattle.std.proofs.Common.{None, Ok, Err, refl, sym, ap, ◌∙◌, drop, get_or, append_assoc, length}
use Rattle.std.{proofs.Common.{drop-cons, add-one}, specs.Prelude.{option_and_then, option_map}}
use Rattle.std.proofs.lemmas.Bool.{cond-false, cond-true}
use Rattle.do_machine.specs.declared.state.{State.State, Stepped.Stepped}
use Rattle.do_record.specs.declared.parts.{Block.Block, Record.Record}
use Rattle.do_sched.specs.declared.line.Line.{Line}
use Rattle.do_weave.specs.{Inputs.{lines_of, tried}, Rules.Rules, Threads.next_block}
use Rattle.do_weave.specs.Weaving.{Turn, Woven, agreed, before, contradiction, ended, or_turn}
use Rattle.do_weave.specs.Weaving.{threads_after, turn_in, turn_of, turned, woven_in}
use Rattle.do_weave.specs.declared.thread.Thread.{Thread}

-- lines before lines
pub before_before : (xs ys : List Line) (w : Woven) → before xs (before ys w) ≡ before (xs ++ ys) w
before_before xs ys (Ok more) = ap Ok (sym (append_assoc xs ys more))
before_before xs ys (Err fault) = refl

-- no lines before
pub before_none : (w : Woven) → before [] w ≡ w
before_none (Ok more) = refl
before_none (Err fault) = refl

module _ (R : Rules) (S : State) (records : List Record) where
  -- what is woven where no thread has a turn
  pub woven_none : (threads : List Thread) (turns : ℕ) → turn_in R S records 0 threads ≡ None →
      woven_in (suc turns) R S records threads ≡ ended records threads
  woven_none threads turns e = ap (λ o. elim o [
    | None ↦ ended records threads
    | Some turn ↦ turned records turn
        (woven_in turns R turn.stepped.state records (threads_after turn threads))
  ]) e

  -- what is woven where one has
  woven_some : (threads : List Thread) (turns : ℕ) (t : Turn) →
      turn_in R S records 0 threads ≡ Some t → woven_in (suc turns) R S records threads
      ≡ turned records t (woven_in turns R t.stepped.state records (threads_after t threads))
  woven_some threads turns t e = ap (λ o. elim o [
    | None ↦ ended records threads
    | Some turn ↦ turned records turn
        (woven_in turns R turn.stepped.state records (threads_after turn threads))
  ]) e

  -- and its block agrees
  pub woven_agreed : (threads : List Thread) (turns : ℕ) (t : Turn) →
      turn_in R S records 0 threads ≡ Some t → agreed records t ≡ true →
      woven_in (suc turns) R S records threads
      ≡ before (lines_of t.thread.port t.block.input)
      (woven_in turns R t.stepped.state records (threads_after t threads))
  woven_agreed threads turns t e same = woven_some threads turns t e
      ∙ cond-true (agreed records t) (before (lines_of t.thread.port t.block.input)
      (woven_in turns R t.stepped.state records (threads_after t threads)))
      (Err (contradiction t.thread t.block)) same

  -- or does not
  pub woven_disagreed : (threads : List Thread) (turns : ℕ) (t : Turn) →
      turn_in R S records 0 threads ≡ Some t → agreed records t ≡ false →
      woven_in (suc turns) R S records threads ≡ Err (contradiction t.thread t.block)
  woven_disagreed threads turns t e other = woven_some threads turns t e
      ∙ cond-false (agreed records t) (before (lines_of t.thread.port t.block.input)
      (woven_in turns R t.stepped.state records (threads_after t threads)))
      (Err (contradiction t.thread t.block)) other

  -- a thread that has no turn is passed over
  pub passed : (threads : List Thread) (place : ℕ) (t : Thread) → place < length threads →
      t ≡ get_or threads place t → turn_of R S records place t ≡ None →
      turn_in R S records place (drop place threads)
      ≡ turn_in R S records (place + 1) (drop (place + 1) threads)
  passed threads place t within is none =
      ap (turn_in R S records place) (drop-cons threads place t within)
      ∙ ap (λ o. or_turn o (turn_in R S records (place + 1) (drop (suc place) threads)))
      (ap (turn_of R S records place) (sym is) ∙ none)
      ∙ ap (λ n. turn_in R S records (place + 1) (drop n threads)) (sym (add-one place))

  -- a thread that has one is the first
  pub chosen : (threads : List Thread) (place : ℕ) (t : Thread) (turn : Turn) →
      place < length threads → t ≡ get_or threads place t →
      turn_of R S records place t ≡ Some turn →
      turn_in R S records place (drop place threads) ≡ Some turn
  chosen threads place t turn within is some =
      ap (turn_in R S records place) (drop-cons threads place t within)
      ∙ ap (λ o. or_turn o (turn_in R S records (place + 1) (drop (suc place) threads)))
      (ap (turn_of R S records place) (sym is) ∙ some)

  -- a turn has the place that it was looked for
  pub turn_place : (place : ℕ) (t : Thread) (turn : Turn) →
      turn_of R S records place t ≡ Some turn →
      (turn.place ≡ place) × (turn.thread ≡ t)
  turn_place place t turn e = go (next_block records t) e
    where
      inner : (b : Block) (o : Option Stepped) →
          option_map (λ s. record { place = place; thread = t; block = b; stepped = s }) o
          ≡ Some turn → (turn.place ≡ place) × (turn.thread ≡ t)
      inner b None f = absurd (cc)
      inner b (Some s) f = (
        ap (λ (x : Option Turn). elim x [ None ↦ place | Some y ↦ y.place ]) (sym f),
        ap (λ (x : Option Turn). elim x [ None ↦ t | Some y ↦ y.thread ]) (sym f),
      )

      go : (b : Option Block) →
          option_and_then (λ b. option_map
          (λ s. record { place = place; thread = t; block = b; stepped = s })
          (tried R S t.port b.input)) b ≡ Some turn → (turn.place ≡ place) × (turn.thread ≡ t)
      go None f = absurd (cc)
      go (Some b) f = inner b (tried R S t.port b.input) f
