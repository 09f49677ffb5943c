-- The parts of a turn that is found.
use Rattle.std.proofs.Common.{◌≡◌, ℕ, zero, suc, ◌+◌, List, [], ◌∷◌, ◌++◌, Option, Some, None, Ok}
use Rattle.std.proofs.Common.{Err, refl, sym, ap, ◌∙◌, arith, subst}
use Rattle.std.specs.Prelude.{option_and_then, option_map, slice_get}
use Rattle.do_machine.specs.declared.state.{State.State, Stepped.Stepped}
use Rattle.do_record.specs.declared.parts.{Block.Block, Record.Record}
use Rattle.do_sched.specs.declared.line.Line.{Line}
use Rattle.do_weave.specs.{Inputs.tried, Rules.Rules, Threads.next_block, Weaving.{Turn, Woven}}
use Rattle.do_weave.specs.Weaving.{before, ended, or_turn, turn_in, turn_of, unless_left}
use Rattle.do_weave.specs.declared.{fault.WeaveFault.WeaveFault, thread.Thread.Thread}
use Rattle.do_weave.proofs.Places.{one_there}

-- A turn of a thread: its block is the next one, and what it came to was tried.
pub record IsTurnOf (R : Rules) (S : State) (records : List Record) (turn : Turn) : Type 0 where
  pub next : next_block records turn.thread ≡ Some turn.block
  pub was : tried R S turn.thread.port turn.block.input ≡ Some turn.stepped

module _ (R : Rules) (S : State) (records : List Record) where
  -- the parts of a thread's turn
  pub parts : (place : ℕ) (t : Thread) (turn : Turn) → turn_of R S records place t ≡ Some turn →
      (turn.place ≡ place) × (turn.thread ≡ t) × IsTurnOf R S records turn
  parts place t turn e = go (next_block records t) refl e
    where
      whole : (b : Block) → next_block records t ≡ Some b → (o : Option Stepped) →
          tried R S t.port b.input ≡ o →
          option_map (λ s. record { place = place; thread = t; block = b; stepped = s }) o
          ≡ Some turn →
          (turn.place ≡ place) × (turn.thread ≡ t) × IsTurnOf R S records turn
      whole b next None was f = absurd (cc)
      whole b next (Some s) was f =
          same (record { place = place; thread = t; block = b; stepped = s })
          (one_there _ turn f) refl refl (record { next = next; was = was })
        where
          same : (x : Turn) → x ≡ turn → x.place ≡ place → x.thread ≡ t → IsTurnOf R S records x →
              (turn.place ≡ place) × (turn.thread ≡ t) × IsTurnOf R S records turn
          same x is p q h = (
            ap (λ (y : Turn). y.place) (sym is) ∙ p,
            ap (λ (y : Turn). y.thread) (sym is) ∙ q,
            subst (IsTurnOf R S records) is h,
          )

      go : (b : Option Block) → next_block records t ≡ b →
          option_and_then (λ b. option_map
          (λ s. record { place = place; thread = t; block = b; stepped = s })
          (tried R S t.port b.input)) b ≡ Some turn →
          (turn.place ≡ place) × (turn.thread ≡ t) × IsTurnOf R S records turn
      go None next f = absurd (cc)
      go (Some b) next f = whole b next (tried R S t.port b.input) refl f

  -- where the turn that is found stands
  pub found : (place : ℕ) (threads : List Thread) (turn : Turn) →
      turn_in R S records place threads ≡ Some turn →
      (k : ℕ) × (slice_get threads k ≡ Some turn.thread) × (turn.place ≡ place + k)
      × IsTurnOf R S records turn
  found place [] turn e = absurd (cc)
  found place (t ∷ ts) turn e =
      go (turn_of R S records place t) refl e (found (place + 1) ts turn)
    where
      go : (o : Option Turn) → turn_of R S records place t ≡ o →
          or_turn o (turn_in R S records (place + 1) ts) ≡ Some turn →
          (turn_in R S records (place + 1) ts ≡ Some turn →
          (k : ℕ) × (slice_get ts k ≡ Some turn.thread) × (turn.place ≡ (place + 1) + k)
          × IsTurnOf R S records turn) →
          (k : ℕ) × (slice_get (t ∷ ts) k ≡ Some turn.thread) × (turn.place ≡ place + k)
          × IsTurnOf R S records turn
      go None is f later = let r = later f in (suc r.0, r.1, r.2 ∙ omega arith, r.3)
      go (Some x) is f later =
          let p = parts place t turn (is ∙ f) in
          (0, ap Some (sym p.1), p.0 ∙ omega arith, p.2)

-- where nothing contradicts at the end, no line is left
pub ended_none : (records : List Record) (threads : List Thread) (lines : List Line) →
    ended records threads ≡ Ok lines →
    (lines ≡ []) × ((k : ℕ) (t : Thread) → slice_get threads k ≡ Some t →
    next_block records t ≡ None)
ended_none records [] lines e = (cc, λ k t there. absurd (cc))
ended_none records (t ∷ ts) lines e = go (next_block records t) refl e (ended_none records ts lines)
  where
    go : (b : Option Block) → next_block records t ≡ b →
        unless_left t b (ended records ts) ≡ Ok lines →
        (ended records ts ≡ Ok lines → (lines ≡ []) × ((k : ℕ) (u : Thread) →
        slice_get ts k ≡ Some u → next_block records u ≡ None)) →
        (lines ≡ []) × ((k : ℕ) (u : Thread) → slice_get (t ∷ ts) k ≡ Some u →
        next_block records u ≡ None)
    go (Some b) next f later = absurd (cc)
    go None next f later = let r = later f in (r.0, at r.1)
      where
        at : ((k : ℕ) (u : Thread) → slice_get ts k ≡ Some u → next_block records u ≡ None) →
            (k : ℕ) (u : Thread) → slice_get (t ∷ ts) k ≡ Some u → next_block records u ≡ None
        at all zero u there = ap (next_block records) (sym (one_there t u there)) ∙ next
        at all (suc k) u there = all k u there

-- lines before others that are woven
pub before_ok : (ls : List Line) (w : Woven) (lines : List Line) → before ls w ≡ Ok lines →
    (more : List Line) × (w ≡ Ok more) × (lines ≡ ls ++ more)
before_ok ls (Ok more) lines e = (more, refl, cc)
before_ok ls (Err fault) lines e = absurd (cc)

-- a fault is no answer
pub no_error : (fault : WeaveFault) (lines : List Line) → ◌≡◌ {A = Woven} (Err fault) (Ok lines) → ⊥
no_error fault lines e = cc

-- where no turn is found, no thread has one
pub none_found : (R : Rules) (S : State) (records : List Record) (place : ℕ) (threads : List Thread)
    (k : ℕ) (t : Thread) → turn_in R S records place threads ≡ None →
    slice_get threads k ≡ Some t → turn_of R S records (place + k) t ≡ None
none_found R S records place [] k t e there = absurd (cc)
none_found R S records place (u ∷ us) k t e there =
    go k (turn_of R S records place u) refl e there (none_found R S records (place + 1) us)
  where
    go : (k : ℕ) (o : Option Turn) → turn_of R S records place u ≡ o →
        or_turn o (turn_in R S records (place + 1) us) ≡ None → slice_get (u ∷ us) k ≡ Some t →
        ((l : ℕ) (v : Thread) → turn_in R S records (place + 1) us ≡ None →
        slice_get us l ≡ Some v → turn_of R S records ((place + 1) + l) v ≡ None) →
        turn_of R S records (place + k) t ≡ None
    go k (Some x) is f at later = absurd (cc)
    go zero None is f at later = ap (λ n. turn_of R S records n t) (omega arith)
        ∙ ap (turn_of R S records place) (sym (one_there u t at)) ∙ is
    go (suc l) None is f at later =
        ap (λ n. turn_of R S records n t) (omega arith) ∙ later l t f at

-- a fault behind lines is the fault
pub before_err : (ls : List Line) (w : Woven) (fault : WeaveFault) → before ls w ≡ Err fault →
    w ≡ Err fault
before_err ls (Ok more) fault e = absurd (cc)
before_err ls (Err other) fault e = e
