-- The move of an input is sound: its node holds what it held and what came, or gives it back.
use Rattle.do_machine.specs.declared.item.Item.TheVariants as items
use Rattle.std.proofs.Common.{◌≡◌, ◌==◌, ◌&&◌, ℕ, Bool, true, false, [], refl, subst}
use Rattle.std.specs.Prelude.{Some}
use Rattle.do_base.specs.names.Names.{ObjectName}
use Rattle.do_packet.specs.Met.{has_object}
use Rattle.do_machine.specs.{Commit.commit, Context.{Surroundings, around}, Items.exported}
use Rattle.do_machine.specs.{Start.start_effect, State.is_open, declared.item.Item.Item}
use Rattle.do_machine.specs.declared.{node.Node.Node, state.{Effect.Effect, State.State}}
use Rattle.do_machine.specs.{declared.state.Stepped.Stepped, ends.Closing.closing}
use Rattle.do_machine.specs.{run.Run.run_effect, take.Take.{can_serve, can_take, take_effect}}
use Rattle.do_record.specs.declared.parts.RecordLine.{RecordLine}
use Rattle.do_record.specs.declared.parts.RecordLine.TheVariants.{Close, Ended, Run, Start, Take}
use Rattle.do_weave.specs.Rules.{Rules}
use Rattle.do_facts.specs.laws.{Entries.HasQueues, Follows.{Grows, HoldsOpen}}
use Rattle.do_facts.proofs.machine.passing.{Closes.passes_closing, Leaves.passes_leaving}
use Rattle.do_facts.proofs.machine.passing.{Passes.{Passes, passes_quiet}, Quiet.quiet_of}
use Rattle.do_facts.proofs.{machine.passing.Takes.{comes, passes_take}, walk.Done.done_there}
use Rattle.do_orders.specs.Inputs.{ByMove, effect_by, knowing, source_of}
use Rattle.do_orders.{specs.Moves.{Source, taken_off}, proofs.{Behind.move_of, Acts.chosen}}
use Rattle.do_orders.proofs.{SoundMoves.{IsOver, IsSound, StandsIn, came}, TakesMove.open_of}
use Rattle.do_facts.proofs.machine.follows.SteadyTakes.{by_closing, by_take}
use Rattle.do_facts.proofs.machine.follows.SteadyRuns.{by_run, by_start}

-- An effect of a node that passes on what the node held and what it took off
record PassesOn (p : ℕ) (source : Source) (n : Node) (e : Effect) : Type 0 where
  pub over : IsOver n source
  pub grows : Grows n e.node
  pub passes : (o : ObjectName) → Passes p o n (came p o source) e

-- nothing comes with an end that names nothing
end_brings_none : (p : ℕ) (o : ObjectName) (peer : ℕ) → comes p o peer (items.End []) ≡ false
end_brings_none p o peer = go (peer == o.node)
  where
    go : (b : Bool) → (b && has_object (exported peer p (items.End [])) o) ≡ false
    go true = refl
    go false = refl

module _ (R : Rules) (p : ℕ) (known : Surroundings) (n : Node) (e : Effect) where
  -- a take
  take_passes_on : (from : ℕ) (item : Item) → is_open n from ≡ true →
      take_effect (knowing R known n) from item ≡ e →
      (Grows n e.node) × ((o : ObjectName) → Passes p o n (comes p o from item) e)
  take_passes_on from item ends is =
      let c = knowing R known n in (
        subst (λ (d : Effect). Grows n d.node) is (by_take c from item ends).grows,
        λ o. subst (Passes p o n (comes p o from item)) is (passes_take p o from c item ends),
      )

  -- what an input does passes on what its node held
  passes_on : (i : RecordLine) (item : Item) → effect_by R i item known n ≡ Some e →
      PassesOn p (source_of i item) n e
  passes_on (Start selector values) item is =
      let f = start_effect R.table selector values n in
      let s = done_there f e (by_start R.table selector values n) is in record {
        over = tt;
        grows = s.node.grows;
        passes = λ o. passes_quiet p o n e (quiet_of false false refl n e s);
      }
  passes_on Run item is =
      let c = knowing R known n in
      let s = done_there (run_effect R.act c) e (by_run R.act c) is in record {
        over = tt;
        grows = s.node.grows;
        passes = λ o. passes_quiet p o n e (quiet_of false false refl n e s);
      }
  passes_on (Take from) item is =
      let was = chosen (can_take from n) (take_effect (knowing R known n) from item) e is in
      let ends = open_of (is_open n from) (can_serve n.stack) was.0 in
      let r = take_passes_on from item ends was.1 in
      record { over = ends; grows = r.0; passes = r.1 }
  passes_on (Close peer) item is =
      let was = chosen (is_open n peer) (closing peer n) e is in record {
        over = tt;
        grows = subst (λ (d : Effect). Grows n d.node) was.1
            (by_closing peer n).node.grows;
        passes = λ o. subst (Passes p o n false) was.1 (passes_closing p o peer n was.0);
      }
  passes_on (Ended peer) item is =
      let d = take_effect (knowing R known n) peer (items.End []) in
      let was = chosen (can_take peer n) d e is in
      let ends = open_of (is_open n peer) (can_serve n.stack) was.0 in
      let r = take_passes_on peer (items.End []) ends was.1 in record {
        over = tt;
        grows = r.0;
        passes = λ o. subst (λ b. Passes p o n b e) (end_brings_none p o peer) (r.1 o);
      }

module _ (R : Rules) (S : State) (p : ℕ) (i : RecordLine) (a : Stepped) (x : ByMove R S p i a)
  where
    -- the move of an input is sound
    pub sound_input : HoldsOpen x.doer → IsSound (move_of R S p i a x) x.doer
    sound_input held =
        let T = taken_off p (source_of i x.item) S in
        let r = passes_on R p (around T x.doer) x.doer x.effect i x.item x.decided in
        let entry = (around (commit p x.effect T) x.effect.node).entry in record {
          over = r.over;
          grows = r.grows;
          passes = r.passes;
          leaves = λ o. passes_leaving p o entry x.effect.node (r.grows.holding held);
        }

    -- and stands in its state
    pub stands_here : HasQueues S → StandsIn (move_of R S p i a x) x.doer S
    stands_here queues = record {
      here = x.here;
      there = x.stands;
      linked = λ peer none. queues.closed p peer x.doer x.here none;
    }
