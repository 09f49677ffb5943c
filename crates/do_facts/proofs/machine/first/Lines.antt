-- Over the lines of version 1 the machine does what the rules of version 1 give.
use Rattle.do_base.specs.declared.events.event.Event.TheVariants as events
use Rattle.do_sched.specs.declared.line.Line.TheVariants as lines
use Rattle.std.{proofs.Common.{◌≡◌, List, [], ◌∷◌, refl, ap, ◌∙◌}, specs.List.AllByRecursion}
use Rattle.do_base.specs.declared.events.event.Event.{Event}
use Rattle.do_class.specs.Class.{Class}
use Rattle.do_sched.specs.{Good.IsLineOf, declared.line.Line.Line}
use Rattle.do_sched.specs.declared.version.Version.TheVariants.{First}
use Rattle.do_machine.specs.declared.state.{Seat.Seat, State.State, Stepped.Stepped}
use Rattle.do_machine.specs.{Commit.skipped, Step.step, World.opening}
use Rattle.do_machine.specs.check.Blocks.{block, blocks, events_of, followed, line_step, steps}
use Rattle.do_facts.specs.laws.{Follows.IsNoTimeOut, first.Blocks.{blocks_1, steps_1}}
use Rattle.do_facts.specs.laws.first.Step.{AllOnTime}
use Rattle.do_machine.specs.run.Run.{Acting}
use Rattle.do_facts.proofs.machine.{Opening.opening_on_time, first.Steps.{same_step, stays_on_time}}
use Rattle.do_facts.proofs.EachOfLists.{each_replicated}

-- no event is a time-out
abbrev AreNoTimeOuts : List Event → Type 0
AreNoTimeOuts = AllByRecursion IsNoTimeOut

-- nor is one of those of a line of version 1
events_are_none : (l : Line) → IsLineOf First l → AreNoTimeOuts (events_of l)
events_are_none (lines.Run port count) h =
    each_replicated IsNoTimeOut count (events.Run port) tt
events_are_none (lines.Timeout port) h = absurd (cc (h.0))
events_are_none _ h = (tt, tt)

module _ (table : List Class) (act : Acting) where
  -- events that are no time-outs, and after them no call is given up
  same_steps : (es : List Event) → AreNoTimeOuts es → (s : Stepped) → AllOnTime s.state →
      (steps table act es s ≡ steps_1 table act es s) × AllOnTime (steps table act es s).state
  same_steps [] q s h = (refl, h)
  same_steps (e ∷ es) q s h =
      let t = step table act s.state e in
      let r = same_steps es q.1 (followed s t) (stays_on_time table act s.state e q.0 h) in
      let same = same_step table act s.state e q.0 h in
      (r.0 ∙ ap (λ x. steps_1 table act es (followed s x)) same, r.1)

  -- lines of version 1
  same_blocks_from : (ls : List Line) → AllByRecursion (IsLineOf First) ls → (S : State) →
      AllOnTime S → blocks table act S ls ≡ blocks_1 table act S ls
  same_blocks_from [] good S h = refl
  same_blocks_from (l ∷ ls) good S h =
      let s : Stepped = line_step table act S l in
      let r = same_steps (events_of l) (events_are_none l good.0) (skipped S) h in
      ap (λ bs. block l s ∷ bs) (same_blocks_from ls good.1 s.state r.1)
      ∙ ap (λ t. block l t ∷ blocks_1 table act t.state ls) r.0

-- a schedule of version 1, from the opening on
pub same_blocks : (table : List Class) (act : Acting) (seats : List Seat) (ls : List Line) →
    AllByRecursion (IsLineOf First) ls →
    blocks table act (opening table seats) ls ≡ blocks_1 table act (opening table seats) ls
same_blocks table act seats ls good =
    same_blocks_from table act ls good (opening table seats) (opening_on_time table seats)
