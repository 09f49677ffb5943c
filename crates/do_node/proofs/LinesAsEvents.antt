-- Lines lead where their events lead, one after another.
use Rattle.do_base.specs.declared.events.event.Event.TheVariants as events
use Rattle.do_sched.specs.declared.line.Line.TheVariants as lines
use Rattle.std.proofs.Common.{◌≡◌, ◌∙◌, ◌++◌, ℕ, suc, zero, List, [], ◌∷◌, refl, ap}
use Rattle.std.specs.{Prelude.replicate, List.{AllByRecursion, flat_map}}
use Rattle.do_base.specs.declared.events.event.Event.{Event}
use Rattle.do_class.specs.Class.{Class}
use Rattle.do_machine.specs.{declared.state.Stepped.Stepped, Commit.skipped, Step.step}
use Rattle.do_machine.specs.{check.Blocks.{events_of, followed, steps}, run.Run.Acting}
use Rattle.do_sched.specs.declared.line.Line.{Line}
use Rattle.do_quiet.specs.Quiet.{IsNoBreak}
use Rattle.do_node.specs.Leaking.{BreaksNothing}
use Rattle.do_replay.specs.Replayed.{state_after}

module _ (table : List Class) (act : Acting) where
  -- events lead on from the state alone, whatever was shown before
  led_alike : (es : List Event) (s t : Stepped) → s.state ≡ t.state →
      (steps table act es s).state ≡ (steps table act es t).state
  led_alike [] s t same = same
  led_alike (e ∷ es) s t same =
      led_alike es (followed s (step table act s.state e)) (followed t (step table act t.state e))
      (ap (λ T. (step table act T e).state) same)

  -- events behind others lead on from where these lead
  led_on : (es fs : List Event) (s : Stepped) →
      steps table act (es ++ fs) s ≡ steps table act fs (steps table act es s)
  led_on [] fs s = refl
  led_on (e ∷ es) fs s = led_on es fs (followed s (step table act s.state e))

  -- lines lead where their events lead
  pub lines_lead : (ls : List Line) (s : Stepped) →
      (steps table act (flat_map events_of ls) s).state ≡ state_after table act s.state ls
  lines_lead [] s = refl
  lines_lead (l ∷ ls) s =
      let t = steps table act (events_of l) s in
      ap (λ (x : Stepped). x.state) (led_on (events_of l) (flat_map events_of ls) s)
      ∙ lines_lead ls t
      ∙ ap (λ T. state_after table act T ls) (led_alike (events_of l) s (skipped s.state) refl)

-- a run breaks nothing
runs_unbroken : (n port : ℕ) → AllByRecursion IsNoBreak (replicate n (events.Run port))
runs_unbroken zero port = tt
runs_unbroken (suc n) port = (tt, runs_unbroken n port)

-- events of lines that break nothing are such
all_joined : (es fs : List Event) → AllByRecursion IsNoBreak es → AllByRecursion IsNoBreak fs →
    AllByRecursion IsNoBreak (es ++ fs)
all_joined [] fs h k = k
all_joined (e ∷ es) fs h k = (h.0, all_joined es fs h.1 k)

-- a line that breaks nothing
line_unbroken : (l : Line) → BreaksNothing l → AllByRecursion IsNoBreak (events_of l)
line_unbroken (lines.Start port selector values) h = (tt, tt)
line_unbroken (lines.Run port count) h = runs_unbroken count port
line_unbroken (lines.Take port from) h = (tt, tt)
line_unbroken (lines.Close port peer) h = absurd h
line_unbroken (lines.Lose from to after) h = absurd h
line_unbroken (lines.Timeout port) h = (tt, tt)
line_unbroken lines.Check h = (tt, tt)

-- and lines
pub lines_unbroken : (ls : List Line) → AllByRecursion BreaksNothing ls →
    AllByRecursion IsNoBreak (flat_map events_of ls)
lines_unbroken [] h = tt
lines_unbroken (l ∷ ls) h =
    all_joined (events_of l) (flat_map events_of ls) (line_unbroken l h.0) (lines_unbroken ls h.1)
