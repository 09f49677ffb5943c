-- One child more, before the others, was started or waited for.
use Rattle.std.proofs.Common.{◌≡◌, ℕ, ◌≤◌, List, ◌∷◌, Option, inl, inr, arith}
use Rattle.do_base.specs.outside.Causes.{Rose}
use Rattle.do_plan.specs.declared.plan.PlanLine.{PlanLine}
use Rattle.do_lab.specs.declared.{spawner.ChildId.ChildId, children.ChildEnd.ChildEnd}
use Rattle.do_lab.specs.{declared.children.ChildEnd.TheVariants.NotWaited, Told.Spawned}
use Rattle.do_output.specs.Told.{TellsMore}
use Rattle.do_lab.specs.Children.{waits_for, Fits}
use Rattle.do_lab.specs.Running.{HasStarted, HaveStarted, HasNone, HaveWaited, HasUnwaited}
use Rattle.do_output.proofs.ToldMore.{tells_both}
use Rattle.do_lab.proofs.RunningChildren.{rises_earlier, runs_still}

-- a count that rose between two calls rose over both
pub rose_first : (a b c : ℕ) → Rose a b → b ≤ c → Rose a c
rose_first a b c rose le = omega (arith, rose, le)

pub rose_second : (a b c : ℕ) → a ≤ b → Rose b c → Rose a c
rose_second a b c le rose = omega (arith, rose, le)

-- a line's child was started, and then those of the others
pub started_more : (line : PlanLine) (child : Option ChildId) (lines : List PlanLine)
    (children : List (Option ChildId)) (a b c : Option (List Spawned)) (next mid : ℕ)
    (P Q : ℕ → Type 0) (f g h : ℕ) → HasStarted line child a b next mid P f g
    → HaveStarted lines children b c mid Q g h → ((n : ℕ) → P n → Q n) → f ≤ g → g ≤ h
    → HaveStarted (line ∷ lines) (child ∷ children) a c next Q f h
started_more line child lines children a b c next mid P Q f g h one all stays le le' = record {
  many = all.many;
  calls = tells_both a b c _ _ one.calls all.calls;
  rises = (one.fresh, rises_earlier _ mid children one.below all.rises);
  run = (runs_still P Q child stays one.runs, all.run);
  cause = rose;
}
  where
    rose : HasNone (child ∷ children) → Rose f h
    rose (inl none) = rose_first f g h (one.cause none) le'
    rose (inr none) = rose_second f g h le (all.cause none)

-- a child was waited for, and then the others
pub waited_more : (child : Option ChildId) (end : ChildEnd) (children : List (Option ChildId))
    (ends : List ChildEnd) (a b c : Option (List Spawned)) (f g h : ℕ)
    → TellsMore a b (waits_for child end) → Fits child end
    → (end ≡ NotWaited → Rose f g) → HaveWaited children ends b c g h → f ≤ g → g ≤ h
    → HaveWaited (child ∷ children) (end ∷ ends) a c f h
waited_more child end children ends a b c f g h calls fits cause all le le' = record {
  fit = (fits, all.fit);
  calls = tells_both a b c _ _ calls all.calls;
  cause = rose;
}
  where
    rose : HasUnwaited (end ∷ ends) → Rose f h
    rose (inl none) = rose_first f g h (cause none) le'
    rose (inr none) = rose_second f g h le (all.cause none)
