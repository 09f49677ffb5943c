-- What an input comes to, as its effect and its answer tell.
use Rattle.std.proofs.Common.{Bool, List, Option}
use Rattle.std.specs.{Prelude.{Result, Ok, Err, IfOk, OnErr, option_map}, Result.result_map_both}
use Rattle.do_class.specs.Class.{Class}
use Rattle.do_machine.specs.{declared.state.Effect.Effect, run.Run.Acting}
use Rattle.do_network.specs.Site.{moves}
use Rattle.do_effects.specs.declared.changing.Core.{Core}
use Rattle.do_site.specs.Steps.{Does, Handles, IsSame, done_told, part_of, seen_of}
use Rattle.do_site.proofs.StepsSeen.{does_handle, same_seen}

module _ {E : Type 0} (table : List Class) (act : Acting) (a b : Core) where
  -- an input that tells whether it was done comes to what its effect is
  pub told_handled : (r : Result Bool E) (e : Option Effect) → IfOk r (λ told. Does a b told e) →
      OnErr r (IsSame a b) →
      Handles (seen_of table act a) (seen_of table act b) (result_map_both done_told (λ x. x) r)
      (option_map (moves (part_of a)) e)
  told_handled (Ok told) e done same = does_handle table act a b told e done
  told_handled (Err x) e done same = same_seen table act a b same

-- what holds by any classes holds by these
pub by_classes : {E : Type 0} (a b : Core) (r : Result Bool E) (e : List Class → Option Effect) →
    IfOk r (λ told. (table : List Class) → Does a b told (e table)) → (table : List Class) →
    IfOk r (λ told. Does a b told (e table))
by_classes a b (Ok told) e done table = done table
by_classes a b (Err x) e done table = tt
