-- Steps of native methods, whose new values keep the limits.
use Rattle.std.specs.Prelude.{ℕ, ◌+◌, ◌&&◌, Option, Some, None, List, [], ◌∷◌, if◌then◌else◌}
use Rattle.std.specs.List.{list_all}
use Rattle.do_base.specs.{values.Equal.value_eq, declared.values.value.Value.Value}
use Rattle.do_base.specs.declared.events.exception.Exc.TheVariants.{Range}
use Rattle.do_behave.specs.{Changes.with_set, declared.invocation.Handler.Handler}
use Rattle.do_behave.specs.declared.{invocation.Invocation.Invocation, act.Act.Act}
use Rattle.do_behave.specs.declared.act.{Act.TheVariants.{Step, Raise}, Write.Write}
use Rattle.do_behave.specs.declared.change.LocalSet.{LocalSet}
use Rattle.do_native_acts.specs.Limited.{is_limited}

-- the writes of those slots whose values change, where the first slot is at this place
abbrev pub changes : ℕ → List Value → List Value → List Write
changes at [] new = []
changes at (v ∷ old) [] = []
changes at (v ∷ old) (w ∷ new) =
    if value_eq v w then changes (at + 1) old new
    else record { slot = at; value = w } ∷ changes (at + 1) old new

-- Goes on at a place with these locals set, this handler and these writes. A value past a limit
-- raises Range.
abbrev pub steps : Invocation → ℕ → List LocalSet → Option Handler → List Write → Act
steps inv to sets handler writes =
    if list_all (λ s. is_limited s.value) sets && list_all (λ w. is_limited w.value) writes
    then Step to (with_set inv.locals sets) handler writes else Raise Range

-- a value for a local
abbrev pub set : ℕ → Value → LocalSet
set k v = record { local = k; value = v }

-- an exception goes to local 15, and the method goes on at this place
abbrev pub caught_to : ℕ → Option Handler
caught_to place = Some (record { into = 15; pc = place })

-- goes on at place 1, which returns this answer
abbrev pub answered : Invocation → Value → List Write → Act
answered inv value writes = steps inv 1 (set 14 value ∷ []) inv.handler writes

-- what is done leads to an act; where there is no room for it, Range is raised
abbrev pub fits : {A : Type 0} → Option A → (A → Act) → Act
fits None f = Raise Range
fits (Some x) f = f x
