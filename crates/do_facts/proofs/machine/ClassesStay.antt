-- The class of an object stays.
use Rattle.std.proofs.Common.{◌≡◌, ℕ, zero, suc, List, [], ◌∷◌, ◌++◌, Option, Some, ◌==◌, arith}
use Rattle.std.specs.{Prelude.{option_and_then, slice_get}, List.find}
use Rattle.do_base.specs.names.Names.{ObjectName}
use Rattle.do_class.specs.declared.ids.ClassId.{ClassId}
use Rattle.do_machine.specs.declared.state.{Effect.Effect, Station.Station}
use Rattle.do_machine.specs.{Commit.{committed, born}, Lists.change_first, State.class_given}

-- what stands at a place of a list stands there in a longer one
more_given : (cs ds : List ClassId) (k : ℕ) (class : ClassId) → slice_get cs k ≡ Some class →
    slice_get (cs ++ ds) k ≡ Some class
more_given [] ds k class h = cc
more_given (c ∷ cs) ds zero class h = h
more_given (c ∷ cs) ds (suc k) class h = more_given cs ds k class h

-- a class that was given with a serial stays, once more are given
pub class_stays : (cs ds : List ClassId) (serial : ℕ) (class : ClassId) →
    class_given cs serial ≡ Some class → class_given (cs ++ ds) serial ≡ Some class
class_stays cs ds zero class h = cc
class_stays cs ds (suc k) class h = more_given cs ds k class h

-- the class of an object at the station that is found
abbrev given_by : ObjectName → Option Station → Option ClassId
given_by o found = option_and_then (λ s. class_given s.classes o.serial) found

-- the station of an object's home
abbrev home_in : ObjectName → List Station → Option Station
home_in o ss = find (λ s. o.node == s.port) ss

-- the stations after an effect
abbrev after : ℕ → Effect → List Station → List Station
after port e ss = change_first (λ s. port == s.port) (committed e) ss

module _ (port : ℕ) (e : Effect) (o : ObjectName) (class : ClassId) where
  -- the class stays, whichever station is changed
  pub stays : (ss : List Station) → given_by o (home_in o ss) ≡ Some class →
      given_by o (home_in o (after port e ss)) ≡ Some class
  stays [] h = h
  stays (s ∷ ss) h =
      let new = born s.node.next_serial e.node in
      grind (arith, h, class_stays s.classes new o.serial class, stays ss)
