-- The sites go on as a take says.
use Rattle.std.proofs.Common.{◌≡◌, ℕ, true, false, List, None, Some, Result, Ok, Err, [], ◌++◌, sym}
use Rattle.std.{proofs.Common.subst, specs.{Prelude.IfOk, List.AllByRecursion}}
use Rattle.do_base.specs.declared.events.event.Event.TheVariants.{Take}
use Rattle.do_class.specs.Class.{Class}
use Rattle.do_machine.specs.run.Run.{Acting}
use Rattle.do_trace.specs.declared.outcome.Outcome.{Outcome}
use Rattle.do_network.specs.{declared.wire.Wire.Wire, Net.{Carried, change_place, with_channel}}
use Rattle.do_network.specs.Spelled.{HandsSpelled, SendsSpelled}
use Rattle.do_network.specs.Step.{advanced, input_of, net_step}
use Rattle.do_net.specs.Hosts.{Goes, Hosting, Rests, net_can_take, net_handed, net_of, oldest}
use Rattle.do_net.proofs.EventSpelled.{cannot_spelled, empty_spelled, taken_spelled}
use Rattle.do_net.proofs.{HandIsStep.skip_goes, TakeIsStep.{take_cannot, take_empty, take_is}}

-- the sites of a network after a take
abbrev pub TakeGoes : List Class → Acting → List Hosting → List Hosting → ℕ → ℕ → List Wire →
    List Wire → Outcome → Type 0
TakeGoes table act xs ys port from before now o =
    Goes table act ys before now o (net_step table act (net_of xs) (Take port from))
    (SendsSpelled table act (net_of xs) (Take port from))

-- the node is handed the oldest, where there is one
pub oldest_goes : {E : Type 0} (table : List Class) (act : Acting) (xs between ys : List Hosting)
    (port from : ℕ) (x : Carried) (before now : List Wire) (r : Result Outcome E) →
    net_can_take (net_of xs) port from ≡ true → oldest (net_of xs) from port ≡ Some x →
    net_of between ≡ change_place from (with_channel port (advanced x)) (net_of xs) →
    IfOk r (λ o. Goes table act ys before now o
    (net_handed table act (net_of between) port (input_of from x))
    (HandsSpelled table act (net_of between) port (input_of from x))) →
    IfOk r (λ o. TakeGoes table act xs ys port from before now o)
oldest_goes table act xs between ys port from x before now (Err e) can old is_net went = tt
oldest_goes table act xs between ys port from x before now (Ok o) can old is_net went =
    let step = take_is table act (net_of xs) (net_of between) port from x can old is_net in
    record {
      rest = went.rest;
      net = subst (λ s. net_of ys ≡ s.net) step went.net;
      wires = subst (λ s. now ≡ before ++ s.wires) step went.wires;
      outcome = subst (λ s. o ≡ s.outcome) step went.outcome;
      spelled = taken_spelled table act (net_of xs) (net_of between) port from x old is_net
          went.spelled;
    }

-- where nothing waits the sites stay
pub empty_goes : (table : List Class) (act : Acting) (xs ys : List Hosting) (port from : ℕ)
    (wires : List Wire) (o : Outcome) → net_can_take (net_of xs) port from ≡ true →
    oldest (net_of xs) from port ≡ None → ys ≡ xs → AllByRecursion (Rests table act) xs →
    o ≡ record { enabled = false; shown = [] } → TakeGoes table act xs ys port from wires wires o
empty_goes table act xs ys port from wires o can old same rest is_o =
    let Spelled = SendsSpelled table act (net_of xs) (Take port from) in
    subst (λ zs. TakeGoes table act xs zs port from wires wires o) (sym same)
    (subst (λ s. Goes table act xs wires wires o s Spelled)
    (take_empty table act (net_of xs) port from can old)
    (skip_goes table act xs wires o rest is_o
    (empty_spelled table act (net_of xs) port from old)))

-- and where the node cannot take
pub cannot_goes : (table : List Class) (act : Acting) (xs : List Hosting) (port from : ℕ)
    (wires : List Wire) (o : Outcome) → net_can_take (net_of xs) port from ≡ false →
    AllByRecursion (Rests table act) xs → o ≡ record { enabled = false; shown = [] } →
    TakeGoes table act xs xs port from wires wires o
cannot_goes table act xs port from wires o cannot rest is_o =
    subst (λ s. Goes table act xs wires wires o s
    (SendsSpelled table act (net_of xs) (Take port from)))
    (take_cannot table act (net_of xs) port from cannot)
    (skip_goes table act xs wires o rest is_o
    (cannot_spelled table act (net_of xs) port from cannot))
