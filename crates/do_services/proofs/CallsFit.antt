-- A call that a selector and the arguments make is one that a core takes.
use Rattle.std.{proofs.Common.{ℕ, List as Listed}, specs.Option.IfSome}
use Rattle.do_behave.specs.{Steps.local, declared.invocation.Invocation.Invocation}
use Rattle.do_native_acts.specs.laws.KindLaws.{found_of}
use Rattle.do_services.specs.{Calls.{IsCall, call_in}, Core.service_in, laws.CallLaws.each_call}
use Rattle.do_services.specs.laws.SlotsExact.{service_good}

-- a call that a selector makes is one that a core takes
pub calls_fit : (selector : Listed ℕ) (inv : Invocation) → IfSome (call_in selector inv) IsCall
calls_fit selector inv =
    each_call IsCall selector inv (λ s read.
    let v = found_of (local inv 0) service_in s read in
    service_good v.0 s v.2) (λ item. tt) tt (λ item. tt)
