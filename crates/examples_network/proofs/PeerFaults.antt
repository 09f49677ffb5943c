-- Which frames a peer may not send.
use Rattle.do_behave.specs.declared.invocation.Waited.TheVariants as waiteds
use Rattle.std.{proofs.Common.{◌≡◌, ℕ, List, [], ◌∷◌, refl}, specs.Prelude.{None, Option, Some}}
use Rattle.do_base.specs.declared.events.exception.Exc.TheVariants.{Range}
use Rattle.do_behave.specs.declared.invocation.Invocation.{Invocation}
use Rattle.do_frames.specs.declared.frame.Frame.{Frame, TheVariants.{Gone, Granted, Raised, Reply}}
use Rattle.do_frames.specs.declared.frame.Frame.TheVariants.{RootAnswer, Settle, Shutdown}
use Rattle.do_machine.specs.declared.node.{LateCall.LateCall, Lend.Lend, Wanted.Wanted}
use Rattle.do_machine.specs.lend.Asking.{wanted}
use Rattle.do_network.specs.declared.fault.PeerFault.{PeerFault, TheVariants.OverRelease}
use Rattle.do_network.specs.declared.fault.PeerFault.TheVariants.{UnknownCall, UnknownToken}
use Rattle.do_network.specs.{Faults.{peer_fault, release_fault}, Net.opening_own}
use Rattle.examples_network.proofs.Samples.{call, method, node_of, nothing, object, token, waiting}

-- the fault of a frame of a peer, at 7001 with these invocations and late calls
abbrev answered : List Invocation → List LateCall → ℕ → Frame → Option PeerFault
answered stack late from f =
    peer_fault (opening_own (record (node_of 7001 (7002 ∷ 7003 ∷ [])) {
      stack = stack;
      late = late;
    })) from f

-- an answer to the call that is waited for
awaited : answered (waiting 3 ∷ []) [] 7002 (Reply 3 nothing) ≡ None
awaited = refl

-- it may come below the top, and as an exception
below_the_top : answered (waiting 4 ∷ waiting 3 ∷ []) [] 7002 (Raised 3 Range) ≡ None
below_the_top = refl

-- an answer of another number, of another peer, and one to a call for a root
other_number : answered (waiting 3 ∷ []) [] 7002 (Reply 4 nothing) ≡ Some (UnknownCall (call 4))
other_number = refl

other_peer : answered (waiting 3 ∷ []) [] 7003 (Reply 3 nothing) ≡ Some (UnknownCall (call 3))
other_peer = refl

root_for_a_method :
    answered (waiting 3 ∷ []) [] 7002 (RootAnswer 3 nothing) ≡ Some (UnknownCall (call 3))
root_for_a_method = refl

-- a call to 7002 that was given up
abbrev late : ℕ → LateCall
late number = record { number = number; peer = 7002; what = waiteds.Method method }

-- its answer may come, but no other kind of answer
late_answer : answered [] (late 3 ∷ []) 7002 (Reply 3 nothing) ≡ None
late_answer = refl

late_root : answered [] (late 3 ∷ []) 7002 (RootAnswer 3 nothing) ≡ Some (UnknownCall (call 3))
late_root = refl

-- the fault of a frame of a peer, at 7001 with these lends and asks
abbrev lending : List Lend → List Wanted → ℕ → Frame → Option PeerFault
lending lent asked from f =
    peer_fault (opening_own (record (node_of 7001 (7002 ∷ 7003 ∷ [])) {
      lent = lent;
      asked = asked;
    })) from f

-- object 1 of 7003, lent to 7002 under number 4
abbrev lend : Lend
lend = record { number = 4; object = object 7003 1; borrower = 7002 }

-- the borrower settles it, under its number, and no other peer does
settled : lending (lend ∷ []) [] 7002 (Settle 4) ≡ None
settled = refl

settled_twice : lending [] [] 7002 (Settle 4) ≡ Some (UnknownToken (token 7001 4))
settled_twice = refl

settled_by_another : lending (lend ∷ []) [] 7003 (Settle 4) ≡ Some (UnknownToken (token 7001 4))
settled_by_another = refl

-- object 2 of 7002, which 7003 lent under number 5 and which was asked for
abbrev ask : Wanted
ask = wanted (object 7002 2) 7003 5

-- the home grants it or says that it is gone
granted : lending [] (ask ∷ []) 7002 (Granted 2 (token 7003 5)) ≡ None
granted = refl

gone : lending [] (ask ∷ []) 7002 (Gone 2 (token 7003 5)) ≡ None
gone = refl

-- another object, another token, and another home
other_object :
    lending [] (ask ∷ []) 7002 (Granted 3 (token 7003 5)) ≡ Some (UnknownToken (token 7003 5))
other_object = refl

other_token :
    lending [] (ask ∷ []) 7002 (Gone 2 (token 7003 6)) ≡ Some (UnknownToken (token 7003 6))
other_token = refl

other_home :
    lending [] (ask ∷ []) 7003 (Granted 2 (token 7003 5)) ≡ Some (UnknownToken (token 7003 5))
other_home = refl

-- all names may be given back at once, and no more
all_back : release_fault 3 3 ≡ None
all_back = refl

one_more_back : release_fault 3 4 ≡ Some (OverRelease (record { had = 3; asked = 4 }))
one_more_back = refl

-- a peer may end its side whenever it likes
shut_down : lending [] [] 7002 Shutdown ≡ None
shut_down = refl
