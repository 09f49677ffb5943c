-- Frames that serve calls whose numbers were given, and how they change.
use Rattle.do_behave.specs.declared.invocation.Reason.TheVariants as reasons
use Rattle.std.proofs.Common.{◌≡◌, ◌==◌, ℕ, Bool, true, false, cond, List, [], ◌∷◌, arith, map}
use Rattle.std.{proofs.Common.{filter, not}, specs.List.{AllByRecursion, list_any}}
use Rattle.std.proofs.lemmas.Bool.Decides.{nat_tests}
use Rattle.do_behave.specs.declared.invocation.Reason.{Reason}
use Rattle.do_machine.specs.Lists.{change_first}
use Rattle.do_facts.specs.calls.Calls.{Answer, Atom, Called, Frame, RootAnswer, RootAsk, Wait}
use Rattle.do_facts.specs.calls.Moves.{behind, first_rested, first_waits, is_call, is_on_peer}
use Rattle.do_facts.{specs.calls.Moves.{rested, without_peer}, proofs.links.ListsChanged.open_less}

-- the number of an atom on its way from one node to another
abbrev pub AtomGiven : (ℕ → ℕ → Type 0) → ℕ → ℕ → Atom → Type 0
AtomGiven G x y (Called k) = G x k
AtomGiven G x y (Answer k) = G y k
AtomGiven G x y (RootAsk k) = G x k
AtomGiven G x y (RootAnswer k) = G y k

-- the number of a call that is served
abbrev pub ReasonGiven : (ℕ → ℕ → Type 0) → Reason → Type 0
ReasonGiven G (reasons.Call peer k) = G peer k
ReasonGiven G _ = Unit {0}

-- the number that a frame serves
abbrev pub FrameGiven : (ℕ → ℕ → Type 0) → Frame → Type 0
FrameGiven G f = ReasonGiven G f.reason

-- an end that is open once another was closed was open
pub open_still : (peer x : ℕ) (ps : List ℕ) →
    list_any (λ q. q == x) (filter (λ q. not (q == peer)) ps) ≡ true →
    list_any (λ q. q == x) ps ≡ true
open_still peer x ps o = grind (arith, nat_tests, o, open_less x peer ps)

module _ (G : ℕ → ℕ → Type 0) where
  -- frames that serve such numbers
  abbrev pub Serve : List Frame → Type 0
  Serve fs = AllByRecursion (FrameGiven G) fs

  -- the first waits
  pub serve_waits : (w : Wait) (fs : List Frame) → Serve fs → Serve (first_waits w fs)
  serve_waits w [] h = tt
  serve_waits w (f ∷ fs) h = h

  -- the first waits no longer
  pub serve_rested : (fs : List Frame) → Serve fs → Serve (first_rested fs)
  serve_rested [] h = tt
  serve_rested (f ∷ fs) h = h

  -- without the first
  pub serve_behind : (fs : List Frame) → Serve fs → Serve (behind fs)
  serve_behind [] h = tt
  serve_behind (f ∷ fs) h = h.1

  -- the first that passes a test waits no longer
  pub serve_changed : (test : Frame → Bool) (fs : List Frame) → Serve fs →
      Serve (change_first test rested fs)
  serve_changed test [] h = tt
  serve_changed test (f ∷ fs) h = go (test f) (serve_changed test fs h.1)
    where
      go : (b : Bool) → Serve (change_first test rested fs) →
          Serve (cond b (rested f ∷ fs) (f ∷ change_first test rested fs))
      go true k = (h.0, h.1)
      go false k = (h.0, k)

  -- those that wait for a peer wait no longer
  pub serve_parted : (peer : ℕ) (fs : List Frame) → Serve fs → Serve (map (without_peer peer) fs)
  serve_parted peer [] h = tt
  serve_parted peer (f ∷ fs) h = (go (is_on_peer peer f.wait), serve_parted peer fs h.1)
    where
      go : (b : Bool) → FrameGiven G (cond b (rested f) f)
      go true = h.0
      go false = h.0

  -- a reason that is no call
  pub serve_none : (reason : Reason) → is_call reason ≡ false → ReasonGiven G reason
  serve_none (reasons.Call peer k) e = absurd (cc (e))
  serve_none _ e = tt
