-- Moves of calls give numbers one after another, and tell those alone that were given.
use Rattle.do_behave.specs.declared.invocation.Reason.TheVariants as reasons
use Rattle.std.proofs.Common.{◌≡◌, ◌<◌, ◌≤◌, ℕ, true, false, arith, subst}
use Rattle.std.specs.List.{AllByRecursion}
use Rattle.do_behave.specs.declared.invocation.Reason.{Reason}
use Rattle.do_facts.specs.Net.{Net, Note, StandFirst}
use Rattle.do_facts.specs.calls.Calls.{Answer, Atom, Called, Calls, Frame, RootAnswer, RootAsk}
use Rattle.do_facts.specs.calls.{Facts.CallsHold, Moves.{Asks, Begins, Closes, Gives, GivesUp}}
use Rattle.do_facts.specs.calls.Moves.{Move, Receives, Refuses, Replies, Returns, Serves, Starts}
use Rattle.do_facts.specs.calls.Moves.{behind, may, moved, note, opens, posts, takes, call_rules}
use Rattle.do_facts.proofs.{calls.TopMoves.other, EachOfLists.each_weaker}
use Rattle.do_limits.proofs.spelled.ServedCalls.{AtomGiven, FrameGiven, ReasonGiven, Serve}
use Rattle.do_limits.proofs.spelled.ServedCalls.{open_still, serve_behind, serve_changed}
use Rattle.do_limits.proofs.spelled.ServedCalls.{serve_none, serve_parted, serve_rested}
use Rattle.do_limits.proofs.spelled.ServedCalls.{serve_waits}
use Rattle.do_facts.{specs.Moves.Keeps, proofs.calls.CallsKept.calls_keep}
use Rattle.do_limits.proofs.spelled.Given.{AllGiven, GiveNumbers, IsGiven, given_keeps, one_taken}
use Rattle.do_limits.proofs.spelled.Wires.{OfNotes}

-- what a node takes tells of such numbers
abbrev Takes : (ℕ → ℕ → Type 0) → ℕ → Move → Type 0
Takes G a v = AllByRecursion (λ (x : Note Atom). AtomGiven G x.peer a x.atom) (takes v)

-- the numbers that a node serves
abbrev pub ServedGiven : (ℕ → ℕ → Type 0) → Calls → Type 0
ServedGiven G c = Serve G c.stack

-- the numbers of calls of a net were given
abbrev pub CallsGiven : Net Calls Atom → Type 0
CallsGiven net = AllGiven call_rules (λ c. c.next) ServedGiven AtomGiven net

-- no move takes a number back
next_grows : (p : Calls) (v : Move) → p.next ≤ (moved p v).next
next_grows p Begins = omega arith
next_grows p _ = omega arith

-- no move opens an end
opens_less : (p : Calls) (v : Move) (peer : ℕ) → opens (moved p v) peer ≡ true → opens p peer ≡ true
opens_less p (Closes other) peer o = open_still other peer p.open_to o
opens_less p _ peer o = o

module _ (G : ℕ → ℕ → Type 0) (a : ℕ) (p : Calls) (all : ServedGiven G p) where
  -- what the node serves then
  served : (v : Move) → may p v → Takes G a v → ServedGiven G (moved p v)
  served Begins m t = (tt, serve_waits G _ p.stack all)
  served (Starts reason) m t = (serve_none G reason m.0, all)
  served (Asks to root) m t = serve_waits G _ p.stack all
  served (Serves from k) m t = (t.0, all)
  served (Refuses from k) m t = all
  served (Gives from k) m t = all
  served Returns m t = serve_rested G (behind p.stack) (serve_behind G p.stack all)
  served (Receives from k root) m t = serve_changed G _ p.stack all
  served (GivesUp c) m t = serve_rested G p.stack all
  served (Closes peer) m t = serve_parted G peer p.stack all
  served _ m t = serve_behind G p.stack all

  -- what it posts
  posted : (v : Move) → may p v → Takes G a v →
      ((peer : ℕ) → opens p peer ≡ true → p.next < (moved p v).next → G a p.next) →
      OfNotes (AtomGiven G) a (posts p v)
  posted (Asks to true) m t new = (new to m.2 (omega arith), tt)
  posted (Asks to false) m t new = (new to m.2 (omega arith), tt)
  posted (Refuses from k) m t new = t
  posted (Gives from k) m t new = t
  posted (Replies to k) m t new = ((subst (AllByRecursion (FrameGiven G)) m.0.1 all).0, tt)
  posted _ m t new = tt

module _ (G H : ℕ → ℕ → Type 0) (more : (n k : ℕ) → G n k → H n k) where
  -- an atom
  atom_still : (x y : ℕ) (at : Atom) → AtomGiven G x y at → AtomGiven H x y at
  atom_still x y (Called k) h = more x k h
  atom_still x y (Answer k) h = more y k h
  atom_still x y (RootAsk k) h = more x k h
  atom_still x y (RootAnswer k) h = more y k h

  -- a frame
  frame_still : (f : Frame) → FrameGiven G f → FrameGiven H f
  frame_still f h = go f.reason h
    where
      go : (reason : Reason) → ReasonGiven G reason → ReasonGiven H reason
      go (reasons.Call peer number) k = more peer number k
      go _ k = tt

-- calls give numbers one after another
give_calls : GiveNumbers call_rules (λ c. c.next) ServedGiven AtomGiven
give_calls = record {
  grows = next_grows;
  opens = opens_less;
  kept_still = λ G H more p h.
      each_weaker (FrameGiven G) (FrameGiven H) (frame_still G H more) p.stack h;
  told_still = atom_still;
  keeps = λ G a p v m h t. served G a p h v m t;
  posts = λ G a p v m h t new. posted G a p h v m t new;
  loss = λ G x y. tt;
}

-- an atom that a node takes was given
one : (net : Net Calls Atom) (a from : ℕ) (x : Atom) → CallsHold net → CallsGiven net →
    opens (net.part a) from ≡ true → StandFirst a (note from x) net →
    AllByRecursion (λ (k : Note Atom). AtomGiven
    (IsGiven call_rules (λ c. c.next) ServedGiven AtomGiven net) k.peer a k.atom) (note from x)
one net a from x hold all o first =
    one_taken call_rules (λ c. c.next) ServedGiven AtomGiven net a from x all
    (other net a hold from o) first

-- what a node takes was given
taken : (net : Net Calls Atom) (a : ℕ) (v : Move) → CallsHold net → CallsGiven net →
    may (net.part a) v → StandFirst a (takes v) net →
    Takes (IsGiven call_rules (λ c. c.next) ServedGiven AtomGiven net) a v
taken net a (Serves from k) hold all m first = one net a from (Called k) hold all m first
taken net a (Refuses from k) hold all m first = one net a from (Called k) hold all m first
taken net a (Gives from k) hold all m first = one net a from (RootAsk k) hold all m first
taken net a (Receives from k true) hold all m first = one net a from (RootAnswer k) hold all m first
taken net a (Receives from k false) hold all m first = one net a from (Answer k) hold all m first
taken net a _ hold all m first = tt

-- whatever happens
pub calls_given_keep : Keeps call_rules (λ net. CallsHold net × CallsGiven net)
calls_given_keep =
    given_keeps call_rules (λ c. c.next) ServedGiven AtomGiven give_calls CallsHold calls_keep taken
