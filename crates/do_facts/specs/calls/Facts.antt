-- Each call is in one place, and each answer is waited for.
use Rattle.do_behave.specs.declared.invocation.Reason.TheVariants as reasons
use Rattle.std.specs.Prelude.{Bool, false, if◌then◌else◌, true, ℕ, ◌+◌, ◌<◌, ◌==◌, ◌≡◌, ◌≤◌, ◌≢◌}
use Rattle.do_machine.specs.declared.{node.LateCall.LateCall, state.State.State}
use Rattle.do_facts.specs.laws.Entries.{HasQueues}
use Rattle.do_machine.specs.take.Awaiting.{AnsweredCall, is_answered}
use Rattle.do_facts.specs.{Net.{Net, total}, View.net_of, calls.Calls.{Answer, Atom, Called, Calls}}
use Rattle.do_facts.specs.calls.Calls.{Frame, On, RootAnswer, RootAsk, calls}
use Rattle.do_facts.specs.calls.Moves.{AreShaped, answered_call, is_on, opens}

-- 1 for a call of a number, on its way
abbrev pub called_of : ℕ → Atom → ℕ
called_of k (Called number) = if k == number then 1 else 0
called_of k _ = 0

-- 1 for its answer
abbrev pub answer_of : ℕ → Atom → ℕ
answer_of k (Answer number) = if k == number then 1 else 0
answer_of k _ = 0

-- 1 for a call for a root
abbrev pub asked_of : ℕ → Atom → ℕ
asked_of k (RootAsk number) = if k == number then 1 else 0
asked_of k _ = 0

-- 1 for its answer
abbrev pub root_of : ℕ → Atom → ℕ
root_of k (RootAnswer number) = if k == number then 1 else 0
root_of k _ = 0

-- 1 for an invocation that waits for a call
abbrev pub on_of : AnsweredCall → Frame → ℕ
on_of k f = if is_on k f.wait then 1 else 0

-- 1 for a late call that is this one
abbrev pub late_of : AnsweredCall → LateCall → ℕ
late_of k c = if is_answered k c.peer c.number c.what then 1 else 0

-- how often a node waits for a call, or gave it up
abbrev pub waits : Calls → AnsweredCall → ℕ
waits p k = total (on_of k) p.stack + total (late_of k) p.late

-- 1 for an invocation that answers the call of a peer
abbrev pub serves_of : ℕ → ℕ → Frame → ℕ
serves_of peer k f = elim f.reason [
  | reasons.Start ↦ 0
  | reasons.Local ↦ 0
  | reasons.Call p number ↦ if peer == p then (if k == number then 1 else 0) else 0
  | reasons.Oneway p ↦ 0
]

-- 1 for an invocation that waits for a call of a number
abbrev pub number_on : ℕ → Frame → ℕ
number_on k f = elim f.wait [
  | On peer number root ↦ if k == number then 1 else 0
  | _ ↦ 0
]

-- 1 for a late call of a number
abbrev pub number_late : ℕ → LateCall → ℕ
number_late k c = if k == c.number then 1 else 0

-- how often a node waits for a call of a number, or gave it up
abbrev pub numbers : Calls → ℕ → ℕ
numbers p k = total (number_on k) p.stack + total (number_late k) p.late

module _ (net : Net Calls Atom) where
  -- a node's end towards a peer is open
  abbrev pub open_in : ℕ → ℕ → Bool
  open_in n peer = opens (net.part n) peer

  -- A call of a node to a peer, under a number, is on its way, or served, or its answer is on its
  -- way back, and that at most as often as it is waited for
  pub record OneCall (n m k : ℕ) : Type 0 where
    pub methods : n ≢ m → open_in n m ≡ true →
        total (called_of k) (net.wire n m) + total (serves_of n k) (net.part m).stack
        + total (answer_of k) (net.wire m n) ≤ waits (net.part n) (answered_call m k false)
    pub roots : n ≢ m → open_in n m ≡ true →
        total (asked_of k) (net.wire n m) + total (root_of k) (net.wire m n)
        ≤ waits (net.part n) (answered_call m k true)

  -- a number is that of one call, and one that was not given is that of none
  pub record OneNumber (n k : ℕ) : Type 0 where
    pub once : numbers (net.part n) k ≤ 1
    pub fresh : (net.part n).next ≤ k → numbers (net.part n) k ≡ 0

  -- all of this holds of a net, each of its nodes is apart from itself, and stacks are shaped
  pub record CallsHold : Type 0 where
    pub apart : (n : ℕ) → open_in n n ≡ false
    pub shaped : (n : ℕ) → AreShaped (net.part n).stack
    pub calls : (n m k : ℕ) → OneCall n m k
    pub numbers : (n k : ℕ) → OneNumber n k

  -- An answer on its way to an open end is waited for, or late, by exactly one, of its kind
  pub record AnswersAreKnown : Type 0 where
    pub methods : (n m k : ℕ) → n ≢ m → open_in n m ≡ true →
        0 < total (answer_of k) (net.wire m n) →
        waits (net.part n) (answered_call m k false) ≡ 1
    pub roots : (n m k : ℕ) → n ≢ m → open_in n m ≡ true →
        0 < total (root_of k) (net.wire m n) →
        waits (net.part n) (answered_call m k true) ≡ 1

-- nodes have their queues, and each call is in one place
pub record CallsAreKept (S : State) : Type 0 where
  pub queues : HasQueues S
  pub hold : CallsHold (net_of calls S)
