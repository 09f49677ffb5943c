-- Where calls stand between two nodes, as the facts of a state say.
use Rattle.do_behave.specs.declared.invocation.InvState.TheVariants as states
use Rattle.do_behave.specs.declared.invocation.Reason.TheVariants as reasons
use Rattle.do_facts.specs.Net as nets
use Rattle.std.proofs.Common.{◌≡◌, ◌==◌, ◌&&◌, ◌+◌, ◌≤◌, ℕ, Bool, true, false, List, [], ◌∷◌, cond}
use Rattle.std.proofs.Common.{map, refl, sym, ap, ◌∙◌, subst, arith}
use Rattle.std.{specs.{Prelude.length, List.filter}, proofs.lemmas.Bool.Decides.nat_tests}
use Rattle.do_behave.specs.declared.invocation.{InvState.InvState, Invocation.Invocation}
use Rattle.do_behave.specs.declared.invocation.Reason.{Reason}
use Rattle.do_machine.specs.declared.{node.{LateCall.LateCall, Node.Node}, state.State.State}
use Rattle.do_machine.specs.{State.is_open, take.Awaiting.{AnsweredCall, awaits, is_answered}}
use Rattle.do_machine.specs.take.Take.{method_call, root_call}
use Rattle.do_network.specs.fits.{Calls.{OneCall, awaiting, is_begun_for, serving}, Notes.Note}
use Rattle.do_facts.specs.{Net.Net, View.{net_of, part_seen}}
use Rattle.do_facts.specs.calls.Calls.{Atom, Calls, calls, calls_of, frame_of, wait_of}
use Rattle.do_facts.specs.calls.Facts.{CallsAreKept, late_of, on_of, serves_of, waits}
use Rattle.do_facts.{specs.calls.Moves.{is_on, opens}, proofs.calls.CallCounts.waits_at_most}
use Rattle.do_agreement.specs.StandBetween.{StandBetween}
use Rattle.do_agreement.proofs.pairs.NotesAsAtoms.{back_sum, there_sum}
use Rattle.do_agreement.proofs.pairs.CallsOfNotes.{calls_alike, replies_alike, root_answers_alike}
use Rattle.do_agreement.proofs.pairs.CallsOfNotes.{root_asks_alike}

-- how many pass is a sum of ones
passing_sum : {X Y : Type 0} (test : X → Bool) (f : X → Y) (g : Y → ℕ) →
    ((x : X) → cond (test x) 1 0 ≡ g (f x)) → (xs : List X) →
    length (filter test xs) ≡ nets.total g (map f xs)
passing_sum test f g alike [] = refl
passing_sum test f g alike (x ∷ xs) =
    go (test x) (alike x) (passing_sum test f g alike xs)
  where
    go : (b : Bool) → cond b 1 0 ≡ g (f x) →
        length (filter test xs) ≡ nets.total g (map f xs) →
        length (cond b (x ∷ filter test xs) (filter test xs))
        ≡ g (f x) + nets.total g (map f xs)
    go true e h = omega (arith, e, h)
    go false e h = omega (arith, e, h)

-- what an invocation of a state waits for
waits_alike : (k : AnsweredCall) (s : InvState) → awaits k s ≡ is_on k (wait_of s)
waits_alike k states.Running = refl
waits_alike k _ = refl

-- 1 where a test passes
abbrev one_if : Bool → ℕ
one_if b = cond b 1 0

-- two tests of numbers, the other way
both_alike : (a b x y : ℕ) →
    one_if ((x == a) && (y == b)) ≡ cond (a == x) (one_if (b == y)) 0
both_alike a b x y = grind (arith, nat_tests)

-- for which call an invocation was begun
begun_alike : (peer number : ℕ) (i : Invocation) →
    one_if (is_begun_for peer number i.reason) ≡ serves_of peer number (frame_of i)
begun_alike peer number i = go i.reason
  where
    go : (r : Reason) → one_if (is_begun_for peer number r)
        ≡ serves_of peer number (record { reason = r; wait = wait_of i.state })
    go (reasons.Call p k) = both_alike peer number p k
    go _ = refl

-- a list is what it is mapped to by nothing
as_it_is : {X : Type 0} (g : X → ℕ) (xs : List X) → nets.total g (map (λ x. x) xs) ≡ nets.total g xs
as_it_is g [] = refl
as_it_is g (x ∷ xs) = ap (λ k. g x + k) (as_it_is g xs)

-- how many wait for a call
awaiting_alike : (n : Node) (k : AnsweredCall) → awaiting n k ≡ waits (calls_of n) k
awaiting_alike n k =
    ap (λ x. x + length (filter (λ (c : LateCall). is_answered k c.peer c.number c.what) n.late))
    (passing_sum (λ (i : Invocation). awaits k i.state) frame_of (on_of k)
    (λ i. ap (λ b. cond b 1 0) (waits_alike k i.state)) n.stack)
    ∙ ap (λ x. nets.total (on_of k) (map frame_of n.stack) + x)
    (passing_sum (λ (c : LateCall). is_answered k c.peer c.number c.what) (λ c. c) (late_of k)
    (λ c. refl) n.late ∙ as_it_is (late_of k) n.late)

module _ (S : State) (kept : CallsAreKept S) (n m : Node) (there back : List Note)
    (stand : StandBetween S n m there back) where
  -- the state, seen by calls
  abbrev net : Net Calls Atom
  net = net_of calls S

  -- the node's end towards the peer
  opens_there : opens (net.part n.port) m.port ≡ is_open n m.port
  opens_there = ap (λ found. opens (part_seen calls found) m.port) stand.here

  -- how many wait for a call, in the state
  waits_here : (k : AnsweredCall) → waits (net.part n.port) k ≡ awaiting n k
  waits_here k = ap (λ found. waits (part_seen calls found) k) stand.here ∙ sym (awaiting_alike n k)

  -- how many invocations of the peer answer a call
  serving_here : (number : ℕ) →
      serving m n.port number ≡ nets.total (serves_of n.port number) (net.part m.port).stack
  serving_here number =
      passing_sum (λ (i : Invocation). is_begun_for n.port number i.reason) frame_of
      (serves_of n.port number) (begun_alike n.port number) m.stack
      ∙ ap (λ found. nets.total (serves_of n.port number) (part_seen calls found).stack)
      (sym stand.peer)

  -- a number that was not given is waited for by none
  none_waits : (k : AnsweredCall) → n.next_call ≤ k.number → awaiting n k ≡ 0
  none_waits k low =
      let low' = subst (λ x. x ≤ k.number)
      (sym (ap (λ found. (part_seen calls found).next) stand.here)) low in
      omega (
        arith,
        waits_here k,
        waits_at_most (net.part n.port) k,
        (kept.hold.numbers n.port k.number).fresh low',
      )

  -- each call of the peer is in one place
  pub one_call : (number : ℕ) → OneCall n m there back number
  one_call number =
      let fact = kept.hold.calls n.port m.port number in
      record {
        method = λ o.
            omega (
              arith,
              fact.methods stand.apart (opens_there ∙ o),
              there_sum calls stand _ _ (calls_alike number),
              back_sum calls stand _ _ (replies_alike number),
              serving_here number,
              waits_here (method_call m.port number),
            );
        root = λ o.
            omega (
              arith,
              fact.roots stand.apart (opens_there ∙ o),
              there_sum calls stand _ _ (root_asks_alike number),
              back_sum calls stand _ _ (root_answers_alike number),
              waits_here (root_call m.port number),
            );
        fresh = λ low. (
          none_waits (method_call m.port number) low,
          none_waits (root_call m.port number) low,
        );
      }
