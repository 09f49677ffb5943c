-- What is left once an end is closed or an ask is over.
use Rattle.std.proofs.Common.{◌≡◌, ℕ, Bool, true, false, not, List, [], ◌∷◌, map, filter, inl, refl}
use Rattle.std.{proofs.Common.{ap, arith, inr}, specs.{Prelude.{All, ◌==◌}, List.list_any}}
use Rattle.std.proofs.lemmas.{Grind.common_steps, List.Elements.{All-cons, All-nil, All-weaker}}
use Rattle.std.proofs.lemmas.List.Elements.{filter_passes, All-map, All-from_recursion}
use Rattle.do_base.specs.names.Names.{CallName}
use Rattle.do_base.specs.declared.events.exception.Exc.TheVariants.{ConnectionDied}
use Rattle.do_behave.specs.declared.invocation.{Answer.TheVariants.Raised, Invocation.Invocation}
use Rattle.do_behave.specs.declared.invocation.InvState.{InvState, TheVariants.Waits}
use Rattle.do_behave.specs.declared.invocation.Waited.{Waited}
use Rattle.do_machine.specs.declared.{node.{Node.Node, Wanted.Wanted}, state.Effect.Effect}
use Rattle.do_machine.specs.{declared.state.Parcel.Parcel, Effect.only, Lists.IsIn, State.is_open}
use Rattle.do_machine.specs.ends.Closing.{asked_of, closing, died, parted, without_answer}
use Rattle.do_facts.specs.laws.Calls.{IsParted, is_settled, waits_on}
use Rattle.do_machine.specs.lend.Asking.{ask_over, asking, same_wanted, without_wanted}
use Rattle.do_machine.specs.run.Changes.{answered}
use Rattle.do_facts.proofs.walk.SmallEffects.{settled_node, settling_node}
use Rattle.do_facts.proofs.{Chains.{is_closed, either}, EachOfLists.each_of}
use Rattle.std.proofs.lemmas.Bool.Decides.{nat_tests}
use Rattle.do_facts.proofs.links.ListsChanged.{open_less}

-- of the elements that fail a test none passes it
pub none_left : {X : Type 0} (test : X → Bool) (xs : List X) →
    All (λ x. test x ≡ false) (filter (λ x. not (test x)) xs)
none_left test xs =
    All-weaker (λ x. not (test x) ≡ true) (λ x. test x ≡ false) (λ x. is_closed (test x))
    (filter (λ x. not (test x)) xs) (filter_passes (λ x. not (test x)) xs)

-- no invocation waits for a peer that died
died_waits : (peer : ℕ) (state : InvState) → waits_on peer (died peer state) ≡ false
died_waits peer (Waits call p what) = grind arith
died_waits peer _ = refl

-- a node that parted
pub parted_parts : (peer : ℕ) (n : Node) → IsParted peer (parted peer n)
parted_parts peer n = record {
  ends = grind (arith, nat_tests, open_less peer peer n.open_to);
  held = none_left (λ o. o.node == peer) n.held;
  lent = none_left (λ l. l.borrower == peer) n.lent;
  asked = none_left (λ w. w.object.node == peer) n.asked;
  late = none_left (λ c. c.peer == peer) n.late;
  calls =
      let P : Invocation → Type 0 = λ i. waits_on peer (died peer i.state) ≡ false in
      All-map (λ i. waits_on peer i.state ≡ false) (without_answer peer) n.stack
      (All-from_recursion P n.stack (each_of P (λ i. died_waits peer i.state) n.stack));
}

-- a node that closed its end
pub is_parted : (peer : ℕ) (n : Node) → IsParted peer (closing peer n).node
is_parted peer n =
    rw (settled_node (asked_of peer n) (parted peer n)) (parted_parts peer n)

-- an invocation that waits for the peer is answered
died_state : (peer : ℕ) (i : Invocation) (call : CallName) (what : Waited) →
    i.state ≡ Waits call peer what → without_answer peer i ≡ answered (Raised ConnectionDied) i
died_state peer i call what h = grind (arith, common_steps, h)

-- and stands where it stood
answered_in : (peer : ℕ) (stack : List Invocation) (i : Invocation) → IsIn stack i →
    IsIn (map (without_answer peer) stack) (without_answer peer i)
answered_in peer [] i a = a
answered_in peer (j ∷ stack) i (inl e) = inl (ap (without_answer peer) e)
answered_in peer (j ∷ stack) i (inr a) = inr (answered_in peer stack i a)

-- each call to the peer fails
pub calls_fail : (peer : ℕ) (n : Node) (i : Invocation) (call : CallName) (what : Waited) →
    IsIn n.stack i → i.state ≡ Waits call peer what →
    IsIn (closing peer n).node.stack (answered (Raised ConnectionDied) i)
calls_fail peer n i call what a h =
    rw (settled_node (asked_of peer n) (parted peer n), ← died_state peer i call what h)
    (answered_in peer n.stack i a)

-- ---- asks

-- no parcel of an effect settles a lend
abbrev SettlesNothing : Effect → Type 0
SettlesNothing e = All (λ p. is_settled p.item ≡ false) e.sent

-- over an open end the home is asked, and nothing is settled
pub asks_settle_nothing : (w : Wanted) (n : Node) → is_open n w.object.node ≡ true →
    SettlesNothing (asking w n)
asks_settle_nothing w n h =
    let P : Parcel → Type 0 = λ p. is_settled p.item ≡ false in
    rw h
    (either SettlesNothing (list_any (same_wanted w) n.asked) (only n) _ (λ _. All-nil P)
    (λ _. All-cons P _ [] refl (All-nil P)))

-- once a lend is settled nothing is asked for under it
pub nothing_asked : (w : Wanted) (n : Node) →
    All (λ v. same_wanted w v ≡ false) (ask_over w n).node.asked
nothing_asked w n =
    rw (settling_node w (without_wanted w n)) (none_left (same_wanted w) n.asked)
