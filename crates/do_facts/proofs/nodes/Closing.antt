-- Closing an end is moves of the node.
use Rattle.do_facts.specs.nodes.Cause as cause
use Rattle.do_machine.specs.declared.item.Item.TheVariants as items
use Rattle.do_facts.specs.nodes.Moves as moves
use Rattle.std.proofs.Common.{◌≡◌, ◌==◌, ◌∙◌, ℕ, true, false, not, List, [], ◌∷◌, refl, sym, ap}
use Rattle.std.{proofs.Common.{subst, inl, inr, cond, Bool, filter, arith}, specs.List.list_any}
use Rattle.std.proofs.lemmas.Bool.Decides.{nat_tests}
use Rattle.do_machine.specs.declared.node.{Node.Node, Wanted.Wanted}
use Rattle.do_machine.specs.{Effect.{each, only, queueing}, Lists.IsIn, State.is_open}
use Rattle.do_machine.specs.ends.Closing.{asked_of, closing, parted, serials_of}
use Rattle.do_machine.specs.lend.Asking.{same_wanted, settling, without_wanted}
use Rattle.do_facts.specs.{StandOnce.StandOnce, View.posted}
use Rattle.do_facts.proofs.OnceInLists.{apart_in, found_in, in_filtered, once_filtered}
use Rattle.do_facts.proofs.{OnceInLists.{passing_taken, still_there, taken_out}, Chains.either}
use Rattle.do_facts.proofs.links.SameIsEqual.{wanted_is, wanted_itself}
use Rattle.do_facts.proofs.walk.SmallEffects.{settled_node, settling_node}
use Rattle.do_facts.specs.nodes.{Atoms.Whole, Judged.Judge, View.nodes}
use Rattle.do_facts.specs.nodes.After.{closed, note, telling}
use Rattle.do_facts.proofs.nodes.Walks.{Does, once, rests, same_node, does_on}

-- the node with other asks
abbrev with_asks : List Wanted → Node → Node
with_asks asked n = record n { asked = asked }

-- what is sent where a lend is settled
pub settled_sent : (w : Wanted) (n : Node) (told : Bool) → is_open n w.token.lender ≡ told →
    telling told w.token ≡ posted nodes (settling w n).sent
settled_sent w n told h =
    go told ∙ ap (λ b. posted nodes (cond (not b) (only n)
    (queueing w.token.lender (items.Settled w.token.number) n)).sent) (sym h)
  where
    go : (b : Bool) → telling b w.token ≡ posted nodes (cond (not b) (only n)
        (queueing w.token.lender (items.Settled w.token.number) n)).sent
    go true = refl
    go false = refl

-- nothing is shown
pub settled_shown : (w : Wanted) (n : Node) → (settling w n).shown ≡ []
settled_shown w n =
    either (λ e. e.shown ≡ []) (not (is_open n w.token.lender)) (only n) _ (λ _. refl) (λ _. refl)

-- an end that is closed is not open
end_closed : (peer : ℕ) (ps : List ℕ) (x : ℕ) → (x == peer) ≡ true →
    list_any (λ p. p == x) (filter (λ p. not (p == peer)) ps) ≡ false
end_closed peer [] x h = refl
end_closed peer (p ∷ ps) x h = grind (arith, nat_tests, h, end_closed peer ps x h)

module _ (j : Judge) where
  -- no ask stood twice as the effect began
  abbrev WereOnce : Type 0
  WereOnce = StandOnce same_wanted j.first.asked

  -- the home's end of each of these asks is closed, and it is there, if none stood twice
  abbrev MayEnd : Node → List Wanted → Type 0
  MayEnd n ws = (w : Wanted) → IsIn ws w → (is_open n w.object.node ≡ false)
      × (WereOnce → list_any (same_wanted w) n.asked ≡ true)

  -- asks are given up, one after another
  gives_up : (m : Node) (ws : List Wanted) (p : Node) → p.open_to ≡ m.open_to →
      (WereOnce → StandOnce same_wanted ws) → MayEnd p ws →
      Does j p [] [] (with_asks (taken_out same_wanted ws p.asked) p)
      (each settling ws m).sent (each settling ws m).shown
  gives_up m [] p same apart may = rests j p
  gives_up m (w ∷ ws) p same apart may =
      let told = is_open m w.token.lender in
      let now = may w (inl refl) in
      let q = without_wanted w p in
      let is_m : (settling w m).node ≡ m = settling_node w m in
      let ends : is_open p w.token.lender ≡ told =
      ap (λ ps. list_any (λ x. x == w.token.lender) ps) same in
      let rest : Does j q [] [] (with_asks (taken_out same_wanted ws q.asked) q)
      (each settling ws (settling w m).node).sent (each settling ws (settling w m).node).shown =
      gives_up (settling w m).node ws q (same ∙ ap (λ k. k.open_to) (sym is_m))
      (λ o. (apart o).1)
      (λ v i.
      let then = may v (inr i) in (
        then.0,
        λ o. still_there same_wanted wanted_is w v p.asked
            (apart_in same_wanted w ws (apart o).0 v i) (then.1 o),
      ))
      in
      does_on j
      (subst (λ xs. Does j p [] [] q (settling w m).sent xs) (sym (settled_shown w m))
      (once j p (moves.GivesUp w told) (now.0, ends, now.1) (settling w m).sent
      (settled_sent w m told refl)))
      rest

  module _ (peer : ℕ) (n : Node) where
    -- the asks that a peer was to answer are there, and its end is closed
    may_end : MayEnd (closed peer n) (asked_of peer n)
    may_end w i =
        let both = in_filtered (λ (v : Wanted). v.object.node == peer) n.asked w i in (
          end_closed peer n.open_to w.object.node both.1,
          λ o. found_in same_wanted wanted_itself n.asked w both.0,
        )

    -- the asks that are left are those of other homes
    asks_left : taken_out same_wanted (asked_of peer n) n.asked ≡ (parted peer n).asked
    asks_left =
        passing_taken same_wanted wanted_itself (λ w. w.object.node == peer)
        (λ v w h. ap (λ x. x.object.node == peer) (wanted_is v w h)) n.asked

    -- once the end is closed, what follows is moves
    pub closing_ends : (WereOnce → StandOnce same_wanted n.asked) →
        let e = each settling (asked_of peer n) (parted peer n) in
        Does j (closed peer n) [] [] (closing peer n).node e.sent e.shown
    closing_ends apart =
        let m = parted peer n in
        let ws = asked_of peer n in
        same_node j
        (ap (λ xs. with_asks xs (closed peer n)) asks_left ∙ sym (settled_node ws m))
        (gives_up m ws (closed peer n) refl
        (λ o. once_filtered same_wanted (λ w. w.object.node == peer) n.asked (apart o)) may_end)

    -- a node closes its end
    pub by_closing : j.cause ≡ cause.Close peer → is_open n peer ≡ true →
        (WereOnce → StandOnce same_wanted n.asked) →
        Does j n [] [] (closing peer n).node (closing peer n).sent (closing peer n).shown
    by_closing why ends apart =
        does_on j
        (once j n (moves.Closes peer) (ends, why)
        (queueing peer (items.End (serials_of peer n.held)) (parted peer n)).sent refl)
        (closing_ends apart)

    -- a node whose peer closed its end closes its own
    pub by_parting : (serials : List ℕ) → j.cause ≡ cause.Take peer (items.End serials) →
        is_open n peer ≡ true → (WereOnce → StandOnce same_wanted n.asked) →
        Does j n (note peer (Whole (items.End serials))) [] (closing peer n).node
        (closing peer n).sent (closing peer n).shown
    by_parting serials why ends apart =
        does_on j
        (once j n (moves.Parts peer serials) (ends, why)
        (queueing peer (items.End (serials_of peer n.held)) (parted peer n)).sent refl)
        (closing_ends apart)
