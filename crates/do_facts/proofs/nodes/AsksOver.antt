-- An ask that is granted or refused, at the home and at the borrower, is moves of the node.
use Rattle.do_machine.specs.declared.item.Item.TheVariants as items
use Rattle.do_facts.specs.nodes.Moves as moves
use Rattle.do_facts.specs.nodes.After as does
use Rattle.std.proofs.Common.{◌≡◌, ℕ, true, List, [], ◌∷◌, refl, sym, ◌∙◌, subst}
use Rattle.std.specs.Prelude.{is_some}
use Rattle.do_base.specs.names.Names.{TokenName}
use Rattle.do_machine.specs.declared.{node.{Node.Node, Wanted.Wanted}, state.Effect.Effect}
use Rattle.do_machine.specs.{Effect.queueing, Objects.object_at, State.{is_open, stored}}
use Rattle.do_machine.specs.lend.Asking.{ask_over, granting, settling, wanted, without_wanted}
use Rattle.do_machine.specs.take.Take.{holding}
use Rattle.do_facts.{specs.Net.Note, proofs.{Chains.either, walk.SmallEffects.settling_node}}
use Rattle.do_facts.specs.{nodes.Atoms.{Atom, Whole}, View.posted, nodes.{Judged.Judge, May.may}}
use Rattle.do_facts.{specs.nodes.{View.nodes, After.note}, proofs.nodes.Closing.settled_sent}
use Rattle.do_facts.proofs.nodes.{Closing.settled_shown, Walks.{Does, DoesTo, once, same_node}}

module _ (j : Judge) (from : ℕ) (ends : is_open j.first from ≡ true) where
  -- the node
  abbrev n : Node
  n = j.first

  -- what an item comes to is moves of the node, which take these notes
  abbrev Comes : List (Note Atom) → Effect → Type 0
  Comes taken e = DoesTo j n taken [] e

  -- an ask that is granted or refused
  pub by_granting : (serial : ℕ) (token : TokenName) →
      Comes (note from (Whole (items.Ask serial token))) (granting from serial token n)
  by_granting serial token =
      either (Comes (note from (Whole (items.Ask serial token))))
      (is_some (stored serial n.heap)) (queueing from (items.Granted serial token) n) _
      (λ h. once j n (moves.Grants from serial token) (ends, h) _ refl)
      (λ h. once j n (moves.Lacks from serial token) (ends, h) _ refl)

  -- an ask that is over
  over : (x : moves.Move) (w : Wanted) (k : Node) → does.after n x ≡ without_wanted w k →
      may j n x → does.posts n x ≡ posted nodes (settling w (without_wanted w k)).sent →
      does.shown_by x ≡ [] → does.wrote_by x ≡ [] → Comes (does.takes x) (ask_over w k)
  over x w k same may posts shows writes =
      let m = without_wanted w k in
      same_node j (same ∙ sym (settling_node w m))
      (subst (λ xs. Does j n (does.takes x) [] (does.after n x) (settling w m).sent xs)
      (shows ∙ sym (settled_shown w m))
      (subst (λ xs. Does j n (does.takes x) xs (does.after n x) (settling w m).sent
      (does.shown_by x)) writes
      (once j n x may (settling w m).sent posts)))

  -- an ask that was granted
  pub by_granted : (serial : ℕ) (token : TokenName) →
      Comes (note from (Whole (items.Granted serial token)))
      (ask_over (wanted (object_at from serial) token.lender token.number)
      (holding (object_at from serial ∷ []) n))
  by_granted serial token =
      let w = wanted (object_at from serial) token.lender token.number in
      let told = is_open n token.lender in
      let k = holding (object_at from serial ∷ []) n in
      over (moves.Gains from serial token told) w k refl (ends, refl)
      (settled_sent w (without_wanted w k) told refl) refl refl

  -- an ask that was refused
  pub by_gone : (serial : ℕ) (token : TokenName) →
      Comes (note from (Whole (items.Gone serial token)))
      (ask_over (wanted (object_at from serial) token.lender token.number) (holding [] n))
  by_gone serial token =
      let w = wanted (object_at from serial) token.lender token.number in
      let told = is_open n token.lender in
      over (moves.Misses from serial token told) w (holding [] n) refl (ends, refl)
      (settled_sent w (without_wanted w n) told refl) refl refl
