-- An input behind a sound move of another node is the same move and shows the same.
use Rattle.std.{proofs.Common.{◌≡◌, ◌==◌, ℕ, false, ap, ◌∙◌, sym}, specs.Prelude.◌++◌}
use Rattle.do_machine.specs.{Commit.{commit, showed}, Context.around, State.node}
use Rattle.do_machine.specs.declared.{node.Node.Node, state.{State.State, Stepped.Stepped}}
use Rattle.do_machine.specs.held.Leaving.{leaving}
use Rattle.do_record.specs.declared.parts.RecordLine.{RecordLine}
use Rattle.do_weave.specs.Rules.{Rules}
use Rattle.do_facts.proofs.steps.OthersStay.{commit_leaves_others}
use Rattle.do_orders.specs.Inputs.{ByMove, effect_by, source_of}
use Rattle.do_orders.specs.Moves.{Move, done, effected, performed, taken_off}
use Rattle.do_orders.proofs.Around.{KnowsClasses, around_past, entry_same, knows_off}
use Rattle.do_orders.proofs.{Commuting.{effected_past, off_past, stands_after}, Moving.turned_round}
use Rattle.do_orders.proofs.SoundMoves.{IsSound, StandsIn, at_effect, at_off, node_off}

-- the move that an input is
abbrev pub move_of : (R : Rules) (S : State) (p : ℕ) (i : RecordLine) (a : Stepped) →
    ByMove R S p i a → Move
move_of R S p i a x =
    let T = taken_off p (source_of i x.item) S in record {
      port = p;
      source = source_of i x.item;
      effect = x.effect;
      leaves = leaving (around (commit p x.effect T) x.effect.node).entry x.effect.node;
    }

module _ (R : Rules) (S : State) (p : ℕ) (i : RecordLine) (a : Stepped) (x : ByMove R S p i a)
    (home : x.doer.port ≡ p) (knows : KnowsClasses x.doer S)
    (same_port : x.effect.node.port ≡ p) (k : Move) (n : Node) (sound : IsSound k n)
    (at : StandsIn k n S) (apart : (p == k.port) ≡ false) where
  -- the input as a move
  abbrev m : Move
  m = move_of R S p i a x

  -- the state without what it takes off
  abbrev T : State
  T = taken_off p m.source S

  -- the other port is another one
  back : (k.port == p) ≡ false
  back = turned_round p k.port apart

  -- what it takes off may be taken off before the other's move
  off : taken_off p m.source (done k S) ≡ done k T
  off = off_past k p apart S at.there m.source x.stands

  -- its node knows the same, once it took that off
  same_around : around (taken_off p m.source (done k S)) x.doer ≡ around T x.doer
  same_around =
      ap (λ U. around U x.doer) off
      ∙ around_past k n sound T (at_off k n p back S at m.source x.stands) x.doer
      (ap (λ z. z == k.port) home ∙ apart) (knows_off x.doer p m.source S knows)

  -- it frees and leaves the same
  same_leaves : leaving (around (effected m (done k S)) x.effect.node).entry x.effect.node
      ≡ m.leaves
  same_leaves =
      let U = effected m S in
      let node = x.effect.node in
      ap (λ V. leaving (around V node).entry node)
      (effected_past m k apart S x.stands at.there)
      ∙ ap (λ f. leaving f node)
      (entry_same k n sound U
      (at_effect k n p back T (at_off k n p back S at m.source x.stands) x.effect)
      node (ap (λ z. z == k.port) same_port ∙ apart))

  -- behind the other's move the input is the same move
  pub behind : ByMove R (done k S) p i (performed m (done k S))
  behind = record {
    doer = x.doer;
    item = x.item;
    effect = x.effect;
    here =
        commit_leaves_others k.port p k.leaves (effected k S) apart
        ∙ commit_leaves_others k.port p k.effect (taken_off k.port k.source S) apart
        ∙ node_off k.port k.source S p ∙ x.here;
    stands = stands_after k p apart S at.there m.source x.stands;
    decided = ap (λ known. effect_by R i x.item known x.doer) same_around ∙ x.decided;
    comes =
        ap (λ l. showed (x.effect.shown ++ l.shown) (commit p l (effected m (done k S))))
        (sym same_leaves);
  }
