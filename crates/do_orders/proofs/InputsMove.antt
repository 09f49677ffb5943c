-- An enabled input is a move, and an input that is such a move is enabled.
use Rattle.do_base.specs.declared.events.event.Event.TheVariants as events
use Rattle.do_machine.specs.declared.item.Item.TheVariants as items
use Rattle.std.proofs.Common.{◌≡◌, ℕ, Bool, true, false, cond, List, [], ◌∷◌, refl, sym, ap, ◌∙◌}
use Rattle.std.specs.Prelude.{None, Option, Some, if◌then◌else◌}
use Rattle.do_machine.specs.{Commit.moved, Context.context, Lists.some_passes, State.change}
use Rattle.do_machine.specs.{State.{is_open, node, queue}, Step.step, declared.item.Item.Item}
use Rattle.do_machine.specs.declared.{node.Node.Node, state.{State.State, Stepped.Stepped}}
use Rattle.do_machine.specs.{ends.Closing.closing, take.Take.{can_serve, can_take, take_effect}}
use Rattle.do_record.specs.declared.parts.RecordLine.{RecordLine}
use Rattle.do_record.specs.declared.parts.RecordLine.TheVariants.{Close, Ended, Run, Start, Take}
use Rattle.do_weave.specs.{Inputs.{ending, takes, tried}, Rules.Rules}
use Rattle.do_facts.proofs.steps.RuleMoves.{rule_moves}
use Rattle.do_agreement.proofs.takes.MachineTakes.{take_moves}
use Rattle.do_orders.{specs.Inputs.ByMove, proofs.{Acts.{acted, chosen}, LedBack.LedBack}}
use Rattle.do_orders.specs.Moves.{without_first}
use Rattle.do_orders.proofs.{Moving.off_is, TakesMove.{ending_moves, open_of, take_there}}

-- what passes a test is there
some_there : {X : Type 0} (test : X → Bool) (found : Option X) → some_passes test found ≡ true →
    (x : X) × (found ≡ Some x) × (test x ≡ true)
some_there test None e = absurd (cc)
some_there test (Some x) e = (x, refl, e)

module _ (R : Rules) (S : State) (p : ℕ) where
  -- what there is to try of a step
  abbrev as_tried : Stepped → Option Stepped
  as_tried s = if s.outcome.enabled then Some s else None

  -- an enabled take is a move
  take_is_move : (from : ℕ) (a : Stepped) → tried R S p (Take from) ≡ Some a →
      ByMove R S p (Take from) a
  take_is_move from a e =
      let s = step R.table R.act S (events.Take p from) in
      let was = chosen s.outcome.enabled s a e in
      let r = take_there R.table S p from R.act was.0 in
      let T = λ (U : State). moved p U (take_effect (context R.table U r.doer) from r.item) in
      let off = off_is p from (r.item ∷ r.rest) S r.waits in record {
        doer = r.doer;
        item = r.item;
        effect = take_effect (context R.table (change_off from) r.doer) from r.item;
        here = r.here;
        stands = (r.rest, r.waits);
        decided = ap (λ b. cond b (Some (take_effect
            (context R.table (change_off from) r.doer) from r.item)) None) r.able;
        comes = sym was.1
            ∙ take_moves R.table S p from R.act r.doer r.item r.rest r.here r.able r.waits
            ∙ ap T off;
      }
    where
      change_off : ℕ → State
      change_off from = change from (without_first p) S

  -- an enabled end without notice is a move, where each open end has its queue back
  end_is_move : LedBack S → (peer : ℕ) (a : Stepped) → tried R S p (Ended peer) ≡ Some a →
      ByMove R S p (Ended peer) a
  end_is_move led peer a e =
      let was = chosen (takes S p peer) (ending R S p peer) a e in
      let r = some_there (can_take peer) (node S p) was.0 in
      by_queue r.0 r.1 r.2 was.1 (queue S peer p) refl
    where
      by_queue : (n : Node) → node S p ≡ Some n → can_take peer n ≡ true →
          ending R S p peer ≡ a → (found : Option (List Item)) → queue S peer p ≡ found →
          ByMove R S p (Ended peer) a
      by_queue n here able is None q =
          absurd (no (led.back p peer n here q)
          (open_of (is_open n peer) (can_serve n.stack) able))
        where
          no : is_open n peer ≡ false → is_open n peer ≡ true → ⊥
          no a b = cc
      by_queue n here able is (Some w) q =
          let effect = take_effect (context R.table S n) peer (items.End []) in record {
            doer = n;
            item = items.End [];
            effect = effect;
            here = here;
            stands = (w, q);
            decided = ap (λ b. cond b (Some effect) None) able;
            comes = sym is ∙ ending_moves R.table R.act S p peer n w here q able;
          }

  -- an enabled input is a move
  pub input_moves : LedBack S → (i : RecordLine) (a : Stepped) → tried R S p i ≡ Some a →
      ByMove R S p i a
  input_moves led (Start selector values) a e =
      let r = acted R S p (events.Start p selector values) a refl e in record {
        doer = r.doer;
        item = items.End [];
        effect = r.effect;
        here = r.here;
        stands = tt;
        decided = r.rule;
        comes = r.comes;
      }
  input_moves led Run a e =
      let r = acted R S p (events.Run p) a refl e in record {
        doer = r.doer;
        item = items.End [];
        effect = r.effect;
        here = r.here;
        stands = tt;
        decided = r.rule;
        comes = r.comes;
      }
  input_moves led (Take from) a e = take_is_move from a e
  input_moves led (Close peer) a e =
      let r = acted R S p (events.Close p peer) a refl e in record {
        doer = r.doer;
        item = items.End [];
        effect = r.effect;
        here = r.here;
        stands = tt;
        decided = ap (λ b. cond b (Some (closing peer r.doer)) None) r.rule.0
            ∙ ap Some (sym r.rule.1);
        comes = r.comes;
      }
  input_moves led (Ended peer) a e = end_is_move led peer a e

  -- an input that is such a move is enabled
  pub move_is_tried : (i : RecordLine) (a : Stepped) → ByMove R S p i a →
      tried R S p i ≡ Some a
  move_is_tried (Start selector values) a x =
      ap as_tried (rule_moves R.table R.act S (events.Start p selector values) p x.doer x.effect
      refl x.here x.decided) ∙ ap Some (sym x.comes)
  move_is_tried Run a x =
      ap as_tried (rule_moves R.table R.act S (events.Run p) p x.doer x.effect refl x.here
      x.decided) ∙ ap Some (sym x.comes)
  move_is_tried (Close peer) a x =
      let was = chosen (is_open x.doer peer) (closing peer x.doer) x.effect x.decided in
      ap as_tried (rule_moves R.table R.act S (events.Close p peer) p x.doer x.effect refl x.here
      (was.0, sym was.1)) ∙ ap Some (sym x.comes)
  move_is_tried (Take from) a x =
      let n = x.doer in
      let T = change from (without_first p) S in
      let e = take_effect (context R.table T n) from x.item in
      let was = chosen (can_take from n) e x.effect x.decided in
      let M = λ (U : State). moved p U (take_effect (context R.table U n) from x.item) in
      ap as_tried (take_moves R.table S p from R.act n x.item x.stands.0 x.here was.0 x.stands.1
      ∙ ap M (off_is p from (x.item ∷ x.stands.0) S x.stands.1)
      ∙ ap (moved p T) was.1) ∙ ap Some (sym x.comes)
  move_is_tried (Ended peer) a x =
      let n = x.doer in
      let e = take_effect (context R.table S n) peer (items.End []) in
      let was = chosen (can_take peer n) e x.effect x.decided in
      ap (λ b. cond b (Some (ending R S p peer)) None)
      (ap (some_passes (can_take peer)) x.here ∙ was.0)
      ∙ ap Some (ending_moves R.table R.act S p peer n x.stands.0 x.here x.stands.1 was.0
      ∙ ap (moved p S) was.1 ∙ sym x.comes)
