-- What a change that means an act does.
use Rattle.do_behave.specs.declared.act.Act.TheVariants as acts
use Rattle.do_behave.specs.declared.change.Change.TheVariants as changes
use Rattle.std.proofs.Common.{◌≡◌, ◌<◌, List, [], ◌∷◌, length, None, Some, ap, false, refl, sym}
use Rattle.std.proofs.Common.{true, ◌∙◌, subst, arith}
use Rattle.std.specs.Prelude.{Err, Ok, OnErr, Result, slice_get}
use Rattle.do_class.specs.Class.{Class}
use Rattle.do_behave.specs.{Changes.{IsFitting, Means}, InPlace.after_act, declared.act.Act.Act}
use Rattle.do_behave.specs.declared.{change.Change.Change, invocation.Invocation.Invocation}
use Rattle.do_machine.specs.{declared.node.Node.Node, Context.{Context, RunContext}}
use Rattle.do_network.specs.{Counting.{of_held, of_known, over_open_ends}, Own.Own}
use Rattle.do_part.specs.Changed.{act_done, act_left_on, changed, changed_on}
use Rattle.do_effects.specs.{Plans.IsRunning, Doing.{Doing, doing, moved}, Tidy.IsTidy}
use Rattle.do_machine.specs.{State.is_open, declared.state.Effect.Effect}
use Rattle.do_network.specs.Site.{site_move}
use Rattle.do_site.specs.{declared.work.Work.Work, Kept.{IsKept, StaysBut}}
use Rattle.do_site.specs.Running.{IsRunOf, is_step}

module _ (table : List Class) (p : Own) (r : RunContext) (run : IsRunOf table p r)
    (change : Change) (act : Act) (means : Means r.top change act) where
  -- the node is that once the act is done
  pub change_meant : changed change p.node ≡ act_done act r.top r.below r.context.node
  change_meant =
      ap (λ (stack : List Invocation). changed_on change stack p.node) run.stack
      ∙ ap (λ (a : Act). act_done a r.top r.below p.node) means.is
      ∙ sym (ap (λ (c : Context). act_done act r.top r.below c.node) run.context)

  -- what is left is what is left of the act
  pub left_meant : act_left_on change p.node.stack ≡ (after_act act r.top []).left
  left_meant =
      ap (act_left_on change) run.stack ∙ ap (λ (a : Act). (after_act a r.top []).left) means.is

  -- it fits the top invocation
  pub change_fits : (top : Invocation) → slice_get p.node.stack 0 ≡ Some top →
      IsFitting top change
  change_fits top first =
      let one : Some r.top ≡ Some top
      = sym (ap (λ (stack : List Invocation). slice_get stack 0) run.stack) ∙ first in
      let same : r.top ≡ top = cc in
      subst (λ (i : Invocation). IsFitting i change) same means.fits

-- a tidy node is tidy where the node alone changes, but for ends, held and asked
pub tidy_alone : (p : Own) (n : Node) → IsTidy p → n.open_to ≡ p.node.open_to →
    n.held ≡ p.node.held → n.asked ≡ p.node.asked → IsTidy (record p { node = n })
tidy_alone p n tidy ends held asked = record {
  counts = (λ j. over_open_ends (record n { open_to = ends j }) p.counts) ∙ tidy.counts;
  received = (λ j. of_held (record n { held = held j }) p.received) ∙ tidy.received;
  classes = (λ j. of_known (record n { held = held j; asked = asked j }) p.classes)
      ∙ tidy.classes;
}

-- one that runs is there
pub some_runs : (stack : List Invocation) → IsRunning stack → 0 < length stack
some_runs [] h = absurd h
some_runs (top ∷ below) h = omega arith

-- what follows of a failed call
pub on_err : {A E : Type 0} {P Q : Type 0} (r : Result A E) → (P → Q) → OnErr r P → OnErr r Q
on_err (Ok x) f p = tt
on_err (Err e) f p = f p

-- what a site keeps true is true where nothing but room changed
pub same_kept : (table : List Class) (old new : Work) → doing new.core ≡ doing old.core →
    StaysBut old new → IsKept table old → IsKept table new
same_kept table old new same stays k =
    let own : new.core.part.own ≡ old.core.part.own = ap (λ (d : Doing). d.own) same in
    record {
      tidy = subst IsTidy (sym own) k.tidy;
      apart = subst (λ (p : Own). is_open p.node p.node.port ≡ false) (sym own) k.apart;
      classes = stays.classes ∙ k.classes;
    }

-- a move of the same is that move
pub same_moves : (d one new : Doing) (e : Effect) → one ≡ d →
    new ≡ moved one (site_move one.own e) → new ≡ moved d (site_move d.own e)
same_moves d one new e same moves =
    moves ∙ ap (λ (x : Doing). moved x (site_move x.own e)) same

-- an act that is a step leaves none to do
step_left : (act : Act) (top : Invocation) → is_step act ≡ true →
    (after_act act top []).left ≡ None
step_left (acts.Step pc locals handler writes) top e = refl
step_left (acts.New class into pc) top e = cc
step_left (acts.Send target selector args into from pc) top e = cc
step_left (acts.Root port into pc) top e = cc
step_left (acts.Vend value pc) top e = cc
step_left (acts.Say value pc) top e = cc
step_left (acts.Return value) top e = cc
step_left (acts.Raise exc) top e = cc

-- so does a change that is one
pub act_leaves_none : (act : Act) (stack : List Invocation) → is_step act ≡ true →
    act_left_on (changes.Other act) stack ≡ None
act_leaves_none act [] e = refl
act_leaves_none act (top ∷ below) e = step_left act top e

-- and any change but an act
pub change_leaves_none : (change : Change) (stack : List Invocation) →
    ((act : Act) → change ≡ changes.Other act → ⊥) → act_left_on change stack ≡ None
change_leaves_none change [] other = refl
change_leaves_none (changes.Local into value pc) (top ∷ below) other = refl
change_leaves_none (changes.Push list item weight pc) (top ∷ below) other = refl
change_leaves_none (changes.Goto pc) (top ∷ below) other = refl
change_leaves_none (changes.Slot at value pc) (top ∷ below) other = refl
change_leaves_none (changes.Slots sets handler writes pc) (top ∷ below) other = refl
change_leaves_none (changes.Handler handler pc) (top ∷ below) other = refl
change_leaves_none (changes.Other act) (top ∷ below) other = absurd (other act refl)
