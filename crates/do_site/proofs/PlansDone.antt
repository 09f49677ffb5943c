-- What a site keeps true where a plan was done.
use Rattle.std.proofs.Common.{◌≡◌, List, false, ap, sym, subst, ◌∙◌}
use Rattle.do_class.specs.Class.{Class}
use Rattle.do_machine.specs.{Context.{Context, RunContext}, State.is_open}
use Rattle.do_network.specs.{Own.Own, Site.site_move}
use Rattle.do_effects.specs.{Doing.Doing, Plans.plan_effect, Tidy.IsTidy}
use Rattle.do_effects.specs.declared.{changing.Core.Core, plan.Plan.Plan}
use Rattle.do_site.{proofs.PlansKeep.plan_apart, specs.{Kept.{IsKept, StaysBut}, Running.IsRunOf}}
use Rattle.do_site.specs.{Steps.Moves, declared.work.Work.Work}

module _ (table : List Class) (old new : Core) (r : RunContext) (plan : Plan)
    (run : IsRunOf table old.part.own r) (moves : Moves old new (plan_effect r plan)) where
  -- the run is that of the node before
  ran_before : r.context.node ≡ old.part.own.node
  ran_before = ap (λ (c : Context). c.node) run.context

  -- the node's own state is then that of the move
  own_after : new.part.own ≡ (site_move old.part.own (plan_effect r plan)).own
  own_after = ap (λ (d : Doing). d.own) moves

  -- no end leads to itself, where none did
  pub apart_after : is_open old.part.own.node old.part.own.node.port ≡ false →
      is_open new.part.own.node new.part.own.node.port ≡ false
  apart_after h =
      subst (λ (p : Own). is_open p.node p.node.port ≡ false) (sym own_after)
      (plan_apart r plan old.part.own.node ran_before h)

-- a site keeps true what it did, where a plan was done
pub plan_kept : (table : List Class) (old new : Work) (r : RunContext) (plan : Plan) →
    IsRunOf table old.core.part.own r → Moves old.core new.core (plan_effect r plan) →
    IsTidy new.core.part.own → StaysBut old new →
    IsKept table old → IsKept table new
plan_kept table old new r plan run moves tidy stays k = record {
  tidy = tidy;
  apart = apart_after table old.core new.core r plan run moves k.apart;
  classes = stays.classes ∙ k.classes;
}
