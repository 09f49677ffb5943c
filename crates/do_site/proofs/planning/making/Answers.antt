use Rattle.do_site.proofs.planning.making.Goals as goal
use Rattle.std.proofs.Common.{List, ap, sym, ◌∙◌}
use Rattle.do_class.specs.Class.{Class}
use Rattle.do_packet.specs.declared.receipt.Made.{Made}
use Rattle.do_machine.specs.run.Fresh.{blank}
use Rattle.do_effects.specs.{Plans.plan_effect, declared.plan.Plan.TheVariants.Makes}

-- the slots are those that the rules give the object
pub returns : goal.returns
returns c = λ r table.
    ap (λ (m : Made). plan_effect r (Makes c.args.class m.slots c.args.into c.args.pc))
    c.in_ok-made.ensures
    ∙ ap (λ (t : List Class). plan_effect r
    (Makes c.args.class (blank t c.args.class).slots c.args.into c.args.pc)) (sym table)
