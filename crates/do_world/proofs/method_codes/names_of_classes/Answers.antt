use Rattle.do_world.proofs.method_codes.names_of_classes.Goals as goal
use Rattle.std.proofs.Common.{◌∙◌, ap, ◌++◌, ◌∷◌, []}
use Rattle.do_class.specs.Class.{Class}
use Rattle.do_world.proofs.CodeSteps.{made_at}

pub loop-class-preserved : goal.loop-class-preserved
loop-class-preserved c =
    let added = made_at (λ (d : Class). d.name) c.args.classes.now c.loop-class.class
    c.loop-class.names c.name.result.now c.loop-class.invariant c.name.ensures in
    let pushed = c.in_ok-push.ensures.ok in
    pushed ∙ ap (λ name. c.loop-class.names ++ name ∷ []) c.in_ok-clone.ensures.cases ∙ added
