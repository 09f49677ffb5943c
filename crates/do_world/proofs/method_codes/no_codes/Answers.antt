use Rattle.do_world.proofs.method_codes.no_codes.Goals as goal
use Rattle.std.proofs.Common.{◌∙◌, ◌++◌, ◌∷◌, [], ap}
use Rattle.do_class.specs.Table.{class_at}
use Rattle.do_world.proofs.CodeKinds.{no_code_more, no_code_same}
use Rattle.do_world.proofs.method_codes.no_codes.Goals.{else-has_method}
use Rattle.do_world.proofs.method_codes.no_codes.Goals.{then-has_method+in_ok-no_code+in_ok-push}

pub loop-index-preserved : goal.loop-index-preserved
loop-index-preserved c =
    elim c.if-has_method.branch [
      | then-has_method+in_ok-no_code+in_ok-push w ↦
          no_code_more (class_at c.args.classes.now c.args.class) c.loop-index.index
          c.loop-index.codes c.if-has_method.codes c.loop-index.invariant
          (c.has_method.ensures.0 w.if-has_method.true)
          (w.codes-is ∙ w.in_ok-push.ensures.ok
          ∙ ap (λ code. c.loop-index.codes ++ code ∷ []) w.in_ok-no_code.ensures)
      | else-has_method w ↦
          rw w.codes-is (no_code_same (class_at c.args.classes.now c.args.class)
          c.loop-index.index c.loop-index.codes c.loop-index.invariant
          (λ there. let yes = c.has_method.ensures.1 there in let no = w.if-has_method.false in cc))
    ]
