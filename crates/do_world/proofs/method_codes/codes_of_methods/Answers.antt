use Rattle.do_world.proofs.method_codes.codes_of_methods.Goals as goal
use Rattle.std.proofs.Common.{◌≡◌, ◌∙◌, ◌++◌, ◌∷◌, [], ap, arith, length, length-append}
use Rattle.std.proofs.lemmas.List.Elements.{All-push}
use Rattle.toml.specs.View.{table_view}
use Rattle.do_behave.specs.Programs.{Suits}
use Rattle.do_document.proofs.Growing.{made_more}
use Rattle.do_world.{specs.Worlds.method_code, proofs.CodeLoops.{code_said, code_turn}}

pub loop-j-preserved : goal.loop-j-preserved
loop-j-preserved c =
    let grown = c.in_ok-push.ensures.ok in
    let count : length c.push.new.self ≡ length (c.loop-j.codes ++ c.in_ok-code.code ∷ []) =
    ap length grown in
    let said =
    code_said (λ t. table_view t.now) c.args.tables.now c.loop-j.j c.index-tables-j.result
    c.loop-j-test.true c.index-tables-j.is c.args.slots.now c.args.classes.now c.in_ok-code.code
    c.in_ok-code.ensures.1.0 in
    record {
      faults = code_turn (λ t. table_view t.now) c.args.tables.now c.loop-j.j
          c.index-tables-j.result c.loop-j-test.true c.index-tables-j.is c.args.k
          c.args.slots.now c.args.classes.now _ c.loop-j.invariant.faults c.in_ok-code.ensures.0;
      made = grown ∙ made_more (method_code c.args.slots.now c.args.classes.now)
          (λ t. table_view t.now) c.args.tables.now c.loop-j.j c.index-tables-j.result
          c.loop-j.codes c.in_ok-code.code c.loop-j-test.true c.loop-j.invariant.made said;
      all = omega (
        arith,
        count,
        length-append c.loop-j.codes (c.in_ok-code.code ∷ []),
        c.loop-j.invariant.all,
      );
      suit = rw grown (All-push (Suits (length c.args.slots.now) (length c.args.classes.now))
          c.loop-j.codes c.in_ok-code.code c.loop-j.invariant.suit c.in_ok-code.ensures.1.1);
    }
