use Rattle.do_script.proofs.instruction_names.form_among.Given as goal
use Rattle.std.{proofs.Common.{◌≡◌, drop}, specs.Prelude.map}
use Rattle.do_script.specs.InstructionNames.{form_in}

abbrev pub invariant-loop-word : goal.invariant-loop-word
invariant-loop-word l =
    form_in (map (λ row. (row.0.now, row.1)) l.rows) l.name ≡ form_in
    (map (λ row. (row.0.now, row.1)) (drop l.word-index l.rows)) l.name
