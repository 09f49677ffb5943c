-- What a line says, as the code has it.
use Rattle.do_script.specs.declared.statement.Said.{Said, TheVariants.{Nothing, Label, NoLabel}}
use Rattle.do_script.specs.{declared.statement.Said.TheVariants.Instruction, Words.words}
use Rattle.do_script.specs.Program.{Statement, nothing, label, no_label, instruction}

-- the statement, whose operands are the words of the bytes behind the name
abbrev pub statement_in : Said → Statement
statement_in Nothing = nothing
statement_in (Label name) = label name.now
statement_in NoLabel = no_label
statement_in (Instruction name operands) = instruction name.now (words operands.now)
