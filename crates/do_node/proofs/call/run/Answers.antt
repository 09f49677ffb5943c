use Rattle.do_node.proofs.call.run.Goals as goal
use Rattle.do_cli.specs.Forms.{command_in}
use Rattle.do_node.proofs.{AsOneMachine.memory_adds, LeaksTold.leaks_told}
use Rattle.do_node.proofs.OrdersKept.{memory_altered, no_order, some_order}
use Rattle.do_node.proofs.{KeptWithin.memory_within, RecordsGiven.gives_back}
use Rattle.do_node.proofs.Upgraded.{replayed_alike}
use Rattle.do_node.proofs.WordsRead.{memory_told, no_command, none_asked, usage_told}

pub returns-in-Err-Usage-clause-usage : goal.returns-in-Err-Usage-clause-usage
returns-in-Err-Usage-clause-usage g c = rw c.in-Err-Usage.word-is
    (usage_told c.args.words.now c.in-Err-Usage.word
    (rw c.in-Err-Usage.field-0-is at c.in-Err-Usage.ensures.usage))

pub returns-in-Err-Usage-clause-refuses : goal.returns-in-Err-Usage-clause-refuses
returns-in-Err-Usage-clause-refuses g c = λ files command status is asks none.
    absurd (no_command c.args.words.now c.in-Err-Usage.word command
    (rw c.in-Err-Usage.field-0-is at c.in-Err-Usage.ensures.usage) asks)

pub returns-in-Err-Usage-clause-complete : goal.returns-in-Err-Usage-clause-complete
returns-in-Err-Usage-clause-complete g c = λ files command text is asks writes calm quiet.
    absurd (no_command c.args.words.now c.in-Err-Usage.word command
    (rw c.in-Err-Usage.field-0-is at c.in-Err-Usage.ensures.usage) asks)

pub returns-in-Err-Memory-clause-usage : goal.returns-in-Err-Memory-clause-usage
returns-in-Err-Memory-clause-usage g c =
    memory_told c.args.words.now (rw c.in-Err-Memory.field-0-is at c.in-Err-Memory.ensures.usage)

pub returns-in-Err-Usage-clause-upgraded : goal.returns-in-Err-Usage-clause-upgraded
returns-in-Err-Usage-clause-upgraded g c =
    replayed_alike (g.H.Shelf.files c.args.shelf.now)

pub returns-in-Err-Memory-clause-upgraded : goal.returns-in-Err-Memory-clause-upgraded
returns-in-Err-Memory-clause-upgraded g c =
    replayed_alike (g.H.Shelf.files c.args.shelf.now)

pub returns-clause-upgraded : goal.returns-clause-upgraded
returns-clause-upgraded g c = replayed_alike (g.H.Shelf.files c.args.shelf.now)

pub returns-in-Err-Usage-clause-leaks : goal.returns-in-Err-Usage-clause-leaks
returns-in-Err-Usage-clause-leaks g c = leaks_told (g.H.Shelf.files c.args.shelf.now)

pub returns-in-Err-Memory-clause-leaks : goal.returns-in-Err-Memory-clause-leaks
returns-in-Err-Memory-clause-leaks g c = leaks_told (g.H.Shelf.files c.args.shelf.now)

pub returns-clause-leaks : goal.returns-clause-leaks
returns-clause-leaks g c = leaks_told (g.H.Shelf.files c.args.shelf.now)

pub returns-in-Err-Usage-clause-rewoven : goal.returns-in-Err-Usage-clause-rewoven
returns-in-Err-Usage-clause-rewoven g c = gives_back (g.H.Shelf.files c.args.shelf.now)

pub returns-in-Err-Memory-clause-rewoven : goal.returns-in-Err-Memory-clause-rewoven
returns-in-Err-Memory-clause-rewoven g c = gives_back (g.H.Shelf.files c.args.shelf.now)

pub returns-clause-rewoven : goal.returns-clause-rewoven
returns-clause-rewoven g c = gives_back (g.H.Shelf.files c.args.shelf.now)

pub returns-in-Err-Usage-clause-ordered : goal.returns-in-Err-Usage-clause-ordered
returns-in-Err-Usage-clause-ordered g c = some_order (g.H.Shelf.files c.args.shelf.now)

pub returns-in-Err-Memory-clause-ordered : goal.returns-in-Err-Memory-clause-ordered
returns-in-Err-Memory-clause-ordered g c = some_order (g.H.Shelf.files c.args.shelf.now)

pub returns-clause-ordered : goal.returns-clause-ordered
returns-clause-ordered g c = some_order (g.H.Shelf.files c.args.shelf.now)

pub returns-in-Err-Usage-clause-unordered : goal.returns-in-Err-Usage-clause-unordered
returns-in-Err-Usage-clause-unordered g c = no_order (g.H.Shelf.files c.args.shelf.now)

pub returns-in-Err-Memory-clause-unordered : goal.returns-in-Err-Memory-clause-unordered
returns-in-Err-Memory-clause-unordered g c = no_order (g.H.Shelf.files c.args.shelf.now)

pub returns-clause-unordered : goal.returns-clause-unordered
returns-clause-unordered g c = no_order (g.H.Shelf.files c.args.shelf.now)

pub returns-in-Err-Usage-clause-links : goal.returns-in-Err-Usage-clause-links
returns-in-Err-Usage-clause-links g c = none_asked c.args.words.now c.in-Err-Usage.word _
    (rw c.in-Err-Usage.field-0-is at c.in-Err-Usage.ensures.usage)

pub returns-in-Err-Usage-clause-spawns : goal.returns-in-Err-Usage-clause-spawns
returns-in-Err-Usage-clause-spawns g c = none_asked c.args.words.now c.in-Err-Usage.word _
    (rw c.in-Err-Usage.field-0-is at c.in-Err-Usage.ensures.usage)

pub returns-in-Err-Usage-clause-one_machine : goal.returns-in-Err-Usage-clause-one_machine
returns-in-Err-Usage-clause-one_machine g c = none_asked c.args.words.now c.in-Err-Usage.word _
    (rw c.in-Err-Usage.field-0-is at c.in-Err-Usage.ensures.usage)

pub returns-in-Err-Memory-clause-one_machine : goal.returns-in-Err-Memory-clause-one_machine
returns-in-Err-Memory-clause-one_machine g c =
    memory_adds (g.H.Shelf.files c.args.shelf.now) (g.K.Sink.written c.args.out.now)
    (command_in c.args.words.now)

pub returns-in-Err-Usage-clause-altered : goal.returns-in-Err-Usage-clause-altered
returns-in-Err-Usage-clause-altered g c = none_asked c.args.words.now c.in-Err-Usage.word _
    (rw c.in-Err-Usage.field-0-is at c.in-Err-Usage.ensures.usage)

pub returns-in-Err-Memory-clause-altered : goal.returns-in-Err-Memory-clause-altered
returns-in-Err-Memory-clause-altered g c =
    memory_altered (g.H.Shelf.files c.args.shelf.now) (command_in c.args.words.now)

pub returns-in-Err-Usage-clause-within : goal.returns-in-Err-Usage-clause-within
returns-in-Err-Usage-clause-within g c = none_asked c.args.words.now c.in-Err-Usage.word _
    (rw c.in-Err-Usage.field-0-is at c.in-Err-Usage.ensures.usage)

pub returns-in-Err-Memory-clause-within : goal.returns-in-Err-Memory-clause-within
returns-in-Err-Memory-clause-within g c =
    memory_within (g.H.Shelf.files c.args.shelf.now) (g.K.Sink.written c.args.out.now)
    (command_in c.args.words.now)
