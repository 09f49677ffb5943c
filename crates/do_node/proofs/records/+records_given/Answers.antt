use Rattle.do_node.proofs.records.+records_given.Goals as goal
use Rattle.std.proofs.Common.{◌∙◌, Ok, Some, subst}
use Rattle.do_node.specs.Records.{SayNoRecords, SayRecords}
use Rattle.do_given.proofs.Stopping.{give_any}
use Rattle.do_node.proofs.RecordsTold.{later_records_refuse, later_records_say, names_split}

pub returns-in-Err-clause-accepts : goal.returns-in-Err-clause-accepts
returns-in-Err-clause-accepts g t c = λ files records is say.
    let split = names_split c.args.names.now c.name-item.result c.in-len1-up.len_at_least
    c.name-item.is in
    let here = subst (λ ns. SayRecords (Some files) c.args.seats.now c.args.earlier ns records)
    split say in
    give_any here.0 (Ok records) c.in-Err.status
    (c.in-Err.ensures.accepts files here.0 is here.1)

pub returns-clause-accepts : goal.returns-clause-accepts
returns-clause-accepts g t c = λ files records is say.
    let split = names_split c.args.names.now c.name-item.result c.in-len1-up.len_at_least
    c.name-item.is in
    let here = subst (λ ns. SayRecords (Some files) c.args.seats.now c.args.earlier ns records)
    split say in
    c.records_given.ensures.accepts files records (c.in-Ok.ensures.same ∙ is)
    (later_records_say c.args.seats.now c.args.earlier c.name-item.result _ files c.in-Ok.record
    c.push.new.self records c.in_ok-push.ensures.ok
    (λ r says. c.in-Ok.ensures.accepts files r is says) here)

pub returns-clause-refuses : goal.returns-clause-refuses
returns-clause-refuses g t c = λ files status is bad.
    let split = names_split c.args.names.now c.name-item.result c.in-len1-up.len_at_least
    c.name-item.is in
    let here = subst (λ ns. SayNoRecords (Some files) c.args.seats.now c.args.earlier ns status)
    split bad in
    later_records_refuse c.args.seats.now c.args.earlier c.name-item.result _ files c.in-Ok.record
    c.push.new.self _ status c.in_ok-push.ensures.ok
    (λ bad. c.in-Ok.ensures.refuses files status is bad)
    (λ r says. c.in-Ok.ensures.accepts files r is says)
    (λ bad. c.records_given.ensures.refuses files status (c.in-Ok.ensures.same ∙ is) bad) here
