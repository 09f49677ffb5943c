use Rattle.do_world.proofs.reader.read_world.Goals as goal
use Rattle.std.proofs.lemmas.Result.{err_from_is_err_and}
use Rattle.toml.specs.View.{table_view}
use Rattle.do_world.proofs.BytesTold.{bytes_told, fault_refused, fault_told, no_document}
use Rattle.do_world.proofs.BytesTold.{world_accepted, world_told}

pub returns-clause-world : goal.returns-clause-world
returns-clause-world c =
    world_told _ c.world_of.result
    (bytes_told _ (table_view c.in_ok-document.document) _ c.in_ok-document.ensures
    c.world_of.ensures)

pub returns-clause-fault : goal.returns-clause-fault
returns-clause-fault c =
    fault_told _ c.world_of.result
    (bytes_told _ (table_view c.in_ok-document.document) _ c.in_ok-document.ensures
    c.world_of.ensures)

pub returns-clause-accepts : goal.returns-clause-accepts
returns-clause-accepts c =
    world_accepted _ c.world_of.result
    (bytes_told _ (table_view c.in_ok-document.document) _ c.in_ok-document.ensures
    c.world_of.ensures)

pub returns-clause-refuses : goal.returns-clause-refuses
returns-clause-refuses c =
    fault_refused _ c.world_of.result
    (bytes_told _ (table_view c.in_ok-document.document) _ c.in_ok-document.ensures
    c.world_of.ensures)

pub returns-in_err-document-clause-fault : goal.returns-in_err-document-clause-fault
returns-in_err-document-clause-fault c =
    let p = err_from_is_err_and c.from_residual.result c.from_residual.ensures.1 in
    rw (p.1, p.2) (no_document _ c.in_err-document.field-0.0 c.in_err-document.ensures)

pub returns-in_err-document-clause-accepts : goal.returns-in_err-document-clause-accepts
returns-in_err-document-clause-accepts c =
    let p = err_from_is_err_and c.from_residual.result c.from_residual.ensures.1 in
    rw (p.1, p.2) (world_accepted _ _
    (no_document _ c.in_err-document.field-0.0 c.in_err-document.ensures))

pub returns-in_err-document-clause-refuses : goal.returns-in_err-document-clause-refuses
returns-in_err-document-clause-refuses c =
    let p = err_from_is_err_and c.from_residual.result c.from_residual.ensures.1 in
    rw (p.1, p.2) (fault_refused _ _
    (no_document _ c.in_err-document.field-0.0 c.in_err-document.ensures))
