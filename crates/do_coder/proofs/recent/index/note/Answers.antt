use Rattle.do_coder.proofs.recent.index.note.Goals as goal
use Rattle.std.proofs.Common.{rules}
use Rattle.do_coder.proofs.tables.IndexLaws.{noted_now, noted_kept}

-- each pair of the table is found
pub returns-in-Ok-clause-ok : goal.returns-in-Ok-clause-ok
returns-in-Ok-clause-ok c =
    noted_now c.args.log.now c.args.index.now c.insert.new.self c.args.pair _
    c.in-Ok.ensures.updates c.args.start (search rules) c.requires.new c.requires.differ
    c.requires.found

-- and each that was kept
pub returns-in-Ok-clause-kept : goal.returns-in-Ok-clause-kept
returns-in-Ok-clause-kept c =
    noted_kept c.args.log.now c.args.index.now c.insert.new.self c.args.pair _
    c.in-Ok.ensures.updates c.args.kept_start c.args.kept_end c.requires.within
    c.kept_spot-kept.ensures c.requires.kept_found

-- where memory ran out each pair is found as before
pub returns-in-Err-clause-err : goal.returns-in-Err-clause-err
returns-in-Err-clause-err c = λ k low high. let f = c.requires.found k low high in record {
  places = f.places;
  stored = rw c.in-Err.ensures.err f.stored;
  here = f.here;
}

-- and each that was kept
pub returns-in-Err-clause-err_kept : goal.returns-in-Err-clause-err_kept
returns-in-Err-clause-err_kept c = λ k low high. let f = c.requires.kept_found k low high in
    record { places = f.places; stored = rw c.in-Err.ensures.err f.stored; here = f.here }
