use Rattle.do_coder.proofs.recent.index.append.Goals as goal
use Rattle.std.proofs.Common.{◌≡◌, length, sym, ap, ◌∙◌, arith}
use Rattle.do_coder.proofs.tables.IndexLaws.{found_front, found_end, found_same, found_same_end}

pub returns-in-Err-clause-found : goal.returns-in-Err-clause-found
returns-in-Err-clause-found c =
    let log = c.as_slice.result.now in
    let same : c.push.new.self ≡ log = c.in-Err.ensures.err ∙ sym c.as_slice.ensures in
    found_same_end log c.push.new.self c.note.new.index c.args.start same
    (found_end log c.args.pair c.note.new.index c.args.start c.in_ok-note.ensures.ok)

pub returns-in-Err-clause-kept_found : goal.returns-in-Err-clause-kept_found
returns-in-Err-clause-kept_found c =
    let log = c.as_slice.result.now in
    let same : c.push.new.self ≡ log = c.in-Err.ensures.err ∙ sym c.as_slice.ensures in
    let within = c.requires.within in
    found_same log c.push.new.self c.note.new.index c.args.kept_start c.args.kept_end same
    (found_front log c.args.pair c.note.new.index c.args.kept_start c.args.kept_end
    (omega (arith, ap length c.as_slice.ensures)) c.in_ok-note.ensures.kept)
