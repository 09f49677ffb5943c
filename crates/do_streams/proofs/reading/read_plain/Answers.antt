use Rattle.do_streams.proofs.reading.read_plain.Goals as goal
use Rattle.std.proofs.Common.{◌∙◌, ap, subst, sym, Err}
use Rattle.do_streams.specs.{Plain.names_objects, Reading.IsRead}
use Rattle.do_streams.proofs.FramesTold.{as_reading, plain_alike, plain_stays}

-- a frame that carries no packet is read alike whatever was named
pub returns-in-Ok-clause-read : goal.returns-in-Ok-clause-read
returns-in-Ok-clause-read c = λ names. (
  plain_alike c.args.table.now c.args.from c.args.to names c.new-none.result
      c.args.raw.now.payload c.args.raw.now.kind c.requires.plain
      ∙ c.in-Ok.ensures.read,
  sym (plain_stays names c.in-Ok.frame
      (ap names_objects c.in-Ok.ensures.kind ∙ c.requires.plain)),
)

-- and so is refused alike
pub returns-clause-read : goal.returns-clause-read
returns-clause-read c = λ names.
    as_reading names _ c.in-Err.fault
    (subst (λ read. IsRead read (Err c.in-Err.fault))
    (plain_alike c.args.table.now c.args.from c.args.to c.new-none.result names
    c.args.raw.now.payload c.args.raw.now.kind c.requires.plain) c.in-Err.ensures.read)
