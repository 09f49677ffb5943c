use Rattle.do_world.proofs.reader.document_of.Goals as goal
use Rattle.std.proofs.Common.{inr, refl}
use Rattle.do_world.proofs.BytesTold.{bytes_read, bytes_refused}

pub returns-in-Ok : goal.returns-in-Ok
returns-in-Ok c = bytes_read _ _ c.in-Ok.ensures.ok.0 c.in-Ok.ensures.ok.1

pub returns-else-is_memory : goal.returns-else-is_memory
returns-else-is_memory c =
    inr (
      bytes_refused _ (c.in-Err.ensures.refused (λ m. let f = c.is_memory.ensures.1 m in
          let g = c.if-is_memory.false in cc)),
      refl,
    )
