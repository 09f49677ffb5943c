-- The blocks of a record that is read have inputs within their limits.
use Rattle.std.proofs.Common.{◌≡◌, ◌+◌, ℕ, List, [], ◌∷◌, Err, Ok, Result, subst}
use Rattle.do_sched.specs.declared.fault.SchedFault.{SchedFault}
use Rattle.do_record.specs.Good.{AreGoodBlocks, IsGoodRecord}
use Rattle.do_record.specs.{Grammar.{AreBlocks, TellsRecord, lines_in}, Recorded.record_of}
use Rattle.do_record.specs.{Spelling.block_text, declared.parts.{Block.Block, Record.Record}}
use Rattle.do_record.proofs.records.RecordsTold.{record_tells}

-- an answer is one
pub one_answer : (r s : Record) → ◌≡◌ {A = Result Record SchedFault} (Ok r) (Ok s) → r ≡ s
one_answer r s e = cc

-- a fault is no record
pub no_record : (fault : SchedFault) (r : Record)
    → ◌≡◌ {A = Result Record SchedFault} (Err fault) (Ok r) → ⊥
no_record fault r e = cc

-- blocks of a record have inputs within their limits
good_blocks : (port n : ℕ) (blocks : List Block) → AreBlocks port n blocks
    → AreGoodBlocks port blocks
good_blocks port n [] h = tt
good_blocks port n (b ∷ bs) h =
    (h.0.good, good_blocks port (n + lines_in (block_text port b)) bs h.1)

-- so has a record that is read
pub good_record : (bytes : List ℕ) (r : Record) → record_of bytes ≡ Ok r → IsGoodRecord r
good_record bytes r e =
    let is = subst (TellsRecord bytes) e (record_tells bytes) in
    good_blocks r.port 2 r.blocks is.are_blocks
