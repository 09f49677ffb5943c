-- What bytes are is read of them.
use Rattle.do_grammar.specs.Lines as text
use Rattle.std.proofs.Common.{◌≡◌, ◌≢◌, ℕ, ◌+◌, Bool, true, false, List as Listed, [], ◌∷◌, ◌++◌}
use Rattle.std.proofs.Common.{Option, Some, None, Result, Ok, Err, refl, sym, ap, subst, ◌∙◌, arith}
use Rattle.std.specs.Prelude.{codes}
use Rattle.do_grammar.specs.Lines.{cut}
use Rattle.do_lines.specs.Shown.{shown_text}
use Rattle.do_sched.specs.{Answers.AnswersWith, Good.IsPort, Schedule.whole, Spelling.fed}
use Rattle.do_sched.specs.declared.fault.SchedFault.{SchedFault}
use Rattle.do_sched.specs.declared.fault.SchedFault.TheVariants.{BadLine, Memory, NoEnd, TooMany}
use Rattle.do_record.specs.Grammar.{Begins, IsFaultAt, IsNoLine, IsRecord, TellsRecord, at_first}
use Rattle.do_record.specs.{Grammar.{behind, between, lines_in}, Line.{first_port, text_of}}
use Rattle.do_record.specs.Recorded.{read_lines, record_from, record_of, recorded, with_shown}
use Rattle.do_record.specs.Spelling.{begun, ending, first_line, input_text, last_line}
use Rattle.do_record.specs.declared.line.RecordText.{RecordText, TheVariants.{Bad, End, Input}}
use Rattle.do_record.specs.declared.{line.RecordText.TheVariants.Shown as Shows, parts.Block.Block}
use Rattle.do_record.{specs.declared.parts.Record.Record, proofs.lines.LineFeeds.end_free}
use Rattle.do_record.proofs.{lines.TextsExact.{first_told, line_told}, records.Blocks.shown_by_last}
use Rattle.do_record.proofs.records.FirstLines.{cut_fed, cut_nothing, first_line_is}
use Rattle.do_record.proofs.records.LinesGoOn.{begins_read, by_blocks, by_kind, by_port}
use Rattle.do_record.proofs.records.RecordsTold.{record_tells}

-- the record that bytes are is read of them
pub record_given : (bytes : Listed ℕ) (r : Record) → IsRecord bytes r → record_of bytes ≡ Ok r
record_given bytes r h = go r.whole refl h
  where
    go : (w : Bool) → r.whole ≡ w → Begins bytes r.port r.blocks (ending w)
        → record_of bytes ≡ Ok r
    go true p b = begins_read bytes r.port r.blocks last_line b
        ∙ ap (λ w. Ok (recorded r.port r.blocks w)) (sym p)
    go false p b = begins_read bytes r.port r.blocks [] b
        ∙ ap (λ w. Ok (recorded r.port r.blocks w)) (sym p)

-- some bytes have a first line
some_line : (rest : Listed ℕ) → rest ≢ []
    → (t : text.Line) × (ts : Listed text.Line) × (cut rest ≡ t ∷ ts)
some_line rest some = go (cut rest) refl
  where
    go : (ts : Listed text.Line) → cut rest ≡ ts
        → (t : text.Line) × (us : Listed text.Line) × (cut rest ≡ t ∷ us)
    go [] e = absurd (some (cut_nothing rest e))
    go (t ∷ ts) e = (t, ts, e)

-- bytes that begin with no first line are at fault there
first_given : (bytes : Listed ℕ)
    → ((port : ℕ) (rest : Listed ℕ) → IsPort port → bytes ≢ first_line port ++ rest)
    → record_of bytes ≡ Err (BadLine 1)
first_given bytes none = go (cut bytes) refl
  where
    opened : (t : text.Line) (ts : Listed text.Line) → cut bytes ≡ t ∷ ts → (o : Option ℕ)
        → first_port t ≡ o → record_from (t ∷ ts) ≡ Err (BadLine 1)
    opened t ts e None p = ap (by_port ts) p
    opened t ts e (Some port) p =
        let told = first_told t port p in
        let first = first_line_is bytes t ts e told.0 in
        absurd (none port first.after told.2
        (first.parts ∙ ap (λ w. fed w ++ first.after) told.1))

    go : (ts : Listed text.Line) → cut bytes ≡ ts → record_of bytes ≡ Err (BadLine 1)
    go [] e = ap record_from e
    go (t ∷ ts) e = ap record_from e ∙ opened t ts e (first_port t) refl

-- blocks of which one is the last are some
has_last : (bs : Listed Block) (b : Block) → bs ++ b ∷ [] ≡ [] → ⊥
has_last [] b e = absurd (cc)
has_last (x ∷ bs) b e = absurd (cc)

-- where no line of the node begins what is left, its first line is at fault
line_given : (port n : ℕ) (blocks : Listed Block) (rest : Listed ℕ) → IsNoLine port blocks rest
    → read_lines port n blocks (cut rest) ≡ Err (BadLine n)
line_given port n blocks rest h =
    let l = some_line rest h.some in
    ap (read_lines port n blocks) l.2 ∙ go l.0 l.1 l.2 (text_of port l.0) refl
  where
    begun_by : (t : text.Line) (ts : Listed text.Line) (line : Listed ℕ) → cut rest ≡ t ∷ ts
        → t.fed ≡ true → t.text ≡ line → (after : Listed ℕ) × (rest ≡ fed line ++ after)
    begun_by t ts line e fed_is is =
        let first = first_line_is rest t ts e fed_is in
        (first.after, first.parts ∙ ap (λ w. fed w ++ first.after) is)

    by_shown : (t : text.Line) (ts : Listed text.Line) → cut rest ≡ t ∷ ts
        → text_of port t ≡ Shows → (o : Option (Listed Block))
        → with_shown (t.text ++ 10 ∷ []) blocks ≡ o
        → read_lines port n blocks (t ∷ ts) ≡ Err (BadLine n)
    by_shown t ts e p None q =
        ap (by_kind port n blocks t ts) p ∙ ap (by_blocks port n ts) q
    by_shown t ts e p (Some more) q =
        let told = line_told port t Shows p (λ (h : Shows ≡ Bad). absurd (cc)) in
        let what = told.1 in
        let b = begun_by t ts (shown_text port what.what) e told.0 what.spelled in
        let last = shown_by_last (t.text ++ 10 ∷ []) blocks more q in
        absurd (h.no_shown what.what b.0 what.good
        (λ (none : blocks ≡ []). has_last last.0 last.1 (sym last.2 ∙ none)) b.1)

    go : (t : text.Line) (ts : Listed text.Line) → cut rest ≡ t ∷ ts → (kind : RecordText)
        → text_of port t ≡ kind → read_lines port n blocks (t ∷ ts) ≡ Err (BadLine n)
    go t ts e Bad p = ap (by_kind port n blocks t ts) p
    go t ts e End p =
        let told = line_told port t End p (λ (h : End ≡ Bad). absurd (cc)) in
        let b = begun_by t ts (codes "> end") e told.0 told.1 in
        absurd (h.no_end b.0 b.1)
    go t ts e (Input input) p =
        let told = line_told port t (Input input) p (λ (h : Input input ≡ Bad). absurd (cc)) in
        let b = begun_by t ts (codes "> " ++ input_text port input) e told.0 told.1.0 in
        absurd (h.no_input input b.0 told.1.1 b.1)
    go t ts e Shows p = by_shown t ts e p (with_shown (t.text ++ 10 ∷ []) blocks) refl

-- the line of bytes that is at fault is told
pub fault_given : (bytes : Listed ℕ) (n : ℕ) → IsFaultAt bytes n
    → record_of bytes ≡ Err (BadLine n)
fault_given bytes n (at_first none) = first_given bytes none
fault_given bytes n (between port blocks rest h none) =
    begins_read bytes port blocks rest h
    ∙ line_given port (lines_in (begun port blocks) + 1) blocks rest none
fault_given bytes n (behind port blocks rest h some) =
    let l = some_line rest some in
    let n = lines_in (begun port blocks) in
    begins_read bytes port blocks (last_line ++ rest) h
    ∙ ap (read_lines port (n + 1) blocks) (cut_fed (codes "> end") rest end_free
    ∙ ap (λ ts. whole (codes "> end") ∷ ts) l.2) ∙ ap (λ m. Err (BadLine m)) (omega arith)

-- ---- what an answer tells

-- an answer that is what is read of bytes tells of them
pub answer_tells : (bytes : Listed ℕ) (result : Result Record SchedFault)
    → AnswersWith (record_of bytes) result → TellsRecord bytes result
answer_tells bytes (Ok r) h = subst (TellsRecord bytes) (sym h) (record_tells bytes)
answer_tells bytes (Err (BadLine n)) h = subst (TellsRecord bytes) (sym h) (record_tells bytes)
answer_tells bytes (Err (TooMany n)) h = subst (TellsRecord bytes) (sym h) (record_tells bytes)
answer_tells bytes (Err (NoEnd n)) h = subst (TellsRecord bytes) (sym h) (record_tells bytes)
answer_tells bytes (Err Memory) h = tt

-- and it is the record that the bytes are
pub answer_accepts : (bytes : Listed ℕ) (result : Result Record SchedFault)
    → AnswersWith (record_of bytes) result → (r : Record) → IsRecord bytes r
    → AnswersWith (Ok r) result
answer_accepts bytes result h r is =
    subst (λ wanted. AnswersWith wanted result) (record_given bytes r is) h

-- or their faulty line
pub answer_refuses : (bytes : Listed ℕ) (result : Result Record SchedFault)
    → AnswersWith (record_of bytes) result → (n : ℕ) → IsFaultAt bytes n
    → AnswersWith (Err (BadLine n)) result
answer_refuses bytes result h n is =
    subst (λ wanted. AnswersWith wanted result) (fault_given bytes n is) h
