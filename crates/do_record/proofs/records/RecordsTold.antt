-- What is read of bytes is the record that they are, or their faulty line.
use Rattle.do_grammar.specs.Lines as text
use Rattle.std.proofs.Common.{◌≡◌, ◌≢◌, ℕ, ◌+◌, List as Listed, [], ◌∷◌, ◌++◌, Option, Some, None}
use Rattle.std.proofs.Common.{Err, refl, sym, ap, subst, ◌∙◌, arith}
use Rattle.std.{specs.{Prelude.codes, Fmt.decimal}, proofs.lemmas.List.append-nil}
use Rattle.do_grammar.specs.{Lines.cut, Words.Without}
use Rattle.do_lines.specs.Shown.{shown_text}
use Rattle.do_sched.specs.{Good.IsPort, Schedule.whole, Spelling.fed}
use Rattle.do_sched.specs.declared.fault.SchedFault.TheVariants.{BadLine}
use Rattle.do_record.specs.Grammar.{Begins, IsFaultAt, IsNoLine, TellsRecord, at_first, behind}
use Rattle.do_record.specs.{Grammar.between, Line.{first_port, text_of}}
use Rattle.do_record.specs.Recorded.{ended_by, read_lines, record_from, record_of, with_shown}
use Rattle.do_record.specs.Spelling.{first_line, input_line, input_text, last_line}
use Rattle.do_record.specs.declared.line.RecordText.{RecordText}
use Rattle.do_record.specs.declared.line.RecordText.TheVariants.{Bad, End, Input, Shown as Shows}
use Rattle.do_record.specs.declared.parts.{Block.Block, RecordLine.RecordLine}
use Rattle.do_record.proofs.lines.LineFeeds.{end_free, header_free, marked_free, shown_free}
use Rattle.do_record.proofs.lines.TextsExact.{first_read, first_told, input_read, line_told}
use Rattle.do_record.proofs.{lines.TextsExact.shown_read, records.Blocks.{SoFar, begun_lines}}
use Rattle.do_record.proofs.records.Blocks.{input_goes, shown_by_last, shown_by_none, shown_goes}
use Rattle.do_record.proofs.records.FirstLines.{cut_fed, cut_nothing, first_line_is}

-- the first line of a text that begins with a line is that line
line_is : (rest line more : Listed ℕ) (t : text.Line) (ts : Listed text.Line) → cut rest ≡ t ∷ ts
    → Without 10 line → rest ≡ fed line ++ more → whole line ≡ t
line_is rest line more t ts lines free e =
    let same : whole line ∷ cut more ≡ t ∷ ts = sym (cut_fed line more free) ∙ sym (ap cut e)
    ∙ lines in
    cc

-- ---- a line that is none of the node's

-- where the first line of what is left reads as no input, as nothing that may be shown there and
-- not as the last line, no line of the node begins it
pub no_line : (port : ℕ) (blocks : Listed Block) (rest : Listed ℕ) (t : text.Line)
    (ts : Listed text.Line) → IsPort port → cut rest ≡ t ∷ ts
    → ((input : RecordLine) → text_of port t ≢ Input input)
    → (blocks ≢ [] → text_of port t ≢ Shows) → text_of port t ≢ End → IsNoLine port blocks rest
no_line port blocks rest t ts at_port lines input shown end = record {
  some = λ (e : rest ≡ []). let none : [] ≡ t ∷ ts = sym (ap cut e) ∙ lines in absurd (cc);
  no_input = λ i more good (e : rest ≡ input_line port i ++ more).
      let is = line_is rest (codes "> " ++ input_text port i) more t ts lines
      (marked_free port i good) e in
      input i (ap (text_of port) (sym is) ∙ input_read port i good);
  no_shown = λ s more good some (e : rest ≡ fed (shown_text port s) ++ more).
      let is = line_is rest (shown_text port s) more t ts lines
      (shown_free port s at_port good) e in
      shown some (ap (text_of port) (sym is) ∙ shown_read port s at_port good);
  no_end = λ more (e : rest ≡ last_line ++ more).
      let is = line_is rest (codes "> end") more t ts lines end_free e in
      end (ap (text_of port) (sym is));
}

-- ---- the lines behind the first

module _ (bytes : Listed ℕ) (port : ℕ) where
  -- nothing is left: the record is not whole
  at_end : (n : ℕ) (blocks : Listed Block) (rest : Listed ℕ) → SoFar bytes port n blocks rest
      → rest ≡ [] → Begins bytes port blocks []
  at_end n blocks rest s e = subst (Begins bytes port blocks) e s.begins

  -- the last line: the record is whole, or what is behind it is at fault
  at_last : (n : ℕ) (blocks : Listed Block) (after : Listed ℕ) (ts : Listed text.Line)
      → SoFar bytes port n blocks (last_line ++ after) → cut after ≡ ts
      → TellsRecord bytes (ended_by port n blocks ts)
  at_last n blocks after [] s e =
      subst (λ w. Begins bytes port blocks (last_line ++ w)) (cut_nothing after e) s.begins
  at_last n blocks after (t ∷ ts) s e =
      subst (IsFaultAt bytes) (let next = s.next in omega arith)
      (behind port blocks after s.begins
      (λ (none : after ≡ []). let no : [] ≡ t ∷ ts = sym (ap cut none) ∙ e in absurd (cc)))

  -- a line that may not stand there
  at_fault : (n : ℕ) (blocks : Listed Block) (rest : Listed ℕ) → SoFar bytes port n blocks rest
      → IsNoLine port blocks rest → IsFaultAt bytes n
  at_fault n blocks rest s none =
      subst (IsFaultAt bytes) (sym s.next) (between port blocks rest s.begins none)

  -- what is read of the lines that are left
  tells_lines : (ts : Listed text.Line) (rest : Listed ℕ) (n : ℕ) (blocks : Listed Block)
      → SoFar bytes port n blocks rest → cut rest ≡ ts
      → TellsRecord bytes (read_lines port n blocks ts)
  tells_lines [] rest n blocks s e = at_end n blocks rest s (cut_nothing rest e)
  tells_lines (t ∷ ts) rest n blocks s e =
      go (text_of port t) refl (λ m more left f h. tells_lines ts left m more f h)
    where
      bad : (kind : RecordText) → text_of port t ≡ kind
          → ((input : RecordLine) → kind ≢ Input input) → (blocks ≢ [] → kind ≢ Shows)
          → kind ≢ End → IsFaultAt bytes n
      bad kind p input shown end =
          at_fault n blocks rest s (no_line port blocks rest t ts s.begins.at_port e
          (λ i (q : text_of port t ≡ Input i). input i (sym p ∙ q))
          (λ some (q : text_of port t ≡ Shows). shown some (sym p ∙ q))
          (λ (q : text_of port t ≡ End). end (sym p ∙ q)))

      by_shown : text_of port t ≡ Shows → (o : Option (Listed Block))
          → with_shown (t.text ++ 10 ∷ []) blocks ≡ o
          → ((m : ℕ) (more : Listed Block) (left : Listed ℕ) → SoFar bytes port m more left
          → cut left ≡ ts → TellsRecord bytes (read_lines port m more ts))
          → TellsRecord bytes (elim o [
            | None ↦ Err (BadLine n)
            | Some more ↦ read_lines port (n + 1) more ts
          ])
      by_shown p None q later =
          bad Shows p (λ i (h : Shows ≡ Input i). absurd (cc))
          (λ some. absurd (some (shown_by_none (t.text ++ 10 ∷ []) blocks q)))
          (λ (h : Shows ≡ End). absurd (cc))
      by_shown p (Some more) q later =
          let told = line_told port t Shows p (λ (h : Shows ≡ Bad). absurd (cc)) in
          let first = first_line_is rest t ts e told.0 in
          let what = told.1 in
          let last = shown_by_last (t.text ++ 10 ∷ []) blocks more q in
          let line : fed t.text ≡ fed (shown_text port what.what) = ap fed what.spelled in
          let here : SoFar bytes port n (last.0 ++ last.1 ∷ [])
          (fed (shown_text port what.what) ++ first.after) =
          subst (λ ls. SoFar bytes port n ls (fed (shown_text port what.what) ++ first.after))
          last.2 (subst (SoFar bytes port n blocks)
          (first.parts ∙ ap (λ w. w ++ first.after) line) s) in
          let there = shown_goes bytes port n last.0 last.1 what.what first.after here what.good in
          later (n + 1) more first.after
          (subst (λ ls. SoFar bytes port (n + 1) ls first.after)
          (ap (λ w. last.0 ++ record last.1 { shown = last.1.shown ++ w } ∷ []) (sym line)
          ∙ sym last.3) there) first.others

      go : (x : RecordText) → text_of port t ≡ x
          → ((m : ℕ) (more : Listed Block) (left : Listed ℕ) → SoFar bytes port m more left
          → cut left ≡ ts → TellsRecord bytes (read_lines port m more ts))
          → TellsRecord bytes (elim x [
            | Bad ↦ Err (BadLine n)
            | End ↦ ended_by port n blocks ts
            | Input input ↦ read_lines port (n + 1)
                (blocks ++ record { line = n; input = input; shown = [] } ∷ []) ts
            | Shows ↦ elim (with_shown (t.text ++ 10 ∷ []) blocks) [
              | None ↦ Err (BadLine n)
              | Some more ↦ read_lines port (n + 1) more ts
            ]
          ])
      go Bad p later =
          bad Bad p (λ i (h : Bad ≡ Input i). absurd (cc)) (λ some (h : Bad ≡ Shows). absurd (cc))
          (λ (h : Bad ≡ End). absurd (cc))
      go End p later =
          let told = line_told port t End p (λ (h : End ≡ Bad). absurd (cc)) in
          let first = first_line_is rest t ts e told.0 in
          at_last n blocks first.after ts (subst (SoFar bytes port n blocks)
          (first.parts ∙ ap (λ w. fed w ++ first.after) told.1) s) first.others
      go (Input input) p later =
          let told = line_told port t (Input input) p (λ (h : Input input ≡ Bad). absurd (cc)) in
          let first = first_line_is rest t ts e told.0 in
          later (n + 1) (blocks ++ record { line = n; input = input; shown = [] } ∷ []) first.after
          (input_goes bytes port n blocks input first.after (subst (SoFar bytes port n blocks)
          (first.parts ∙ ap (λ w. fed w ++ first.after) told.1.0) s) told.1.1) first.others
      go Shows p later =
          by_shown p (with_shown (t.text ++ 10 ∷ []) blocks) refl later

-- ---- all lines

-- bytes of which no port is read at first are at fault there
no_first : (bytes : Listed ℕ) (ts : Listed text.Line) → cut bytes ≡ ts
    → ((t : text.Line) (us : Listed text.Line) → ts ≡ t ∷ us → first_port t ≡ None)
    → IsFaultAt bytes 1
no_first bytes ts e none = at_first (λ port rest at_port (is : bytes ≡ first_line port ++ rest).
    let lines : ts ≡ whole (codes "record 1 " ++ decimal port) ∷ cut rest = sym e ∙ ap cut is
    ∙ cut_fed (codes "record 1 " ++ decimal port) rest (header_free port at_port) in
    let no = none (whole (codes "record 1 " ++ decimal port)) (cut rest) lines in
    let yes = first_read port at_port in
    absurd (cc))

-- what is read of bytes tells of them
pub record_tells : (bytes : Listed ℕ) → TellsRecord bytes (record_of bytes)
record_tells bytes = go (cut bytes) refl
  where
    opened : (t : text.Line) (ts : Listed text.Line) → cut bytes ≡ t ∷ ts → (o : Option ℕ)
        → first_port t ≡ o
        → TellsRecord bytes (elim o [
          | None ↦ Err (BadLine 1)
          | Some port ↦ read_lines port 2 [] ts
        ])
    opened t ts e None p = no_first bytes (t ∷ ts) e
        (λ u us (same : t ∷ ts ≡ u ∷ us). let is : t ≡ u = cc in ap first_port (sym is) ∙ p)
    opened t ts e (Some port) p =
        let told = first_told t port p in
        let first = first_line_is bytes t ts e told.0 in
        tells_lines bytes port ts first.after 2 [] (record {
          begins = record {
            spelled = first.parts ∙ ap (λ w. fed w ++ first.after) told.1
                ∙ ap (λ w. w ++ first.after) (sym (append-nil (first_line port)));
            at_port = told.2;
            are_blocks = tt;
          };
          next = sym (begun_lines port [] told.2);
        }) first.others

    go : (ts : Listed text.Line) → cut bytes ≡ ts → TellsRecord bytes (record_from ts)
    go [] e = no_first bytes [] e (λ t us (same : [] ≡ t ∷ us). absurd (cc))
    go (t ∷ ts) e = opened t ts e (first_port t) refl
