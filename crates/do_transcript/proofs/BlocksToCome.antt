-- What of a transcript is to come.
use Rattle.std.proofs.Common.{◌≡◌, ℕ, List, [], ◌∷◌, ◌++◌, refl, sym, Option, append_assoc}
use Rattle.std.specs.List.{flat_map}
use Rattle.do_sched.specs.declared.line.Line.{Line}
use Rattle.do_class.specs.Class.{Class}
use Rattle.do_machine.specs.{check.Blocks.{block, blocks, line_step}, declared.state.State.State}
use Rattle.do_machine.specs.run.Run.{Acting}
use Rattle.do_lines.specs.Transcript.{block_lines, first_line, last_line}
use Rattle.do_transcript.specs.Transcript.{transcript_from}
use Rattle.do_output.proofs.SentIsPrefix.{IsAhead, ahead_first, ahead_more}

-- the blocks of these lines, and the last line
unfoldable pub rest_from : List Class → Acting → State → List Line → List ℕ
rest_from table act S lines = flat_map (block_lines table) (blocks table act S lines) ++ last_line

-- at first the first line is written and the whole transcript is to come
pub rest_whole : (table : List Class) (act : Acting) (S : State) (lines : List Line)
    → first_line ++ rest_from table act S lines ≡ transcript_from table act S lines
unfolding rest_from transcript_from
rest_whole table act S lines =
    let all = flat_map (block_lines table) (blocks table act S lines) in
    sym (append_assoc first_line all last_line)

-- behind the last line only the end is to come
pub rest_last : (table : List Class) (act : Acting) (S : State)
    → rest_from table act S [] ≡ last_line
unfolding rest_from
rest_last table act S = refl

-- what is to come begins with the block of the next line
pub rest_next : (table : List Class) (act : Acting) (S : State) (line : Line) (lines : List Line)
    → rest_from table act S (line ∷ lines) ≡ block_lines table
    (block line (line_step table act S line))
    ++ rest_from table act (line_step table act S line).state lines
unfolding rest_from
rest_next table act S line lines =
    let next = block line (line_step table act S line) in
    append_assoc (block_lines table next) _ last_line

-- the block of the next line waits behind the others
pub ahead_block : (before now : Option (List ℕ)) (waiting text whole : List ℕ)
    (table : List Class) (act : Acting) (S : State) (line : Line) (lines rest : List Line)
    → lines ≡ line ∷ rest
    → text ≡ waiting ++ block_lines table (block line (line_step table act S line))
    → IsAhead before now waiting (rest_from table act S lines) whole
    → IsAhead before now text (rest_from table act (line_step table act S line).state rest) whole
ahead_block before now waiting text whole table act S line lines rest first added ahead =
    rw added (ahead_more before now waiting _ (rest_from table act S lines) _ whole
    (rw first (rest_next table act S line rest)) ahead)

-- after the last line its end waits
pub ahead_end : (before now : Option (List ℕ)) (waiting text whole : List ℕ)
    (table : List Class) (act : Acting) (S : State) (lines : List Line)
    → lines ≡ [] → text ≡ waiting ++ last_line
    → IsAhead before now waiting (rest_from table act S lines) whole
    → IsAhead before now text [] whole
ahead_end before now waiting text whole table act S lines none added ahead =
    rw added (ahead_more before now waiting last_line (rest_from table act S lines) [] whole
    (rw (none, rest_last table act S) refl) ahead)

-- before the first line its own first line waits
pub ahead_start : (written : Option (List ℕ)) (waiting : List ℕ)
    (table : List Class) (act : Acting) (S : State) (lines items : List Line)
    → waiting ≡ first_line → items ≡ lines
    → IsAhead written written waiting (rest_from table act S items)
    (transcript_from table act S lines)
ahead_start written waiting table act S lines items first same =
    rw (first, same) (ahead_first written first_line (rest_from table act S lines) _
    (rest_whole table act S lines))
