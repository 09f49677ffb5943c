-- What of a transcript is to come.
use Rattle.std.proofs.Common.{◌≡◌, ℕ, List, [], ◌∷◌, ◌++◌, refl, sym, Option, append_assoc}
use Rattle.std.specs.List.{flat_map}
use Rattle.do_sched.specs.declared.line.Line.{Line}
use Rattle.do_class.specs.Class.{Class}
use Rattle.do_machine.specs.run.Run.{Acting}
use Rattle.do_lines.specs.Transcript.{first_line, last_line}
use Rattle.do_network.specs.{Net.Net, Wired.{net_blocks, net_line_step, wired_block, wired_lines}}
use Rattle.do_output.proofs.SentIsPrefix.{IsAhead, ahead_first, ahead_more}
use Rattle.do_replay.specs.Replayed.{wired_from}

-- the blocks of these lines, and the last line
unfoldable pub rest_from : List Class → Acting → Net → List Line → List ℕ
rest_from table act N lines =
    flat_map (wired_lines table) (net_blocks table act N lines) ++ last_line

-- at first the first line is written and the whole transcript is to come
pub rest_whole : (table : List Class) (act : Acting) (N : Net) (lines : List Line)
    → first_line ++ rest_from table act N lines ≡ wired_from table act N lines
unfolding rest_from wired_from
rest_whole table act N lines =
    let all = flat_map (wired_lines table) (net_blocks table act N lines) in
    sym (append_assoc first_line all last_line)

-- behind the last line only the end is to come
pub rest_last : (table : List Class) (act : Acting) (N : Net)
    → rest_from table act N [] ≡ last_line
unfolding rest_from
rest_last table act N = refl

-- what is to come begins with the block of the next line
pub rest_next : (table : List Class) (act : Acting) (N : Net) (line : Line) (lines : List Line)
    → rest_from table act N (line ∷ lines) ≡ wired_lines table
    (wired_block line (net_line_step table act N line))
    ++ rest_from table act (net_line_step table act N line).net lines
unfolding rest_from
rest_next table act N line lines =
    let next = wired_block line (net_line_step table act N line) in
    append_assoc (wired_lines table next) _ last_line

-- the block of the next line waits behind the others
pub ahead_block : (before now : Option (List ℕ)) (waiting text whole : List ℕ)
    (table : List Class) (act : Acting) (N : Net) (line : Line) (lines rest : List Line)
    → lines ≡ line ∷ rest
    → text ≡ waiting ++ wired_lines table (wired_block line (net_line_step table act N line))
    → IsAhead before now waiting (rest_from table act N lines) whole
    → IsAhead before now text (rest_from table act (net_line_step table act N line).net rest) whole
ahead_block before now waiting text whole table act N line lines rest first added ahead =
    rw added (ahead_more before now waiting _ (rest_from table act N lines) _ whole
    (rw first (rest_next table act N line rest)) ahead)

-- after the last line its end waits
pub ahead_end : (before now : Option (List ℕ)) (waiting text whole : List ℕ)
    (table : List Class) (act : Acting) (N : Net) (lines : List Line)
    → lines ≡ [] → text ≡ waiting ++ last_line
    → IsAhead before now waiting (rest_from table act N lines) whole
    → IsAhead before now text [] whole
ahead_end before now waiting text whole table act N lines none added ahead =
    rw added (ahead_more before now waiting last_line (rest_from table act N lines) [] whole
    (rw (none, rest_last table act N) refl) ahead)

-- before the first line its own first line waits
pub ahead_start : (written : Option (List ℕ)) (waiting : List ℕ)
    (table : List Class) (act : Acting) (N : Net) (lines items : List Line)
    → waiting ≡ first_line → items ≡ lines
    → IsAhead written written waiting (rest_from table act N items) (wired_from table act N lines)
ahead_start written waiting table act N lines items first same =
    rw (first, same) (ahead_first written first_line (rest_from table act N lines) _
    (rest_whole table act N lines))
