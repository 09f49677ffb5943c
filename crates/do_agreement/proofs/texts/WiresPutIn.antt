-- The transcript of a network is that of its blocks, with what was sent between the lines.
use Rattle.std.proofs.Common.{◌≡◌, ℕ, Bool, true, false, cond, List, [], ◌∷◌, ◌++◌, map, refl, sym}
use Rattle.std.{proofs.Common.{ap, ◌∙◌, append_assoc}, specs.Prelude.{None, Option, Some, codes}}
use Rattle.std.{specs.List.flat_map, proofs.lemmas.{Grind.flat_map-append, List.append-nil}}
use Rattle.do_class.specs.Class.{Class}
use Rattle.do_lines.specs.{Block.{shown_by, shown_lines, stepped_node}, Shown.shown_text}
use Rattle.do_sched.specs.Spelling.{line_spelling}
use Rattle.do_lines.specs.Check.{closed_line, entry_line, node_text, object_text, root_line}
use Rattle.do_lines.specs.Lines.{joined}
use Rattle.do_lines.specs.Transcript.{block_lines, first_line, last_line, listed_lines, transcript}
use Rattle.do_sched.specs.declared.line.Line.{Line}
use Rattle.do_trace.specs.{Block.Block, declared.outcome.{NodeLine.NodeLine, Outcome.Outcome}}
use Rattle.do_trace.specs.declared.outcome.Snapshot.{Snapshot}
use Rattle.do_network.specs.Wired.{WiredBlock, wire_line, wired, wired_lines}
use Rattle.do_agreement.specs.HasWires.{HasWires, Stretch, plain_stretch, wired_stretch}

-- A text of whole lines
record AreLines (text : List ℕ) : Type 0 where
  lines : List (List ℕ)
  joins : text ≡ joined lines

-- lines in a row are
lines_joined : (ls : List (List ℕ)) → AreLines (joined ls)
lines_joined ls = record { lines = ls; joins = refl }

-- and so are lines behind lines
lines_behind : {a b : List ℕ} → AreLines a → AreLines b → AreLines (a ++ b)
lines_behind {a = a} {b = b} x y = record {
  lines = x.lines ++ y.lines;
  joins = ap (λ t. t ++ b) x.joins ∙ ap (λ t. joined x.lines ++ t) y.joins
      ∙ sym (flat_map-append (λ (line : List ℕ). line ++ 10 ∷ []) x.lines y.lines);
}

-- what a node showed
shown_are_lines : (node : Option ℕ) (outcome : Outcome) → AreLines (shown_lines node outcome)
shown_are_lines node outcome = go outcome.enabled node
  where
    go : (b : Bool) (port : Option ℕ) →
        AreLines (cond b (shown_by port outcome.shown) (joined (codes "skip" ∷ [])))
    go true None = lines_joined []
    go true (Some port) = lines_joined (map (shown_text port) outcome.shown)
    go false port = lines_joined (codes "skip" ∷ [])

-- what a check lists of its nodes
nodes_are_lines : (table : List Class) (nodes : List NodeLine) →
    AreLines (flat_map (node_text table) nodes)
nodes_are_lines table [] = lines_joined []
nodes_are_lines table (n ∷ nodes) =
    lines_behind
    (lines_behind
    (lines_behind
    (lines_behind (lines_joined (root_line n ∷ [])) (lines_joined (map closed_line n.closed)))
    (lines_joined (map (object_text table) n.objects)))
    (lines_joined (map entry_line n.entries)))
    (nodes_are_lines table nodes)

-- what a line lists
listed_are_lines : (table : List Class) (listed : Option Snapshot) →
    AreLines (listed_lines table listed)
listed_are_lines table None = lines_joined []
listed_are_lines table (Some snapshot) = nodes_are_lines table snapshot.nodes

-- a block
block_are_lines : (table : List Class) (b : Block Line) → AreLines (block_lines table b)
block_are_lines table b =
    lines_behind
    (lines_behind (lines_joined ((codes "> " ++ line_spelling b.line) ∷ []))
    (shown_are_lines (stepped_node b.line) b.outcome))
    (listed_are_lines table b.listed)

-- a block, with what was sent in it
abbrev block_stretch : List Class → WiredBlock → Stretch
block_stretch table b =
    record { lines = (block_are_lines table b.block).lines; wires = b.wires }

-- blocks without what was sent
plain_blocks : (table : List Class) (bs : List WiredBlock) →
    flat_map (block_lines table) (map (λ (b : WiredBlock). b.block) bs)
    ≡ flat_map plain_stretch (map (block_stretch table) bs)
plain_blocks table [] = refl
plain_blocks table (b ∷ bs) =
    let one = (block_are_lines table b.block).joins in
    let rest = plain_blocks table bs in
    λ j. one j ++ rest j

-- blocks with it
wired_blocks : (table : List Class) (bs : List WiredBlock) →
    flat_map (wired_lines table) bs ≡ flat_map wired_stretch (map (block_stretch table) bs)
wired_blocks table [] = refl
wired_blocks table (b ∷ bs) =
    let one = (block_are_lines table b.block).joins in
    let rest = wired_blocks table bs in
    λ j. (one j ++ joined (map wire_line b.wires)) ++ rest j

-- a stretch of one line
abbrev one_line : List ℕ → Stretch
one_line line = record { lines = line ∷ []; wires = [] }

-- the stretches of a transcript
abbrev all_stretches : List Class → List WiredBlock → List Stretch
all_stretches table bs =
    one_line (codes "transcript 1")
    ∷ (map (block_stretch table) bs ++ one_line (codes "> end") ∷ [])

-- one list for each of some and of one more
one_more_list : (f : Stretch → List ℕ) (xs : List Stretch) (x : Stretch) →
    flat_map f (xs ++ x ∷ []) ≡ flat_map f xs ++ f x
one_more_list f xs x =
    flat_map-append f xs (x ∷ []) ∙ ap (λ t. flat_map f xs ++ t) (append-nil (f x))

-- the transcript of a network is that of its blocks, with what was sent between the lines
pub wires_put_in : (table : List Class) (bs : List WiredBlock) →
    HasWires (transcript table (map (λ (b : WiredBlock). b.block) bs)) (wired table bs)
wires_put_in table bs =
    let last = one_line (codes "> end") in
    let ms = map (block_stretch table) bs in
    record {
      stretches = all_stretches table bs;
      without =
          append_assoc first_line
          (flat_map (block_lines table) (map (λ (b : WiredBlock). b.block) bs)) last_line
          ∙ ap (λ t. first_line ++ t)
          (ap (λ t. t ++ last_line) (plain_blocks table bs)
          ∙ sym (one_more_list plain_stretch ms last));
      whole =
          append_assoc first_line (flat_map (wired_lines table) bs) last_line
          ∙ ap (λ t. first_line ++ t)
          (ap (λ t. t ++ last_line) (wired_blocks table bs)
          ∙ sym (one_more_list wired_stretch ms last));
    }
