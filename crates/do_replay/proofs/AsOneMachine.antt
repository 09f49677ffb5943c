-- What is written of a network is what is written of one machine, with what was sent put in.
use Rattle.std.proofs.Common.{◌≡◌, ℕ, List, [], ◌∷◌, ◌++◌, map, Option, refl, sym, ap, ◌∙◌, subst}
use Rattle.std.{proofs.Common.{append_assoc, arith}, specs.List.flat_map}
use Rattle.std.proofs.lemmas.{Grind.flat_map-append, List.{append_cancel_right, map-append}}
use Rattle.do_base.specs.outside.Bytes.{HasWritten}
use Rattle.do_class.specs.Class.{Class}
use Rattle.do_lines.specs.Transcript.{first_line, last_line, transcript}
use Rattle.do_machine.specs.{declared.state.{Seat.Seat, State.State}, World.{IsWorld, opening}}
use Rattle.do_machine.specs.{check.Blocks.{block, blocks, line_step}, run.Run.Acting}
use Rattle.do_output.proofs.SentIsPrefix.{IsAhead, ahead_part, ahead_prefix, with_none}
use Rattle.do_sched.specs.declared.line.Line.{Line}
use Rattle.do_trace.specs.Block.{Block}
use Rattle.do_network.specs.Net.{Net, net_opening}
use Rattle.do_network.specs.Wired.{WiredBlock, net_blocks, wired, wired_lines}
use Rattle.do_agreement.specs.{Along.LinesSendSpelled, HasWires.HasWires}
use Rattle.do_agreement.proofs.texts.{TextsAgree.opened_blocks, WiresPutIn.wires_put_in}
use Rattle.do_replay.specs.Replayed.{WritesWithWires, wired_from}
use Rattle.do_replay.proofs.{BlocksToCome.rest_from, SpelledSoFar.{SpelledSoFar, spelled_done}}

-- the block of a line without what was sent
abbrev unsent : Block Line → WiredBlock
unsent b = record { block = b; wires = [] }

-- the blocks of a machine are those of the first lines, and others
record Splits (table : List Class) (act : Acting) (S : State) (done left : List Line) : Type 0 where
  rest : List (Block Line)
  joins : blocks table act S (done ++ left) ≡ blocks table act S done ++ rest

-- wherever lines are parted
blocks_split : (table : List Class) (act : Acting) (S : State) (done left : List Line) →
    Splits table act S done left
blocks_split table act S [] left = record { rest = blocks table act S left; joins = refl }
blocks_split table act S (line ∷ done) left =
    let s = line_step table act S line in
    let again = blocks_split table act s.state done left in
    record { rest = again.rest; joins = ap (λ bs. block line s ∷ bs) again.joins }

-- blocks without what was sent are these blocks
unsent_blocks : (bs : List (Block Line)) →
    map (λ (b : WiredBlock). b.block) (map unsent bs) ≡ bs
unsent_blocks [] = refl
unsent_blocks (b ∷ bs) = ap (λ cs. b ∷ cs) (unsent_blocks bs)

module _ (table : List Class) (act : Acting) (seats : List Seat) (world : IsWorld table seats)
    (N : Net) (opens : N ≡ net_opening table seats) (lines : List Line) where
  -- the transcript of the one machine
  abbrev local : List ℕ
  local = transcript table (blocks table act (opening table seats) lines)

  -- where all lines did, the whole text is the machine's with what was sent put in
  pub whole_as_one : LinesSendSpelled table act N lines
      → HasWires local (wired_from table act N lines)
  unfolding wired_from
  whole_as_one sends =
      subst (λ bs. HasWires (transcript table bs) (wired table (net_blocks table act N lines)))
      (opened_blocks table act seats world N opens lines sends)
      (wires_put_in table (net_blocks table act N lines))

  -- nothing was written
  pub begun_as_one : (written : Option (List ℕ)) → WritesWithWires written written local
  begun_as_one written =
      let bs = map unsent (blocks table act (opening table seats) lines) in
      record {
        text = wired table bs;
        wires = subst (λ cs. HasWires (transcript table cs) (wired table bs))
            (unsent_blocks (blocks table act (opening table seats) lines)) (wires_put_in table bs);
        written = (0, omega arith, with_none written);
      }

  module _ (before now : Option (List ℕ)) (waiting : List ℕ) (M : Net) (left : List Line)
      (ahead : IsAhead before now waiting (rest_from table act M left)
      (wired_from table act N lines)) (s : SpelledSoFar table act N lines M left) where
    -- what is split off
    abbrev parted : Splits table act (opening table seats) s.done left
    parted = blocks_split table act (opening table seats) s.done left

    -- the blocks that were done with what was sent, and the machine's for the other lines
    abbrev bs : List WiredBlock
    bs = net_blocks table act N s.done ++ map unsent parted.rest

    -- are the machine's
    are_same : map (λ (b : WiredBlock). b.block) bs ≡ blocks table act (opening table seats) lines
    are_same =
        map-append (λ (b : WiredBlock). b.block) (net_blocks table act N s.done)
        (map unsent parted.rest)
        ∙ ap (λ cs. cs ++ map (λ (b : WiredBlock). b.block) (map unsent parted.rest))
        (opened_blocks table act seats world N opens s.done
        (spelled_done table act N M lines left s))
        ∙ ap (λ cs. blocks table act (opening table seats) s.done ++ cs) (unsent_blocks parted.rest)
        ∙ sym parted.joins ∙ ap (blocks table act (opening table seats)) s.joins

    -- the text of the lines that were done
    abbrev begun : List ℕ
    begun = first_line ++ flat_map (wired_lines table) (net_blocks table act N s.done)

    -- the text that they end
    abbrev to_come : List ℕ
    to_come = flat_map (wired_lines table) (map unsent parted.rest) ++ last_line

    -- what was sent and what waits is the text of the lines that were done
    so_far : ahead.sent ++ waiting ≡ begun
    unfolding rest_from wired_from
    so_far =
        let D = flat_map (wired_lines table) (net_blocks table act N s.done) in
        let L = flat_map (wired_lines table) (net_blocks table act M left) in
        append_cancel_right (ahead.sent ++ waiting) begun (rest_from table act M left)
        (ahead.joins
        ∙ ap (λ cs. (first_line ++ flat_map (wired_lines table) cs) ++ last_line)
        (ap (net_blocks table act N) (sym s.joins) ∙ s.blocks left)
        ∙ ap (λ t. (first_line ++ t) ++ last_line)
        (flat_map-append (wired_lines table) (net_blocks table act N s.done)
        (net_blocks table act M left))
        ∙ ap (λ t. t ++ last_line) (sym (append_assoc first_line D L))
        ∙ append_assoc (first_line ++ D) L last_line)

    -- so it begins a text of the machine with what was sent put in
    is_ahead : IsAhead before now waiting to_come (wired table bs)
    is_ahead = record {
      sent = ahead.sent;
      written = ahead.written;
      joins =
          let D = flat_map (wired_lines table) (net_blocks table act N s.done) in
          let U = flat_map (wired_lines table) (map unsent parted.rest) in
          ap (λ t. t ++ to_come) so_far
          ∙ sym (append_assoc begun U last_line)
          ∙ ap (λ t. t ++ last_line)
          (append_assoc first_line D U
          ∙ ap (λ t. first_line ++ t)
          (sym (flat_map-append (wired_lines table) (net_blocks table act N s.done)
          (map unsent parted.rest))));
    }

    -- that text
    has_wires : HasWires local (wired table bs)
    has_wires =
        subst (λ cs. HasWires (transcript table cs) (wired table bs)) are_same
        (wires_put_in table bs)

    -- what was written so far
    pub written_as_one : WritesWithWires before now local
    written_as_one = record {
      text = wired table bs;
      wires = has_wires;
      written = ahead_prefix before now waiting to_come (wired table bs) is_ahead;
    }

    -- and with some of what waits
    pub more_as_one : (then : Option (List ℕ)) → HasWritten now then waiting →
        WritesWithWires before then local
    more_as_one then taken = record {
      text = wired table bs;
      wires = has_wires;
      written = ahead_part before now then waiting to_come (wired table bs) taken is_ahead;
    }
