-- The text of inputs is read as their record.
use Rattle.do_network.specs.declared.input.Done.TheVariants as done
use Rattle.do_network.specs.declared.input.Input.TheVariants as input
use Rattle.do_record.specs.Spelling as spell
use Rattle.do_record.specs.declared.parts.RecordLine.TheVariants as records
use Rattle.std.proofs.Common.{List, [], ap, append_assoc, map, refl, sym, ℕ, ◌++◌, ◌+◌, ◌∙◌, ◌∷◌}
use Rattle.std.{proofs.{Common.◌≡◌, lemmas.List.append-nil}, specs.List.{AllByRecursion, flat_map}}
use Rattle.std.specs.Prelude.{Bool, Err, None, Ok, Option, Result, Some, codes, decimal, false}
use Rattle.std.specs.Prelude.{if◌then◌else◌, not, option_map, true, unwrap_or}
use Rattle.do_base.specs.declared.events.shown.Shown.{Shown}
use Rattle.do_sched.specs.{Good.IsPort, Spelling.{fed, number_pair}}
use Rattle.do_lines.specs.{Lines.joined, Shown.shown_text}
use Rattle.do_record.{proofs.records.RecordsGiven.record_given, specs.Good.IsGoodInput}
use Rattle.do_record.specs.{GoodShown.IsShown, Grammar.{AreBlocks, IsRecord, lines_in}}
use Rattle.do_record.specs.{Recorded.recorded, Spelling.{block_text, ending}}
use Rattle.do_record.specs.declared.parts.{Block.Block, RecordLine.RecordLine}
use Rattle.do_frames.specs.declared.frame.Frame.{Frame}
use Rattle.do_machine.specs.{Start.start_effect, State.is_open, declared.item.Item.TheVariants.End}
use Rattle.do_machine.specs.{declared.state.Effect.Effect, ends.Closing.closing, run.Run.run_effect}
use Rattle.do_machine.specs.take.Take.{can_take, take_effect}
use Rattle.do_facts.proofs.EachOfLists.{each_weaker}
use Rattle.do_network.proofs.EnabledIsDone.{enabled_done, skipped_stays}
use Rattle.do_network.specs.{Faults.peer_fault, Frames.read_frame}
use Rattle.do_network.specs.{Links.{Part, having_read, names_read}, Own.site_context}
use Rattle.do_network.specs.Site.{Handled, enabled_input, moves, passed, takes, takes_frame}
use Rattle.do_network.specs.declared.{fault.PeerFault.PeerFault, input.{Done.Done, Input.Input}}
use Rattle.do_net.specs.Seen.{Seen, site_handled}
use Rattle.do_recorded.proofs.{Heard.Serves, Served.{Does, end_text}}
use Rattle.do_recorded.specs.Chain.{ReadsBack, chain_text, has_ended}
use Rattle.do_recorded.specs.Inputs.{IsServed, block_at, blocks_of, line_by, with_block}
use Rattle.do_serve.specs.{Answers.record_text, Hosting.site_rules, Record.head_by}
use Rattle.do_serve.specs.Serving.{How, Report, Server, ended, spent, unfinished}
use Rattle.do_showable.specs.Shows.{AllMayStand, MayCome}

-- one line joined is the line with its line feed
one_line : (text : List ℕ) → joined (text ∷ []) ≡ fed text
one_line text = append-nil (fed text)

-- the line of an input, or nothing
abbrev HeadIs : ℕ → Option RecordLine → List ℕ → Type 0
HeadIs port None head = head ≡ []
HeadIs port (Some l) head = head ≡ spell.input_line port l

-- it is that of the record
head_is : (port : ℕ) (i : Input) (d : Done) → IsServed port i →
    HeadIs port (line_by i d) (head_by port i d)
head_is port input.Run done.Moved h = one_line (codes "> " ++ spell.input_text port records.Run)
head_is port (input.Start selector values) done.Moved h =
    one_line (codes "> " ++ spell.input_text port (records.Start selector values))
head_is port (input.Frame peer f) done.Moved h =
    one_line (codes "> " ++ spell.input_text port (records.Take peer))
head_is port (input.Close peer) done.Moved h =
    one_line (codes "> " ++ spell.input_text port (records.Close peer))
head_is port (input.Ended peer) done.Moved h =
    one_line (codes "> ended " ++ number_pair port peer)
head_is port input.Timeout done.Moved h = absurd h
head_is port i done.Skipped h = refl
head_is port i (done.Closed peer fault) h =
    one_line (codes "> " ++ spell.input_text port (records.Close peer))

-- what an input closed is the end towards a peer that has a port
abbrev ClosesPort : Done → Type 0
ClosesPort (done.Closed peer fault) = IsPort peer
ClosesPort d = Unit {0}

module _ (port : ℕ) (s : Seen) where
  -- by an effect nothing is closed for a fault
  moved_closes : (found : Option Effect) →
      ClosesPort (unwrap_or (option_map (moves s.part) found) (passed s.part)).done
  moved_closes None = tt
  moved_closes (Some effect) = tt

  -- so it is where a test passes
  tested_closes : (test : Bool) (h : Handled) → ClosesPort h.done →
      ClosesPort (unwrap_or (if test then None else Some h) (passed s.part)).done
  tested_closes true h c = tt
  tested_closes false h c = c

  -- a frame closes the end towards its peer
  takes_closes : (from : ℕ) → IsPort from → (read : Result Frame ℕ) →
      ClosesPort (takes s.table s.part from read).done
  takes_closes from at (Ok f) = by_fault (having_read from f s.part) (peer_fault s.part.own from f)
    where
      by_fault : (q : Part) (fault : Option PeerFault) →
          ClosesPort (takes_frame s.table q from f fault).done
      by_fault q None = tt
      by_fault q (Some fault) = at
  takes_closes from at (Err place) = at

  -- any input that is served
  step_closes : (i : Input) → IsServed port i → ClosesPort (site_handled s i).done
  step_closes input.Run h = moved_closes (run_effect s.act (site_context s.table s.part.own))
  step_closes (input.Start selector values) h =
      moved_closes (start_effect s.table selector values s.part.own.node)
  step_closes (input.Frame from f) h =
      let read = read_frame s.table from s.part.own.node.port (names_read s.part from) f in
      tested_closes (not (can_take from s.part.own.node)) (takes s.table s.part from read)
      (takes_closes from h read)
  step_closes (input.Close peer) h =
      tested_closes (not (is_open s.part.own.node peer))
      (moves s.part (closing peer s.part.own.node)) tt
  step_closes (input.Ended peer) h =
      tested_closes (not (can_take peer s.part.own.node))
      (moves s.part (take_effect (site_context s.table s.part.own) peer (End []))) tt
  step_closes input.Timeout h = absurd h

  -- what is skipped shows nothing
  skip_shows : (i : Input) → (site_handled s i).done ≡ done.Skipped →
      (site_handled s i).shown ≡ []
  skip_shows i is =
      ap (λ (h : Handled). h.shown)
      (skipped_stays s.part (enabled_input s.table s.act s.part i)
      (enabled_done s.table s.act s.part i) is)

-- the line of an input may stand in a record, and what it shows; one that has none shows nothing
abbrev IsGoodLine : ℕ → Option RecordLine → List Shown → Type 0
IsGoodLine port None shown = shown ≡ []
IsGoodLine port (Some l) shown = IsGoodInput port l × AllByRecursion IsShown shown

-- so it is with each input that is served
line_good : (port : ℕ) → IsPort port → (i : Input) (d : Done) (shown : List Shown) →
    IsServed port i → ClosesPort d → (d ≡ done.Skipped → shown ≡ []) →
    AllByRecursion IsShown shown → IsGoodLine port (line_by i d) shown
line_good port at input.Run done.Moved shown h c skips good = (at, good)
line_good port at (input.Start selector values) done.Moved shown h c skips good = (h, good)
line_good port at (input.Frame peer f) done.Moved shown h c skips good = ((at, h), good)
line_good port at (input.Close peer) done.Moved shown h c skips good = ((at, h), good)
line_good port at (input.Ended peer) done.Moved shown h c skips good = ((at, h), good)
line_good port at input.Timeout done.Moved shown h c skips good = absurd h
line_good port at i done.Skipped shown h c skips good = skips refl
line_good port at i (done.Closed peer fault) shown h c skips good = ((at, c), good)

module _ (port : ℕ) where
  -- the text of a block
  block_is : (line : ℕ) (l : Option RecordLine) (head : List ℕ) (shown : List Shown)
      (rest : List ℕ) (more : ℕ → List Block) → HeadIs port l head →
      IsGoodLine port l shown →
      ((at : ℕ) → rest ≡ flat_map (block_text port) (more at)) →
      (head ++ joined (map (shown_text port) shown)) ++ rest
      ≡ flat_map (block_text port) (with_block port line l shown more)
  block_is line None head shown rest more is good k =
      ap (λ h. (h ++ joined (map (shown_text port) shown)) ++ rest) is
      ∙ ap (λ (s : List Shown). joined (map (shown_text port) s) ++ rest) good ∙ k line
  block_is line (Some l) head shown rest more is good k =
      let b = block_at port line l shown in
      ap (λ h. (h ++ joined (map (shown_text port) shown)) ++ rest) is
      ∙ ap (λ t. block_text port b ++ t) (k (line + lines_in (block_text port b)))

  -- the line of each input, and what it shows, may stand in a record
  abbrev AreGood : Seen → List Input → Type 0
  AreGood s [] = Unit {0}
  AreGood s (i ∷ is) =
      let m = site_rules.step s i in
      IsGoodLine port (line_by i m.done) m.shown × AreGood m.part is

  -- so it is with inputs that are served
  are_good : IsPort port → (is : List Input) (s : Seen) → AllByRecursion (IsServed port) is →
      AllMayStand s.table s.act s.part is → AreGood s is
  are_good at [] s served good = tt
  are_good at (i ∷ is) s served good =
      let m = site_rules.step s i in (
        line_good port at i m.done m.shown served.0 (step_closes port s i served.0)
            (skip_shows port s i) good.0,
        are_good at is m.part served.1 good.1,
      )

  -- the text of inputs is that of their blocks
  text_is : (is : List Input) (line : ℕ) (s : Seen) → AllByRecursion (IsServed port) is →
      AreGood s is →
      chain_text site_rules port s is
      ≡ flat_map (block_text port) (blocks_of site_rules port line s is)
  text_is [] line s served good = refl
  text_is (i ∷ is) line s served good =
      let m = site_rules.step s i in
      block_is line (line_by i m.done) (head_by port i m.done) m.shown
      (chain_text site_rules port m.part is) (λ next. blocks_of site_rules port next m.part is)
      (head_is port i m.done served.0) good.0
      (λ at. text_is is at m.part served.1 good.1)

  -- blocks stand at their lines
  placed : (line : ℕ) (l : Option RecordLine) (shown : List Shown) (more : ℕ → List Block) →
      IsGoodLine port l shown → ((at : ℕ) → AreBlocks port at (more at)) →
      AreBlocks port line (with_block port line l shown more)
  placed line None shown more good k = k line
  placed line (Some l) shown more good k = (
    record {
      placed = refl;
      good = good.0;
      shows = record { shown = shown; spelled = refl; good = good.1 };
    },
    k (line + lines_in (block_text port (block_at port line l shown))),
  )

  -- the blocks of inputs
  are_blocks : (is : List Input) (line : ℕ) (s : Seen) → AreGood s is →
      AreBlocks port line (blocks_of site_rules port line s is)
  are_blocks [] line s good = tt
  are_blocks (i ∷ is) line s good =
      let m = site_rules.step s i in
      placed line (line_by i m.done) m.shown (λ next. blocks_of site_rules port next m.part is)
      good.0 (λ at. are_blocks is at m.part good.1)

  -- the end of a record
  ending_is : (how : How) → end_text how ≡ ending (has_ended how)
  ending_is ended = one_line (codes "> end")
  ending_is spent = refl
  ending_is unfinished = refl

  module _ (at_port : IsPort port) (turns : ℕ) (s : Server Seen) (r : Report)
      (d : Does site_rules port turns s r) where
    -- serving does each of the inputs
    served : AllByRecursion (IsServed port) d.inputs
    served = each_weaker (Serves port) (IsServed port) (λ i h. h.0) d.inputs d.served

    -- each of them may come to a node
    pub may_come : AllByRecursion (MayCome port) d.inputs
    may_come = each_weaker (Serves port) (MayCome port) (λ i h. h.1) d.inputs d.served

    -- the blocks
    abbrev blocks : List Block
    blocks = blocks_of site_rules port 2 s.core.part d.inputs

    module _ (stand : AllMayStand s.core.part.table s.core.part.act s.core.part.part d.inputs) where
      -- the line of each input, and what it shows, may stand in a record
      good : AreGood s.core.part d.inputs
      good = are_good at_port d.inputs s.core.part served stand

      -- what was written is the record of the inputs
      is_record : IsRecord (record_text port r) (recorded port blocks (has_ended r.how))
      is_record = record {
        spelled = ap (λ x. x ++ r.text) (one_line (codes "record 1 " ++ decimal port))
            ∙ ap (λ x. spell.first_line port ++ x) (d.text
            ∙ ap (λ x. x ++ end_text r.how) (text_is d.inputs 2 s.core.part served good)
            ∙ ap (λ x. flat_map (block_text port) blocks ++ x) (ending_is r.how))
            ∙ sym (append_assoc (spell.first_line port) (flat_map (block_text port) blocks)
            (ending (has_ended r.how)));
        at_port = at_port;
        are_blocks = are_blocks d.inputs 2 s.core.part good;
      }

      -- and is read so
      pub reads_back : ReadsBack port s r
      reads_back = record {
        inputs = d.inputs;
        served = served;
        later = d.later;
        frames = d.frames;
        reads = record_given (record_text port r) (recorded port blocks (has_ended r.how)) is_record;
      }
