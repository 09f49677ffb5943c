-- What a node of a world wrote that served is read behind the records of other nodes.
use Rattle.std.proofs.Common.{Bool, List, [], ap, arith, cond, false, not, refl, true, ℕ, ◌+◌, ◌<◌}
use Rattle.std.proofs.{Common.{◌∙◌, ◌∷◌, ◌≡◌, ◌≤◌}, lemmas.Bool.Decides.nat_tests}
use Rattle.std.proofs.lemmas.List.Sums.{sum_by-cons}
use Rattle.std.specs.{List.AllByRecursion, Prelude.{None, Ok, Some, nat_lt, sum_by, ◌&&◌}}
use Rattle.do_class.specs.Class.{Class}
use Rattle.do_sched.specs.Schedule.{most_steps}
use Rattle.do_record.specs.{Recorded.{record_of, recorded}, declared.parts.Block.Block}
use Rattle.do_record.specs.declared.parts.Record.{Record}
use Rattle.do_machine.specs.{World.{IsSeat, IsWorld}, declared.state.Seat.Seat, run.Run.Acting}
use Rattle.do_limits.specs.SendableActs.{KeepsSendable}
use Rattle.do_at_hand.specs.AtHand.{ShowsNames}
use Rattle.do_exchanged.specs.{Files.IsReadBehind, Runs.{Ran, opens, record_of_run}}
use Rattle.do_link.specs.Told.{Told}
use Rattle.do_net.specs.Seen.{Seen}
use Rattle.do_recorded.proofs.Answer.{served_read}
use Rattle.do_recorded.specs.{Chain.{CameAsBytes, IsServer, has_ended}, Inputs.blocks_of}
use Rattle.do_serve.specs.{Answers.record_text, Hosting.site_rules, Serving.{Server, serve_from}}
use Rattle.do_woven.specs.Judging.{behind, fault_line, has_record, has_seat, unless_at}
use Rattle.do_woven.specs.Steps.{block_steps, passing_line, record_steps, steps_in}

-- where the steps are no more than those of any schedule, no block passes them
none_passes : (done : ℕ) (bs : List Block) → done + sum_by block_steps bs ≤ 1000000 →
    passing_line done bs ≡ None
none_passes done [] few = refl
none_passes done (b ∷ bs) few =
    go (nat_lt most_steps (done + block_steps b)) refl
    (none_passes (done + block_steps b) bs (omega (arith, few, sum_by-cons block_steps b bs)))
  where
    within : (n : ℕ) → n ≤ 1000000 → nat_lt 1000000 n ≡ true → ⊥
    within n h e =
        let more : 1000000 < n = grind (arith, nat_tests, e) in
        omega (arith, h, more)

    go : (t : Bool) → nat_lt most_steps (done + block_steps b) ≡ t →
        passing_line (done + block_steps b) bs ≡ None →
        cond t (Some b.line) (passing_line (done + block_steps b) bs) ≡ None
    go true e rest =
        absurd (within (done + block_steps b)
        (omega (arith, few, sum_by-cons block_steps b bs)) e)
    go false e rest = rest

-- a record of a node of a world that has none, with so few steps, has no fault behind others
no_fault : (seats : List Seat) (earlier : List Record) (r : Record) →
    has_seat seats r.port ≡ true → has_record earlier r.port ≡ false →
    steps_in earlier + record_steps r ≤ 1000000 → fault_line seats earlier r ≡ None
no_fault seats earlier r here alone few =
    ap (λ t. cond (t && not (has_record earlier r.port))
    (passing_line (steps_in earlier) r.blocks) (Some 1)) here
    ∙ ap (λ t. cond (not t) (passing_line (steps_in earlier) r.blocks) (Some 1)) alone
    ∙ none_passes (steps_in earlier) r.blocks few

-- what a served node wrote is read behind others
pub files_read : (table : List Class) (act : Acting) (seats : List Seat) (seat : Seat) (turns : ℕ)
    (s : Server Seen) (told : List Told) (earlier : List Record) → IsWorld table seats →
    IsSeat table seat → has_seat seats seat.node ≡ true → KeepsSendable table act →
    ShowsNames table act → s.core.part ≡ opens table act seats seat → IsServer s →
    AllByRecursion CameAsBytes told → turns < 70368744177664 →
    has_record earlier seat.node ≡ false →
    IsReadBehind table act seats earlier seat
    (record_text seat.node (serve_from site_rules seat.node turns s told))
files_read table act seats seat turns s told earlier world is here keeps names at server small few
    alone =
    let port = seat.node in
    let r = serve_from site_rules port turns s told in
    let it = served_read table act seats seat turns s told world is keeps names at server small few
    in
    let ran : Ran = record { seat = seat; inputs = it.inputs; whole = has_ended r.how } in
    let read : record_of (record_text port r) ≡ Ok (record_of_run table act seats ran) =
    it.reads ∙ ap (λ (x : Seen). Ok (recorded port (blocks_of site_rules port 2 x it.inputs)
    (has_ended r.how))) at in
    record {
      ran = ran;
      at = refl;
      served = it.served;
      is_read = read;
      reads = λ within.
          ap (behind seats earlier) read
          ∙ ap (unless_at (record_of_run table act seats ran))
          (no_fault seats earlier (record_of_run table act seats ran) here alone within);
    }
