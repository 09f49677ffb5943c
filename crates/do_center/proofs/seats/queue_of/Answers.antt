use Rattle.do_center.proofs.seats.queue_of.Goals as goal
use Rattle.std.{proofs.Common.{◌≡◌, Some, None, sym, ◌∙◌, ap, refl, arith}, specs.Prelude.slice_get}
use Rattle.std.proofs.lemmas.{Grind.common_steps, Option.slice_get_read}
use Rattle.do_center.specs.{Observers.first_of, Queues.queue_of, declared.seats.Seat.Seat}
use Rattle.do_center.proofs.FirstOf.{queue_given, seat_observer}

pub returns-in_ok-queue-in-Some : goal.returns-in_ok-queue-in-Some
returns-in_ok-queue-in-Some c =
    let ss = c.as_slice-all.result.now in
    let o = c.args.observer in
    let s = c.index-all-at.result in
    let first : first_of seat_observer ss o ≡ Some c.in-Some.at = grind (arith, common_steps) in
    let there : slice_get ss c.in-Some.at ≡ Some s =
    slice_get_read ss _ c.in-Some.at s refl c.in-Some.ensures.within c.index-all-at.is in
    c.in_ok-queue-in-Some.ensures.cases ∙ ap (λ (x : Seat). x.queue) (sym c.index-all-at.is)
    ∙ sym (ap (λ xs. queue_of xs o) (sym c.as_slice-all.ensures)
    ∙ (queue_given ss o).first c.in-Some.at s first there)

pub returns-in-None : goal.returns-in-None
returns-in-None c =
    let ss = c.args.seats.now in
    let o = c.args.observer in
    let none : first_of seat_observer ss o ≡ None = grind (arith, common_steps) in
    c.new.ensures ∙ sym ((queue_given ss o).absent none)
