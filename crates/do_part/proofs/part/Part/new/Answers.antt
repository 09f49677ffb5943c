use Rattle.do_part.proofs.part.Part.new.Goals as goal
use Rattle.std.proofs.Common.{◌==◌, ◌≤◌, ◌∙◌, List, [], ap, length, subst, sym, ℕ}
use Rattle.std.specs.List.{IsDistinct}
use Rattle.do_export.specs.Counts.{Exported}
use Rattle.do_part.proofs.Opening.{nothing_but, own_new, sound_new}

-- a part with nothing is sound
pub invariant_of-result : goal.invariant_of-result
invariant_of-result c =
    sound_new c.args.node c.in_ok-store.store c.new-2.result c.new-3.result c.new-4.result
    c.new-5.result c.in_ok-store.ensures c.new-2.ensures.own c.new-2.ensures.received
    c.new-2.ensures.uses c.new-2.ensures.named c.new-2.ensures.asks
    (ap (λ (e : Exported). e.counts) c.new-3.ensures)
    c.new-4.ensures.invocations c.new-4.ensures.late
    (subst (λ (es : List ℕ). length es ≤ 64) (sym c.new-5.ensures) c.requires.few)
    (subst (IsDistinct (λ (p q : ℕ). p == q)) (sym c.new-5.ensures) c.requires.distinct)

-- it has nothing but open ends
pub returns : goal.returns
returns c =
    own_new c.args.node c.in_ok-store.store c.new-2.result c.new-3.result c.new-4.result
    c.new-5.result c.in_ok-store.ensures c.new-2.ensures.received c.new-2.ensures.lends
    c.new-2.ensures.next c.new-2.ensures.asks c.new-2.ensures.classes
    (ap (λ (e : Exported). e.counts) c.new-3.ensures) c.new-4.ensures.invocations
    c.new-4.ensures.late
    ∙ ap (λ (es : List ℕ). nothing_but c.args.node es [] [] []) c.new-5.ensures
