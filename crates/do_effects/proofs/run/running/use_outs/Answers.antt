use Rattle.do_effects.proofs.run.running.use_outs.Goals as goal
use Rattle.std.proofs.Common.{◌≡◌, ◌+◌, [], length, ap, sym, ◌∙◌, arith, subst}
use Rattle.std.proofs.lemmas.List.{nil_from_length, Sums.sum_by-cons}
use Rattle.do_machine.specs.declared.node.Node.{Node}
use Rattle.do_network.specs.Own.{Own}
use Rattle.do_part.specs.Names.{AreStored, size_of, sizes_of, values_of}
use Rattle.do_effects.specs.{Outs.uses_outs, Plans.{IsRunning, top_changed}}
use Rattle.do_effects.proofs.Outs.{first_out, first_stored, no_outs, outs_more, outs_past}
use Rattle.do_effects.proofs.Outs.{rest_stored, still_runs}

-- what the next out value names is stored
pub goes-requires-clause-stored : goal.goes-requires-clause-stored
goes-requires-clause-stored c =
    let n = c.loop-at.part.own.node in
    let rest = c.remove-value.new.self in
    first_stored n c.remove-value.result rest (subst (λ vs. AreStored n (values_of vs))
    (first_out c.loop-at.outs c.remove-value.result c.remove-value.ensures.item rest
    c.remove-value.ensures.rest)
    c.loop-at.invariant.stored)

-- one more out value went to its local
pub loop-at-preserved : goal.loop-at-preserved
loop-at-preserved c =
    let s = c.loop-at.invariant in
    let n = c.loop-at.part.own.node in
    let i = c.loop-at.at in
    let value = c.remove-value.result in
    let rest = c.remove-value.new.self in
    let e = first_out c.loop-at.outs value c.remove-value.ensures.item rest
    c.remove-value.ensures.rest in
    let own = c.goes.ensures.own in
    let sizes = ap sizes_of e ∙ sum_by-cons size_of value rest in
    let one = sum_by-cons size_of value [] in
    let lengths = ap length e in
    let left = s.left in
    let room = s.room in
    record {
      runs = subst (λ (p : Own). IsRunning p.node.stack) (sym own)
          (still_runs n.stack c.in-Some.into c.in-Some.pc value s.runs);
      stored = subst (λ (p : Own). AreStored p.node (values_of rest)) (sym own)
          (rest_stored n value rest (subst (λ vs. AreStored n (values_of vs)) e s.stored));
      room = omega arith;
      left = omega arith;
      own = ap (λ (p : Own). record p { node = top_changed (uses_outs (i + 1) rest) p.node }) own
          ∙ ap (λ (m : Node). record c.loop-at.part.own { node = m })
          (outs_more n i c.in-Some.into c.in-Some.pc value rest (sym c.in-Some.ensures)
          ∙ ap (λ vs. top_changed (uses_outs i vs) n) (sym e))
          ∙ s.own;
    }

-- there is no local for the next one, and so none for those behind it
pub returns-in_default : goal.returns-in_default
returns-in_default c =
    let s = c.loop-at.invariant in
    ap (λ (m : Node). record c.loop-at.part.own { node = m })
    (sym (outs_past c.loop-at.part.own.node c.loop-at.at c.loop-at.outs s.runs
    (sym c.in_default.ensures)))
    ∙ s.own

-- all out values went to their locals
pub returns : goal.returns
returns c =
    let s = c.loop-at.invariant in
    let left = s.left in
    let none : c.loop-at.outs ≡ [] = nil_from_length c.loop-at.outs (omega arith) in
    ap (λ (m : Node). record c.loop-at.part.own { node = m })
    (sym (ap (λ vs. top_changed (uses_outs c.loop-at.at vs) c.loop-at.part.own.node) none
    ∙ no_outs c.loop-at.part.own.node c.loop-at.at s.runs))
    ∙ s.own
