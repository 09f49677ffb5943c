use Rattle.do_part.proofs.part.Part.go_to.Goals as goal
use Rattle.std.proofs.Common.{[], inl, ap, ◌∙◌}
use Rattle.do_behave.specs.{Changes.meaning, InPlace.after_act}
use Rattle.do_behave.specs.declared.change.Change.TheVariants.{Goto}
use Rattle.do_stack.specs.Waiting.{with_top}
use Rattle.do_part.{specs.Names.stack_of, proofs.Exchanging.{goto-moves, keeps_rest}}
use Rattle.do_part.proofs.{Numbering.{eased-top, numbered_eased}, Turning.sound_stacked}

-- the part is sound with the top at another place
pub invariant_of-self : goal.invariant_of-self
invariant_of-self c =
    let i = c.self.inside in
    sound_stacked i c.self.invariant c.go_to.new.self i.next_call
    (λ o. ap (λ l. stack_of l o) c.go_to.ensures.invocations
    ∙ goto-moves c.args.pc i.stack.invocations o)
    (numbered_eased i c.self.invariant c.go_to.new.self
    (with_top (λ t. (after_act (meaning t (Goto c.args.pc)) t []).inv) i.stack.invocations)
    (eased-top (λ t. (after_act (meaning t (Goto c.args.pc)) t []).inv) i.stack.invocations
    (λ t. inl (keeps_rest (meaning t (Goto c.args.pc)) t).1)) c.go_to.ensures.invocations
    c.go_to.ensures.late)
