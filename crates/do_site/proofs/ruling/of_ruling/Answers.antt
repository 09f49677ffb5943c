use Rattle.do_site.proofs.ruling.of_ruling.Goals as goal
use Rattle.std.{proofs.Common.{◌∙◌, ap, sym, subst}, specs.Prelude.IfSome}
use Rattle.do_rules.specs.declared.take.ruling.Ruling.{Ruling}
use Rattle.do_rules.specs.declared.take.ruling.Ruling.TheVariants.{Answers, Begins, Refuses}
use Rattle.do_site.specs.{Plans.AllowsItem, declared.needs.Needs.Needs}
use Rattle.do_site.proofs.RulingsAllowed.{refused_allowed, some_map}

pub returns-in-Begins : goal.returns-in-Begins
returns-in-Begins c =
    let P : Ruling → Needs → Type 0 =
    λ r needs. AllowsItem c.args.part.now.own.node c.args.from c.args.item.now
    c.args.many r needs in
    subst (λ r. IfSome c.of_beginning.result (P r))
    (ap (λ cs. Begins cs c.in-Begins.invocation) c.as_slice.ensures ∙ sym c.in-Begins.is)
    (some_map c.of_beginning.result (λ needs h. h c.args.from c.args.item.now)
    c.of_beginning.ensures)

pub returns-in-Refuses : goal.returns-in-Refuses
returns-in-Refuses c =
    let P : Ruling → Needs → Type 0 =
    λ r needs. AllowsItem c.args.part.now.own.node c.args.from c.args.item.now
    c.args.many r needs in
    subst (λ r. IfSome c.of_message.result (P r))
    (ap (λ cs. Refuses cs c.in-Refuses.reason c.in-Refuses.exc) c.as_slice-in-Refuses.ensures
    ∙ sym c.in-Refuses.is)
    (some_map c.of_message.result (λ needs h. refused_allowed c.args.part.now.own.node c.args.from
    c.args.many c.args.item.now c.as_slice-in-Refuses.result.now c.in-Refuses.reason
    c.in-Refuses.exc needs h) c.of_message.ensures)

pub returns-in-Answers : goal.returns-in-Answers
returns-in-Answers c =
    let P : Ruling → Needs → Type 0 =
    λ r needs. AllowsItem c.args.part.now.own.node c.args.from c.args.item.now
    c.args.many r needs in
    subst (λ r. IfSome c.of_answering.result (P r))
    (ap (λ cs. Answers cs c.in-Answers.call c.in-Answers.answer) c.as_slice-in-Answers.ensures
    ∙ sym c.in-Answers.is)
    (some_map c.of_answering.result (λ needs h. h c.args.from c.args.item.now)
    c.of_answering.ensures)

pub returns-in-EndsAsk : goal.returns-in-EndsAsk
returns-in-EndsAsk c =
    let P : Ruling → Needs → Type 0 =
    λ r needs. AllowsItem c.args.part.now.own.node c.args.from c.args.item.now
    c.args.many r needs in
    subst (λ r. IfSome c.of_ask.result (P r)) (sym c.in-EndsAsk.is)
    (some_map c.of_ask.result (λ needs h. h c.args.from c.args.many c.args.item.now)
    c.of_ask.ensures)
