use Rattle.do_rules.specs.declared.take.ruling.Ruling.TheVariants as rulings
use Rattle.do_effects.proofs.changing.Core.ends_lend.Goals as goal
use Rattle.std.proofs.Common.{refl, sym, ap, arith, subst}
use Rattle.do_machine.specs.lend.Lending.{with_settled}
use Rattle.do_network.specs.Own.{Own}
use Rattle.do_effects.specs.{Doing.doing, Paying.owed, Taking.taking_needs, Tidy.IsTidy}
use Rattle.do_effects.{specs.declared.changing.Core.Core, proofs.Alone.tidy_node}
use Rattle.do_effects.proofs.{Did.bounded_node, Judged.{is_quiet, on_quiet}, Taken.node_done}

-- the line is shown, and the node forgets the lend
pub returns-clause-done : goal.returns-clause-done
returns-clause-done c =
    let p = c.args.self.now.part.own in
    let b : Core = record { part = c.settle.new.self; streams = c.show.new.self } in
    node_done (doing c.args.self.now) (doing b) c.args.from c.args.item.now c.args.line
    (is_quiet c.requires.judged.0 c.args.from c.args.item.now
    (sym (ap on_quiet c.requires.judged.1)))
    (rulings.EndsLend c.args.number) (with_settled c.args.from c.args.number p.node)
    c.requires.tidy (record { ends = refl; held = refl; asked = refl }) refl
    c.settle.ensures.own c.show.ensures.sent c.show.ensures.shown

-- a node without the lend counts nothing that it does not keep
pub returns-clause-tidy : goal.returns-clause-tidy
returns-clause-tidy c =
    let p = c.args.self.now.part.own in
    subst IsTidy (sym c.settle.ensures.own)
    (tidy_node p (with_settled c.args.from c.args.number p.node)
    (record { ends = refl; held = refl; asked = refl }) c.requires.tidy)

-- nothing but the line is told
pub returns-clause-within : goal.returns-clause-within
returns-clause-within c =
    let p = c.args.self.now.part.own in
    let b : Core = record { part = c.settle.new.self; streams = c.show.new.self } in
    bounded_node (taking_needs p.node c.args.item.now (rulings.EndsLend c.args.number))
    c.args.self.now b (with_settled c.args.from c.args.number p.node) c.settle.ensures.own
    (omega arith) (omega arith) (omega arith) (omega arith) c.show.ensures.classes

-- and no frame is sent
pub returns-clause-pays : goal.returns-clause-pays
returns-clause-pays c =
    let owes = ap (λ (q : Own). owed q.node) c.settle.ensures.own in
    let shown = c.show.ensures.bare in
    omega (arith, owes, shown)
