use Rattle.do_effects.proofs.changing.Core.receive_name.Goals as goal
use Rattle.std.proofs.Common.{[], ◌∷◌, ap, sym, ◌∙◌}
use Rattle.do_effects.specs.{Doing.{Doing, doing}, Taking.gains}
use Rattle.do_effects.proofs.{NamesAlone.mine_alone, NamesInTurn.tidy_gains}

-- an object of the peer is held, and received once more
pub returns-in-Mine-clause-done : goal.returns-in-Mine-clause-done
returns-in-Mine-clause-done c =
    let d : Doing = doing c.args.self.now in
    (λ j. record { own = c.got.ensures.own j; out = d.out; shown = d.shown })
    ∙ sym (mine_alone d c.args.from c.requires.tidy _ _)
    ∙ ap (λ x. gains c.args.from (x ∷ []) d) (sym c.in-Mine.is)

-- a node that received an object of the peer keeps what it counts
pub returns-in-Mine-clause-tidy : goal.returns-in-Mine-clause-tidy
returns-in-Mine-clause-tidy c =
    let d : Doing = doing c.args.self.now in
    tidy_gains (record { own = c.got.new.self.own; out = d.out; shown = d.shown }) d c.args.from
    (c.args.name.now ∷ [])
    ((λ j. record { own = c.got.ensures.own j; out = d.out; shown = d.shown })
    ∙ sym (mine_alone d c.args.from c.requires.tidy _ _)
    ∙ ap (λ x. gains c.args.from (x ∷ []) d) (sym c.in-Mine.is))
