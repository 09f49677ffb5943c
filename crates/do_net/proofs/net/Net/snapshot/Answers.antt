use Rattle.do_net.proofs.net.Net.snapshot.Goals as goal
use Rattle.std.{proofs.Common.{◌≡◌, ◌∙◌, Result, Ok, Err}, specs.Prelude.IfOk}
use Rattle.do_net.{specs.Net.network, proofs.StandsForStates.lists_as_one}

-- what is listed is equal to what else is told of it
if_listed : {T E : Type 0} (listed : Result T E) (a b : T) → IfOk listed (λ x. x ≡ a) → a ≡ b →
    IfOk listed (λ x. x ≡ b)
if_listed (Ok x) a b is same = is ∙ same
if_listed (Err e) a b is same = tt

pub returns-clause-one_machine : goal.returns-clause-one_machine
returns-clause-one_machine g c state stands =
    let net = c.args.self.now in
    if_listed _ _ _ c.snapshot.ensures
    (lists_as_one net.table (g.S.Acts.Behaviour.act net.acts) (network g.S.Hosted.seen net) state
    stands)
