use Rattle.do_given.proofs.worlds.world_given.Goals as goal
use Rattle.do_given.proofs.GivenWorld.{given_by_file}

pub returns-in-None-clause-accepts : goal.returns-in-None-clause-accepts
returns-in-None-clause-accepts g c = λ files given is gives.
    given_by_file _ files _ given _ c.in_ok-world.ensures.value c.in-None.is
    (λ says. c.world_in_file.ensures.accepts files given is says) gives

pub returns-in-None-clause-refuses : goal.returns-in-None-clause-refuses
returns-in-None-clause-refuses g c = λ files status is refused.
    c.world_in_file.ensures.refuses files status is refused.1
