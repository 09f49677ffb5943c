use Rattle.do_limits.proofs.laws.items_have_spellings.Goals as goal
use Rattle.std.proofs.{Common.{arith, length}, lemmas.List.Elements.All-from_recursion}
use Rattle.do_coder.specs.Packets.{surroundings}
use Rattle.do_facts.{specs.Reached.reached, proofs.links.ReachedNames.reached_made}
use Rattle.do_limits.specs.Spelled.{ItemIsSpelled}
use Rattle.do_limits.proofs.{Selectors.has_methods, numbers.Reached.reached_numbers}
use Rattle.do_limits.proofs.spelled.{Calls.calls_given, Tokens.tokens_given}
use Rattle.do_limits.proofs.{spelled.ItemFrames.waiting_spelled, states.Steps.reached_sendable}

pub returns : goal.returns
returns c table act seats events world acts starts few from to waiting e =
    let has = has_methods table world.classes world.signatures in
    let S = reached table act seats events in
    All-from_recursion (ItemIsSpelled (surroundings table from to)) waiting
    (waiting_spelled table S
    (reached_sendable table act has acts seats events world.seated starts) (length events)
    (reached_numbers table act has acts seats events world.seated starts) (omega (arith, few))
    from to
    (record {
      made = reached_made table act seats events;
      lent = tokens_given table act seats events;
      given = calls_given table act seats events;
    }) waiting e)
