use Rattle.do_grammar.proofs.beside.num_beside_of.Goals as goal
use Rattle.std.proofs.Common.{arith}
use Rattle.do_grammar.specs.{Num.num, OneSpelling.Spelled, BesideHoles.{num_beside, IsBeside}}
use Rattle.do_grammar.proofs.faults.AnswerExact.{bytes_from_each}
use Rattle.do_grammar.proofs.faults.RestExact.{tells_rest, finds_rest}
use Rattle.do_grammar.proofs.texts.{BesideExact.Reads-beside, NextBeside.next_up}

pub front_num-requires : goal.front_num-requires
front_num-requires c = omega (arith, next_up c.args.holes.now c.args.low, c.requires)

pub returns-clause-exact : goal.returns-clause-exact
returns-clause-exact c =
    tells_rest (Spelled num (IsBeside c.args.holes.now c.args.low c.args.high))
    (num_beside c.args.holes.now c.args.low c.args.high)
    (Reads-beside c.args.holes.now c.args.low c.args.high c.requires c.ranges.high.fits)
    (λ x. x) c.args.bytes.now c.front_num.result
    (bytes_from_each c.args.bytes.now (λ i. omega (arith, c.type_inv.bytes i)))
    c.front_num.ensures.gives

pub returns-clause-only : goal.returns-clause-only
returns-clause-only c =
    finds_rest (Spelled num (IsBeside c.args.holes.now c.args.low c.args.high))
    (num_beside c.args.holes.now c.args.low c.args.high)
    (Reads-beside c.args.holes.now c.args.low c.args.high c.requires c.ranges.high.fits)
    (λ x. x) c.args.bytes.now c.front_num.result c.front_num.ensures.gives
