use Rattle.do_orders.proofs.laws.contradictions_stand_in_every_order.Goals as goal
use Rattle.do_machine.specs.World.{opening}
use Rattle.do_weave.proofs.{Again.threads_apart, Standing.fault_stands}
use Rattle.do_weave.specs.{Orders.IsReached, Threads.{blocks_in, threads_of}}
use Rattle.do_orders.proofs.InputsCommute.{inputs_commute}

pub returns-clause-opening : goal.returns-clause-opening
returns-clause-opening c = λ R seats records fault apart e order.
    fault_stands R records seats (inputs_commute R seats) (blocks_in records)
    (opening R.table seats) (threads_of records) fault IsReached.at_opening
    (threads_apart records apart) e order

pub returns-clause-reached : goal.returns-clause-reached
returns-clause-reached c = λ R seats S records fault there apart e order.
    fault_stands R records seats (inputs_commute R seats) (blocks_in records) S
    (threads_of records) fault there (threads_apart records apart) e order
