-- What the nodes of a world did that exchanged their bytes, and what they recorded.
use Rattle.std.specs.Prelude.{Bool, List, [], length, map, ℕ, ◌<◌, ◌^◌}
use Rattle.std.specs.List.{AllByRecursion, sum_by, Sorted.IsPermutation}
use Rattle.do_class.specs.Class.{Class}
use Rattle.do_machine.specs.{World.by_port, declared.state.Seat.Seat, run.Run.Acting}
use Rattle.do_net.specs.Seen.{Seen, at_rest}
use Rattle.do_network.specs.{Net.opening_part, declared.input.Input.Input}
use Rattle.do_record.specs.{Recorded.recorded, declared.parts.Record.Record}
use Rattle.do_serve.specs.Hosting.{site_rules}
use Rattle.do_recorded.specs.Inputs.{IsServed, blocks_of}
use Rattle.do_exchanged.specs.Exchange.{Doing, HasExchange}

-- a node of a world that did inputs from its opening on, and whether its record is whole
pub record Ran : Type 0 where
  pub seat : Seat
  pub inputs : List Input
  pub whole : Bool

module _ (table : List Class) (act : Acting) (seats : List Seat) where
  -- the node of a seat as its world opens
  abbrev pub opens : Seat → Seen
  opens s = at_rest table act (opening_part table (map (λ x. x.node) (by_port seats)) s)

  -- a node before its first input
  abbrev pub beginning : Ran → Doing Seen
  beginning r = record {
    port = r.seat.node;
    part = opens r.seat;
    sent = [];
    taken = λ peer. [];
    after = r.inputs;
  }

  -- what a node recorded
  abbrev pub record_of_run : Ran → Record
  record_of_run r =
      recorded r.seat.node (blocks_of site_rules r.seat.node 2 (opens r.seat) r.inputs) r.whole

  -- how many inputs nodes did
  abbrev pub inputs_in : List Ran → ℕ
  inputs_in runs = sum_by (λ r. length r.inputs) runs

  -- each node of a world did inputs that serving does, and they exchanged their bytes in some order
  pub record Exchanged (runs : List Ran) : Type 0 where
    pub each : IsPermutation (map (λ r. r.seat) runs) seats
    pub served : AllByRecursion (λ r. AllByRecursion (IsServed r.seat.node) r.inputs) runs
    pub few : inputs_in runs < 2 ^ 45
    pub exchange : HasExchange site_rules (inputs_in runs) (map beginning runs)
