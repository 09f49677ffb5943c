-- How nodes are as a machine opens.
use Rattle.std.proofs.Common.{◌≡◌, List, [], map, refl}
use Rattle.do_class.specs.Class.{Class}
use Rattle.do_machine.specs.{declared.state.Seat.Seat, World.{by_port, opening}}
use Rattle.do_facts.specs.laws.{Follows.AllHoldOpen, first.Step.{AllOnTime, IsOnTime}}
use Rattle.do_facts.proofs.OpeningAsNet.{opened}

-- each node that opens holds nothing, and so nothing over a closed end
pub opening_holds : (table : List Class) (seats : List Seat) → AllHoldOpen (opening table seats)
opening_holds table seats = record {
  each = λ port n h. record {
    reached = λ o q.
        let sorted = by_port seats in
        let all = map (λ s. s.node) sorted in
        let none = opened table all (λ p m. m.held ≡ []) (λ s. refl) sorted port n h in
        absurd (cc (none, q));
  };
}

-- and no call of it was given up
pub opening_on_time : (table : List Class) (seats : List Seat) →
    AllOnTime (opening table seats)
opening_on_time table seats = record {
  each = λ port n h.
      let sorted = by_port seats in
      opened table (map (λ s. s.node) sorted) (λ p. IsOnTime) (λ s. refl) sorted port n h;
}
