-- Classes are told as a machine opens, and along every schedule.
use Rattle.std.proofs.Common.{◌≡◌, ◌==◌, ℕ, true, List, [], map, refl, sym, subst}
use Rattle.std.specs.Prelude.{None, Option, Some, find, is_some, option_and_then, option_map}
use Rattle.std.specs.List.{AllByRecursion}
use Rattle.do_base.specs.names.Names.{ObjectName}
use Rattle.do_class.specs.Class.{Class}
use Rattle.do_machine.specs.declared.{item.Item.Item, state.{Queue.Queue, Seat.Seat}}
use Rattle.do_machine.specs.declared.state.Station.{Station}
use Rattle.do_machine.specs.State.{class_of, is_known, queue, queue_to, station}
use Rattle.do_machine.specs.World.{by_port, opening, opening_station, others}
use Rattle.do_facts.proofs.OpeningAsNet.{opened}
use Rattle.do_agreement.proofs.{agreement.OpeningAgrees.found_such, places.PlacesChanged.some_is}
use Rattle.do_agreement.proofs.told.{ClassesKept.{ClassesKept, IsToldIn}, StationsFit.StationFits}

module _ (table : List Class) (seats : List Seat) where
  -- the ports of the nodes, in their order
  abbrev ports : List ℕ
  ports = map (λ (s : Seat). s.node) (by_port seats)

  -- a queue that opens is empty
  queue_empty : (to : ℕ) (s : Seat) (items : List Item) →
      queue_to to (opening_station table ports s) ≡ Some items → items ≡ []
  queue_empty to s items h =
      go (find (λ (q : Queue). to == q.to)
      (map (λ p. record { to = p; items = [] }) (others ports s.node))) refl h
    where
      go : (found : Option Queue) →
          find (λ (q : Queue). to == q.to)
          (map (λ p. record { to = p; items = [] }) (others ports s.node)) ≡ found →
          option_map (λ (q : Queue). q.items) found ≡ Some items → items ≡ []
      go None e h = absurd (cc)
      go (Some q) e h =
          subst (λ xs. xs ≡ []) (some_is q.items items h)
          (found_such (λ (q : Queue). q.items ≡ []) (λ q. to == q.to)
          (λ p. record { to = p; items = [] }) (λ p. refl) (others ports s.node) q e)

  -- no item waits
  none_waits : (from to : ℕ) (items : List Item) →
      queue (opening table seats) from to ≡ Some items → items ≡ []
  none_waits from to items h = go (station (opening table seats) from) refl h
    where
      go : (found : Option Station) → station (opening table seats) from ≡ found →
          option_and_then (queue_to to) found ≡ Some items → items ≡ []
      go None e h = absurd (cc)
      go (Some s) e h =
          found_such (λ st. (items : List Item) → queue_to to st ≡ Some items → items ≡ [])
          (λ st. from == st.port) (opening_station table ports) (queue_empty to) (by_port seats) s e
          items h

  -- a machine opens so
  pub opening_keeps : ClassesKept (opening table seats)
  opening_keeps = record {
    stations = λ x s h.
        found_such StationFits (λ st. x == st.port) (opening_station table ports)
        (λ st. record { given = refl; stored = (refl, tt) }) (by_port seats) s h;
    told = record {
      known = λ port n here.
          opened table ports
          (λ p m. (o : ObjectName) → is_known m o ≡ true →
          is_some (class_of (opening table seats) o) ≡ true) (λ s o k. absurd (cc)) (by_port seats)
          port n here;
      told = λ from to items waits.
          subst (AllByRecursion (IsToldIn (opening table seats) from))
          (sym (none_waits from to items waits)) tt;
    };
  }
