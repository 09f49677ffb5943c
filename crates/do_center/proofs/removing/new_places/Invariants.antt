use Rattle.do_center.proofs.removing.new_places.Given as goal
use Rattle.std.proofs.Common.{◌≡◌, ◌≤◌, ◌++◌, drop}
use Rattle.do_center.specs.Removing.{goes, new_places}

abbrev pub invariant-loop-seat : goal.invariant-loop-seat
invariant-loop-seat l = record {
  places :
      l.places
      ++ new_places (goes l.gone.observer l.gone.name l.gone.object) l.count
      (drop l.seat-index l.seat-items)
      ≡ new_places (goes l.gone.observer l.gone.name l.gone.object) 0 l.seat-items;
  count : l.count ≤ l.seat-index;
}
