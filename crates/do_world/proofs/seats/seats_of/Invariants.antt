use Rattle.do_world.proofs.seats.seats_of.Given as goal
use Rattle.std.{proofs.Common.{◌≡◌, drop, length, map, take}, specs.List.filter_map}
use Rattle.toml.specs.View.{table_view}
use Rattle.do_document.specs.Checks.{first_among, first_behind}
use Rattle.do_world.specs.{Faults.seat_fault, Sound.AreSeats, Worlds.seat_of}

abbrev pub invariant-loop-k : goal.invariant-loop-k
invariant-loop-k l = record {
  faults : first_behind (seat_fault l.classes) (map (λ t. table_view t.now) (take l.k l.tables))
      (map (λ t. table_view t.now) (drop l.k l.tables))
      ≡ first_among (seat_fault l.classes) (map (λ t. table_view t.now) l.tables);
  made : l.seats ≡ filter_map (seat_of l.classes) (map (λ t. table_view t.now) (take l.k l.tables));
  all : length l.seats ≡ l.k;
  seats : AreSeats l.classes l.seats;
}
