use Rattle.do_site.proofs.work.Work.leave.Goals as goal
use Rattle.std.proofs.Common.{ap, arith}
use Rattle.do_site.{specs.declared.told.Told.Told, proofs.PlacesKept.places_fewer}

-- there are places for what is owed still
pub returns-clause-places : goal.returns-clause-places
returns-clause-places c =
    let old = c.args.self.now in
    let freed = c.leave.ensures.freed_room in
    let left = c.leave.ensures.left_room in
    let told : Told = record old.told { freed = c.leave.new.freed; left = c.leave.new.left } in
    places_fewer old.core c.leave.new.self old.told told c.leave.ensures.fewer c.leave.ensures.pays
    (omega (arith, freed)) (omega (arith, left)) (omega arith) c.requires.place.places

-- the links read by the same classes
pub returns-clause-stays : goal.returns-clause-stays
returns-clause-stays c = record {
  classes = c.leave.ensures.classes;
}
