use Rattle.do_leaving.proofs.sweeping.sweep_each.Goals as goal
use Rattle.std.proofs.Common.{ℕ, List, [], length, refl, sym, ap, ◌∙◌, subst, arith}
use Rattle.do_machine.specs.held.Refers.{objects_in}
use Rattle.do_import.specs.Imported.{Imported, all_off}
use Rattle.do_store.specs.Names.{Stored}
use Rattle.do_leaving.{specs.Sweeping.foreign, proofs.StoreLookups.fewer_without}
use Rattle.do_leaving.proofs.SweptSoFar.{SweptSoFar, swept_none, swept_more, swept_all}
use Rattle.do_leaving.proofs.UsesOff.{unused_more}

-- nothing is taken out yet
pub loop-gone-init : goal.loop-gone-init
loop-gone-init c =
    let store = c.args.store.now in
    let imports = c.args.imports.now in
    let P : List ℕ → Type 0 = λ l. SweptSoFar store store imports imports.uses [] l in
    record {
      so_far = subst P (sym c.requires.none) (swept_none store imports []);
      same = refl;
      spare = omega arith;
      room = c.requires.room;
      capacity = refl;
    }

-- there is room for one more
pub part_with-requires : goal.part_with-requires
part_with-requires c =
    let f = c.in-Some.ensures.freed in
    omega (
      arith,
      c.loop-gone.invariant.room,
      fewer_without c.loop-gone.store.objects c.in-Some.gone.oid.serial _ f.2,
    )

-- one object fewer is stored
pub loop-gone-smaller : goal.loop-gone-smaller
loop-gone-smaller c =
    let f = c.in-Some.ensures.freed in
    omega (
      arith,
      ap length f.1,
      fewer_without c.loop-gone.store.objects c.in-Some.gone.oid.serial _
          f.2,
    )

-- one more was taken out
pub loop-gone-preserved : goal.loop-gone-preserved
loop-gone-preserved c =
    let gone = c.in-Some.gone in
    let f = c.in-Some.ensures.freed in
    let now = c.loop-gone.store in
    let new = c.sweep.new.self in
    let imports = c.part_with.new.imports in
    let so = c.loop-gone.invariant in
    let o : Stored =
    record { serial = gone.oid.serial; class = gone.class; slots = gone.slots; held = 0 } in
    let fewer = fewer_without now.objects gone.oid.serial o f.2 in
    let off = ap (λ (i : Imported). i.uses) c.part_with.ensures.same
    ∙ ap (λ m. all_off c.loop-gone.imports.uses (foreign m (objects_in gone.slots))) f.0 in
    let P : List ℕ → Type 0 =
    λ l. SweptSoFar c.args.store.now new c.args.imports.now imports.uses [] l in
    record {
      so_far = subst P (sym c.part_with.ensures.items) (swept_more c.args.store.now now new
          c.args.imports.now c.loop-gone.imports.uses imports.uses [] c.loop-gone.serials.items o
          so.so_far f.2 refl f.3 f.1 c.sweep.ensures.node c.sweep.ensures.next c.sweep.ensures.spare
          off);
      same = unused_more c.args.imports.now c.loop-gone.imports imports
          (foreign gone.oid.node (objects_in gone.slots)) so.same c.part_with.ensures.same;
      spare = omega (arith, so.spare, c.part_with.ensures.room_left);
      room = omega (
        arith,
        so.room,
        c.part_with.ensures.len,
        c.part_with.ensures.capacity,
        fewer,
        ap length f.1,
      );
      capacity = c.part_with.ensures.capacity ∙ so.capacity;
    }

-- nothing is left that nothing holds
pub returns-clause-sweeps : goal.returns-clause-sweeps
returns-clause-sweeps c =
    let e = c.in_default.ensures.freed in
    let so = c.loop-gone.invariant in
    swept_all c.args.store.now c.loop-gone.store c.sweep.new.self c.args.imports.now
    c.loop-gone.imports c.loop-gone.serials.items so.so_far so.same e.0 e.1
