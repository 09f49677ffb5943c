use Rattle.std.specs.FinMap as map
use Rattle.do_part.proofs.part.Part.end_entries.Goals as goal
use Rattle.std.proofs.Common.{ℕ, ap, sym, ◌∙◌, arith, refl}
use Rattle.do_export.{specs.Counts.others_of, proofs.Order.{entry_total, entry_same}}
use Rattle.do_machine.specs.State.{is_open}
use Rattle.do_network.specs.Own.{Own}
use Rattle.do_part.proofs.{MapKeys.fewer, PartingRows.{none_apart, one_apart}}

-- at the start all entries are as they were
pub loop-serial-init : goal.loop-serial-init
loop-serial-init c = record {
  own = refl;
  others = refl;
  ends = c.requires;
  objects = refl;
  invocations = refl;
  names = omega arith;
  entries = omega arith;
}

-- the end towards the peer is open
pub forget-requires : goal.forget-requires
forget-requires c = c.loop-serial.invariant.ends

-- an entry less is left
pub loop-serial-smaller : goal.loop-serial-smaller
loop-serial-smaller c =
    let e = ap (λ (o : Own). map.len o.counts) c.forget.ensures.own in
    let less = fewer entry_total entry_same c.loop-serial.self.own.counts
    (c.args.peer, c.in-Some.serial) c.in-Some.ensures.there in
    omega (arith, e, less)

-- an entry of the peer is gone, and the others stay
pub loop-serial-preserved : goal.loop-serial-preserved
loop-serial-preserved c =
    let w = c.loop-serial.invariant in
    let e = c.forget.ensures in
    let counts = ap (λ (o : Own). o.counts) e.own in
    let k : ℕ × ℕ = (c.args.peer, c.in-Some.serial) in
    let names = w.names in
    let entries = w.entries in
    let more = e.names in
    let room = e.entries in
    record {
      own = e.own
          ∙ (λ j. record (w.own j) { counts = map.remove c.loop-serial.self.own.counts k })
          ∙ (λ j. record c.args.self.now.own { counts = sym counts j });
      others = ap (λ d. others_of d c.args.peer) counts
          ∙ one_apart c.loop-serial.self.own.counts c.args.peer c.in-Some.serial ∙ w.others;
      ends = ap (λ (o : Own). is_open o.node c.args.peer) e.own ∙ w.ends;
      objects = e.objects ∙ w.objects;
      invocations = e.invocations ∙ w.invocations;
      names = omega (arith, names, more);
      entries = omega (arith, entries, room);
    }

-- no entry of the peer is left
pub returns : goal.returns
returns c =
    let w = c.loop-serial.invariant in
    record {
      own = w.own ∙ (λ j. record c.args.self.now.own {
        counts = (sym (none_apart c.loop-serial.self.own.counts c.args.peer
            c.in_default.ensures) ∙ w.others) j;
      });
      objects = w.objects;
      invocations = w.invocations;
      names = w.names;
      entries = w.entries;
    }
