use Rattle.do_store.proofs.pairs.find.Goals as goal
use Rattle.std.proofs.Common.{◌≡◌, Some, None, ap, sym}
use Rattle.slab.specs.Slab.{get}
use Rattle.do_store.specs.{Listing.live_in, declared.object.Pair.Pair}
use Rattle.do_store.proofs.Listed.{absent-unpaired, absent-dead, live-other}

pub returns-in_err-key : goal.returns-in_err-key
returns-in_err-key c = λ top rising.
    let there = rw (sym c.as_slice.ensures.value) at rising in
    let none = rw c.as_slice.ensures.value at (c.in_err-key.ensures top there) in
    rw c.from_residual.ensures
    (absent-unpaired (get c.args.slots.now) c.args.pairs.now.items c.args.serial none)

pub returns-in_err-object : goal.returns-in_err-object
returns-in_err-object c = λ top rising.
    let there = rw (sym c.as_slice.ensures.value) at rising in
    let paired = rw c.as_slice.ensures.value at (c.in_ok-key.ensures top there) in
    let gone : get c.args.slots.now c.in_ok-key.key ≡ None = sym c.in_err-object.ensures in
    rw c.from_residual-in_err-object.ensures
    (absent-dead (get c.args.slots.now) top c.args.pairs.now.items c.args.serial c.in_ok-key.key
    rising paired (ap (live_in c.args.serial) gone))

pub returns-then-object-serial : goal.returns-then-object-serial
returns-then-object-serial c = λ top rising.
    let there = rw (sym c.as_slice.ensures.value) at rising in
    let paired = rw c.as_slice.ensures.value at (c.in_ok-key.ensures top there) in
    let found : get c.args.slots.now c.in_ok-key.key ≡ Some c.in_ok-object.object.now =
    sym c.in_ok-object.ensures in
    let whole : Pair = record { serial = c.args.serial; key = c.in_ok-key.key } in
    absent-dead (get c.args.slots.now) top c.args.pairs.now.items c.args.serial c.in_ok-key.key
    rising paired
    (live-other (get c.args.slots.now) whole c.in_ok-object.object.now found
    c.if-object-serial.true)
