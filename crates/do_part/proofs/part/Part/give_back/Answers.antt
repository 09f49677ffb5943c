use Rattle.do_part.proofs.part.Part.give_back.Goals as goal
use Rattle.std.proofs.Common.{◌≡◌, true, ◌==◌, refl, sym, ap, arith, subst}
use Rattle.do_machine.specs.State.{is_open}
use Rattle.do_part.{specs.{Owned.Owned, Rooting.root_of}, proofs.Entered.{entry_go, sound_left}}
use Rattle.do_part.proofs.Entries.{entries_to, lowered-entries, names-entry}
use Rattle.do_part.proofs.{EntryBounds.{AreFewer, links_fewer, lowered_fewer}, Rest.numbers_gone}

-- the object is held by the entry that is over
pub tally_root-requires : goal.tally_root-requires
tally_root-requires c =
    let i = c.self.inside in
    let open_to = subst (λ (v : Owned). is_open v.own.node c.args.peer ≡ true)
    (sym c.self.view_is) c.requires.open in
    let r = c.serial_if.result in
    entry_go i c.self.invariant _ c.self.view_is c.give_back.new.self r
    (λ n. let x = ap (λ m. entries_to m n i.ends) c.in_ok-left.ensures.which.1 in
    let y = lowered-entries i.exports.counts c.args.peer c.args.serial i.ends
    c.self.invariant.apart open_to c.args.n c.in_ok-left.left c.requires.some
    c.in_ok-left.ensures.which.0 n in
    let z = names-entry i.holders.node c.args.serial n
    (c.in_ok-left.left == 0) r c.serial_if.ensures in
    omega (arith, x, y, z))

-- the part is sound with the names given back
pub invariant_of-self-2 : goal.invariant_of-self-2
invariant_of-self-2 c =
    let i = c.self.inside in
    let open_to = subst (λ (v : Owned). is_open v.own.node c.args.peer ≡ true)
    (sym c.self.view_is) c.requires.open in
    let r = c.serial_if.result in
    sound_left i c.self.invariant _ c.self.view_is c.give_back.new.self r c.tally_root.new.self
    c.tally_root.ensures
    (λ n. let x = ap (λ m. entries_to m n i.ends) c.in_ok-left.ensures.which.1 in
    let y = lowered-entries i.exports.counts c.args.peer c.args.serial i.ends
    c.self.invariant.apart open_to c.args.n c.in_ok-left.left c.requires.some
    c.in_ok-left.ensures.which.0 n in
    let z = names-entry i.holders.node c.args.serial n
    (c.in_ok-left.left == 0) r c.serial_if.ensures in
    omega (arith, x, y, z))
    (links_fewer i (record i { holders = c.tally_root.new.self; exports = c.give_back.new.self })
    c.self.invariant.links (sym c.tally_root.ensures.went.node)
    (numbers_gone i.holders c.tally_root.new.self (root_of i.holders.node r)
    c.tally_root.ensures).imports refl (let e = c.tally_root.ensures.names in omega (arith, e))
    (subst (AreFewer i.exports.counts) (sym c.in_ok-left.ensures.which.1)
    (lowered_fewer i.exports.counts c.args.peer c.args.serial c.args.n c.in_ok-left.left
    c.requires.some c.in_ok-left.ensures.which.0)))
