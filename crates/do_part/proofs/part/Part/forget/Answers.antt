use Rattle.std.specs.FinMap as map
use Rattle.do_part.proofs.part.Part.forget.Goals as goal
use Rattle.std.proofs.Common.{Some, None, if◌then◌else◌, ◌≡◌, ◌∙◌, true, refl, sym, ap, arith}
use Rattle.std.proofs.Common.{subst}
use Rattle.do_machine.specs.State.{is_open}
use Rattle.do_part.{specs.{Owned.Owned, Rooting.root_of}, proofs.Entered.{entry_go, sound_left}}
use Rattle.do_part.proofs.Entries.{entries_to, removed-entries, names-entry}
use Rattle.do_part.proofs.{EntryBounds.{AreFewer, links_fewer, removed_fewer}, Rest.numbers_gone}

-- the object of the entry is held by it
pub tally_root-requires : goal.tally_root-requires
tally_root-requires c =
    let i = c.self.inside in
    let open_to = subst (λ (v : Owned). is_open v.own.node c.args.peer ≡ true)
    (sym c.self.view_is) c.requires in
    let r = c.serial_if.result in
    entry_go i c.self.invariant _ c.self.view_is c.forget.new.self r
    (λ n. let x = ap (λ m. entries_to m n i.ends) c.forget.ensures.counts in
    let y = removed-entries i.exports.counts c.args.peer c.args.serial i.ends
    c.self.invariant.apart open_to n in
    let z = names-entry i.holders.node c.args.serial n
    (map.contains_key i.exports.counts (c.args.peer, c.args.serial)) r
    (c.serial_if.ensures
    ∙ ap (λ b. if b then Some c.args.serial else None) c.has-known.ensures) in
    omega (arith, x, y, z))

-- the part is sound without the entry
pub invariant_of-self : goal.invariant_of-self
invariant_of-self c =
    let i = c.self.inside in
    let open_to = subst (λ (v : Owned). is_open v.own.node c.args.peer ≡ true)
    (sym c.self.view_is) c.requires in
    let r = c.serial_if.result in
    sound_left i c.self.invariant _ c.self.view_is c.forget.new.self r c.tally_root.new.self
    c.tally_root.ensures
    (λ n. let x = ap (λ m. entries_to m n i.ends) c.forget.ensures.counts in
    let y = removed-entries i.exports.counts c.args.peer c.args.serial i.ends
    c.self.invariant.apart open_to n in
    let z = names-entry i.holders.node c.args.serial n
    (map.contains_key i.exports.counts (c.args.peer, c.args.serial)) r
    (c.serial_if.ensures
    ∙ ap (λ b. if b then Some c.args.serial else None) c.has-known.ensures) in
    omega (arith, x, y, z))
    (links_fewer i (record i { holders = c.tally_root.new.self; exports = c.forget.new.self })
    c.self.invariant.links (sym c.tally_root.ensures.went.node)
    (numbers_gone i.holders c.tally_root.new.self (root_of i.holders.node r)
    c.tally_root.ensures).imports refl (let e = c.tally_root.ensures.names in omega (arith, e))
    (subst (AreFewer i.exports.counts) (sym c.forget.ensures.counts)
    (removed_fewer i.exports.counts (c.args.peer, c.args.serial))))
