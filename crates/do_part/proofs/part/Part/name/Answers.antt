use Rattle.std.specs.FinMap as map
use Rattle.do_part.proofs.part.Part.name.Goals as goal
use Rattle.std.proofs.Common.{Some, None, if◌then◌else◌, ◌≡◌, true, not, refl, sym, ap, ◌∙◌, arith}
use Rattle.std.proofs.Common.{subst}
use Rattle.do_machine.specs.State.{is_open}
use Rattle.do_part.{specs.{Owned.Owned, Rooting.root_of}, proofs.Entered.entry-stored}
use Rattle.do_part.proofs.{Entered.sound_named, Entries.{entries_to, raised-entries, names-entry}}
use Rattle.do_part.proofs.{EntryBounds.links_named, Rooted.{root-le, size-le}, Turning.sound_come}

-- a first name of the entry can be counted
pub come_once-requires : goal.come_once-requires
come_once-requires c =
    let i = c.self.inside in
    let r = c.serial_if.result in
    let one = size-le r in
    let names = c.requires.names in
    sound_come i c.self.invariant _ c.self.view_is (root_of i.holders.node r) 1
    (entry-stored _ i.holders.node _ c.args.serial _ r
    (ap (λ (v : Owned). v.own.node.port) c.self.view_is) c.serial_if.ensures c.requires.stored)
    (λ o. let l = root-le i.holders.node r o in omega (arith, l, one)) (omega (arith, names))

-- the part is sound with the entry counted once more
pub invariant_of-self : goal.invariant_of-self
invariant_of-self c =
    let i = c.self.inside in
    let open_to = subst (λ (v : Owned). is_open v.own.node c.args.peer ≡ true)
    (sym c.self.view_is) c.requires.open in
    let r = c.serial_if.result in
    let b = c.come_once.new.self in
    let come = c.come_once.ensures in
    let names = c.requires.names in
    sound_named i c.self.invariant _ c.self.view_is c.name.new.self r b
    (entry-stored _ i.holders.node _ c.args.serial _ r
    (ap (λ (v : Owned). v.own.node.port) c.self.view_is) c.serial_if.ensures c.requires.stored)
    (omega (arith, names)) come
    (λ n. let x = ap (λ m. entries_to m n i.ends) c.name.ensures.counts in
    let y = raised-entries i.exports.counts c.args.peer c.args.serial i.ends
    c.self.invariant.apart open_to n in
    let z = names-entry i.holders.node c.args.serial n
    (not (map.contains_key i.exports.counts (c.args.peer, c.args.serial))) r
    (c.serial_if.ensures
    ∙ ap (λ b. if not b then Some c.args.serial else None) c.has-known.ensures) in
    omega (arith, x, y, z))
    (links_named i (record i { holders = b; exports = c.name.new.self }) c.self.invariant.links
    come.came.node come.came.imports refl c.args.peer c.args.serial open_to come.names
    c.name.ensures.counts)

-- the entry is not counted too often
pub name-requires-clause-small : goal.name-requires-clause-small
name-requires-clause-small c =
    let a = c.self.invariant.links.sent (c.args.peer, c.args.serial) in
    let m = c.self.invariant.most in
    omega (arith, a, m)
