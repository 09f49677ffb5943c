use Rattle.do_part.proofs.part.Part.set_root.Goals as goal
use Rattle.std.proofs.Common.{ℕ, sym, ap, arith, subst}
use Rattle.do_part.specs.{Names.AreStored, Owned.Owned, Rooting.{root_of, root_size}}
use Rattle.do_part.proofs.{Rooted.{root-le, size-le, root_go, sound_rooted}, Turning.sound_come}

-- the new root can be counted
pub tally_root-requires : goal.tally_root-requires
tally_root-requires c =
    let i = c.self.inside in
    let one = size-le c.args.root in
    let names = c.requires.names in
    let stored = subst (λ (p : ℕ). AreStored c.args.self.now.own.node (root_of p c.args.root))
    (sym (ap (λ (v : Owned). v.own.node.port) c.self.view_is)) c.requires.stored in
    sound_come i c.self.invariant _ c.self.view_is (root_of i.holders.node c.args.root)
    (root_size c.args.root) stored (λ o. root-le i.holders.node c.args.root o)
    (omega (arith, names, one))

-- the old root is counted
pub tally_root-requires-2 : goal.tally_root-requires-2
tally_root-requires-2 c =
    let stored = subst (λ (p : ℕ). AreStored c.args.self.now.own.node (root_of p c.args.root))
    (sym (ap (λ (v : Owned). v.own.node.port) c.self.view_is)) c.requires.stored in
    root_go c.self.inside c.self.invariant _ c.self.view_is c.tally_root.new.self c.args.root
    stored c.tally_root.ensures

-- the part is sound with the new root counted and the old one taken off
pub invariant_of-self : goal.invariant_of-self
invariant_of-self c =
    let one = size-le c.args.root in
    let names = c.requires.names in
    let stored = subst (λ (p : ℕ). AreStored c.args.self.now.own.node (root_of p c.args.root))
    (sym (ap (λ (v : Owned). v.own.node.port) c.self.view_is)) c.requires.stored in
    sound_rooted c.self.inside c.self.invariant _ c.self.view_is c.tally_root.new.self
    c.tally_root-2.new.self c.args.root stored (omega (arith, names, one)) c.tally_root.ensures
    c.tally_root-2.ensures
