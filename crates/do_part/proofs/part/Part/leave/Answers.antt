use Rattle.std.specs.FinMap as map
use Rattle.do_part.proofs.part.Part.leave.Goals as goal
use Rattle.std.proofs.Common.{◌≤◌, ap, arith, length, subst, sym, vec_capacity}
use Rattle.do_import.specs.Imported.{Imported}
use Rattle.do_machine.specs.held.Leaving.{leaving}
use Rattle.do_network.specs.Own.{is_counted}
use Rattle.do_part.specs.{Owned.Owned, Seen.own_of}
use Rattle.do_part.proofs.{HeldRows.held_len, LeftBehind.{links_left, sound_left_behind}}
use Rattle.do_part.proofs.{Leaves.{own_left, sent_left}, Referred.counted}

-- the part is sound without what nothing holds
pub invariant_of-self : goal.invariant_of-self
invariant_of-self c =
    let i = c.self.inside in
    let m = c.leave.new.imports in
    let same = c.leave.ensures.same in
    let sweeps = c.leave.ensures.sweeps in
    sound_left_behind i c.leave.new.store m sweeps.0 c.self.invariant sweeps.1
    c.leave.ensures.node c.leave.ensures.next sweeps.2
    (ap (λ (x : Imported). x.named) same) (ap (λ (x : Imported). x.own) same)
    c.counts_are_tied-2.ensures.used
    (links_left i c.leave.new.store m c.self.invariant.links (map.contains_key m.uses)
    c.leave.ensures.received (ap (λ (x : Imported). x.asks) same))

-- there is room for what is told
pub leave-requires-clause-more : goal.leave-requires-clause-more
leave-requires-clause-more c =
    let held = subst (λ (v : Owned). length v.own.node.held ≤ vec_capacity c.args.left.now)
    (sym c.self.view_is) c.requires.left in
    let len = held_len c.self.inside.holders.imports.received in
    omega (arith, held, len)

-- the node is the one that left what it should
pub returns-clause-own : goal.returns-clause-own
returns-clause-own c =
    let i = c.self.inside in
    rw (← c.self.view_is) (own_left i c.leave.new.store c.leave.new.imports
    c.leave.new.freed.items c.leave.new.left.items c.self.invariant.links
    (c.leave.ensures.leaves (is_counted (own_of i)) (own_of i).node
    (counted i c.self.invariant c.counts_are_tied.ensures.tied c.len-entries.ensures.positive
    (λ o is. c.occurrences_are_uses.ensures (own_of i).node i.holders.imports.uses o is)))
    c.leave.ensures.next c.leave.ensures.same c.leave.ensures.received
    c.counts_are_tied-2.ensures.tied)

-- what is shown is what the node shows
pub returns-clause-shown : goal.returns-clause-shown
returns-clause-shown c =
    let i = c.self.inside in
    rw (← c.self.view_is) (c.leave.ensures.leaves (is_counted (own_of i)) (own_of i).node
    (counted i c.self.invariant c.counts_are_tied.ensures.tied c.len-entries.ensures.positive
    (λ o is. c.occurrences_are_uses.ensures (own_of i).node i.holders.imports.uses o is))).shown

-- what is told is what the node sends
pub returns-clause-sent : goal.returns-clause-sent
returns-clause-sent c =
    let i = c.self.inside in
    rw (← c.self.view_is) (sent_left i.holders.imports.received c.leave.new.imports.uses
    c.leave.new.left.items (leaving (is_counted (own_of i)) (own_of i).node).sent
    c.leave.ensures.told (c.leave.ensures.leaves (is_counted (own_of i)) (own_of i).node
    (counted i c.self.invariant c.counts_are_tied.ensures.tied c.len-entries.ensures.positive
    (λ o is. c.occurrences_are_uses.ensures (own_of i).node i.holders.imports.uses o is))).sent)
