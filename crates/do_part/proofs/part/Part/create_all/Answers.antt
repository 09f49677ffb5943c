use Rattle.do_part.proofs.part.Part.create_all.Goals as goal
use Rattle.std.proofs.Common.{◌∙◌, List as Listed, IsSome, ap, sym, arith, subst, map}
use Rattle.do_machine.specs.{State.stored, declared.node.Node.Node, run.Fresh.with_objects}
use Rattle.do_network.specs.Own.{Own}
use Rattle.do_packet.specs.declared.receipt.Made.{Made}
use Rattle.do_part.specs.{Filled.{blank_of, filled, made_values}, Names.{values_of, sizes_of}}
use Rattle.do_part.{specs.Names.AreStored, proofs.Filled.{blank-size, blank-stored, filled-objects}}

-- blank objects name nothing
pub create_blanks-requires-clause-blank : goal.create_blanks-requires-clause-blank
create_blanks-requires-clause-blank c =
    ap (λ (l : Listed Made). sizes_of (made_values l)) c.in_ok-blanks.ensures
    ∙ blank-size c.args.copies

-- what the copies name is stored while they are blank
pub fill_each-requires-clause-stored : goal.fill_each-requires-clause-stored
fill_each-requires-clause-stored c =
    let node = c.args.self.now.own.node in
    subst (λ (o : Own). AreStored o.node (values_of (made_values c.args.copies)))
    (sym c.create_blanks.ensures.own)
    (λ n above. subst (λ (l : Listed Made). IsSome (stored n (with_objects l node).heap))
    (sym c.in_ok-blanks.ensures)
    (blank-stored n c.args.copies node (c.requires.stored n above)))

-- the blank objects are stored under the serials that are filled
pub fill_each-requires-clause-few : goal.fill_each-requires-clause-few
fill_each-requires-clause-few c =
    let e = c.next_serial-first.ensures in
    let next = e.next in
    let room = e.room in
    let few = c.requires.room in
    let fits = c.next_serial-first.type_inv in
    omega (arith, next, room, few, fits)

-- filled, they are as if they had been made at once
pub returns-clause-own : goal.returns-clause-own
returns-clause-own c =
    let own = c.args.self.now.own in
    let first = c.next_serial-first.result in
    let copies = c.args.copies in
    c.fill_each.ensures.own
    ∙ ap (λ (o : Own). record o { node = filled first copies o.node }) c.create_blanks.ensures.own
    ∙ ap (λ (l : Listed Made). record own
    { node = filled first copies (with_objects l own.node) }) c.in_ok-blanks.ensures
    ∙ ap (λ s. record own
    { node = filled s copies (with_objects (map blank_of copies) own.node) })
    c.next_serial-first.ensures.next
    ∙ ap (λ (n : Node). record own { node = n })
    (filled-objects copies own.node c.next_serial-first.ensures.free)
