use Rattle.do_part.proofs.part.Part.end_links.Goals as goal
use Rattle.std.proofs.Common.{◌∙◌, ◌==◌, ap, arith, not, refl, sym}
use Rattle.do_import.specs.Imported.{Imported}
use Rattle.do_part.specs.{Parting.without_links, Seen.own_of, Rooting.held_of}
use Rattle.do_part.proofs.LinkEnds.{links_retained, peer_over, sound_over}
use Rattle.do_part.proofs.Linking.{classes_linked, own_linked}
use Rattle.do_part.proofs.{LinkRows.{asked_list, lent_apart, lent_list}, PartingRows.held_apart}

-- the part is sound without what it held of the peer and lent to it
pub invariant_of-self : goal.invariant_of-self
invariant_of-self c =
    let i = c.self.inside in
    let n = i.holders.imports in
    let m = c.end_peer.new.self in
    let e = c.end_peer.ensures.same in
    sound_over i m c.self.invariant (peer_over n m c.counts_are_tied.ensures.tied c.args.peer e)
    c.counts_are_tied-2.ensures.used
    (links_retained i m c.self.invariant.links (λ q. not (q.0 == c.args.peer))
    (ap (λ (x : Imported). x.received) e)
    (ap (λ (x : Imported). x.asks) e))

-- the node holds nothing of the peer, and lends it nothing
pub returns : goal.returns
returns c =
    let i = c.self.inside in
    let n = i.holders.imports in
    let m = c.end_peer.new.self in
    let e = c.end_peer.ensures.same in
    let spare = c.end_peer.ensures.spare in
    let links = c.end_peer.ensures.links in
    let over = peer_over n m c.counts_are_tied.ensures.tied c.args.peer e in
    let asked = ap (λ (x : Imported). asked_list x.asks) e in
    let held = ap (λ (x : Imported). held_of x.received) e ∙ held_apart n.received c.args.peer in
    rw (← c.self.view_is) (record {
      own = own_linked i m i.holders.names _ _ _ _ _ _ over.next
          (ap (λ (x : Imported). lent_list x.lends) e ∙ lent_apart n.lends c.args.peer) asked held
          (ap (λ (x : Imported). x.received) e)
          (classes_linked n m (without_links c.args.peer (own_of i).node)
          c.counts_are_tied-2.ensures.tied over.among (sym held) (sym asked));
      objects = refl;
      invocations = refl;
      names = omega (arith, spare);
      entries = omega (arith, links);
    })
