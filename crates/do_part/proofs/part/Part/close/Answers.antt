use Rattle.do_part.proofs.part.Part.close.Goals as goal
use Rattle.std.proofs.Common.{◌++◌, ◌==◌, ap, sym, ◌∙◌, arith, filter, length, map as each, not}
use Rattle.std.proofs.{Common.subst, lemmas.List.Sums.{count_by-le-length, length-filter}}
use Rattle.do_export.specs.Counts.{HasNoneFrom}
use Rattle.do_machine.specs.{declared.node.Wanted.Wanted, ends.Closing.asked_of}
use Rattle.do_network.specs.Own.{Own}
use Rattle.do_part.proofs.Parted.{own_parted, failed, asks_gone, links_gone}
use Rattle.do_part.proofs.PartingRows.{none_left}

-- there is room for a token of each ask
pub end_asks-requires : goal.end_asks-requires
end_asks-requires c =
    let peer = c.args.peer in
    let same = ap (λ (o : Own). length (asked_of peer o.node)) c.end_entries.ensures.own in
    let less = length-filter (λ (w : Wanted). w.object.node == peer)
    c.args.self.now.own.node.asked in
    let most = count_by-le-length (λ (w : Wanted). w.object.node == peer)
    c.args.self.now.own.node.asked in
    let none = ap (λ l. length l) c.requires.none in
    let room = c.requires.room in
    omega (arith, same, less, most, none, room)

-- the peer has no entry left
pub close_end-requires : goal.close_end-requires
close_end-requires c =
    subst (λ d. HasNoneFrom d c.args.peer 0)
    (sym (ap (λ (o : Own). o.counts) c.fail_peer.ensures.own
    ∙ ap (λ (o : Own). o.counts) c.end_links.ensures.own
    ∙ ap (λ (o : Own). o.counts) c.end_asks.ensures.own
    ∙ ap (λ (o : Own). o.counts) c.end_entries.ensures.own))
    (none_left c.args.self.now.own.counts c.args.peer)

-- what each part of the closing leaves is what closing leaves
pub returns : goal.returns
returns c =
    let peer = c.args.peer in
    let start = c.args.self.now.own in
    let first = c.end_entries.ensures in
    let second = c.end_asks.ensures in
    let third = c.end_links.ensures in
    let fourth = c.fail_peer.ensures in
    let last = c.close_end.ensures in
    let a = first.names in
    let b = second.names in
    let d = third.names in
    let f = ap (λ r. r.names) last.room in
    let e = first.entries in
    let g = ap (λ r. r.entries) last.room in
    let names = fourth.names in
    let entries = fourth.entries in
    let more = third.entries in
    let asks = second.entries in
    record {
      own = last.own
          ∙ ap (λ (o : Own). record o {
            node = record o.node {
              open_to = filter (λ p. not (p == peer)) o.node.open_to;
            };
          }) (fourth.own ∙ ap (failed peer) (third.own ∙ ap (links_gone peer)
          (second.own ∙ ap (asks_gone peer) first.own)))
          ∙ own_parted peer start c.ends_are_open.ensures.ends c.ends_are_open.ensures.held;
      settled = second.settled
          ∙ (λ j. c.requires.none j ++ each (λ (w : Wanted). w.token)
          (asked_of peer (first.own j).node));
      capacity = second.capacity;
      objects = ap (λ r. r.objects) last.room ∙ fourth.objects ∙ third.objects ∙ second.objects
          ∙ first.objects;
      names = omega (arith, a, b, d, f, names);
      entries = omega (arith, e, g, entries, more, asks);
    }
