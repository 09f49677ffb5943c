use Rattle.std.specs.FinMap as map
use Rattle.do_part.proofs.part.Part.end_asks.Goals as goal
use Rattle.std.proofs.Common.{◌≡◌, ◌++◌, ◌∷◌, [], ◌==◌, ap, sym, ◌∙◌, arith, filter, inl, length}
use Rattle.std.proofs.Common.{map as each, not, refl, subst, append_assoc, append-nil}
use Rattle.do_base.specs.names.Names.{ObjectName}
use Rattle.do_machine.specs.{Lists.IsIn, State.is_known, declared.node.Wanted.Wanted}
use Rattle.do_machine.specs.{ends.Closing.asked_of, lend.Asking.without_wanted}
use Rattle.do_network.specs.{Counting.of_known, Own.Own}
use Rattle.do_part.{specs.Parting.without_asks, proofs.PassingElements.in_passing}
use Rattle.do_part.proofs.PartingRows.{all_others, known_all, known_step, others_stay}

-- at the start all asks are left, and nothing was told
pub loop-token-init : goal.loop-token-init
loop-token-init c = record {
  own = refl;
  others = refl;
  known = refl;
  told = refl;
  room = c.requires;
  capacity = refl;
  objects = refl;
  invocations = refl;
  names = omega arith;
  entries = omega arith;
}

-- there is room for the token of an ask that is left
pub push_reserved-requires : goal.push_reserved-requires
push_reserved-requires c =
    let less = ap (λ (l : _). length l) c.in-Some.ensures.which.2 in
    let room = c.loop-token.invariant.room in
    omega (arith, less, room)

-- an ask that is over is left no more
pub loop-token-smaller : goal.loop-token-smaller
loop-token-smaller c =
    let less = ap (λ (l : _). length l) c.in-Some.ensures.which.2 in
    omega (arith, less)

-- an ask is over, and its token is told
pub loop-token-preserved : goal.loop-token-preserved
loop-token-preserved c =
    let so = c.loop-token.invariant in
    let now = c.loop-token.self.own in
    let start = c.args.self.now.own in
    let which = c.in-Some.ensures.which in
    let w = which.0 in
    let e = which.3 in
    let after = c.end_ask.new.self.own in
    let asked = ap (λ (o : Own). o.node.asked) e in
    let classes = ap (λ (o : Own). o.classes) e in
    let home = in_passing (λ v. v.object.node == c.args.peer) now.node.asked w
    (subst (λ l. IsIn l w) (sym which.2) (inl refl)) in
    let others = ap (filter (λ (v : Wanted). not (v.object.node == c.args.peer))) asked
    ∙ others_stay c.args.peer w home now.node.asked ∙ so.others in
    let less = ap (λ (l : _). length l) which.2 in
    let room = so.room in
    let names = so.names in
    let more = c.in-Some.ensures.names in
    let entries = so.entries in
    let closed = c.in-Some.ensures.entries in
    let len = c.push_reserved.ensures.len in
    let capacity = c.push_reserved.ensures.capacity in
    record {
      own = e
          ∙ (λ j. record (so.own j) {
            node = record (so.own j).node { asked = (without_wanted w now.node).asked };
            classes = of_known (without_wanted w now.node) now.classes;
          })
          ∙ (λ j. record start {
            node = record start.node { asked = sym asked j };
            classes = sym classes j;
          });
      others = others;
      known = ap (of_known (without_asks c.args.peer start.node)) classes
          ∙ known_step c.args.peer start.node (without_wanted w now.node) now.classes
          (ap (λ (o : Own). o.node.held) so.own) (sym (ap
          (filter (λ (v : Wanted). not (v.object.node == c.args.peer))) asked) ∙ others)
          ∙ so.known;
      told = ap (λ l. l ++ each (λ (v : Wanted). v.token) (asked_of c.args.peer after.node))
          c.push_reserved.ensures.items
          ∙ append_assoc c.loop-token.settled.items (c.in-Some.token ∷ [])
          (each (λ (v : Wanted). v.token) (asked_of c.args.peer after.node))
          ∙ (λ j. c.loop-token.settled.items ++ (sym which.1 j
          ∷ each (λ (v : Wanted). v.token) (asked_of c.args.peer after.node)))
          ∙ ap (λ l. c.loop-token.settled.items ++ each (λ (v : Wanted). v.token) l)
          (sym which.2)
          ∙ so.told;
      room = omega (arith, room, less, len, capacity);
      capacity = capacity ∙ so.capacity;
      objects = c.in-Some.ensures.objects ∙ so.objects;
      invocations = c.in-Some.ensures.invocations ∙ so.invocations;
      names = omega (arith, names, more);
      entries = omega (arith, entries, closed);
    }

-- no ask of the peer is left, and the tokens of all are told
pub returns : goal.returns
returns c =
    let so = c.loop-token.invariant in
    let now = c.loop-token.self.own in
    let start = c.args.self.now.own in
    let none = c.in_default.ensures.which.0 in
    let asked = all_others c.args.peer now.node.asked none ∙ so.others in
    let classes = known_all (without_asks c.args.peer start.node) now.node now.classes
    (sym (ap (λ (o : Own). o.node.held) so.own)) (sym asked)
    (subst (λ (o : Own). (x : ObjectName) → is_known o.node x
    ≡ map.contains_key o.classes (x.node, x.serial)) c.in_default.ensures.which.1
    c.classes_are_known.ensures) ∙ so.known in
    let last = c.in_default.ensures in
    let less = last.names in
    let names = so.names in
    let entries = so.entries in
    let closed = last.entries in
    record {
      own = last.which.1 ∙ so.own ∙ (λ j. record start {
        node = record start.node { asked = asked j };
        classes = classes j;
      });
      settled = sym (append-nil c.loop-token.settled.items)
          ∙ ap (λ l. c.loop-token.settled.items ++ each (λ (v : Wanted). v.token) l) (sym none)
          ∙ so.told;
      capacity = so.capacity;
      objects = last.objects ∙ so.objects;
      invocations = last.invocations ∙ so.invocations;
      names = omega (arith, less, names);
      entries = omega (arith, entries, closed);
    }
