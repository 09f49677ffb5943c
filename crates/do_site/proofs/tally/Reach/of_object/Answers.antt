use Rattle.do_site.proofs.tally.Reach.of_object.Goals as goal
use Rattle.std.proofs.{Common.{arith, refl}, lemmas.Bool.Decides.nat_tests}
use Rattle.do_site.proofs.Stored.{one_there}
use Rattle.do_site.proofs.tally.Reach.of_object.Goals.{else-eq-via-then-eq+else-not-has}
use Rattle.do_site.proofs.tally.Reach.of_object.Goals.{else-eq-via-else-eq}

-- an own object is counted if it is there, any other always
pub returns : goal.returns
returns c =
    let n = c.args.self.part.now.own.node in
    elim c.else-eq.branch [
      | else-eq-via-then-eq+else-not-has w ↦ record {
        counted = refl;
        there = one_there n c.args.self.more c.args.oid
            (λ same. let has = w.has.ensures in let is = w.if-not-has.false in
            grind (arith, has, is));
      }
      | else-eq-via-else-eq w ↦ record {
        counted = refl;
        there = one_there n c.args.self.more c.args.oid
            (λ same. let port = c.port.ensures in let eq = c.eq.ensures in
            let is = w.if-eq.false in absurd (grind (arith, nat_tests, same, port, eq, is)));
      }
    ]
