use Rattle.do_part.proofs.holders.Holders.go.Goals as goal
use Rattle.std.proofs.Common.{arith, refl, sym, ap, ◌∙◌, subst}
use Rattle.do_import.specs.Imported.{Imported}
use Rattle.do_export.specs.Counts.{IsPositive}
use Rattle.do_part.specs.Holding.{Came, CanGo}
use Rattle.do_export.proofs.Counting.{positive-lowered}
use Rattle.do_part.proofs.Ones.{one_of, is_away, is_home, own_held, one-slot, went-own}
use Rattle.do_part.proofs.{Ones.{went-foreign, foreign_used}, Steps.came-kept}

-- a foreign object is used
pub unrefer-requires : goal.unrefer-requires
unrefer-requires c =
    let away = is_away c.oid.view_is c.if-ne.true c.ne.ensures in
    foreign_used c.args.self.now c.args.oid c.args.all away c.requires

-- an own object is stored, and held
pub release-requires : goal.release-requires
release-requires c =
    let home = is_home c.oid.view_is c.if-ne.false c.ne.ensures in
    own_held c.args.self.now c.args.oid home
    (subst (λ b. CanGo c.args.self.now (one_of b c.args.self.now.node c.args.oid))
    c.if-all.true c.requires)

-- a foreign object has a use less
pub returns-then-ne : goal.returns-then-ne
returns-then-ne c =
    let away = is_away c.oid.view_is c.if-ne.true c.ne.ensures in
    let uses = ap (λ (i : Imported). i.uses) c.unrefer.ensures.same in
    record {
      went = went-foreign c.args.self.now (record c.args.self.now { imports = c.unrefer.new.self })
          c.args.oid c.args.all away c.requires (record {
            store = refl;
            node = refl;
            imports = c.unrefer.ensures.same
                ∙ ap (λ u. record c.args.self.now.imports
                { uses = u; spare = c.unrefer.new.self.spare }) (sym uses);
          }) uses;
      positive = λ pos. subst IsPositive (sym uses)
          (positive-lowered c.args.self.now.imports.uses c.args.oid.node c.args.oid.serial
          (foreign_used c.args.self.now c.args.oid c.args.all away c.requires) pos);
      spare = c.unrefer.ensures.spare;
      names = refl;
    }

-- an own object has a holder less
pub returns-then-all : goal.returns-then-all
returns-then-all c =
    let home = is_home c.oid.view_is c.if-ne.false c.ne.ensures in
    record {
      went = subst (λ b. Came (record c.args.self.now { store = c.release.new.self })
          c.args.self.now (one_of b c.args.self.now.node c.args.oid)) (sym c.if-all.true)
          (went-own c.args.self.now (record c.args.self.now { store = c.release.new.self })
          c.args.oid home
          (subst (λ b. CanGo c.args.self.now (one_of b c.args.self.now.node c.args.oid))
          c.if-all.true c.requires) (record {
            objects = c.release.ensures.objects;
            home = c.release.ensures.node;
            next = c.release.ensures.next;
            spare = c.release.ensures.spare;
            node = refl;
            imports = refl;
          }));
      positive = λ pos. pos;
      spare = omega arith;
      names = refl;
    }

-- an own object in a slot is counted by the store alone
pub returns-else-all : goal.returns-else-all
returns-else-all c =
    let home = is_home c.oid.view_is c.if-ne.false c.ne.ensures in
    record {
      went = came-kept c.args.self.now c.args.self.now _ refl refl refl
          (λ o. ap (λ b. one_of b c.args.self.now.node c.args.oid o) c.if-all.false
          ∙ one-slot c.args.self.now.node c.args.oid home o);
      positive = λ pos. pos;
      spare = omega arith;
      names = refl;
    }
