use Rattle.do_part.proofs.holders.Holders.come.Goals as goal
use Rattle.std.proofs.Common.{◌+◌, arith, refl, sym, ap, ◌∙◌, subst}
use Rattle.do_import.specs.Imported.{Imported}
use Rattle.do_export.specs.Counts.{IsPositive}
use Rattle.do_part.specs.Holding.{Came, CanCome}
use Rattle.do_export.proofs.Counting.{positive-raised}
use Rattle.do_part.proofs.Ones.{one_of, is_away, is_home, one-foreign, own_room, one-slot, came-own}
use Rattle.do_part.proofs.{Ones.came-foreign, Steps.came-kept}

-- a foreign object is not used too often for one use more
pub refer-requires-clause-small : goal.refer-requires-clause-small
refer-requires-clause-small c =
    let away = is_away c.oid.view_is c.if-ne.true c.ne.ensures in
    let once = one-foreign c.args.all c.args.self.now.node c.args.oid away in
    let room = c.requires.foreign c.args.oid away in
    omega (arith, room, once)

-- an own object is stored, with room for a holder more
pub retain-requires : goal.retain-requires
retain-requires c =
    let home = is_home c.oid.view_is c.if-ne.false c.ne.ensures in
    own_room c.args.self.now c.args.oid home
    (subst (λ b. CanCome c.args.self.now (one_of b c.args.self.now.node c.args.oid) 1)
    c.if-all.true c.requires)

-- a foreign object has a use more
pub returns-then-ne : goal.returns-then-ne
returns-then-ne c =
    let away = is_away c.oid.view_is c.if-ne.true c.ne.ensures in
    let uses = ap (λ (i : Imported). i.uses) c.refer.ensures.same in
    record {
      came = came-foreign c.args.self.now _ c.args.oid c.args.all away (record {
        store = refl;
        node = refl;
        imports = c.refer.ensures.same
            ∙ ap (λ u. record c.args.self.now.imports { uses = u; spare = c.refer.new.self.spare })
            (sym uses);
      }) uses;
      positive = λ pos. subst IsPositive (sym uses)
          (positive-raised c.args.self.now.imports.uses c.args.oid.node c.args.oid.serial pos);
      spare = c.refer.ensures.spare;
      names = refl;
    }

-- an own object has a holder more
pub returns-then-all : goal.returns-then-all
returns-then-all c =
    let home = is_home c.oid.view_is c.if-ne.false c.ne.ensures in
    record {
      came = subst (λ b. Came c.args.self.now (record c.args.self.now
          { store = c.retain.new.self; names = c.args.self.now.names + 1 })
          (one_of b c.args.self.now.node c.args.oid)) (sym c.if-all.true)
          (came-own c.args.self.now _ c.args.oid home (record {
            objects = c.retain.ensures.objects;
            home = c.retain.ensures.node;
            next = c.retain.ensures.next;
            spare = c.retain.ensures.spare;
            node = refl;
            imports = refl;
          }));
      positive = λ pos. pos;
      spare = omega arith;
      names = refl;
    }

-- an own object in a slot is counted by the store alone
pub returns-else-all : goal.returns-else-all
returns-else-all c =
    let home = is_home c.oid.view_is c.if-ne.false c.ne.ensures in
    record {
      came = came-kept c.args.self.now _ _ refl refl refl
          (λ o. ap (λ b. one_of b c.args.self.now.node c.args.oid o) c.if-all.false
          ∙ one-slot c.args.self.now.node c.args.oid home o);
      positive = λ pos. pos;
      spare = omega arith;
      names = refl;
    }
