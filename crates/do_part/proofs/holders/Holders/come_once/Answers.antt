use Rattle.do_part.proofs.holders.Holders.come_once.Goals as goal
use Rattle.std.proofs.Common.{◌+◌, ℕ, Option, arith, refl, subst, sym}
use Rattle.do_part.{specs.{Holding.{CanCome, HasCome}, Rooting.root_of}, proofs.Steps.came-kept}

-- the own object can be counted once more
pub tally-requires : goal.tally-requires
tally-requires c =
    subst (λ (r : Option ℕ). CanCome c.args.self.now (root_of c.args.self.now.node r) 1)
    c.in-Some.is c.requires

-- where there is no object, only a name is counted
pub returns-in-None : goal.returns-in-None
returns-in-None c =
    subst (λ (r : Option ℕ). HasCome c.args.self.now
    (record c.args.self.now { names = c.args.self.now.names + 1 })
    (root_of c.args.self.now.node r) 1) (sym c.in-None.is) (record {
      came = came-kept c.args.self.now
          (record c.args.self.now { names = c.args.self.now.names + 1 }) _ refl refl refl
          (λ o. refl);
      positive = λ p. p;
      spare = omega arith;
      names = refl;
    })
