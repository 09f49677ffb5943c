use Rattle.do_part.proofs.holders.Holders.tally.Goals as goal
use Rattle.std.proofs.Common.{sym, subst}
use Rattle.do_part.{specs.Holding.{CanTally, Tallied}, proofs.Ones.one_of}

-- names that can be tallied can come
pub come-requires : goal.come-requires
come-requires c = subst (λ b. CanTally b c.args.self.now
    (one_of c.args.all c.args.self.now.node c.args.oid) 1) c.in-More.is c.requires

-- names that came are counted besides
pub returns-in-More : goal.returns-in-More
returns-in-More c = subst (λ b. Tallied b c.args.self.now c.come.new.self
    (one_of c.args.all c.args.self.now.node c.args.oid) 1) (sym c.in-More.is) c.come.ensures

-- names that can be tallied can go
pub go-requires : goal.go-requires
go-requires c = subst (λ b. CanTally b c.args.self.now
    (one_of c.args.all c.args.self.now.node c.args.oid) 1) c.in-Less.is c.requires

-- names that went are taken off
pub returns-in-Less : goal.returns-in-Less
returns-in-Less c = subst (λ b. Tallied b c.args.self.now c.go.new.self
    (one_of c.args.all c.args.self.now.node c.args.oid) 1) (sym c.in-Less.is) c.go.ensures
