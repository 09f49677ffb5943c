use Rattle.do_part.proofs.holders.Holders.come_local.Goals as goal
use Rattle.std.proofs.Common.{arith}
use Rattle.do_part.specs.declared.tally.Tally.TheVariants.{More}
use Rattle.do_part.proofs.{Sequences.{of-one, size-one}, Tallying.{tallied-as, tally-less}}

-- the value can be counted
pub tally_value-requires : goal.tally_value-requires
tally_value-requires c = record {
  names = tally-less More c.args.self.now _ _ _ _ c.requires
      (λ o. let s = of-one c.args.value.now o in omega arith)
      (let s = size-one c.args.value.now in omega arith);
}

-- a list of it names what it names
pub returns : goal.returns
returns c =
    tallied-as More c.args.self.now c.tally_value.new.self _ _ _ _ c.tally_value.ensures
    (λ o. of-one c.args.value.now o) (size-one c.args.value.now)
