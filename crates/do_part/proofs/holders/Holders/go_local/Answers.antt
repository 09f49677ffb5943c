use Rattle.do_part.proofs.holders.Holders.go_local.Goals as goal
use Rattle.std.proofs.Common.{arith, refl}
use Rattle.do_part.specs.declared.tally.Tally.TheVariants.{Less}
use Rattle.do_part.proofs.{Sequences.of-one, Steps.go-less, Tallying.tallied-as}

-- the value is counted
pub tally_value-requires : goal.tally_value-requires
tally_value-requires c = record {
  names = go-less c.args.self.now _ _ c.requires
      (λ o. let s = of-one c.args.value.now o in omega arith);
}

-- a list of it names what it names
pub returns : goal.returns
returns c =
    tallied-as Less c.args.self.now c.tally_value.new.self _ _ 0 0 c.tally_value.ensures
    (λ o. of-one c.args.value.now o) refl
