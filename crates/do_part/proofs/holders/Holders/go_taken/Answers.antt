use Rattle.do_part.proofs.holders.Holders.go_taken.Goals as goal
use Rattle.std.proofs.Common.{ap, ◌∙◌, arith, refl}
use Rattle.do_stack.specs.Exchange.{taken}
use Rattle.do_part.specs.{Names.values_of, declared.tally.Tally.TheVariants.Less}
use Rattle.do_part.proofs.{Sequences.of-one, Steps.go-less, Tallying.tallied-as}

-- the value that was taken out is counted
pub tally_value-requires : goal.tally_value-requires
tally_value-requires c = record {
  names = go-less c.args.self.now _ _ c.requires
      (λ o. let e = ap (λ x. values_of (taken x) o) c.in-One.is in
      let s = of-one c.in-One.value o in omega arith);
}

-- what was taken out is that value
pub returns-in-One : goal.returns-in-One
returns-in-One c =
    tallied-as Less c.args.self.now c.tally_value.new.self _ _ 0 0 c.tally_value.ensures
    (λ o. ap (λ x. values_of (taken x) o) c.in-One.is ∙ of-one c.in-One.value o) refl

-- the values that were taken out are counted
pub tally_values-requires : goal.tally_values-requires
tally_values-requires c = record {
  names = go-less c.args.self.now _ _ c.requires
      (λ o. let e = ap (λ x. values_of (taken x) o) c.in-Many.is in omega arith);
}
