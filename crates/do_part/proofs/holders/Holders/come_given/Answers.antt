use Rattle.do_part.proofs.holders.Holders.come_given.Goals as goal
use Rattle.std.proofs.Common.{ap, ◌∙◌, arith}
use Rattle.do_stack.specs.Exchange.{given}
use Rattle.do_part.specs.{Names.{values_of, sizes_of}, declared.tally.Tally.TheVariants.More}
use Rattle.do_part.proofs.{Sequences.{of-one, size-one}, Tallying.{tallied-as, tally-less}}

-- the value for a local can be counted
pub tally_value-requires : goal.tally_value-requires
tally_value-requires c = record {
  names = tally-less More c.args.self.now _ _ _ _ c.requires.names
      (λ o. let e = ap (λ x. values_of (given x) o) c.in-Local.is in
      let s = of-one c.in-Local.value o in omega arith)
      (let e = ap (λ x. sizes_of (given x)) c.in-Local.is in
      let s = size-one c.in-Local.value in omega arith);
}

-- what the change gives is that value
pub returns-in-Local : goal.returns-in-Local
returns-in-Local c =
    tallied-as More c.args.self.now c.tally_value.new.self _ _ _ _ c.tally_value.ensures
    (λ o. ap (λ x. values_of (given x) o) c.in-Local.is ∙ of-one c.in-Local.value o)
    (ap (λ x. sizes_of (given x)) c.in-Local.is ∙ size-one c.in-Local.value)
