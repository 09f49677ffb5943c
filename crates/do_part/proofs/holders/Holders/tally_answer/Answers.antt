use Rattle.do_part.proofs.holders.Holders.tally_answer.Goals as goal
use Rattle.std.proofs.Common.{ap, ◌∙◌, arith}
use Rattle.do_machine.specs.held.Refers.{answer_values}
use Rattle.do_part.{specs.Names.{value_of, values_of, size_of, sizes_of}, proofs.Exchanging.of-cons}
use Rattle.do_part.proofs.{Sequences.size-cons, Tallying.{tallied-then, tally-less, tally-rest}}

-- the result can be counted where the whole answer can
pub tally_value-requires : goal.tally_value-requires
tally_value-requires c = record {
  names = tally-less c.args.by c.args.self.now _ _ _ _ c.requires
      (λ o. let e = ap (λ a. values_of (answer_values a) o) c.in-Given.is in
      let s = of-cons c.in-Given.result c.in-Given.outs o in omega arith)
      (let e = ap (λ a. sizes_of (answer_values a)) c.in-Given.is in
      let s = size-cons c.in-Given.result c.in-Given.outs in omega arith);
}

-- the outs can be counted once the result is
pub tally_values-requires : goal.tally_values-requires
tally_values-requires c = record {
  names = tally-rest c.args.by c.args.self.now c.tally_value.new.self _
      (value_of c.in-Given.result) _ _ (size_of c.in-Given.result) _ c.requires
      c.tally_value.ensures
      (λ o. let e = ap (λ a. values_of (answer_values a) o) c.in-Given.is in
      let s = of-cons c.in-Given.result c.in-Given.outs o in omega arith)
      (let e = ap (λ a. sizes_of (answer_values a)) c.in-Given.is in
      let s = size-cons c.in-Given.result c.in-Given.outs in omega arith);
}

-- the answer is its result and its outs
pub returns-in-Given : goal.returns-in-Given
returns-in-Given c =
    tallied-then c.args.by c.args.self.now c.tally_value.new.self c.tally_values.new.self
    (value_of c.in-Given.result) (values_of c.in-Given.outs) _ _ _ _ c.tally_value.ensures
    c.tally_values.ensures
    (λ o. ap (λ a. values_of (answer_values a) o) c.in-Given.is
    ∙ of-cons c.in-Given.result c.in-Given.outs o)
    (ap (λ a. sizes_of (answer_values a)) c.in-Given.is
    ∙ size-cons c.in-Given.result c.in-Given.outs)
