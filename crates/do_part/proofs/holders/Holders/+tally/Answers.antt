use Rattle.do_part.proofs.holders.Holders.+tally.Goals as goal
use Rattle.std.proofs.Common.{◌+◌, ◌<◌, sum_by, ap, sym, ◌∙◌, arith, rules, take}
use Rattle.std.proofs.lemmas.List.{take_all, Sums.get_or-le-sum_by}
use Rattle.do_base.specs.values.Values.{weight_of}
use Rattle.do_part.specs.{Holding.CanTally, Names.{counted, value_of, values_of, size_of, sizes_of}}
use Rattle.do_part.proofs.Naming.{weight-List, of-List, size-List, of-more, of-part, size-more}
use Rattle.do_part.proofs.Naming.{size-part, counted-sum, counted-sum-le, counted-le, counted-same}
use Rattle.do_part.proofs.Tallying.{tallied-as, tallied-then, tallied-node, tally-less, tally-rest}

-- the items of a list can be counted where the list can, and weigh less
pub tally_value-tally_values-requires : goal.tally_value-tally_values-requires
tally_value-tally_values-requires t c =
    let weight = ap weight_of c.in-List.is in
    let whole = weight-List c.in-List.values in
    let smaller : sum_by weight_of c.in-List.values + 1 < weight_of c.args.value.now =
    omega arith in
    let can : CanTally c.args.by c.args.self.now
    (counted c.args.all c.args.self.now.node (values_of c.in-List.values))
    (sizes_of c.in-List.values) =
    tally-less c.args.by c.args.self.now _ _ _ _ c.requires.names
    (λ o. let e = ap (λ v. value_of v o) c.in-List.is in
    let x = of-List c.in-List.values o in
    counted-le c.args.all c.args.self.now.node (values_of c.in-List.values)
    (value_of c.args.value.now) o (omega arith))
    (let e = ap size_of c.in-List.is in let s = size-List c.in-List.values in omega arith) in
    search rules

-- a list is counted once its items are
pub tally_value-returns-in-List : goal.tally_value-returns-in-List
tally_value-returns-in-List t c =
    tallied-as c.args.by c.args.self.now c.tally_values.new.self _ _ _ _ c.tally_values.ensures
    (λ o. counted-same c.args.all c.args.self.now.node (value_of c.args.value.now)
    (values_of c.in-List.values) o
    (ap (λ v. value_of v o) c.in-List.is ∙ of-List c.in-List.values o))
    (ap size_of c.in-List.is ∙ size-List c.in-List.values)

-- the next item can be counted, and weighs less than all
pub tally_values-tally_value-requires : goal.tally_values-tally_value-requires
tally_values-tally_value-requires t c =
    let vs = c.as_slice-value-items.result.now in
    let i = c.loop-value.value-index in
    let v = c.value-item.result in
    let w = c.loop-value.invariant in
    let all = ap sizes_of c.as_slice-value-items.ensures in
    let part = size-part vs i v c.loop-value-test.true c.value-item.is in
    let one = get_or-le-sum_by weight_of vs i v c.loop-value-test.true in
    let this = ap weight_of c.value-item.is in
    let those = ap (sum_by weight_of) c.as_slice-value-items.ensures in
    let smaller : weight_of v < sum_by weight_of c.args.values.now + 1 = omega arith in
    let can : CanTally c.args.by c.loop-value.self
    (counted c.args.all c.loop-value.self.node (value_of v)) (size_of v) =
    tally-rest c.args.by c.args.self.now c.loop-value.self
    (counted c.args.all c.args.self.now.node (values_of c.args.values.now))
    (counted c.args.all c.args.self.now.node (values_of (take i vs)))
    (counted c.args.all c.loop-value.self.node (value_of v)) (sizes_of c.args.values.now)
    (sizes_of (take i vs)) (size_of v) c.requires.names w
    (λ o. let port = ap (λ p. counted c.args.all p (value_of v) o)
    (tallied-node c.args.by c.args.self.now c.loop-value.self _ _ w) in
    let x = of-part vs i v o c.loop-value-test.true c.value-item.is in
    let y = ap (λ l. values_of l o) c.as_slice-value-items.ensures in
    let l = counted-sum-le c.args.all c.args.self.now.node (values_of (take i vs)) (value_of v)
    (values_of c.args.values.now) o (omega arith) in
    omega (arith, port, l))
    (omega (arith, all, part)) in
    search rules

-- the items so far are counted with one more
pub tally_values-loop-value-preserved : goal.tally_values-loop-value-preserved
tally_values-loop-value-preserved t c =
    let vs = c.as_slice-value-items.result.now in
    let i = c.loop-value.value-index in
    let v = c.value-item.result in
    let w = c.loop-value.invariant in
    tallied-then c.args.by c.args.self.now c.loop-value.self c.tally_value.new.self _ _ _ _ _ _ w
    c.tally_value.ensures
    (λ o. counted-sum c.args.all c.args.self.now.node (values_of (take i vs)) (value_of v)
    (values_of (take (i + 1) vs)) o (of-more vs i v o c.loop-value-test.true c.value-item.is)
    ∙ ap (λ p. counted c.args.all c.args.self.now.node (values_of (take i vs)) o
    + counted c.args.all p (value_of v) o)
    (sym (tallied-node c.args.by c.args.self.now c.loop-value.self _ _ w)))
    (size-more vs i v c.loop-value-test.true c.value-item.is)

-- once all items are counted, so are all names
pub tally_values-returns : goal.tally_values-returns
tally_values-returns t c =
    let vs = c.as_slice-value-items.result.now in
    let whole = take_all c.loop-value.value-index vs c.loop-value-test.false
    ∙ c.as_slice-value-items.ensures in
    tallied-as c.args.by c.args.self.now c.loop-value.self _ _ _ _ c.loop-value.invariant
    (λ o. ap (λ l. counted c.args.all c.args.self.now.node (values_of l) o) (sym whole))
    (ap sizes_of (sym whole))
