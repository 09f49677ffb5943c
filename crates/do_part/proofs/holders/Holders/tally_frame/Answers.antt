use Rattle.do_part.proofs.holders.Holders.tally_frame.Goals as goal
use Rattle.std.proofs.{Common.{◌+◌, ap, sym, ◌∙◌, arith, take}, lemmas.List.take_all}
use Rattle.do_part.specs.Names.{value_of, values_of, size_of, sizes_of}
use Rattle.do_part.proofs.Naming.{of-more, of-part, size-more, size-part}
use Rattle.do_part.proofs.Tallying.{tallied-as, tallied-then, tally-rest}

-- the next local can be counted where all can
pub tally_value-requires : goal.tally_value-requires
tally_value-requires c =
    let vs = c.as_slice-held-items.result.now in
    let i = c.loop-held.held-index in
    let v = c.held-item.result in
    let all = ap sizes_of c.as_slice-held-items.ensures in
    let part = size-part vs i v c.loop-held-test.true c.held-item.is in
    record {
      names = tally-rest c.args.by c.args.self.now c.loop-held.self (values_of c.args.locals.now)
          (values_of (take i vs)) _ (sizes_of c.args.locals.now) (sizes_of (take i vs)) _ c.requires
          c.loop-held.invariant
          (λ o. let x = of-part vs i v o c.loop-held-test.true c.held-item.is in
          let y = ap (λ l. values_of l o) c.as_slice-held-items.ensures in
          let z = ap (λ u. value_of u o) c.value.ensures in
          omega arith)
          (let z = ap size_of c.value.ensures in omega (arith, all, part, z));
    }

-- the locals so far are counted with one more
pub loop-held-preserved : goal.loop-held-preserved
loop-held-preserved c =
    let vs = c.as_slice-held-items.result.now in
    let i = c.loop-held.held-index in
    let v = c.held-item.result in
    tallied-then c.args.by c.args.self.now c.loop-held.self c.tally_value.new.self _ _ _ _ _ _
    c.loop-held.invariant c.tally_value.ensures
    (λ o. of-more vs i v o c.loop-held-test.true c.held-item.is
    ∙ ap (λ u. values_of (take i vs) o + value_of u o) (sym c.value.ensures))
    (size-more vs i v c.loop-held-test.true c.held-item.is
    ∙ ap (λ u. sizes_of (take i vs) + size_of u) (sym c.value.ensures))

-- once all locals are counted, so are all names
pub returns : goal.returns
returns c =
    let whole = take_all c.loop-held.held-index c.as_slice-held-items.result.now
    c.loop-held-test.false ∙ c.as_slice-held-items.ensures in
    tallied-as c.args.by c.args.self.now c.loop-held.self _ _ _ _ c.loop-held.invariant
    (λ o. ap (λ l. values_of l o) (sym whole)) (ap sizes_of (sym whole))
