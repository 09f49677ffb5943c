use Rattle.do_services.proofs.services.read_each.Goals as goal
use Rattle.std.proofs.Common.{◌≡◌, Some, None, true, false, is_some, arith}
use Rattle.std.proofs.lemmas.Grind.{common_steps}
use Rattle.do_table.specs.Entries.{added, value_of}
use Rattle.do_services.specs.Core.{service_in}
use Rattle.do_services.proofs.ReadEach.{known_item, no_service, none_left, one_more}

pub returns-in_default : goal.returns-in_default
returns-in_default c =
    let v = c.value-item.result in
    let none : service_in v ≡ None = grind (arith, common_steps) in
    let answer =
    no_service c.loop-value.table c.as_slice-value-items.result.now c.loop-value.value-index
    c.loop-value.invariant v c.loop-value-test.true c.value-item.is none in
    cc

pub returns-then-not-branch : goal.returns-then-not-branch
returns-then-not-branch c =
    let s = c.in-Some.service in
    let v = c.value-item.result in
    let is : service_in v ≡ Some s = grind (arith, common_steps) in
    let known : is_some (value_of c.loop-value.table s.item) ≡ true = grind (arith, common_steps) in
    let answer =
    known_item c.loop-value.table c.as_slice-value-items.result.now c.loop-value.value-index
    c.loop-value.invariant v c.loop-value-test.true c.value-item.is s is known in
    cc

pub loop-value-preserved : goal.loop-value-preserved
loop-value-preserved c =
    let s = c.in-Some.service in
    let es = c.loop-value.table in
    let v = c.value-item.result in
    let is : service_in v ≡ Some s = grind (arith, common_steps) in
    let fresh : is_some (value_of es s.item) ≡ false = grind (arith, common_steps) in
    let put : c.add.new.self ≡ added es s.item s = grind (arith, common_steps) in
    one_more es c.as_slice-value-items.result.now c.loop-value.value-index c.loop-value.invariant v
    c.loop-value-test.true c.value-item.is s c.add.new.self is fresh put

pub returns : goal.returns
returns c =
    let answer =
    none_left c.loop-value.table c.as_slice-value-items.result.now c.loop-value.value-index
    c.loop-value.invariant c.loop-value-test.false in
    cc
