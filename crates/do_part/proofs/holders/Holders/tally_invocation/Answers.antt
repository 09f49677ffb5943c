use Rattle.do_part.proofs.holders.Holders.tally_invocation.Goals as goal
use Rattle.std.proofs.Common.{◌+◌, arith, refl}
use Rattle.do_base.specs.declared.values.value.Value.TheVariants.{Obj}
use Rattle.do_machine.specs.held.Refers.{state_values}
use Rattle.do_stack.specs.Uses.{invocation_values}
use Rattle.do_part.specs.Names.{value_of, values_of, sizes_of}
use Rattle.do_part.proofs.Sequences.{of-invocation, size-invocation}
use Rattle.do_part.proofs.Tallying.{tallied-then, tally-less, tally-rest}

-- the object can be counted where the whole invocation can
pub tally-requires : goal.tally-requires
tally-requires c =
    let i = c.args.inv.now in
    tally-less c.args.by c.args.self.now (values_of (invocation_values i)) (value_of (Obj i.object))
    (sizes_of (invocation_values i)) 1 c.requires
    (λ o. let s = of-invocation i o in omega arith) (let s = size-invocation i in omega arith)

-- the locals can be counted once the object is
pub tally_frame-requires : goal.tally_frame-requires
tally_frame-requires c =
    let i = c.args.inv.now in
    tally-rest c.args.by c.args.self.now c.tally.new.self (values_of (invocation_values i))
    (value_of (Obj i.object)) (values_of i.locals) (sizes_of (invocation_values i)) 1
    (sizes_of i.locals) c.requires c.tally.ensures
    (λ o. let s = of-invocation i o in omega arith) (let s = size-invocation i in omega arith)

-- the answer can be counted once object and locals are
pub tally_state-requires : goal.tally_state-requires
tally_state-requires c =
    let i = c.args.inv.now in
    tally-rest c.args.by c.args.self.now c.tally_frame.new.self (values_of (invocation_values i))
    (λ o. value_of (Obj i.object) o + values_of i.locals o) (values_of (state_values i.state))
    (sizes_of (invocation_values i)) (1 + sizes_of i.locals)
    (sizes_of (state_values i.state)) c.requires
    (tallied-then c.args.by c.args.self.now c.tally.new.self c.tally_frame.new.self
    (value_of (Obj i.object)) (values_of i.locals) _ 1 (sizes_of i.locals) _
    c.tally.ensures c.tally_frame.ensures (λ o. refl) refl)
    (λ o. let s = of-invocation i o in omega arith) (let s = size-invocation i in omega arith)

-- the invocation is its object, its locals and its answer
pub returns : goal.returns
returns c =
    let i = c.args.inv.now in
    tallied-then c.args.by c.args.self.now c.tally_frame.new.self c.tally_state.new.self
    (λ o. value_of (Obj i.object) o + values_of i.locals o) (values_of (state_values i.state)) _
    (1 + sizes_of i.locals) (sizes_of (state_values i.state)) _
    (tallied-then c.args.by c.args.self.now c.tally.new.self c.tally_frame.new.self
    (value_of (Obj i.object)) (values_of i.locals) _ 1 (sizes_of i.locals) _ c.tally.ensures
    c.tally_frame.ensures (λ o. refl) refl)
    c.tally_state.ensures (λ o. of-invocation i o) (size-invocation i)
