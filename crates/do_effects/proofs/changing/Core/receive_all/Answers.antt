use Rattle.do_effects.proofs.changing.Core.receive_all.Goals as goal
use Rattle.std.proofs.Common.{◌≡◌, ◌+◌, [], ◌∷◌, drop, sym, ◌∙◌, ap, arith, length, subst}
use Rattle.do_class.specs.declared.packet.Name.{Name}
use Rattle.do_machine.specs.{State.is_open, declared.node.Node.Node}
use Rattle.do_effects.specs.{Doing.doing, Room.IsWithin, Taking.{gains, to_gain}}
use Rattle.do_effects.proofs.Gained.{drop_next, drop_rest, gains_none}
use Rattle.do_effects.proofs.{NamesInTurn.{gains_first, gains_node}, Within.names_within}

-- one more name is received
pub loop-name-preserved : goal.loop-name-preserved
loop-name-preserved c =
    let xs = c.as_slice-name-items.result.now in
    let i = c.loop-name.name-index in
    let x : Name = c.name-item.result in
    let s = c.loop-name.invariant in
    let done = c.receive_name.ensures.done in
    let node = gains_node (doing c.receive_name.new.self) (doing c.loop-name.self) c.args.from
    (x ∷ []) done in
    record {
      tidy = c.receive_name.ensures.tidy;
      opened = ap (λ (n : Node). is_open n c.args.from) node ∙ s.opened;
      apart = ap (λ (n : Node). is_open n n.port) node ∙ s.apart;
      done = ap (gains c.args.from (drop (i + 1) xs)) done
          ∙ sym (gains_first (doing c.loop-name.self) c.args.from (drop (i + 1) xs) s.tidy
          c.classes_are_known.ensures s.opened x)
          ∙ ap (λ ys. gains c.args.from ys (doing c.loop-name.self))
          (sym (drop_next xs i x c.loop-name-test.true c.name-item.is))
          ∙ s.done;
      within = names_within i 1 i (i + 1) (i + 1) [] c.args.self.now c.loop-name.self
          c.receive_name.new.self (omega arith) (omega arith) s.within
          c.receive_name.ensures.within;
    }

-- all names were received
pub returns-clause-done : goal.returns-clause-done
returns-clause-done c =
    let xs = c.as_slice-name-items.result.now in
    let s = c.loop-name.invariant in
    sym (ap (λ ys. gains c.args.from ys (doing c.loop-name.self))
    (drop_rest xs c.loop-name.name-index c.loop-name-test.false)
    ∙ gains_none (doing c.loop-name.self) c.args.from s.tidy)
    ∙ s.done
    ∙ ap (λ ys. gains c.args.from ys (doing c.args.self.now)) c.as_slice-name-items.ensures

-- each in the room of one
pub returns-clause-within : goal.returns-clause-within
returns-clause-within c =
    let same = ap length c.as_slice-name-items.ensures in
    let all : c.loop-name.name-index ≡ length c.args.names.now = omega arith in
    subst (λ many. IsWithin (to_gain many []) c.args.self.now c.loop-name.self) all
    c.loop-name.invariant.within
