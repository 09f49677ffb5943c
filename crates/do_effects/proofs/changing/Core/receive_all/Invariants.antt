use Rattle.do_effects.proofs.changing.Core.receive_all.Given as goal
use Rattle.std.proofs.Common.{◌≡◌, true, false, [], drop}
use Rattle.do_machine.specs.State.{is_open}
use Rattle.do_effects.specs.{Doing.doing, Room.IsWithin, Taking.{gains, to_gain}, Tidy.IsTidy}

-- what is received so far and then is the whole, in room for that
abbrev pub invariant-loop-name : goal.invariant-loop-name
invariant-loop-name l = record {
  tidy : IsTidy l.self.part.own;
  opened : is_open l.self.part.own.node l.from ≡ true;
  apart : is_open l.self.part.own.node l.self.part.own.node.port ≡ false;
  done : gains l.from (drop l.name-index l.name-items) (doing l.self)
      ≡ gains l.from l.name-items (doing l.initial.self);
  within : IsWithin (to_gain l.name-index []) l.initial.self l.self;
}
