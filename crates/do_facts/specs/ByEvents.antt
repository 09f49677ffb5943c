-- By which events what happens to a net may happen.
use Rattle.do_base.specs.declared.events.event.Event.TheVariants as events
use Rattle.std.specs.Prelude.{ℕ, ◌≡◌}
use Rattle.do_base.specs.declared.events.event.Event.{Event}
use Rattle.do_facts.specs.Moves.{Happening, Lost, Moved}

-- the node of a port moves
abbrev pub IsMoveOf : {A V : Type 0} → ℕ → Happening A V → Type 0
IsMoveOf port (Moved mover v) = mover ≡ port
IsMoveOf port (Lost from to first rest) = ⊥

-- a loss comes on the way from one port to another
abbrev pub IsLossOn : {A V : Type 0} → ℕ → ℕ → Happening A V → Type 0
IsLossOn sender reader (Moved mover v) = ⊥
IsLossOn sender reader (Lost from to first rest) = (from ≡ sender) × (to ≡ reader)

-- a loss loses in the queue that it names, a check does nothing, and by any other event its own
-- node moves
abbrev pub IsBy : {A V : Type 0} → Event → Happening A V → Type 0
IsBy (events.Start port selector values) = IsMoveOf port
IsBy (events.Run port) = IsMoveOf port
IsBy (events.Take port from) = IsMoveOf port
IsBy (events.Close port peer) = IsMoveOf port
IsBy (events.Lose from to after) = IsLossOn from to
IsBy (events.Timeout port) = IsMoveOf port
IsBy events.Check = λ h. ⊥
