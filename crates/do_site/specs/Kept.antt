-- What a site keeps true between its steps.
use Rattle.std.specs.Prelude.{List, false, length, ◌≡◌}
use Rattle.do_class.specs.Class.{Class}
use Rattle.do_machine.specs.State.{is_open}
use Rattle.do_effects.specs.Tidy.{IsTidy}
use Rattle.do_site.specs.declared.work.Work.{Work}

-- The node counts nothing that it does not keep, and has no end towards itself; and its links read
-- by the classes of the site.
pub record IsKept (table : List Class) (w : Work) : Type 0 where
  pub tidy : IsTidy w.core.part.own
  pub apart : is_open w.core.part.own.node w.core.part.own.node.port ≡ false
  pub classes : w.core.streams.classes ≡ length table

-- a step keeps it, by any classes
abbrev pub StaysKept : Work → Work → Type 0
StaysKept before after = (table : List Class) → IsKept table before → IsKept table after

-- the classes by which links read are the same
pub record StaysBut (before after : Work) : Type 0 where
  pub classes : after.core.streams.classes ≡ before.core.streams.classes
