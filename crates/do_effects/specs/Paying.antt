-- Frames that a core owes for what it has, and puts into places that are kept for them.
use Rattle.std.specs.Prelude.{length, ℕ, ◌+◌, ◌≤◌}
use Rattle.do_machine.specs.declared.node.Node.{Node}
use Rattle.do_rules.specs.declared.take.ruling.Ruling.{Ruling, TheVariants.{Closes, EndsLend}}
use Rattle.do_effects.specs.declared.changing.Core.{Core}

-- how many frames a node owes: for each object that it holds its release, for each ask the end of
-- its lend, and for each open end its shutdown
abbrev pub owed : Node → ℕ
owed n = length n.held + length n.asked + length n.open_to

-- a core came of another, and each frame that it put into a place was one that it owed
abbrev pub Pays : Core → Core → Type 0
Pays before after = before.streams.bare + owed after.part.own.node
    ≤ after.streams.bare + owed before.part.own.node

-- a ruling by which a lend is over, or the node's end is closed
abbrev pub IsEnding : Ruling → Type 0
IsEnding (EndsLend number) = Unit {0}
IsEnding Closes = Unit {0}
IsEnding r = ⊥
