-- The room that a step of a site is to find.
use Rattle.std.specs.Prelude.{length, vec_capacity, ℕ, ◌+◌, ◌≤◌, ◌⊎◌}
use Rattle.do_machine.specs.{declared.item.Item.Item, run.Fresh.with_objects}
use Rattle.do_part.specs.{Filled.made_values, Names.{AreStored, values_of}}
use Rattle.do_effects.specs.{Paying.{IsEnding, owed}, Room.{HasRoom, Needs as Wants}}
use Rattle.do_effects.specs.Taking.{CanFollow, ruling_copies, ruling_values, taking_needs}
use Rattle.do_effects.specs.declared.changing.Core.{Core}
use Rattle.do_rules.specs.declared.take.ruling.Ruling.{Ruling}
use Rattle.do_site.specs.declared.{needs.Needs.Needs, told.Told.Told, work.Work.Work}

-- what a step takes of room, in the words of effects
abbrev pub needed : Needs → Wants
needed n = record {
  objects = n.objects;
  invocations = n.invocations;
  names = n.names;
  entries = n.entries;
  waiting = n.waiting;
}

-- so many names to keep, and nothing else
abbrev pub to_keep : ℕ → Wants
to_keep names = record { objects = 0; invocations = 0; names = names; entries = 0; waiting = 0 }

-- What a step takes has room, and behind it there is room to free all that is then stored, to leave
-- all that is then held, to end all that is then asked for, and to close 64 ends, with two lines
-- besides.
pub record HasPlaceFor (n : Wants) (c : Core) (t : Told) : Type 0 where
  pub room : HasRoom n c
  pub freed : length c.part.own.node.heap + n.objects ≤ vec_capacity t.freed
  pub left : length c.part.own.node.held + n.entries ≤ vec_capacity t.left
  pub settled : length c.part.own.node.asked + n.entries ≤ vec_capacity t.settled
  pub waiting : length c.part.own.node.heap + n.objects + (length c.part.own.node.held + n.entries)
      + (length c.part.own.node.asked + n.entries) + 66 + n.waiting ≤ c.streams.room

-- so for what was counted
abbrev pub HasPlace : Needs → Core → Told → Type 0
HasPlace n c t = HasPlaceFor (needed n) c t

-- Beside the frames that wait there is a place for each frame that is owed, so what is held can be
-- left, what is asked for ended, and each end closed. There are places for the lines of one step
-- too, which frees what is stored, with two lines besides. All are room once no line waits.
pub record HasPlaces (c : Core) (t : Told) : Type 0 where
  pub freed : length c.part.own.node.heap ≤ vec_capacity t.freed
  pub left : length c.part.own.node.held ≤ vec_capacity t.left
  pub settled : length c.part.own.node.asked ≤ vec_capacity t.settled
  pub places : length c.part.own.node.heap + owed c.part.own.node + 2 ≤ c.streams.bare

-- so there is with what waits, for a close, and a line before it
pub record HasPlaceToClose (c : Core) (t : Told) : Type 0 where
  pub places : HasPlaces c t
  pub waiting : length c.part.own.node.heap + length c.part.own.node.held
      + (length c.part.own.node.asked + 2) ≤ c.streams.room

-- so there is with what waits, to free what is stored, and to leave what is held
pub record HasPlaceToLeave (c : Core) (t : Told) : Type 0 where
  pub places : HasPlaces c t
  pub waiting : length c.part.own.node.heap + length c.part.own.node.held ≤ c.streams.room

-- a node can do what the ruling on an item of a peer says, in room that is there
pub record IsReadyToTake (from : ℕ) (item : Item) (r : Ruling) (c : Core) (t : Told)
    : Type 0 where
  pub copies : AreStored (with_objects (ruling_copies r) c.part.own.node)
      (values_of (made_values (ruling_copies r)))
  pub values : AreStored (with_objects (ruling_copies r) c.part.own.node)
      (values_of (ruling_values r))
  pub can : CanFollow c.part.own.node from item r
  pub place : HasPlaceFor (taking_needs c.part.own.node item r) c t

-- a ruling can be followed: there is room for what it takes, and behind it for what is owed, or by
-- the ruling only what is owed is paid
abbrev pub HasPlaceToFollow : Ruling → Wants → Core → Told → Type 0
HasPlaceToFollow r n c t = HasPlaceFor n c t ⊎ (IsEnding r × HasPlaceToClose c t)

-- all that a site is to find room for when an end closes finds it
abbrev pub CanSettle : Work → Type 0
CanSettle w = HasPlaces w.core w.told
