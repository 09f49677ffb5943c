-- The room that a core has for what a step puts into it.
use Rattle.std.specs.Prelude.{length, ℕ, ◌+◌, ◌≡◌, ◌≤◌}
use Rattle.do_machine.specs.declared.item.Item.{Item}
use Rattle.do_part.specs.Owned.{Room}
use Rattle.do_effects.specs.{Sends.names_counted, declared.changing.Core.Core}

-- So many objects, invocations, names and entries, and so many frames and lines. An entry is that
-- of an object that is named to a peer or by one.
pub record Needs : Type 0 where
  pub objects : ℕ
  pub invocations : ℕ
  pub names : ℕ
  pub entries : ℕ
  pub waiting : ℕ

-- so many frames and lines alone
abbrev pub to_tell : ℕ → Needs
to_tell many = record { objects = 0; invocations = 0; names = 0; entries = 0; waiting = many }

-- what naming takes of so many names to a peer
abbrev pub to_name : ℕ → Needs
to_name many =
    record { objects = 0; invocations = 0; names = many; entries = many; waiting = 0 }

-- what one item takes that is sent
abbrev pub to_send : Item → Needs
to_send item = record (to_name (names_counted item)) { waiting = 1 }

-- what two things take, one after the other
abbrev pub both : Needs → Needs → Needs
both a b = record {
  objects = a.objects + b.objects;
  invocations = a.invocations + b.invocations;
  names = a.names + b.names;
  entries = a.entries + b.entries;
  waiting = a.waiting + b.waiting;
}

-- a node's own state has room for so much
pub record PartHasRoom (needs : Needs) (room : Room) : Type 0 where
  pub objects : needs.objects ≤ room.objects
  pub invocations : needs.invocations ≤ room.invocations
  pub names : needs.names ≤ room.names
  pub entries : needs.entries ≤ room.entries

-- a node's own state took no more of its room
pub record PartKeepsRoom (needs : Needs) (before after : Room) : Type 0 where
  pub objects : before.objects ≤ after.objects + needs.objects
  pub invocations : before.invocations ≤ after.invocations + needs.invocations
  pub names : before.names ≤ after.names + needs.names
  pub entries : before.entries ≤ after.entries + needs.entries

-- there is room for so much
pub record HasRoom (needs : Needs) (c : Core) : Type 0 where
  pub part : PartHasRoom needs c.part.room
  pub waiting : needs.waiting ≤ c.streams.room

-- A core came of another and took no more: all other room is left, no more objects are stored, no
-- more are held and asked for than were named by a peer, and the links read by the same classes.
pub record IsWithin (needs : Needs) (before after : Core) : Type 0 where
  pub part : PartKeepsRoom needs before.part.room after.part.room
  pub waiting : before.streams.room ≤ after.streams.room + needs.waiting
  pub stored :
      length after.part.own.node.heap ≤ length before.part.own.node.heap + needs.objects
  pub held : length after.part.own.node.held ≤ length before.part.own.node.held + needs.entries
  pub asked : length after.part.own.node.asked ≤ length before.part.own.node.asked + needs.entries
  pub classes : after.streams.classes ≡ before.streams.classes
