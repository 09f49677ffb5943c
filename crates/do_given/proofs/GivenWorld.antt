-- A world that no built-in one's name gives.
use Rattle.std.proofs.Common.{◌≡◌, ℕ, List, Option, Some, None, Result, Ok, inl, inr}
use Rattle.do_base.specs.declared.outside.shelf.NamedFile.{NamedFile}
use Rattle.do_world.specs.{Builtin.builtin_world, declared.world.World.World}
use Rattle.do_given.specs.{declared.status.Status.Status, Reading.{GivesWorld, OrUnread, SaysWorld}}

-- where a word names no built-in world, its file gives it
pub given_by_file : (found : Option World) (files : List NamedFile) (word : List ℕ) (world : World)
    (result : Result World Status) → found ≡ builtin_world word → found ≡ None
    → (SaysWorld (Some files) word world → OrUnread (Ok world) result)
    → GivesWorld (Some files) word world → OrUnread (Ok world) result
given_by_file found files word world result is none says (inl named) = absurd (cc)
given_by_file found files word world result is none says (inr said) = says said.1
