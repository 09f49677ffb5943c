-- What reading a world's text answers.
use Rattle.std.specs.Prelude.{◌≡◌, ℕ, List, Option, Some, None, if◌then◌else◌}
use Rattle.std.specs.{Option.{option_map, option_map_or}, Str.is_utf8}
use Rattle.toml.specs.{Data.Members, Parse.parse_document}
use Rattle.do_world.specs.{Faults.fault_of, Worlds.world_of, declared.world.World.World}
use Rattle.do_document.specs.declared.fault.WorldFault.{WorldFault, TheVariants.Toml}

-- the document that bytes are, if they are UTF-8 and TOML 1.1
unfoldable pub document : List ℕ → Option Members
document bytes = if is_utf8 bytes then parse_document bytes else None

-- the first fault of a world's text, if it has one
unfoldable pub first_fault : List ℕ → Option WorldFault
first_fault bytes = option_map_or fault_of (document bytes) (Some Toml)

-- the world that a text says, if it is a document
unfoldable pub world_in : List ℕ → Option World
world_in bytes = option_map world_of (document bytes)

-- a text has no fault, and says this world
pub record IsWorldText (bytes : List ℕ) (world : World) : Type 0 where
  pub good : first_fault bytes ≡ None
  pub says : world_in bytes ≡ Some world
