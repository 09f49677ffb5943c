-- The worlds that are built in.
use Rattle.std.specs.{Prelude.{ℕ, List, Option, Some, None, codes, if◌then◌else◌}, Str.bytes_eq}
use Rattle.do_world.specs.{Counter.counter_world, Mesh.mesh_world, declared.world.World.World}

-- the built-in world of a name, of which there are two
unfoldable pub builtin_world : List ℕ → Option World
builtin_world name =
    if bytes_eq name (codes ":counter") then Some counter_world
    else (if bytes_eq name (codes ":mesh") then Some mesh_world else None)
