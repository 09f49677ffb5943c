-- How the stored objects that nothing can reach any more are written.
use Rattle.std.specs.Prelude.{Bool, List, None, Option, Some, [], if◌then◌else◌, map, codes}
use Rattle.std.specs.Prelude.{slice_get, ℕ, option_and_then, option_map, ◌++◌, ◌∷◌}
use Rattle.do_base.specs.names.Names.{ObjectName}
use Rattle.do_class.specs.{Class.Class, Table.{name_of, slots_of}, declared.ids.ClassId.ClassId}
use Rattle.do_leaks.specs.{Leaks.leaks, declared.leak.Leak.Leak}
use Rattle.do_lines.specs.Lines.{joined}
use Rattle.do_machine.specs.{State.class_of, check.Snapshot.snapshot, declared.state.State.State}
use Rattle.do_sched.specs.Value.{object_name}
use Rattle.do_lost.specs.Named.{named, quiet}

-- a name behind a space; where there is none, nothing
abbrev pub behind : Option (List ℕ) → List ℕ
behind None = []
behind (Some name) = 32 ∷ name

-- the name of a class behind a space
abbrev pub class_behind : List Class → Option ClassId → List ℕ
class_behind table class = behind (option_and_then (name_of table) class)

-- the name of a slot of a class behind a space
abbrev pub slot_behind : List Class → Option ClassId → ℕ → List ℕ
slot_behind table class slot = behind (option_and_then
    (λ slots. option_map (λ s. s.name) (slice_get slots slot))
    (option_and_then (slots_of table) class))

-- an object that nothing can reach, with its class, and the first slot that names it, of an object
-- of a class
abbrev pub leak_told : List Class → Leak → Option ClassId → Option ClassId → List ℕ
leak_told table l class holder =
    codes "leak " ++ object_name l.oid ++ class_behind table class
    ++ codes " by " ++ object_name l.holder ++ slot_behind table holder l.slot

-- so by the classes of objects
abbrev pub leak_line : List Class → (ObjectName → Option ClassId) → Leak → List ℕ
leak_line table class_of l = leak_told table l (class_of l.oid) (class_of l.holder)

-- whether nothing is under way
abbrev pub quiet_line : Bool → List ℕ
quiet_line still = if still then codes "quiet 1" else codes "quiet 0"

-- whether nothing is under way, and objects that nothing can reach
abbrev pub leaks_text : List Class → Bool → (ObjectName → Option ClassId) → List Leak → List ℕ
leaks_text table still class_of told =
    joined (codes "leaks 1" ∷ quiet_line still ∷ [])
    ++ joined (map (leak_line table class_of) told)
    ++ joined (codes "end" ∷ [])

-- the stored objects of a state that nothing can reach
abbrev pub lost_text : List Class → State → List ℕ
lost_text table S =
    leaks_text table (quiet S) (class_of S) (leaks (snapshot S) (named S))
