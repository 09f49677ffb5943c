-- The first fault of a document: all that may be wrong, in the order in which it counts. What may
-- be wrong with classes, but for the codes of their methods, stands in do_document.
use Rattle.do_document.specs.declared.place.Place.TheVariants as at
use Rattle.std.specs.Prelude.{ℕ, zero, suc, pos, ◌+◌, ◌==◌, Bool, false, not, is_some, List, []}
use Rattle.std.specs.{Prelude.{◌∷◌, length, codes, Option, None, option_and_then}, List.filter_map}
use Rattle.std.specs.{List.list_any, Option.{option_map, option_map_or, option_or}, Ordering.int_eq}
use Rattle.toml.specs.Data.{Data, Members, as_integer}
use Rattle.do_class.specs.{Class.Class, Table.{class_named, names_of}}
use Rattle.do_script.specs.{Assembly.{refusal, scope}, Program.{fault_at, program}}
use Rattle.do_script.specs.declared.fault.AsmFault.{AsmFault}
use Rattle.do_document.specs.Checks.{first_among, first_of, is_text, is_text_with, list_fault}
use Rattle.do_document.specs.{Checks.{misfit, missing, required, unknown}, ClassFaults.class_fault}
use Rattle.do_class_kinds.specs.declared.kind.Kind.{Kind, TheVariants.Script}
use Rattle.do_document.specs.{Classes.{classes_in, kind_of, slots_in}, Document.tables_at}
use Rattle.do_document.specs.{Paths.path, declared.document.ItemKind.TheVariants.Table}
use Rattle.do_document.specs.declared.{place.Place.Place, fault.WorldFault.WorldFault}
use Rattle.do_document.specs.declared.fault.WorldFault.TheVariants.{Asm}
use Rattle.do_machine.specs.declared.state.Seat.{Seat}
use Rattle.do_world.specs.Worlds.{code_text, port_of, seat_of, slot_names}

-- the first of so many lines, from one on, that has a fault, as the assembler tells it
abbrev pub first_line : {K : Type 0} → (K → ℕ → AsmFault) → (ℕ → Option K) → ℕ → ℕ
    → Option AsmFault
first_line tell fault line zero = None
first_line tell fault line (suc more) =
    option_or (option_map (λ kind. tell kind line) (fault line))
    (first_line tell fault (line + 1) more)

-- the first fault of a method's text, for the names of slots and classes
abbrev pub assembly_fault : List (List ℕ) → List (List ℕ) → List ℕ → Option AsmFault
assembly_fault slots classes text =
    first_line refusal (fault_at (scope slots classes text) (program text)) 0
    (length (program text))

-- a text that stands at `code`, or the empty one, is no code
unfoldable pub text_fault : Place → List (List ℕ) → List (List ℕ) → Members → Option WorldFault
text_fault place slots classes t =
    option_and_then (λ text. option_map (Asm (path place (codes "code")))
    (assembly_fault slots classes text)) (code_text t)

-- a method's code
unfoldable pub code_fault : Place → List (List ℕ) → List (List ℕ) → Members → Option WorldFault
code_fault place slots classes t = first_of
    (misfit place (codes "code") is_text t
    ∷ text_fault place slots classes t
    ∷ [])

-- the code of a method of a class of a number, behind others
abbrev pub method_code_fault : ℕ → List (List ℕ) → List (List ℕ) → List Members → Members
    → Option WorldFault
method_code_fault k slots classes before t =
    code_fault (at.Method k (length before)) slots classes t

-- the codes of a class of a number, for the names of its slots and of all classes
unfoldable pub class_codes_fault : ℕ → List (List ℕ) → List (List ℕ) → Members → Option WorldFault
class_codes_fault k slots classes t =
    first_among (method_code_fault k slots classes) (tables_at (codes "method") t)

-- the codes of a class of a number and a kind; a native class has none that could be wrong
abbrev pub kind_codes_fault : ℕ → List (List ℕ) → Members → Kind → Option WorldFault
kind_codes_fault k classes t Script = class_codes_fault k (slot_names (slots_in t)) classes t
kind_codes_fault k classes t kind = None

-- the codes of a class, behind other classes, for the names of all
abbrev pub codes_fault : List (List ℕ) → List Members → Members → Option WorldFault
codes_fault classes before t =
    option_and_then (kind_codes_fault (length before) classes t) (kind_of t)

-- none of these nodes has the port
abbrev pub is_free : List Seat → ℕ → Bool
is_free seats port = not (list_any (λ (s : Seat). port == s.node) seats)

-- a port that none of these nodes has
abbrev pub is_new_port : List Seat → Data → Bool
is_new_port seats d = option_map_or (is_free seats) (port_of d) false

-- the name of a class
abbrev pub is_class : List Class → List ℕ → Bool
is_class classes name = is_some (class_named classes name)

-- a node of a number, behind others, in a world of these classes
unfoldable pub seat_checks : List Class → ℕ → List Seat → Members → Option WorldFault
seat_checks classes k seats t = let place = at.Node k in first_of
    (unknown place (codes "port" ∷ codes "root" ∷ []) t
    ∷ required place (codes "port") (is_new_port seats) t
    ∷ required place (codes "root") (is_text_with (is_class classes)) t
    ∷ [])

-- a node, behind others, in a world of these classes
abbrev pub seat_fault : List Class → List Members → Members → Option WorldFault
seat_fault classes before t =
    seat_checks classes (length before) (filter_map (seat_of classes) before) t

-- the number 1
abbrev pub is_one : Data → Bool
is_one d = option_map_or (λ z. int_eq z (pos 1)) (as_integer d) false

-- a list of tables, from one to a greatest number, must stand at a key of a document
unfoldable pub tables_fault : List ℕ → ℕ → Members → Option WorldFault
tables_fault key most d = first_of
    (missing at.Top key d
    ∷ list_fault at.Top key 1 most Table d
    ∷ [])

-- what stands at the top of a document
unfoldable pub top_fault : Members → Option WorldFault
top_fault d = first_of
    (unknown at.Top (codes "class" ∷ codes "node" ∷ codes "version" ∷ []) d
    ∷ required at.Top (codes "version") is_one d
    ∷ tables_fault (codes "class") 256 d
    ∷ tables_fault (codes "node") 64 d
    ∷ [])

-- the first fault of a document: at its top, then in its classes, then in all codes, then in its
-- nodes
abbrev pub fault_of : Members → Option WorldFault
fault_of d = first_of
    (top_fault d
    ∷ first_among class_fault (tables_at (codes "class") d)
    ∷ first_among (codes_fault (names_of (classes_in d))) (tables_at (codes "class") d)
    ∷ first_among (seat_fault (classes_in d)) (tables_at (codes "node") d)
    ∷ [])
