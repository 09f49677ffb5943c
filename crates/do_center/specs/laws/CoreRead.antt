-- A core that is read from slots has these slots.
use Rattle.std.proofs.Common.{◌≡◌, ◌&&◌, List as Listed, [], ◌∷◌, Option, Some, None, refl, sym}
use Rattle.std.specs.{Option.IfSome, Cmp.Lexicographic.{pointwise, pointwise_decides}}
use Rattle.std.proofs.lemmas.Bool.{and_parts}
use Rattle.do_base.specs.values.{Equal.{value_eq, value_eq-Decides}, Kinds.object}
use Rattle.do_base.specs.declared.values.value.Value.{Value}
use Rattle.do_grammar.specs.Words.{◌>>?◌}
use Rattle.do_native_acts.specs.{Rows.rows_in, laws.KindLaws.{found_of, passed}}
use Rattle.do_center.specs.{Registrations.registration_in, Seats.{Core, is_core}}
use Rattle.do_center.specs.Slots.{from_slots, of_core, seated, to_slots, waiting_in}

-- a core that has slots has them
core_of : (slots : Listed Value) (core c : Core) → of_core slots core ≡ Some c
    → to_slots c ≡ slots
core_of slots core c is =
    let tests = passed core c (λ d. is_core d && pointwise value_eq (to_slots d) slots)
    (is_core core && pointwise value_eq (to_slots core) slots) refl is in
    (pointwise_decides value_eq-Decides (to_slots c) slots).0
    ((and_parts (is_core c) (pointwise value_eq (to_slots c) slots) tests.1).1)

-- a core that is read has the slots that it was read from
pub read_back : (slots : Listed Value) (c : Core) → from_slots slots ≡ Some c → to_slots c ≡ slots
read_back [] c is = cc
read_back (a ∷ []) c is = cc
read_back (a ∷ b ∷ []) c is = cc
read_back (a ∷ b ∷ w ∷ []) c is =
    let slots = a ∷ b ∷ w ∷ [] in
    let rs = found_of (rows_in registration_in a) (λ rs. rows_in object b >>? λ os.
    rows_in waiting_in w >>? λ ws. of_core slots (seated rs ws, os)) c is in
    let os = found_of (rows_in object b) (λ os.
    rows_in waiting_in w >>? λ ws. of_core slots (seated rs.0 ws, os)) c rs.2 in
    let ws = found_of (rows_in waiting_in w) (λ ws. of_core slots (seated rs.0 ws, os.0)) c os.2 in
    core_of slots (seated rs.0 ws.0, os.0) c ws.2
read_back (a ∷ b ∷ w ∷ x ∷ vs) c is = cc

-- whatever is read has the slots that it was read from
pub exact_read : (slots : Listed Value) (read : Option Core) → read ≡ from_slots slots
    → IfSome read (λ c. to_slots c ≡ slots)
exact_read slots None e = tt
exact_read slots (Some c) e = read_back slots c (sym e)
