-- What the checks of a node come to.
use Rattle.do_document.specs.declared.place.Place.TheVariants as at
use Rattle.std.proofs.Common.{◌≡◌, ℕ, ◌==◌, ◌&&◌, nat_le, ◌≤◌, List, [], ◌∷◌, ◌++◌, map, Bool, true}
use Rattle.std.proofs.Common.{false, Option, Some, None, refl, sym, ◌∙◌, subst, arith, ℤ, pos}
use Rattle.std.proofs.Common.{negsuc}
use Rattle.std.specs.{List.{IsDistinct, list_any}, Prelude.{codes, option_and_then, if◌then◌else◌}}
use Rattle.std.proofs.lemmas.{Bool.{and_parts, Decides.nat_tests}, Cmp.nat_eq_equiv}
use Rattle.std.proofs.lemmas.{List.{map-append, Elements.All-push}, Map.Keys.IsDistinct-push}
use Rattle.toml.specs.Data.{Data, Members, as_integer, get_member}
use Rattle.do_class.specs.{Class.Class, Table.class_named, declared.ids.ClassId.ClassId}
use Rattle.do_document.specs.Checks.{first_of, is_text_with, misfit, missing, required, unknown}
use Rattle.do_document.specs.{Document.text_at, Paths.path, declared.place.Place.Place}
use Rattle.do_document.specs.declared.fault.WorldFault.{WorldFault, TheVariants.Wrong}
use Rattle.do_document.proofs.Growing.{list_any_map, not_true}
use Rattle.do_document.proofs.InOrder.{Is, Tells, in_first, told}
use Rattle.do_sched.specs.Good.{IsPort}
use Rattle.do_machine.specs.{World.IsSeat, declared.state.Seat.Seat}
use Rattle.do_world.specs.{Faults.{is_class, is_free, is_new_port, seat_checks}, Sound.AreSeats}
use Rattle.do_world.specs.Worlds.{port_in, port_of, seat_of}

-- a free port
pub port_good : (place : Place) (seats : List Seat) (t : Members) (d : Data) (node : ℕ)
    → get_member (codes "port") t ≡ Some d → port_of d ≡ Some node → is_free seats node ≡ true
    → (required place (codes "port") (is_new_port seats) t ≡ None)
    × (option_and_then port_of (get_member (codes "port") t) ≡ Some node)
unfolding required missing misfit
port_good place seats t d node there port free = (rw (there, port, free), rw (there, port))

-- no port, or one that is taken
pub port_wrong : (place : Place) (seats : List Seat) (t : Members) (d : Data) (e : WorldFault)
    → get_member (codes "port") t ≡ Some d → is_new_port seats d ≡ false
    → Is (Wrong (path place (codes "port"))) e
    → Tells (required place (codes "port") (is_new_port seats) t) e
unfolding required missing misfit
port_wrong place seats t d e there taken is =
    let same : required place (codes "port") (is_new_port seats) t
    ≡ Some (Wrong (path place (codes "port"))) = rw (there, taken) in
    told (required place (codes "port") (is_new_port seats) t) (Wrong (path place (codes "port"))) e
    same is

-- the checks of a node behind its keys
behind_keys : (classes : List Class) (k : ℕ) (seats : List Seat) (t : Members)
    → unknown (at.Node k) (codes "port" ∷ codes "root" ∷ []) t ≡ None
    → seat_checks classes k seats t
    ≡ first_of (required (at.Node k) (codes "port") (is_new_port seats) t
    ∷ required (at.Node k) (codes "root") (is_text_with (is_class classes)) t ∷ [])
unfolding seat_checks
behind_keys classes k seats t known = rw known

-- a node has an unknown key
pub seat_unknown : (classes : List Class) (k : ℕ) (seats : List Seat) (t : Members) (e : WorldFault)
    → Tells (unknown (at.Node k) (codes "port" ∷ codes "root" ∷ []) t) e
    → Tells (seat_checks classes k seats t) e
unfolding seat_checks
seat_unknown classes k seats t e h =
    in_first (unknown (at.Node k) (codes "port" ∷ codes "root" ∷ []) t)
    (first_of (required (at.Node k) (codes "port") (is_new_port seats) t
    ∷ required (at.Node k) (codes "root") (is_text_with (is_class classes)) t ∷ [])) e h

-- a node has no good port
pub seat_port : (classes : List Class) (k : ℕ) (seats : List Seat) (t : Members) (e : WorldFault)
    → unknown (at.Node k) (codes "port" ∷ codes "root" ∷ []) t ≡ None
    → Tells (required (at.Node k) (codes "port") (is_new_port seats) t) e
    → Tells (seat_checks classes k seats t) e
seat_port classes k seats t e known h =
    let checks = behind_keys classes k seats t known in
    rw checks (in_first (required (at.Node k) (codes "port") (is_new_port seats) t)
    (first_of (required (at.Node k) (codes "root") (is_text_with (is_class classes)) t ∷ [])) e h)

-- a node has no good root
pub seat_root : (classes : List Class) (k : ℕ) (seats : List Seat) (t : Members) (e : WorldFault)
    → unknown (at.Node k) (codes "port" ∷ codes "root" ∷ []) t ≡ None
    → required (at.Node k) (codes "port") (is_new_port seats) t ≡ None
    → Tells (required (at.Node k) (codes "root") (is_text_with (is_class classes)) t) e
    → Tells (seat_checks classes k seats t) e
seat_root classes k seats t e known port h =
    let checks = behind_keys classes k seats t known in
    rw (checks, port)
    (in_first (required (at.Node k) (codes "root") (is_text_with (is_class classes)) t) None e h)

-- a good node
pub seat_good : (classes : List Class) (k : ℕ) (seats : List Seat) (t : Members) (node : ℕ)
    (class : ClassId) → unknown (at.Node k) (codes "port" ∷ codes "root" ∷ []) t ≡ None
    → required (at.Node k) (codes "port") (is_new_port seats) t ≡ None
    → required (at.Node k) (codes "root") (is_text_with (is_class classes)) t ≡ None
    → option_and_then port_of (get_member (codes "port") t) ≡ Some node
    → option_and_then (class_named classes) (text_at (codes "root") t) ≡ Some class
    → (seat_checks classes k seats t ≡ None)
    × (seat_of classes t ≡ Some (record { node = node; root = class }))
seat_good classes k seats t node class known port root is_port is_root =
    let checks = behind_keys classes k seats t known in
    (rw (checks, port, root), rw (is_port, is_root))

-- a node of a new port joins the others
pub seats_more : (classes : List Class) (seats : List Seat) (s : Seat) → AreSeats classes seats
    → is_free seats s.node ≡ true → IsSeat classes s → AreSeats classes (seats ++ s ∷ [])
seats_more classes seats s are free seat =
    let absent : list_any (λ q. s.node == q) (map (λ (r : Seat). r.node) seats) ≡ false =
    list_any_map (λ q. s.node == q) (λ (r : Seat). r.node) seats
    ∙ not_true (list_any (λ (r : Seat). s.node == r.node) seats) free in
    let grown : map (λ (r : Seat). r.node) (seats ++ s ∷ [])
    ≡ map (λ (r : Seat). r.node) seats ++ s.node ∷ [] =
    map-append (λ (r : Seat). r.node) seats (s ∷ []) in
    let apart =
    IsDistinct-push nat_eq_equiv (map (λ (r : Seat). r.node) seats) s.node are.distinct absent in
    record {
      distinct = subst (IsDistinct (λ (p q : ℕ). p == q)) (sym grown) apart;
      seated = All-push (IsSeat classes) seats s are.seated seat;
    }

-- a number of this form is a port
port_in_within : (z : ℤ) (n : ℕ) → port_in z ≡ Some n → IsPort n
port_in_within (negsuc k) n e = cc
port_in_within (pos k) n e = inside (nat_le 1 k && nat_le k 65535) refl e
  where
    inside : (b : Bool) → (nat_le 1 k && nat_le k 65535) ≡ b
        → (if b then Some k else None) ≡ Some n → IsPort n
    inside false is e = cc
    inside true is e =
        let parts = and_parts (nat_le 1 k) (nat_le k 65535) is in
        let low : 1 ≤ k = grind (arith, nat_tests, parts.0) in
        let high : k ≤ 65535 = grind (arith, nat_tests, parts.1) in
        let same : k ≡ n = cc in
        (omega (arith, low, same), omega (arith, high, same))

-- a value that is a port is from 1 to 65,535
pub port_within : (d : Data) (n : ℕ) → port_of d ≡ Some n → IsPort n
port_within d n e = from (as_integer d) e
  where
    from : (o : Option ℤ) → option_and_then port_in o ≡ Some n → IsPort n
    from None e = cc
    from (Some z) e = port_in_within z n e
