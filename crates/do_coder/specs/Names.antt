-- The names of packets: the spelling of each by the table of recent names, and how they are read.
use Rattle.std.specs.Prelude.{◌==◌, ◌&&◌, ◌||◌, not, ℕ, zero, suc, ◌-◌, ◌<◌, Bool, List, [], ◌∷◌}
use Rattle.std.specs.{Prelude.{◌++◌, length, map, nat_lt, get_or, Option, Some, None}, List.filter}
use Rattle.do_class.specs.declared.packet.Name.{Name, TheVariants.{Mine, Yours, Lent}}
use Rattle.do_grammar.specs.{Reader.{Reader, no_kind, mapped}, Num.{num, num_at}, OneSpelling.both}
use Rattle.do_grammar.specs.OneSpelling.{tagged, list_at, list_spelling, times_by, spelling_by}
use Rattle.do_grammar.specs.BesideHoles.{some_beside, num_beside, IsBeside}
use Rattle.do_coder.specs.declared.{read.sides.Sides.Sides, recent.pair.Pair.Pair}
use Rattle.do_coder.specs.Recent.{pair, place_in, after_name, IsSerial}

-- ---- one spelling

-- by the place in the table, if there is one
abbrev pub mine_tag : Option ℕ → ℕ
mine_tag None = 1
mine_tag (Some k) = 4

abbrev pub mine_body : Option ℕ → ℕ → ℕ → List ℕ
mine_body None serial class = num serial ++ num class
mine_body (Some k) serial class = num k

abbrev pub name_tag : List Pair → Name → ℕ
name_tag table (Mine serial class) =
    mine_tag (place_in (record { serial = serial; class = class }) table)
name_tag table (Yours serial) = 2
name_tag table (Lent oid class token) = 3

abbrev pub name_body : List Pair → Name → List ℕ
name_body table (Mine serial class) =
    mine_body (place_in (record { serial = serial; class = class }) table) serial class.0
name_body table (Yours serial) = num serial
name_body table (Lent oid class token) =
    num oid.node ++ (num oid.serial ++ (num class.0 ++ num token))

-- the spelling of a name by a table of recent names
abbrev pub name_spelling : List Pair → Name → List ℕ
name_spelling table x = name_tag table x ∷ name_body table x

-- what has a spelling
abbrev pub IsName : Sides → Name → Type 0
IsName s (Mine serial class) = IsSerial serial × (class.0 < s.classes)
IsName s (Yours serial) = IsSerial serial
IsName s (Lent oid class token) = IsBeside (s.from ∷ s.to ∷ []) 1 65535 oid.node
    × (IsSerial oid.serial × ((class.0 < s.classes) × IsSerial token))

abbrev pub names_spelling : List Pair → List Name → List ℕ
names_spelling table names = list_spelling (spelling_by name_spelling after_name table) names

-- ---- reading

-- the classes that stand in the table with a serial
abbrev pub taken_with : ℕ → List Pair → List ℕ
taken_with serial table = map (λ p. p.class.0) (filter (λ p. p.serial == serial) table)

-- the serials that stand in the table with every class
abbrev pub taken_whole : ℕ → List Pair → List ℕ
taken_whole classes table =
    filter (λ n. not (some_beside (taken_with n table) 0 (classes - 1))) (map (λ p. p.serial) table)

-- the bytes that may stand in front of a name
abbrev pub begins_name : ℕ → List Pair → ℕ → Bool
begins_name classes table b =
    b == 2 || (((b == 1 || b == 3) && nat_lt 0 classes) || (b == 4 && nat_lt 0 (length table)))

abbrev pub serial_at : Reader (Unit {0}) ℕ
serial_at = num_at no_kind 1 9223372036854775807

abbrev pub mine : ℕ × ℕ → Name
mine p = Mine p.0 (record { 0 = p.1 })

abbrev pub lent : ℕ × (ℕ × (ℕ × ℕ)) → Name
lent p = Lent (record { node = p.0; serial = p.1.0 }) (record { 0 = p.1.1.0 }) p.1.1.1

abbrev pub mine_of : Pair → Name
mine_of p = Mine p.serial p.class

abbrev pub mine_at : List Pair → ℕ → Name
mine_at table k = mine_of (get_or table k (pair 0 0))

-- a name of the sender that doesn't stand in the table
unfoldable pub new_at : ℕ → List Pair → Reader (Unit {0}) Name
new_at classes table =
    mapped mine
    (both (num_beside (taken_whole classes table) 1 9223372036854775807) (λ serial.
    num_beside (taken_with serial table) 0 (classes - 1)))

unfoldable pub lent_at : Sides → Reader (Unit {0}) Name
lent_at s =
    mapped lent
    (both (num_beside (s.from ∷ s.to ∷ []) 1 65535) (λ node.
    both serial_at (λ serial. both (num_at no_kind 0 (s.classes - 1)) (λ class. serial_at))))

-- what follows such a byte
abbrev pub name_body_at : Sides → List Pair → ℕ → Reader (Unit {0}) Name
name_body_at s table (suc (suc (suc (suc b)))) =
    mapped (mine_at table) (num_at no_kind 0 (length table - 1))
name_body_at s table (suc (suc (suc zero))) = lent_at s
name_body_at s table (suc zero) = new_at (s.classes) table
name_body_at s table _ = mapped (λ serial. Yours serial) serial_at

unfoldable pub name_at : Sides → List Pair → Reader (Unit {0}) Name
name_at s table = tagged (begins_name (s.classes) table) (name_body_at s table)

unfoldable pub names_at : Sides → List Pair → Reader (Unit {0}) (List Name)
names_at s table = list_at 0 65536 (λ n. times_by (name_at s) after_name n table)
