-- The version of a document, and its lists of tables.
use Rattle.do_document.specs.declared.place.Place.TheVariants as at
use Rattle.std.proofs.Common.{◌≡◌, ◌&&◌, ℕ, ◌≤◌, Bool, true, false, List, [], ◌∷◌, length, Option}
use Rattle.std.proofs.Common.{Some, None, refl, sym, ◌∙◌, arith, Result, Ok, Err}
use Rattle.std.specs.{Prelude.{codes, nat_le, option_and_then}, List.filter_map}
use Rattle.std.{specs.Option.{option_map_or, option_or}, proofs.lemmas.Bool.Decides.nat_tests}
use Rattle.toml.specs.Data.{Data, Items, Members, as_array, as_table, get_member}
use Rattle.do_document.specs.Checks.{first_among, is_list, is_of_kind, list_fault, member_fault}
use Rattle.do_document.specs.Checks.{misfit, missing, required, wrong_unless}
use Rattle.do_document.specs.{Document.{members, members_at, tables_at}, Finding.Finds, Paths.path}
use Rattle.do_document.specs.declared.document.ItemKind.TheVariants.{Table}
use Rattle.do_document.specs.declared.fault.WorldFault.{WorldFault, TheVariants.Wrong}
use Rattle.do_document.proofs.{Finding.{misfit_there, required_there}, InOrder.{Is, Tells, told}}
use Rattle.do_document.proofs.ListSteps.{few_tables}
use Rattle.do_world.specs.Faults.{is_one, tables_fault}
use Rattle.do_document.proofs.InRow.{row_first, row_next, row_none}

-- ---- the version

-- another version is wrong
pub version_wrong : (d : Members) (v : Data) (e : WorldFault)
    → get_member (codes "version") d ≡ Some v → is_one v ≡ false
    → Is (Wrong (path at.Top (codes "version"))) e
    → Tells (required at.Top (codes "version") is_one d) e
version_wrong d v e there fails is =
    told (required at.Top (codes "version") is_one d) (Wrong (path at.Top (codes "version"))) e
    (required_there at.Top (codes "version") is_one d v there ∙ rw fails refl) is

-- version 1 is not
pub version_right : (d : Members) (v : Data) → get_member (codes "version") d ≡ Some v
    → is_one v ≡ true → required at.Top (codes "version") is_one d ≡ None
version_right d v there passes =
    required_there at.Top (codes "version") is_one d v there ∙ rw passes refl

-- ---- the lists of tables

-- where neither of two is there, the first is not
or_left : (a b : Option WorldFault) → option_or a b ≡ None → a ≡ None
or_left None b e = refl
or_left (Some f) b e = absurd cc

-- nor is the second
or_right : (a b : Option WorldFault) → option_or a b ≡ None → b ≡ None
or_right None b e = e
or_right (Some f) b e = absurd cc

-- what is not wrong passed its test
wrong_none : (b : Bool) (at : List ℕ) → wrong_unless b at ≡ None → b ≡ true
wrong_none true at e = refl
wrong_none false at e = absurd cc

-- a list that is long enough has members
members_long : (key : List ℕ) (most : ℕ) (d : Members) (v : Data) → get_member key d ≡ Some v
    → is_list 1 most v ≡ true → 1 ≤ length (members_at key d)
unfolding members_at
members_long key most d v there e = go (as_array v) refl e
  where
    go : (o : Option Items) → as_array v ≡ o
        → option_map_or (λ items. nat_le 1 (length (members items))
        && nat_le (length (members items)) most) o false ≡ true
        → 1 ≤ length (option_map_or members (option_and_then as_array (get_member key d)) [])
    go None p q = absurd cc
    go (Some items) p q = rw (there, p) (grind (arith, nat_tests))

-- members without a fault are tables, so there is a first one
first_table : (at : List ℕ) (ds : List Data) → 1 ≤ length ds
    → first_among (member_fault at Table) ds ≡ None → 1 ≤ length (filter_map as_table ds)
first_table at [] le e = absurd (omega arith)
first_table at (x ∷ more) le e =
    go (as_table x) refl
    (wrong_none (is_of_kind Table x) _ (or_left (member_fault at Table [] x) _ e))
  where
    go : (o : Option Members) → as_table x ≡ o → is_of_kind Table x ≡ true
        → 1 ≤ length (filter_map as_table (x ∷ more))
    go None p q = let none : is_of_kind Table x ≡ false = rw p refl in absurd cc
    go (Some t) p q = rw p (omega arith)

-- a list of tables without a fault has a first table
pub tables_some : (key : List ℕ) (most : ℕ) (d : Members) (v : Data)
    → get_member key d ≡ Some v → list_fault at.Top key 1 most Table d ≡ None
    → 1 ≤ length (tables_at key d)
unfolding list_fault tables_at
tables_some key most d v there h =
    let fits = or_left (misfit at.Top key (is_list 1 most) d) _ h in
    let more = or_right (misfit at.Top key (is_list 1 most) d) _ h in
    let at_members = first_among (member_fault (path at.Top key) Table) (members_at key d) in
    let each = or_left at_members _ more in
    let tested = sym (misfit_there at.Top key (is_list 1 most) d v there) ∙ fits in
    let passed = wrong_none (is_list 1 most v) _ tested in
    first_table (path at.Top key) (members_at key d) (members_long key most d v there passed) each

-- and no more tables than members
pub tables_few : (key : List ℕ) (most : ℕ) (d : Members) → length (members_at key d) ≤ most
    → length (tables_at key d) ≤ most
tables_few key most d h = let few = few_tables key d in omega arith

module _ (key : List ℕ) (most : ℕ) (d : Members) where
  -- a list that must be there is missing
  pub tables_missing : (e : WorldFault) → Tells (missing at.Top key d) e
      → Tells (tables_fault key most d) e
  unfolding tables_fault
  tables_missing e h =
      row_first (missing at.Top key d) (list_fault at.Top key 1 most Table d ∷ []) e h

  -- what is there is no such list
  pub tables_wrong : (e : WorldFault) → missing at.Top key d ≡ None
      → Tells (list_fault at.Top key 1 most Table d) e → Tells (tables_fault key most d) e
  unfolding tables_fault
  tables_wrong e n h =
      row_next (missing at.Top key d) (list_fault at.Top key 1 most Table d ∷ []) e n
      (row_first (list_fault at.Top key 1 most Table d) [] e h)

  -- it is one
  pub tables_good : missing at.Top key d ≡ None → list_fault at.Top key 1 most Table d ≡ None
      → tables_fault key most d ≡ None
  unfolding tables_fault
  tables_good n m =
      row_none (missing at.Top key d) (list_fault at.Top key 1 most Table d ∷ []) n
      (row_none (list_fault at.Top key 1 most Table d) [] m refl)

-- what is told of a list of tables, by what was told of its members
pub tables_checked : (key : List ℕ) (most : ℕ) (d : Members) (v : Data)
    (r : Result (Unit {0}) WorldFault) → get_member key d ≡ Some v → missing at.Top key d ≡ None
    → Finds (list_fault at.Top key 1 most Table d) (λ _. length (members_at key d) ≤ most) r
    → Finds (tables_fault key most d)
    (λ _. (1 ≤ length (tables_at key d)) × (length (tables_at key d) ≤ most)) r
tables_checked key most d v (Ok u) there n h =
    (tables_good key most d n h.0, (tables_some key most d v there h.0, tables_few key most d h.1))
tables_checked key most d v (Err e) there n h = tables_wrong key most d e n h
