-- What stands at the top of a document.
use Rattle.do_document.specs.declared.place.Place.TheVariants as at
use Rattle.std.proofs.Common.{◌≡◌, ℕ, ◌≤◌, List, [], ◌∷◌, length, Option, None, refl, Result, Ok}
use Rattle.std.{proofs.Common.Err, specs.Prelude.codes}
use Rattle.toml.specs.Data.{Members}
use Rattle.do_document.specs.{Checks.{required, unknown}, Document.tables_at, Finding.Finds}
use Rattle.do_document.{specs.declared.fault.WorldFault.WorldFault, proofs.InOrder.Tells}
use Rattle.do_world.specs.Faults.{is_one, tables_fault, top_fault}
use Rattle.do_document.proofs.InRow.{row_first, row_next, row_none}

-- the keys that a document may have
abbrev pub top_keys : List (List ℕ)
top_keys = codes "class" ∷ codes "node" ∷ codes "version" ∷ []

module _ (d : Members) where
  -- the nodes, then the classes before them, then the version before these
  abbrev at_nodes : List (Option WorldFault)
  at_nodes = tables_fault (codes "node") 64 d ∷ []

  abbrev at_classes : List (Option WorldFault)
  at_classes = tables_fault (codes "class") 256 d ∷ at_nodes

  abbrev at_version : List (Option WorldFault)
  at_version = required at.Top (codes "version") is_one d ∷ at_classes

  -- a key is unknown
  pub top_unknown : (e : WorldFault) → Tells (unknown at.Top top_keys d) e → Tells (top_fault d) e
  unfolding top_fault
  top_unknown e h = row_first (unknown at.Top top_keys d) at_version e h

  -- the version is missing or wrong
  pub top_version : (e : WorldFault) → unknown at.Top top_keys d ≡ None
      → Tells (required at.Top (codes "version") is_one d) e → Tells (top_fault d) e
  unfolding top_fault
  top_version e n h =
      row_next (unknown at.Top top_keys d) at_version e n
      (row_first (required at.Top (codes "version") is_one d) at_classes e h)

  -- the classes are missing or wrong
  pub top_classes : (e : WorldFault) → unknown at.Top top_keys d ≡ None
      → required at.Top (codes "version") is_one d ≡ None
      → Tells (tables_fault (codes "class") 256 d) e → Tells (top_fault d) e
  unfolding top_fault
  top_classes e n m h =
      row_next (unknown at.Top top_keys d) at_version e n
      (row_next (required at.Top (codes "version") is_one d) at_classes e m
      (row_first (tables_fault (codes "class") 256 d) at_nodes e h))

  -- the nodes are missing or wrong
  pub top_nodes : (e : WorldFault) → unknown at.Top top_keys d ≡ None
      → required at.Top (codes "version") is_one d ≡ None
      → tables_fault (codes "class") 256 d ≡ None
      → Tells (tables_fault (codes "node") 64 d) e → Tells (top_fault d) e
  unfolding top_fault
  top_nodes e n m o h =
      row_next (unknown at.Top top_keys d) at_version e n
      (row_next (required at.Top (codes "version") is_one d) at_classes e m
      (row_next (tables_fault (codes "class") 256 d) at_nodes e o
      (row_first (tables_fault (codes "node") 64 d) [] e h)))

  -- nothing is
  pub top_good : unknown at.Top top_keys d ≡ None
      → required at.Top (codes "version") is_one d ≡ None
      → tables_fault (codes "class") 256 d ≡ None → tables_fault (codes "node") 64 d ≡ None
      → top_fault d ≡ None
  unfolding top_fault
  top_good n m o p =
      row_none (unknown at.Top top_keys d) at_version n
      (row_none (required at.Top (codes "version") is_one d) at_classes m
      (row_none (tables_fault (codes "class") 256 d) at_nodes o
      (row_none (tables_fault (codes "node") 64 d) [] p refl)))

-- what is told of the top, by what was told of its last part
pub top_checked : (d : Members) (r : Result (Unit {0}) WorldFault)
    → unknown at.Top top_keys d ≡ None → required at.Top (codes "version") is_one d ≡ None
    → (tables_fault (codes "class") 256 d ≡ None)
    × ((1 ≤ length (tables_at (codes "class") d)) × (length (tables_at (codes "class") d) ≤ 256))
    → Finds (tables_fault (codes "node") 64 d)
    (λ _. (1 ≤ length (tables_at (codes "node") d)) × (length (tables_at (codes "node") d) ≤ 64)) r
    → Finds (top_fault d) (λ _. (length (tables_at (codes "class") d) ≤ 256)
    × (1 ≤ length (tables_at (codes "node") d)) × (length (tables_at (codes "node") d) ≤ 64)) r
top_checked d (Ok u) n m o h = (top_good d n m o.0 h.0, (o.1.1, h.1.0, h.1.1))
top_checked d (Err e) n m o h = top_nodes d e n m o.0 h
