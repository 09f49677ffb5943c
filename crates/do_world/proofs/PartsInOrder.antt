-- The parts of a document in their order, and the world that they say.
use Rattle.std.proofs.Common.{◌≡◌, ◌≤◌, List, [], ◌∷◌, length, map, Option, None, refl, sym, ◌∙◌}
use Rattle.std.{proofs.Common.{ap, arith, subst}, specs.{Prelude.codes, List.{All, filter_map}}}
use Rattle.toml.specs.Data.{Members}
use Rattle.do_behave.specs.Programs.{IsMadeFor}
use Rattle.do_carried.specs.Ranged.{CodesAreRanged, RulesAreRanged}
use Rattle.do_class.specs.{Class.Class, Table.{IsTable, names_of}}
use Rattle.do_document.specs.{Checks.first_among, ClassFaults.class_fault}
use Rattle.do_check.specs.declared.rules.Rule.{Rule}
use Rattle.do_class_kinds.specs.{Kinds.AreKindsOf, declared.kind.Kind.Kind}
use Rattle.do_document.specs.Classes.{class_of, class_rules, classes_in, kind_of}
use Rattle.do_document.specs.{Document.tables_at, Sound.HasTypes}
use Rattle.do_document.{specs.declared.fault.WorldFault.WorldFault, proofs.InOrder.Tells}
use Rattle.do_script.specs.Listing.{Listing}
use Rattle.do_machine.specs.declared.state.Seat.{Seat}
use Rattle.do_world.specs.Faults.{codes_fault, fault_of, seat_fault, top_fault}
use Rattle.do_world.specs.{Sound.{AreSeats, IsSound}, Worlds.{codes_of, seat_of, world_of}}
use Rattle.do_document.proofs.InRow.{row_first, row_next, row_none, told_by}

module _ (d : Members) where
  -- the nodes, then the codes before them, then the classes before these
  abbrev at_seats : List (Option WorldFault)
  at_seats = first_among (seat_fault (classes_in d)) (tables_at (codes "node") d) ∷ []

  abbrev at_codes : List (Option WorldFault)
  at_codes =
      first_among (codes_fault (names_of (classes_in d))) (tables_at (codes "class") d) ∷ at_seats

  abbrev at_parts : List (Option WorldFault)
  at_parts = first_among class_fault (tables_at (codes "class") d) ∷ at_codes

  module _ (cs : List Members) (table : List Class)
      (listed : cs ≡ tables_at (codes "class") d) (top : top_fault d ≡ None)
      (good : first_among class_fault cs ≡ None) (made : table ≡ filter_map class_of cs) where
    -- the classes are those of the document
    same_classes : classes_in d ≡ table
    unfolding classes_in
    same_classes = ap (filter_map class_of) (sym listed) ∙ sym made

    -- the classes have no fault
    good_classes : first_among class_fault (tables_at (codes "class") d) ≡ None
    good_classes = ap (first_among class_fault) (sym listed) ∙ good

    -- the codes are checked by these classes
    same_codes : first_among (codes_fault (names_of (classes_in d))) (tables_at (codes "class") d)
        ≡ first_among (codes_fault (names_of table)) cs
    same_codes =
        ap (λ x. first_among (codes_fault (names_of x)) (tables_at (codes "class") d)) same_classes
        ∙ ap (first_among (codes_fault (names_of table))) (sym listed)

    -- the codes have a fault
    pub fault_codes : (e : WorldFault) → Tells (first_among (codes_fault (names_of table)) cs) e
        → Tells (fault_of d) e
    fault_codes e h =
        row_next (top_fault d) at_parts e top
        (row_next (first_among class_fault (tables_at (codes "class") d)) at_codes e good_classes
        (row_first (first_among (codes_fault (names_of (classes_in d)))
        (tables_at (codes "class") d)) at_seats e
        (told_by _ (first_among (codes_fault (names_of table)) cs) e same_codes h)))

    module _ (ns : List Members) (seated : ns ≡ tables_at (codes "node") d)
        (coded : first_among (codes_fault (names_of table)) cs ≡ None) where
      -- the nodes are checked by these classes
      same_seats : first_among (seat_fault (classes_in d)) (tables_at (codes "node") d)
          ≡ first_among (seat_fault table) ns
      same_seats =
          ap (λ x. first_among (seat_fault x) (tables_at (codes "node") d)) same_classes
          ∙ ap (first_among (seat_fault table)) (sym seated)

      -- the nodes have a fault
      pub fault_seats : (e : WorldFault) → Tells (first_among (seat_fault table) ns) e
          → Tells (fault_of d) e
      fault_seats e h =
          row_next (top_fault d) at_parts e top
          (row_next (first_among class_fault (tables_at (codes "class") d)) at_codes e good_classes
          (row_next (first_among (codes_fault (names_of (classes_in d)))
          (tables_at (codes "class") d)) at_seats e (same_codes ∙ coded)
          (row_first (first_among (seat_fault (classes_in d)) (tables_at (codes "node") d)) [] e
          (told_by _ (first_among (seat_fault table) ns) e same_seats h))))

      -- nothing has a fault
      pub fault_nowhere : first_among (seat_fault table) ns ≡ None → fault_of d ≡ None
      fault_nowhere none =
          row_none (top_fault d) at_parts top
          (row_none (first_among class_fault (tables_at (codes "class") d)) at_codes good_classes
          (row_none (first_among (codes_fault (names_of (classes_in d)))
          (tables_at (codes "class") d)) at_seats (same_codes ∙ coded)
          (row_none (first_among (seat_fault (classes_in d)) (tables_at (codes "node") d)) []
          (same_seats ∙ none) refl)))

-- what a document says, by its parts
pub world_said : (d : Members) (table : List Class) (kinds : List Kind) (rules : List (List Rule))
    (program : List (List Listing)) (nodes : List Seat)
    → table ≡ filter_map class_of (tables_at (codes "class") d)
    → kinds ≡ filter_map kind_of (tables_at (codes "class") d)
    → rules ≡ map class_rules (tables_at (codes "class") d)
    → program ≡ map (codes_of (names_of table)) (tables_at (codes "class") d)
    → nodes ≡ filter_map (seat_of table) (tables_at (codes "node") d)
    → record { table = table; kinds = kinds; rules = rules; program = program; nodes = nodes }
    ≡ world_of d
unfolding classes_in
world_said d table kinds rules program nodes t k r p n = rw (n, p, r, k, t) refl

-- a world of sound parts is sound
pub world_sound : (table : List Class) (kinds : List Kind) (rules : List (List Rule))
    (program : List (List Listing)) (nodes : List Seat) → IsTable table → All HasTypes table
    → 1 ≤ length nodes → length nodes ≤ 64 → AreSeats table nodes → IsMadeFor program table
    → AreKindsOf table kinds rules → CodesAreRanged program → RulesAreRanged rules
    → IsSound (record {
      table = table;
      kinds = kinds;
      rules = rules;
      program = program;
      nodes = nodes;
    })
world_sound table kinds rules program nodes is typed some few seats made kinded codes denials =
    record {
      opens = record {
        classes = is;
        signatures = typed;
        some = some;
        few = few;
        distinct = seats.distinct;
        seated = seats.seated;
      };
      made = made;
      kinds = kinded;
      codes = codes;
      denials = denials;
    }

-- what reading the classes of a document gave
pub record AreClasses (cs : List Members) (table : List Class) (kinds : List Kind)
    (rules : List (List Rule)) : Type 0 where
  pub table_said : table ≡ filter_map class_of cs
  pub kinds_said : kinds ≡ filter_map kind_of cs
  pub rules_said : rules ≡ map class_rules cs
  pub typed : All HasTypes table
  pub kinded : AreKindsOf table kinds rules
  pub denials : RulesAreRanged rules

-- the world of parts that were found is that of the document, and sound
pub world_found : (d : Members) (cs ns : List Members) (table : List Class) (kinds : List Kind)
    (rules : List (List Rule)) (coded program : List (List Listing)) (nodes : List Seat)
    → cs ≡ tables_at (codes "class") d → ns ≡ tables_at (codes "node") d → top_fault d ≡ None
    → (length (tables_at (codes "class") d) ≤ 256) × (1 ≤ length (tables_at (codes "node") d))
    × (length (tables_at (codes "node") d) ≤ 64)
    → first_among class_fault cs ≡ None → AreClasses cs table kinds rules
    → (first_among (codes_fault (names_of table)) cs ≡ None)
    × ((coded ≡ map (codes_of (names_of table)) cs) × IsMadeFor coded table × IsTable table)
    → (first_among (seat_fault table) ns ≡ None)
    × ((nodes ≡ filter_map (seat_of table) ns) × (length nodes ≡ length ns)
    × AreSeats table nodes)
    → program ≡ coded → CodesAreRanged coded
    → (fault_of d ≡ None)
    × ((record { table = table; kinds = kinds; rules = rules; program = program; nodes = nodes }
    ≡ world_of d)
    × IsSound (record {
      table = table;
      kinds = kinds;
      rules = rules;
      program = program;
      nodes = nodes;
    }))
world_found d cs ns table kinds rules coded program nodes listed seated top bounds good cf pf nf
    same ranged =
    let some = bounds.1 in
    let few = bounds.2 in
    let listed_nodes = tables_at (codes "node") d in
    let counted : length nodes ≡ length listed_nodes = nf.1.1 ∙ ap length seated in (
      fault_nowhere d cs table listed top good cf.table_said ns seated pf.0 nf.0,
      (
        world_said d table kinds rules program nodes
            (cf.table_said ∙ ap (filter_map class_of) listed)
            (cf.kinds_said ∙ ap (filter_map kind_of) listed)
            (cf.rules_said ∙ ap (map class_rules) listed)
            (same ∙ pf.1.0 ∙ ap (map (codes_of (names_of table))) listed)
            (nf.1.0 ∙ ap (filter_map (seat_of table)) seated),
        world_sound table kinds rules program nodes pf.1.2 cf.typed (omega arith) (omega arith)
            nf.1.2 (subst (λ (x : List (List Listing)). IsMadeFor x table) (sym same) pf.1.1)
            cf.kinded (subst CodesAreRanged (sym same) ranged) cf.denials,
      ),
    )
