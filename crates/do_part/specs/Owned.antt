-- What contracts see of a part: what a node has of its own, and the room left.
use Rattle.std.specs.FinMap as map
use Rattle.std.specs.{Prelude.{ℕ, refl}, Coded.{Coded, code_by, coded×, coded_ℕ}}
use Rattle.do_export.specs.Counts.{Counts}
use Rattle.do_import.specs.{Asked.class_code, ByObject.ClassMap}
use Rattle.do_machine.specs.declared.node.Node.{Node}
use Rattle.do_network.specs.Own.{Own}

-- how many more objects, invocations, names and entries fit with no memory taken: an entry is that
-- of an object that is named to a peer, lent to it, received of it or asked for
pub record Room : Type 0 where
  pub objects : ℕ
  pub invocations : ℕ
  pub names : ℕ
  pub entries : ℕ

-- what a node has of its own, and its room
pub record Owned : Type 0 where
  pub own : Own
  pub room : Room

-- how a part is coded, if a node is coded so
abbrev pub owned_code : Coded Node → Coded Owned
owned_code node = code_by ((Node × (Counts × (Counts × ClassMap))) × ((ℕ × ℕ) × (ℕ × ℕ)))
    (coded× (coded× node (coded× (map.code (coded× coded_ℕ coded_ℕ) coded_ℕ)
    (coded× (map.code (coded× coded_ℕ coded_ℕ) coded_ℕ)
    (map.code (coded× coded_ℕ coded_ℕ) class_code))))
    (coded× (coded× coded_ℕ coded_ℕ) (coded× coded_ℕ coded_ℕ)))
    (λ p. (
      (p.own.node, (p.own.counts, (p.own.received, p.own.classes))),
      ((p.room.objects, p.room.invocations), (p.room.names, p.room.entries)),
    ))
    (λ t. record {
      own = record {
        node = t.0.0;
        counts = t.0.1.0;
        received = t.0.1.1.0;
        classes = t.0.1.1.1;
      };
      room = record {
        objects = t.1.0.0;
        invocations = t.1.0.1;
        names = t.1.1.0;
        entries = t.1.1.1;
      };
    }) (λ _. refl)
