-- What contracts see of a node's imports.
use Rattle.std.specs.FinMap as map
use Rattle.std.specs.Prelude.{◌≡◌, ◌||◌, ◌&&◌, ◌==◌, ◌+◌, ◌<◌, ℕ, true, List, [], ◌∷◌, filter}
use Rattle.std.specs.Prelude.{map as each, min, count_by, refl}
use Rattle.std.specs.Coded.{Coded, code_by, coded×, coded_ℕ}
use Rattle.do_base.specs.names.Names.{ObjectName}
use Rattle.do_class.specs.declared.ids.ClassId.{ClassId}
use Rattle.do_export.specs.Counts.{Counts, entry_cmp}
use Rattle.do_import.specs.Asked.{AreCounts, AskMap, Asked, CountsAsks, asks_of, class_code}
use Rattle.do_import.specs.{ByObject.{Rows, ClassMap, taken_off}, Held.Held, Lent.{Lent, name_code}}

-- the object of each lend, by borrower and number
abbrev pub LendMap : Type 0
LendMap = map.FinMap entry_cmp ObjectName

-- `received`, `uses`, `named` and `asked` count objects: how often each was received and not given
-- back, how often it is used, how many lends and asks are of it, and how many asks alone. `spare` is
-- how many more objects can be used with no memory taken, `links` how many more can be received, lent
-- and asked for.
pub record Imported : Type 0 where
  pub own : ℕ
  pub received : Counts
  pub uses : Counts
  pub named : Counts
  pub asked : Counts
  pub lends : LendMap
  pub next : ℕ
  pub asks : AskMap
  pub classes : ClassMap
  pub spare : ℕ
  pub links : ℕ

-- how counts are coded
abbrev counts_code : Coded Counts
counts_code = map.code (coded× coded_ℕ coded_ℕ) coded_ℕ

-- how the counts and the rest of the imports are coded, one after the other
abbrev pub imported_code : Coded Imported
imported_code = code_by
    ((ℕ × (Counts × (Counts × (Counts × Counts)))) × (LendMap × (ℕ × (AskMap × (ClassMap × (ℕ × ℕ))))))
    (coded× (coded× coded_ℕ (coded× counts_code (coded× counts_code
    (coded× counts_code counts_code))))
    (coded× (map.code (coded× coded_ℕ coded_ℕ) name_code) (coded× coded_ℕ
    (coded× (map.code (coded× (coded× coded_ℕ coded_ℕ) (coded× coded_ℕ coded_ℕ)) class_code)
    (coded× (map.code (coded× coded_ℕ coded_ℕ) class_code) (coded× coded_ℕ coded_ℕ))))))
    (λ i. (
      (i.own, (i.received, (i.uses, (i.named, i.asked)))),
      (i.lends, (i.next, (i.asks, (i.classes, (i.spare, i.links))))),
    ))
    (λ p. record {
      own = p.0.0;
      received = p.0.1.0;
      uses = p.0.1.1.0;
      named = p.0.1.1.1.0;
      asked = p.0.1.1.1.1;
      lends = p.1.0;
      next = p.1.1.0;
      asks = p.1.1.1.0;
      classes = p.1.1.1.1.0;
      spare = p.1.1.1.1.1.0;
      links = p.1.1.1.1.1.1;
    }) (λ _. refl)

-- what the parts show together: the room for links is the least of theirs
abbrev pub imported_of : ℕ → Held → Rows ℕ → Rows ℕ → Lent → Asked → Rows ClassId → Imported
imported_of own held named asked lent asks classes = record {
  own = own;
  received = held.received;
  uses = held.uses;
  named = named.rows;
  asked = asked.rows;
  lends = lent.lends;
  next = lent.next;
  asks = asks.asks;
  classes = classes.rows;
  spare = held.spare;
  links = min held.places (min named.spare (min asked.spare
      (min lent.spare (min asks.spare classes.spare))));
}

-- a class is kept of just the objects that were received or asked for
abbrev pub KeepsClasses : Counts → Counts → ClassMap → Type 0
KeepsClasses received asked classes = (k : ℕ × ℕ) → map.contains_key classes k
    ≡ (map.contains_key received k || map.contains_key asked k)

-- how many lends are of an object, by its home and serial
abbrev pub lends_of : LendMap → ℕ × ℕ → ℕ
lends_of lends q = count_by (λ o. (q.0 == o.node) && (q.1 == o.serial)) (map.values lends)

-- these are the counts of the lends and asks by object
abbrev pub CountsNames : Counts → LendMap → AskMap → Type 0
CountsNames named lends asks = AreCounts named (λ q. lends_of lends q + asks_of asks q)

-- each lend has a number below the next one
abbrev pub AreNumbered : LendMap → ℕ → Type 0
AreNumbered lends next = (k : ℕ × ℕ) → map.contains_key lends k ≡ true → k.1 < next

-- classes are kept of just the objects that were received or asked for, asks and names are counted
-- by object, and lends have numbers that were given
pub record IsTied (i : Imported) : Type 0 where
  pub known : KeepsClasses i.received i.asked i.classes
  pub counts : CountsAsks i.asked i.asks
  pub names : CountsNames i.named i.lends i.asks
  pub numbers : AreNumbered i.lends i.next

-- the counts once one is taken off at each of these objects in turn
abbrev pub all_off : Counts → List ObjectName → Counts
all_off counts [] = counts
all_off counts (o ∷ os) = all_off (taken_off counts o) os

-- the objects lent to a borrower, by number
abbrev pub lent_to : ℕ → List ((ℕ × ℕ) × ObjectName) → List ObjectName
lent_to borrower rows = each (λ r. r.1) (filter (λ r. r.0.0 == borrower) rows)
