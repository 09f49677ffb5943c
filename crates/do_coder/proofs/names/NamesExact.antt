-- The names of packets are read exactly.
use Rattle.std.proofs.Common.{◌≡◌, ℕ, zero, suc, ◌-◌, ◌<◌, ◌≤◌, ◌^◌, true, List, [], ◌∷◌, ◌++◌}
use Rattle.std.proofs.Common.{length, Option, Some, None, refl, ap, arith}
use Rattle.std.proofs.lemmas.Bool.Decides.{nat_tests}
use Rattle.do_class.specs.declared.packet.Name.{Name, TheVariants.{Mine, Yours, Lent}}
use Rattle.do_grammar.specs.{Reader.{Reader, no_kind, mapped}, Num.{num, num_at}}
use Rattle.do_grammar.proofs.reads.ExactReader.{Reads}
use Rattle.do_grammar.specs.OneSpelling.{Spelled, both, FitsList, times_by, spelling_by}
use Rattle.do_grammar.specs.BesideHoles.{num_beside, IsBeside}
use Rattle.do_coder.specs.declared.{read.sides.Sides.Sides, recent.pair.Pair.Pair}
use Rattle.do_coder.specs.{Recent.{pair, place_in, after_name, IsSerial, IsKnown}, Names.mine_tag}
use Rattle.do_coder.specs.Names.{name_tag, name_body, name_spelling, IsName, names_spelling}
use Rattle.do_coder.specs.Names.{taken_with, taken_whole, begins_name, serial_at, mine, lent}
use Rattle.do_coder.specs.Names.{mine_of, mine_at, new_at, lent_at, name_body_at, name_at, names_at}
use Rattle.do_grammar.proofs.reads.OneSpellingExact.{Reads-both, Reads-onto, Reads-tagged}
use Rattle.do_grammar.proofs.reads.OneSpellingExact.{Reads-number, Reads-list, Reads-times_by}
use Rattle.do_grammar.proofs.{reads.OneSpellingExact.FitBy, texts.BesideExact.Reads-beside}
use Rattle.do_grammar.proofs.texts.NextBeside.{next_near}
use Rattle.do_coder.proofs.tables.TableLaws.{place_got, got_place, known_at, IsKept, kept_pair}
use Rattle.do_coder.proofs.tables.TakenPairs.{free_none, none_free, class_left, serial_left}
use Rattle.do_coder.proofs.tables.TakenPairs.{some_serial}

-- serials are read exactly
Reads-serial : Reads (Spelled num IsSerial) serial_at
Reads-serial = Reads-number 1 9223372036854775807 (omega arith) (omega arith)

-- which tags pass
begins_class : (classes : ℕ) (table : List Pair) (b : ℕ) → b ≡ 2
    → begins_name classes table b ≡ true
begins_class classes table b e = grind (arith, nat_tests)

-- the tag of a new name passes where there is a class
begins_new : (classes : ℕ) (table : List Pair) → 0 < classes → begins_name classes table 1 ≡ true
begins_new classes table h = grind (arith, nat_tests)

-- so does the tag of a name that is lent
begins_lent : (classes : ℕ) (table : List Pair) → 0 < classes → begins_name classes table 3 ≡ true
begins_lent classes table h = grind (arith, nat_tests)

-- the tag of a known name passes where the table has a pair
begins_known : (classes : ℕ) (table : List Pair) → 0 < length table
    → begins_name classes table 4 ≡ true
begins_known classes table h = grind (arith, nat_tests)

-- where the tag of a new name passes there is a class
new_begins : (classes : ℕ) (table : List Pair) → begins_name classes table 1 ≡ true → 0 < classes
new_begins classes table e = grind (arith, nat_tests)

-- so it is with the tag of a name that is lent
lent_begins : (classes : ℕ) (table : List Pair) → begins_name classes table 3 ≡ true → 0 < classes
lent_begins classes table e = grind (arith, nat_tests)

-- where the tag of a known name passes the table has a pair
known_begins : (classes : ℕ) (table : List Pair) → begins_name classes table 4 ≡ true
    → 0 < length table
known_begins classes table e = grind (arith, nat_tests)

-- 0 is no tag
none_begins : (classes : ℕ) (table : List Pair) → begins_name classes table 0 ≡ true → ⊥
none_begins classes table e = grind (arith, nat_tests)

-- nor is any byte above 4
no_more_begins : (classes : ℕ) (table : List Pair) (b : ℕ) → 4 < b
    → begins_name classes table b ≡ true → ⊥
no_more_begins classes table b lt e = grind (arith, nat_tests)

module _ (s : Sides) (table : List Pair) (few : s.classes < 2 ^ 32)
    (kept : IsKept (s.classes) table) where
  -- how many classes there are
  abbrev classes : ℕ
  classes = s.classes

  -- a name with this tag
  abbrev Tagged : ℕ → Name → Type 0
  Tagged b x = (name_tag table x ≡ b) × IsName s x

  -- a serial and a class that no pair of the table has together
  abbrev IsNew : ℕ × ℕ → Type 0
  IsNew p = IsBeside (taken_whole classes table) 1 9223372036854775807 p.0
      × IsBeside (taken_with p.0 table) 0 (classes - 1) p.1

  -- a pair that is not in the table is spelled as a new name
  tag_mine : (serial class : ℕ) → place_in (pair serial class) table ≡ None
      → (name_tag table (mine (serial, class)) ≡ 1)
      × (name_body table (mine (serial, class)) ≡ num serial ++ num class)
  tag_mine serial class e = (rw e refl, rw e refl)

  -- new names are read exactly
  new_name : 0 < classes → Reads (Spelled (name_body table) (Tagged 1)) (new_at classes table)
  unfolding new_at
  new_name some =
      Reads-onto mine (λ p. num p.0 ++ num p.1) IsNew (name_body table) (Tagged 1)
      (both (num_beside (taken_whole classes table) 1 9223372036854775807) (λ serial.
      num_beside (taken_with serial table) 0 (classes - 1)))
      (Reads-both num (λ serial. num) (IsBeside (taken_whole classes table) 1 9223372036854775807)
      (λ serial. IsBeside (taken_with serial table) 0 (classes - 1))
      (num_beside (taken_whole classes table) 1 9223372036854775807)
      (λ serial. num_beside (taken_with serial table) 0 (classes - 1))
      (Reads-beside (taken_whole classes table) 1 9223372036854775807
      (some_serial classes table kept.recent.few) (omega arith))
      (λ serial h.
      Reads-beside (taken_with serial table) 0 (classes - 1)
      (class_left classes serial table h.beside) (omega arith)))
      (λ p h.
      let none = free_none p.0 p.1 table h.1.beside in
      let t = tag_mine p.0 p.1 none in
      let most = h.1.at_most in
      (t.1, (t.0, ((h.0.at_least, h.0.at_most), omega arith))))
      back
    where
      back : (y : Name) → Tagged 1 y → (p : ℕ × ℕ) × (mine p ≡ y) × IsNew p
      back (Mine serial class) h =
          let none =
          is_none (place_in (record { serial = serial; class = class }) table) refl h.0 in
          let free = none_free serial class.0 table none in
          let lt = h.1.1 in (
            (serial, class.0),
            refl,
            (
              record {
                at_least = h.1.0.0;
                at_most = h.1.0.1;
                beside =
                    serial_left classes serial class.0 table lt free;
              },
              record {
                at_least = omega arith;
                at_most = omega arith;
                beside = free;
              },
            ),
          )
        where
          is_none : (o : Option ℕ) → place_in (record { serial = serial; class = class }) table ≡ o
              → mine_tag (place_in (record { serial = serial; class = class }) table) ≡ 1
              → place_in (record { serial = serial; class = class }) table ≡ None
          is_none None e t = e
          is_none (Some k) e t =
              let four : mine_tag (place_in (record { serial = serial; class = class }) table) ≡ 4 =
              rw e refl in
              absurd cc
      back (Yours serial) h = let e = h.0 in absurd cc
      back (Lent oid class token) h = let e = h.0 in absurd cc

  -- so are the receiver's objects
  yours_name : Reads (Spelled (name_body table) (Tagged 2))
      (mapped (λ serial. Yours serial) serial_at)
  yours_name =
      Reads-onto (λ serial. Yours serial) num IsSerial (name_body table)
      (Tagged 2) serial_at Reads-serial (λ serial h. (refl, (refl, h))) back
    where
      back : (y : Name) → Tagged 2 y → (n : ℕ) × (Yours n ≡ y) × IsSerial n
      back (Yours serial) h = (serial, refl, h.1)
      back (Mine serial class) h =
          let e = h.0 in
          absurd (not_two (place_in (record { serial = serial; class = class }) table) e)
        where
          not_two : (o : Option ℕ) → mine_tag o ≡ 2 → ⊥
          not_two None e = absurd cc
          not_two (Some k) e = absurd cc
      back (Lent oid class token) h = let e = h.0 in absurd cc

  -- a port that is neither side, a serial, a class and a token
  abbrev IsLent : ℕ × (ℕ × (ℕ × ℕ)) → Type 0
  IsLent p = IsBeside (s.from ∷ s.to ∷ []) 1 65535 p.0
      × (IsSerial p.1.0 × (((0 ≤ p.1.1.0) × (p.1.1.0 ≤ classes - 1)) × IsSerial p.1.1.1))

  -- names that are lent are read exactly
  lent_name : 0 < classes → Reads (Spelled (name_body table) (Tagged 3)) (lent_at s)
  unfolding lent_at
  lent_name some =
      Reads-onto lent (λ p. num p.0 ++ (num p.1.0 ++ (num p.1.1.0 ++ num p.1.1.1))) IsLent
      (name_body table) (Tagged 3) (both (num_beside holes 1 65535) (λ node. others))
      (Reads-both num (λ node p. num p.0 ++ (num p.1.0 ++ num p.1.1)) (IsBeside holes 1 65535)
      (λ node p. IsSerial p.0 × (((0 ≤ p.1.0) × (p.1.0 ≤ classes - 1)) × IsSerial p.1.1))
      (num_beside holes 1 65535) (λ node. others)
      (Reads-beside holes 1 65535 (omega (arith, next_near holes 1)) (omega arith))
      (λ node h.
      Reads-both num (λ serial p. num p.0 ++ num p.1) IsSerial (λ serial p.
      ((0 ≤ p.0) × (p.0 ≤ classes - 1))
      × IsSerial p.1) serial_at (λ serial.
      both (num_at no_kind 0 (classes - 1)) (λ class. serial_at)) Reads-serial
      (λ serial h. Reads-both num (λ class. num) (λ n. (0 ≤ n)
      × (n ≤ classes - 1)) (λ class. IsSerial) (num_at no_kind 0 (classes - 1)) (λ class.
      serial_at) (Reads-number 0 (classes - 1) (omega arith) (omega arith)) (λ class h.
      Reads-serial))))
      (λ p h. let c = h.1.1.0.1 in (refl, (refl, (h.0, (h.1.0, (omega arith, h.1.1.1))))))
      back
    where
      holes : List ℕ
      holes = s.from ∷ s.to ∷ []

      others : Reader (Unit {0}) (ℕ × (ℕ × ℕ))
      others = both serial_at (λ serial. both (num_at no_kind 0 (classes - 1)) (λ class. serial_at))

      back : (y : Name) → Tagged 3 y → (p : ℕ × (ℕ × (ℕ × ℕ))) × (lent p ≡ y) × IsLent p
      back (Lent oid class token) h =
          let lt = h.1.1.1.0 in (
            (oid.node, (oid.serial, (class.0, token))),
            refl,
            (h.1.0, (h.1.1.0, ((omega arith, omega arith), h.1.1.1.1))),
          )
      back (Mine serial class) h =
          let e = h.0 in
          absurd (not_three (place_in (record { serial = serial; class = class }) table) e)
        where
          not_three : (o : Option ℕ) → mine_tag o ≡ 3 → ⊥
          not_three None e = absurd cc
          not_three (Some k) e = absurd cc
      back (Yours serial) h = let e = h.0 in absurd cc

  -- known names are read exactly, by their places
  known_name : 0 < length table
      → Reads (Spelled (name_body table) (Tagged 4))
      (mapped (mine_at table) (num_at no_kind 0 (length table - 1)))
  known_name some =
      Reads-onto (mine_at table) num (λ n. (0 ≤ n) × (n ≤ length table - 1)) (name_body table)
      (Tagged 4) (num_at no_kind 0 (length table - 1))
      (Reads-number 0 (length table - 1) (omega arith) (let f = kept.recent.few in omega arith))
      (λ k h.
      let most = h.1 in
      let place = got_place table k kept.recent.differ (omega arith) in
      (rw place refl, (rw place refl, known_at (IsKnown classes) table k kept.known (omega arith))))
      back
    where
      back : (y : Name) → Tagged 4 y
          → (k : ℕ) × (mine_at table k ≡ y) × ((0 ≤ k) × (k ≤ length table - 1))
      back (Mine serial class) h =
          go (place_in (record { serial = serial; class = class }) table) refl h.0
        where
          go : (o : Option ℕ) → place_in (record { serial = serial; class = class }) table ≡ o
              → mine_tag (place_in (record { serial = serial; class = class }) table) ≡ 4
              → (k : ℕ) × (mine_at table k ≡ Mine serial class) × ((0 ≤ k) × (k ≤ length table - 1))
          go None e t =
              let one : mine_tag (place_in (record { serial = serial; class = class }) table) ≡ 1 =
              rw e refl in
              absurd cc
          go (Some k) e t =
              let g = place_got (record { serial = serial; class = class }) table k e in
              let lt = g.0 in
              (k, ap mine_of g.1, (omega arith, omega arith))
      back (Yours serial) h = let e = h.0 in absurd cc
      back (Lent oid class token) h = let e = h.0 in absurd cc

  -- what follows a tag that passes is read exactly
  name_bodies : (b : ℕ) → begins_name classes table b ≡ true
      → Reads (Spelled (name_body table) (Tagged b)) (name_body_at s table b)
  name_bodies zero e = absurd (none_begins classes table e)
  name_bodies (suc zero) e = new_name (new_begins classes table e)
  name_bodies (suc (suc zero)) e = yours_name
  name_bodies (suc (suc (suc zero))) e = lent_name (lent_begins classes table e)
  name_bodies (suc (suc (suc (suc zero)))) e = known_name (known_begins classes table e)
  name_bodies (suc (suc (suc (suc (suc b))))) e =
      absurd (no_more_begins classes table (suc (suc (suc (suc (suc b))))) (omega arith) e)

  -- the tag of a name that fits passes
  tag_passes : (x : Name) → IsName s x → (begins_name classes table (name_tag table x) ≡ true)
      × (name_tag table x < 256)
  tag_passes (Mine serial class) h =
      go (place_in (record { serial = serial; class = class }) table) refl
    where
      go : (o : Option ℕ) → place_in (record { serial = serial; class = class }) table ≡ o
          → (begins_name classes table
          (mine_tag (place_in (record { serial = serial; class = class }) table)) ≡ true)
          × (mine_tag (place_in (record { serial = serial; class = class }) table) < 256)
      go None e = let lt = h.1 in rw e (begins_new classes table (omega arith), omega arith)
      go (Some k) e =
          let g = place_got (record { serial = serial; class = class }) table k e in
          let lt = g.0 in
          rw e (begins_known classes table (omega arith), omega arith)
  tag_passes (Yours serial) h = (begins_class classes table 2 refl, omega arith)
  tag_passes (Lent oid class token) h =
      let lt = h.1.1.0 in
      (begins_lent classes table (omega arith), omega arith)

  -- a name is read exactly by the table
  pub Reads-name : Reads (Spelled (name_spelling table) (IsName s)) (name_at s table)
  unfolding name_at
  Reads-name =
      Reads-tagged (name_tag table) (name_body table) (name_spelling table) (IsName s)
      (begins_name classes table) (name_body_at s table) (λ x. refl) tag_passes
      (record {
        byte = 2;
        small = omega arith;
        passes = begins_class classes table 2 refl;
      }) name_bodies

-- a name that fits keeps the table
pub kept_name : (s : Sides) (table : List Pair) (x : Name) → IsKept (s.classes) table → IsName s x
    → IsKept (s.classes) (after_name table x)
kept_name s table (Mine serial class) h fits =
    kept_pair (s.classes) table (record { serial = serial; class = class }) h fits
kept_name s table (Yours serial) h fits = h
kept_name s table (Lent oid class token) h fits = h

-- names that fit, by the table
abbrev pub AreNames : Sides → List Pair → List Name → Type 0
AreNames s table = FitsList 0 65536 (λ n. FitBy name_spelling (λ t. IsName s) after_name table)

-- the names of a packet are read exactly, each by the table that those before it leave
pub Reads-names : (s : Sides) (table : List Pair) → s.classes < 2 ^ 32 → IsKept (s.classes) table
    → Reads (Spelled (names_spelling table) (AreNames s table)) (names_at s table)
unfolding names_at
Reads-names s table few kept =
    Reads-list 0 65536 (spelling_by name_spelling after_name table) (λ n.
    FitBy name_spelling (λ t. IsName s) after_name table) (λ n.
    times_by (name_at s) after_name n table) (omega arith) (omega arith)
    (λ n least most.
    Reads-times_by name_spelling (λ t. IsName s) after_name (name_at s) (IsKept (s.classes))
    (λ t k. Reads-name s t few k) (λ t x k fits. kept_name s t x k fits) n table kept)
