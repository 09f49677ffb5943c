-- Packets are read exactly, by a table of recent names.
use Rattle.std.proofs.Common.{ℕ, ◌-◌, ◌<◌, ◌≤◌, ◌^◌, List, [], ◌∷◌, ◌++◌, length, refl, arith}
use Rattle.std.specs.List.{flat_map, fold, AllByRecursion}
use Rattle.do_class.specs.declared.packet.{Name.Name, Part.Part, Copied.Copied}
use Rattle.do_grammar.specs.{Reader.{Reader, no_kind, times}, Num.{num, num_at}}
use Rattle.do_grammar.proofs.reads.ExactReader.{Reads, Reads-as}
use Rattle.do_grammar.specs.OneSpelling.{Spelled, both, list_at, list_spelling, FitsList}
use Rattle.do_coder.specs.{declared.recent.pair.Pair.Pair, Recent.after_name}
use Rattle.do_coder.specs.Names.{IsName, name_spelling, names_spelling, names_at}
use Rattle.do_coder.specs.Parts.{part_spelling, IsPart, part_at}
use Rattle.do_coder.specs.Packets.{Surroundings, sides_of, copied_spelling, packet_spelling}
use Rattle.do_coder.specs.Packets.{slots_of, IsCopied, most_copies, IsPacket, SpellsPacket, copied}
use Rattle.do_coder.specs.Packets.{copy_at, copies_at, values_at, packet, packet_at}
use Rattle.do_grammar.proofs.reads.OneSpellingExact.{Reads-both, Reads-onto, Reads-number}
use Rattle.do_grammar.proofs.reads.OneSpellingExact.{Reads-many, Reads-list, FitBy}
use Rattle.do_coder.proofs.{tables.TableLaws.IsKept, names.NamesExact.{AreNames, Reads-names}}
use Rattle.do_coder.proofs.{names.NamesExact.kept_name, values.PartsExact.Reads-part}

-- names that fit, without the table
abbrev pub HasNames : Surroundings → List Name → Type 0
HasNames s = FitsList 0 65536 (λ n. AllByRecursion (IsName (sides_of s)))

module _ (s : Surroundings) where
  -- names that fit do so by each table
  by_table : (table : List Pair) (xs : List Name) → AllByRecursion (IsName (sides_of s)) xs
      → FitBy name_spelling (λ t. IsName (sides_of s)) after_name table xs
  by_table table [] h = tt
  by_table table (x ∷ xs) h = (h.0, by_table (after_name table x) xs h.1)

  -- and names that fit by their tables fit
  without : (table : List Pair) (xs : List Name)
      → FitBy name_spelling (λ t. IsName (sides_of s)) after_name table xs
      → AllByRecursion (IsName (sides_of s)) xs
  without table [] h = tt
  without table (x ∷ xs) h = (h.0, without (after_name table x) xs h.1)

  -- names keep the table
  pub kept_names : (table : List Pair) (xs : List Name) → AllByRecursion (IsName (sides_of s)) xs
      → IsKept (length s.slots) table → IsKept (length s.slots) (fold after_name table xs)
  kept_names table [] h kept = kept
  kept_names table (x ∷ xs) h kept =
      kept_names (after_name table x) xs h.1 (kept_name (sides_of s) table x kept h.0)

module _ (s : Surroundings) (few : length s.slots < 2 ^ 32) (small : (k : ℕ)
    → slots_of s.slots k < 2 ^ 64) where
  -- the names of a packet are read exactly
  has_names : (table : List Pair) → IsKept (length s.slots) table
      → Reads (Spelled (names_spelling table) (HasNames s)) (names_at (sides_of s) table)
  has_names table kept =
      Reads-as (Spelled (names_spelling table) (AreNames (sides_of s) table))
      (Spelled (names_spelling table) (HasNames s)) (names_at (sides_of s) table)
      (names_at (sides_of s) table)
      (λ text xs g. record {
        bytes = g.bytes;
        fits = record {
          at_least = g.fits.at_least;
          at_most = g.fits.at_most;
          each = without s table xs g.fits.each;
        };
      })
      (λ text xs g. record {
        bytes = g.bytes;
        fits = record {
          at_least = g.fits.at_least;
          at_most = g.fits.at_most;
          each = by_table s table xs g.fits.each;
        };
      })
      (λ bytes. refl) (Reads-names (sides_of s) table few kept)

  module _ (copies names : ℕ) (few_copies : copies < 2 ^ 64) (few_names : names < 2 ^ 64) where
    -- as many slots as the class has, each with a value that fits
    abbrev AreSlots : ℕ → List Part → Type 0
    AreSlots class =
        FitsList (slots_of s.slots class) (slots_of s.slots class) (λ n.
        AllByRecursion (IsPart copies names 8))

    -- a class and the slots that it has
    abbrev IsPlainCopy : ℕ × List Part → Type 0
    IsPlainCopy p = ((0 ≤ p.0) × (p.0 ≤ length s.slots - 1)) × AreSlots p.0 p.1

    -- a copied object is read exactly
    Reads-copied : 0 < length s.slots
        → Reads (Spelled copied_spelling (IsCopied s.slots copies names))
        (copy_at s.slots copies names)
    unfolding copy_at
    Reads-copied some =
        Reads-onto copied (λ p. num p.0 ++ list_spelling (flat_map part_spelling) p.1) IsPlainCopy
        copied_spelling (IsCopied s.slots copies names)
        (both (num_at no_kind 0 (length s.slots - 1)) slots_at)
        (Reads-both num (λ class. list_spelling (flat_map part_spelling)) (λ n. (0 ≤ n)
        × (n ≤ length s.slots - 1)) AreSlots (num_at no_kind 0 (length s.slots - 1)) slots_at
        (Reads-number 0 (length s.slots - 1) (omega arith) (omega arith))
        (λ class h.
        Reads-list (slots_of s.slots class) (slots_of s.slots class) (flat_map part_spelling)
        (λ n. AllByRecursion (IsPart copies names 8)) (times (part_at copies names 8))
        (omega arith) (small class)
        (λ n least most.
        Reads-many part_spelling (IsPart copies names 8) (part_at copies names 8) n (λ any.
        Reads-part copies names few_copies few_names 8))))
        (λ p h. let most = h.0.1 in (refl, (omega arith, h.1)))
        (λ c h. let lt = h.0 in ((c.class.0, c.slots), refl, ((omega arith, omega arith), h.1)))
      where
        slots_at : ℕ → Reader (Unit {0}) (List Part)
        slots_at =
            λ class.
            list_at (slots_of s.slots class) (slots_of s.slots class)
            (times (part_at copies names 8))

  -- there are at most 4,096 copies
  most_small : (slots : List ℕ) → most_copies slots ≤ 4096
  most_small [] = omega arith
  most_small (n ∷ slots) = omega arith

  -- where a copy may be there is a class
  some_class : (slots : List ℕ) (n : ℕ) → 0 < n → n ≤ most_copies slots → 0 < length slots
  some_class [] n lt le = omega arith
  some_class (m ∷ slots) n lt le = omega arith

  -- the copies of a packet are read exactly
  Reads-copies : (names : ℕ) → names < 2 ^ 64
      → Reads (Spelled (list_spelling (flat_map copied_spelling))
      (FitsList 0 (most_copies s.slots) (λ n. AllByRecursion (IsCopied s.slots n names))))
      (copies_at s.slots names)
  unfolding copies_at
  Reads-copies names few_names =
      Reads-list 0 (most_copies s.slots) (flat_map copied_spelling) (λ n.
      AllByRecursion (IsCopied s.slots n names)) (λ n. times (copy_at s.slots n names) n)
      (omega arith) (omega (arith, most_small s.slots))
      (λ n least most.
      Reads-many copied_spelling (IsCopied s.slots n names) (copy_at s.slots n names) n
      (λ any. Reads-copied n names (omega (arith, most_small s.slots)) few_names
      (some_class s.slots n any most)))

  -- the values of a packet are read exactly
  Reads-values : (copies names : ℕ) → copies < 2 ^ 64 → names < 2 ^ 64
      → Reads (Spelled (list_spelling (flat_map part_spelling))
      (FitsList 0 9 (λ n. AllByRecursion (IsPart copies names 8)))) (values_at copies names)
  unfolding values_at
  Reads-values copies names few_copies few_names =
      Reads-list 0 9 (flat_map part_spelling) (λ n. AllByRecursion (IsPart copies names 8))
      (times (part_at copies names 8)) (omega arith) (omega arith)
      (λ n least most.
      Reads-many part_spelling (IsPart copies names 8) (part_at copies names 8) n (λ any.
      Reads-part copies names few_copies few_names 8))

  -- a packet is read exactly
  pub Reads-packet : (table : List Pair) → IsKept (length s.slots) table
      → Reads (SpellsPacket s table) (packet_at s table)
  unfolding packet_at
  Reads-packet table kept =
      Reads-onto packet (λ p. names_spelling table p.0 ++ rest_spelling p.1) (λ p. HasNames s p.0
      × HasRest p.0 p.1) (packet_spelling table) (IsPacket s)
      (both (names_at (sides_of s) table) (λ names. rest_at (length names)))
      (Reads-both (names_spelling table) (λ names. rest_spelling) (HasNames s) HasRest
      (names_at (sides_of s) table) (λ names. rest_at (length names)) (has_names table kept)
      (λ names h.
      let most = h.at_most in
      Reads-both (list_spelling (flat_map copied_spelling)) (λ copies.
      list_spelling (flat_map part_spelling)) (HasCopies names) (HasValues names)
      (copies_at s.slots (length names)) (λ copies. values_at (length copies) (length names))
      (Reads-copies (length names) (omega arith))
      (λ copies g. let few_copies = g.at_most in
      Reads-values (length copies) (length names) (omega (arith, most_small s.slots))
      (omega arith))))
      (λ p h. (refl, record { names = h.0; copies = h.1.0; values = h.1.1 }))
      (λ p h. ((p.names, (p.copies, p.values)), refl, (h.names, (h.copies, h.values))))
    where
      rest_spelling : List Copied × List Part → List ℕ
      rest_spelling =
          λ p. list_spelling (flat_map copied_spelling) p.0
          ++ list_spelling (flat_map part_spelling) p.1

      HasCopies : List Name → List Copied → Type 0
      HasCopies =
          λ names.
          FitsList 0 (most_copies s.slots) (λ n. AllByRecursion (IsCopied s.slots n (length names)))

      HasValues : List Name → List Copied → List Part → Type 0
      HasValues =
          λ names copies.
          FitsList 0 9 (λ n. AllByRecursion (IsPart (length copies) (length names) 8))

      HasRest : List Name → List Copied × List Part → Type 0
      HasRest = λ names p. HasCopies names p.0 × HasValues names p.0 p.1

      rest_at : ℕ → Reader (Unit {0}) (List Copied × List Part)
      rest_at = λ n. both (copies_at s.slots n) (λ copies. values_at (length copies) n)
