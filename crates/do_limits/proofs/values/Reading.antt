-- A message that was read of a frame keeps the limits, and its parts can be spelled.
use Rattle.do_class.specs.declared.packet.Part.TheVariants as part
use Rattle.std.proofs.Common.{◌≡◌, ◌-◌, ℕ, ℤ, Bool, true, List as Listed, [], ◌∷◌, length, map}
use Rattle.std.{proofs.Common.{refl, sym, ap, ◌∙◌, rules, arith}, specs.Prelude.{Some, get_or}}
use Rattle.std.specs.Prelude.{nat_le, nat_lt, option_map, slice_get, suc, zero, ◌<◌, ◌≤◌}
use Rattle.std.{specs.List.{All, AllByRecursion, list_all}, proofs.lemmas.Bool.and_from}
use Rattle.std.proofs.lemmas.{Bool.and_parts, List.{length-map, Elements.All-from_recursion}}
use Rattle.do_class.specs.{Class.Class, declared.packet.{Copied.Copied, Name.Name, Packet.Packet}}
use Rattle.do_class.specs.declared.packet.Name.TheVariants.{Lent, Mine, Yours}
use Rattle.do_class.specs.declared.packet.Part.{List, Part, the_lemmas}
use Rattle.do_coder.specs.Packets.{IsCopied, IsPacket, most_copies, sides_of, slot_counts}
use Rattle.do_coder.specs.{Packets.surroundings, Names.IsName, Parts.{IsPart, part_fits}}
use Rattle.do_coder.proofs.values.PartFacts.{fits-Copy, fits-Named, fits-Num, fits-Text}
use Rattle.do_packet.specs.Limits.{HasPlaces, places_within}
use Rattle.do_limits.specs.Sendable.{AreSendableParts, CopyIsSendable, IsReadablePacket}
use Rattle.do_limits.{specs.Sendable.{NameIsSendable, can_spell}, proofs.values.Packing.spell-Copy}
use Rattle.do_limits.proofs.values.Packing.{spell-List, spell-Named, spell-Nil, spell-Num}
use Rattle.do_limits.proofs.values.{Packing.{spell-Text, tests}, Spelling.{fits-List, within-Copy}}
use Rattle.do_limits.proofs.values.{Spelling.{within-List, within-Named}, Unpacking.part_induction}

-- a class that has so many slots in the counts has them in the table
slots_counted : (table : Listed Class) (k count : ℕ) → k < length (slot_counts table) →
    get_or (slot_counts table) k 0 ≡ count → option_map (λ slots. length slots)
    (option_map (λ (c : Class). c.slots) (slice_get table k)) ≡ Some count
slots_counted [] k count lt e = absurd (omega (arith, lt))
slots_counted (c ∷ table) zero count lt e = ap Some e
slots_counted (c ∷ table) (suc k) count lt e = slots_counted table k count (omega (arith, lt)) e

-- no more objects are copied than a message may copy
copies_within : (counts : Listed ℕ) (many : ℕ) → many ≤ most_copies counts → many ≤ 4096
copies_within [] many h = omega (arith, h)
copies_within (n ∷ counts) many h = h

module _ (copies names : ℕ) where
  -- nil has no place
  within-Nil : places_within copies names part.Nil ≡ true
  within-Nil = search (rules, the_lemmas)

  -- nor has a number
  within-Num : (z : ℤ) → places_within copies names (part.Num z) ≡ true
  within-Num z = search (rules, the_lemmas)

  -- nor has a text
  within-Text : (t : Listed ℕ) → places_within copies names (part.Text t) ≡ true
  within-Text t = search (rules, the_lemmas)

  -- a part that fits can be spelled, and its places are there
  abbrev Reads : Part → Type 0
  Reads x = (depth : ℕ) → part_fits copies names x depth ≡ true →
      (can_spell x depth ≡ true) × (places_within copies names x ≡ true)

  -- the items of a list
  items_read : (depth : ℕ) (xs : Listed Part) → AllByRecursion Reads xs →
      list_all (λ (f : ℕ → Bool). f depth) (map (part_fits copies names) xs) ≡ true →
      (list_all (λ (f : ℕ → Bool). f depth) (map can_spell xs) ≡ true)
      × (list_all (λ b. b) (map (places_within copies names) xs) ≡ true)
  items_read depth [] h c = (refl, refl)
  items_read depth (x ∷ xs) h c =
      let cs = and_parts (part_fits copies names x depth) _ c in
      let one = h.0 depth cs.0 in
      let rest = items_read depth xs h.1 cs.1 in (
        and_from (can_spell x depth) _ one.0 rest.0,
        and_from (places_within copies names x) _ one.1 rest.1,
      )

  -- a list
  list_reads : (xs : Listed Part) → AllByRecursion Reads xs → Reads (List xs)
  list_reads xs h depth c =
      let same : length (map can_spell xs) ≡ length (map (part_fits copies names) xs) =
      length-map xs can_spell ∙ sym (length-map xs (part_fits copies names)) in
      let fits = sym (fits-List copies names depth xs) ∙ c in
      let inner = and_parts (nat_lt 0 depth) _ fits in
      let each = and_parts (nat_le (length (map (part_fits copies names) xs)) 1024) _ inner.1 in (
        spell-List depth xs
            ∙ tests (nat_lt 0 depth) (nat_le (length (map (part_fits copies names) xs)) 1024)
            (list_all (λ (f : ℕ → Bool). f (depth - 1)) (map (part_fits copies names) xs)) _ _
            fits (λ k. ap (λ n. nat_le n 1024) same ∙ k)
            (λ k. (items_read (depth - 1) xs h k).0),
        within-List copies names xs ∙ (items_read (depth - 1) xs h each.1).1,
      )

  -- each part
  part_reads : (x : Part) → Reads x
  part_reads =
      part_induction Reads
      (λ depth c. (spell-Nil depth, within-Nil))
      (λ z depth c.
      (spell-Num depth z ∙ sym (fits-Num copies names depth z) ∙ c, within-Num z))
      (λ t depth c.
      (spell-Text depth t ∙ sym (fits-Text copies names depth t) ∙ c, within-Text t))
      (λ k depth c.
      (spell-Copy depth k, within-Copy copies names k ∙ sym (fits-Copy copies names depth k) ∙ c))
      (λ k depth c. (
        spell-Named depth k,
        within-Named copies names k
            ∙ sym (fits-Named copies names depth k) ∙ c,
      ))
      list_reads

  -- parts one behind the other can be spelled
  parts_spelled : (xs : Listed Part) → AllByRecursion (IsPart copies names 8) xs →
      AreSendableParts xs
  parts_spelled [] h = tt
  parts_spelled (x ∷ xs) h = ((part_reads x 8 h.0).0, parts_spelled xs h.1)

  -- and their places are there
  parts_placed : (xs : Listed Part) → AllByRecursion (IsPart copies names 8) xs →
      AllByRecursion (λ x. places_within copies names x ≡ true) xs
  parts_placed [] h = tt
  parts_placed (x ∷ xs) h = ((part_reads x 8 h.0).1, parts_placed xs h.1)

  -- copies have the slots of their classes, which can be spelled
  copies_spelled : (table : Listed Class) (cs : Listed Copied) →
      AllByRecursion (IsCopied (slot_counts table) copies names) cs →
      AllByRecursion (CopyIsSendable table) cs
  copies_spelled table [] h = tt
  copies_spelled table (c ∷ cs) h = (
    record {
      slots = parts_spelled c.slots h.0.1.each;
      whole = slots_counted table c.class.0 (length c.slots) h.0.0
          (omega (arith, h.0.1.at_least, h.0.1.at_most));
    },
    copies_spelled table cs h.1,
  )

  -- and their places are there
  copies_placed : (counts : Listed ℕ) (cs : Listed Copied) →
      AllByRecursion (IsCopied counts copies names) cs →
      AllByRecursion (λ c. All (λ x. places_within copies names x ≡ true) c.slots) cs
  copies_placed counts [] h = tt
  copies_placed counts (c ∷ cs) h = (
    All-from_recursion (λ x. places_within copies names x ≡ true) c.slots
        (parts_placed c.slots h.0.1.each),
    copies_placed counts cs h.1,
  )

module _ (table : Listed Class) (from to : ℕ) where
  -- a class that can be read is of the table
  class_read : (k : ℕ) → k < length (slot_counts table) → k < length table
  class_read k h = omega (arith, h, length-map table (λ (c : Class). length c.slots))

  -- a name
  name_read : (x : Name) → IsName (sides_of (surroundings table from to)) x →
      NameIsSendable table from to x
  name_read (Mine serial class) h = (h.0.0, class_read class.0 h.1)
  name_read (Yours serial) h = h.0
  name_read (Lent o class token) h =
      (h.0, (h.1.0.0, (class_read class.0 h.1.1.0, h.1.1.1.0)))

  -- names
  names_read : (xs : Listed Name) →
      AllByRecursion (IsName (sides_of (surroundings table from to))) xs →
      AllByRecursion (NameIsSendable table from to) xs
  names_read [] h = tt
  names_read (x ∷ xs) h = (name_read x h.0, names_read xs h.1)

  -- a message
  pub packet_read : (p : Packet) → IsPacket (surroundings table from to) p →
      IsReadablePacket table from to p
  packet_read p h =
      let copies = length p.copies in
      let names = length p.names in
      record {
        limits = record {
          copies = copies_within (slot_counts table) copies h.copies.at_most;
          names = h.names.at_most;
          values = All-from_recursion (HasPlaces p) p.values
              (parts_placed copies names p.values h.values.each);
          slots = All-from_recursion (λ c. All (HasPlaces p) c.slots) p.copies
              (copies_placed copies names (slot_counts table) p.copies h.copies.each);
        };
        names = names_read p.names h.names.each;
        few = h.values.at_most;
        values = parts_spelled copies names p.values h.values.each;
        slots = copies_spelled copies names table p.copies h.copies.each;
      }
