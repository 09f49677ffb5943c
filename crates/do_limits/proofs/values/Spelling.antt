-- A part of a message has a spelling where its places are there.
use Rattle.std.proofs.Common.{◌≡◌, ◌-◌, ℕ, Bool, true, List as Listed, [], ◌∷◌, ◌&&◌, length, map}
use Rattle.std.{proofs.Common.{refl, sym, ap, ◌∙◌, rules, arith}, specs.Prelude.{Some, get_or}}
use Rattle.std.specs.Prelude.{nat_le, nat_lt, option_map, slice_get, suc, zero, ◌<◌, ◌≤◌}
use Rattle.std.{specs.List.{All, AllByRecursion, list_all}, proofs.lemmas.Bool.and_from}
use Rattle.std.proofs.lemmas.{Bool.and_parts, List.{length-map, Elements.recursion_from_All}}
use Rattle.do_class.specs.{Class.Class, declared.packet.{Copied.Copied, Packet.Packet}}
use Rattle.do_class.specs.declared.packet.Part.{List, Part, the_lemmas, TheVariants.{Copy, Named}}
use Rattle.do_grammar.specs.OneSpelling.{FitsList}
use Rattle.do_coder.specs.{Packets.{IsCopied, most_copies, slot_counts}, Parts.{IsPart, part_fits}}
use Rattle.do_coder.proofs.values.PartFacts.{fits-Copy, fits-Named, fits-Nil, fits-Num, fits-Text}
use Rattle.do_packet.specs.Limits.{HasPlaces, places_within}
use Rattle.do_limits.specs.Sendable.{AreSendableParts, CopyIsSendable, IsReadablePacket, can_spell}
use Rattle.do_limits.proofs.values.Packing.{spell-List, spell-Num, spell-Text, tests}
use Rattle.do_limits.proofs.values.Unpacking.{part_induction}

-- there is a class of the table where a class has slots
some_class : (table : Listed Class) (k count : ℕ) → option_map (λ slots. length slots)
    (option_map (λ (c : Class). c.slots) (slice_get table k)) ≡ Some count →
    (k < length (slot_counts table)) × (get_or (slot_counts table) k 0 ≡ count)
some_class [] k count e = absurd (cc (e))
some_class (c ∷ table) zero count e = (omega arith, cc (e))
some_class (c ∷ table) (suc k) count e =
    let h = some_class table k count e in (omega (arith, h.0), h.1)

module _ (copies names : ℕ) where
  -- a list of parts fits by its items
  pub fits-List : (depth : ℕ) (xs : Listed Part) → part_fits copies names (List xs) depth
      ≡ (nat_lt 0 depth && (nat_le (length (map (part_fits copies names) xs)) 1024 && list_all
      (λ (f : ℕ → Bool). f (depth - 1)) (map (part_fits copies names) xs)))
  fits-List depth xs = search (rules, the_lemmas)

  -- the place of a copy
  pub within-Copy : (k : ℕ) → places_within copies names (Copy k) ≡ nat_lt k copies
  within-Copy k = search (rules, the_lemmas)

  -- the place of a name
  pub within-Named : (k : ℕ) → places_within copies names (Named k) ≡ nat_lt k names
  within-Named k = search (rules, the_lemmas)

  -- the places in a list
  pub within-List : (xs : Listed Part) →
      places_within copies names (List xs) ≡ list_all (λ b. b) (map (places_within copies names) xs)
  within-List xs = search (rules, the_lemmas)

  -- a part fits where it can be spelled and its places are there
  abbrev Fits : Part → Type 0
  Fits x = (depth : ℕ) → can_spell x depth ≡ true → places_within copies names x ≡ true →
      part_fits copies names x depth ≡ true

  -- the items of a list
  items_fit : (depth : ℕ) (xs : Listed Part) → AllByRecursion Fits xs →
      list_all (λ b. b) (map (places_within copies names) xs) ≡ true →
      list_all (λ (f : ℕ → Bool). f depth) (map can_spell xs) ≡ true →
      list_all (λ (f : ℕ → Bool). f depth) (map (part_fits copies names) xs) ≡ true
  items_fit depth [] h p c = refl
  items_fit depth (x ∷ xs) h p c =
      let ps = and_parts (places_within copies names x) _ p in
      let cs = and_parts (can_spell x depth) _ c in
      and_from (part_fits copies names x depth) _ (h.0 depth cs.0 ps.0)
      (items_fit depth xs h.1 ps.1 cs.1)

  -- a list
  list_fits : (xs : Listed Part) → AllByRecursion Fits xs → Fits (List xs)
  list_fits xs h depth c p =
      let same : length (map (part_fits copies names) xs) ≡ length (map can_spell xs) =
      length-map xs (part_fits copies names) ∙ sym (length-map xs can_spell) in
      fits-List depth xs
      ∙ tests (nat_lt 0 depth) (nat_le (length (map can_spell xs)) 1024)
      (list_all (λ (f : ℕ → Bool). f (depth - 1)) (map can_spell xs)) _ _
      (sym (spell-List depth xs) ∙ c) (λ k. ap (λ n. nat_le n 1024) same ∙ k)
      (items_fit (depth - 1) xs h (sym (within-List xs) ∙ p))

  -- each part
  part_fits_there : (x : Part) → Fits x
  part_fits_there =
      part_induction Fits
      (λ depth c p. fits-Nil copies names depth)
      (λ z depth c p. fits-Num copies names depth z ∙ sym (spell-Num depth z) ∙ c)
      (λ t depth c p. fits-Text copies names depth t ∙ sym (spell-Text depth t) ∙ c)
      (λ k depth c p. fits-Copy copies names depth k ∙ sym (within-Copy k) ∙ p)
      (λ k depth c p. fits-Named copies names depth k ∙ sym (within-Named k) ∙ p)
      list_fits

  -- parts one behind the other
  parts_fit : (xs : Listed Part) → AreSendableParts xs →
      AllByRecursion (λ x. places_within copies names x ≡ true) xs →
      AllByRecursion (IsPart copies names 8) xs
  parts_fit [] h p = tt
  parts_fit (x ∷ xs) h p = (part_fits_there x 8 h.0 p.0, parts_fit xs h.1 p.1)

  -- copies, of as many slots as their classes have
  copies_fit : (table : Listed Class) (cs : Listed Copied) →
      AllByRecursion (CopyIsSendable table) cs →
      AllByRecursion (λ c. All (λ x. places_within copies names x ≡ true) c.slots) cs →
      AllByRecursion (IsCopied (slot_counts table) copies names) cs
  copies_fit table [] h p = tt
  copies_fit table (c ∷ cs) h p =
      let at = some_class table c.class.0 (length c.slots) h.0.whole in (
        (
          at.0,
          record {
            at_least = omega (arith, at.1);
            at_most = omega (arith, at.1);
            each = parts_fit c.slots h.0.slots
                (recursion_from_All (λ x. places_within copies names x ≡ true) c.slots p.0);
          },
        ),
        copies_fit table cs h.1 p.1,
      )

-- no more objects are copied than there may be where a class is there
copies_few : (table : Listed Class) (cs : Listed Copied) → length cs ≤ 4096 →
    AllByRecursion (CopyIsSendable table) cs → length cs ≤ most_copies (slot_counts table)
copies_few [] [] few h = omega arith
copies_few [] (c ∷ cs) few h = absurd (cc (h.0.whole))
copies_few (k ∷ table) cs few h = few

-- The copies and the values of a message have a spelling for a reader of the same classes
pub record HasSpelledParts (table : Listed Class) (p : Packet) : Type 0 where
  pub copies : FitsList 0 (most_copies (slot_counts table)) (λ n.
      AllByRecursion (IsCopied (slot_counts table) n (length p.names))) p.copies
  pub values : FitsList 0 9 (λ n.
      AllByRecursion (IsPart (length p.copies) (length p.names) 8)) p.values

-- a message has a spelling but for its names
pub message_spelled : (table : Listed Class) (from to : ℕ) (p : Packet) →
    IsReadablePacket table from to p → HasSpelledParts table p
message_spelled table from to p h = record {
  copies = record {
    at_least = omega arith;
    at_most = copies_few table p.copies h.limits.copies h.slots;
    each = copies_fit (length p.copies) (length p.names) table p.copies h.slots
        (recursion_from_All (λ c. All (HasPlaces p) c.slots) p.copies h.limits.slots);
  };
  values = record {
    at_least = omega arith;
    at_most = h.few;
    each = parts_fit (length p.copies) (length p.names) p.values h.values
        (recursion_from_All (HasPlaces p) p.values h.limits.values);
  };
}
