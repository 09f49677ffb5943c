-- A packed message keeps the limits, and its places are there.
use Rattle.do_class.specs.declared.packet.Part.TheVariants as part
use Rattle.std.proofs.Common.{◌≡◌, ℕ, ℤ, ◌+◌, ◌*◌, ◌≤◌, suc, Bool, true, false, cond}
use Rattle.std.proofs.Common.{List as Listed, [], ◌∷◌, ◌++◌, Ok, filter, length, map, sum_by, refl}
use Rattle.std.proofs.Common.{sym, ap, ◌∙◌, subst, arith, rules, length-append, nat_lt}
use Rattle.std.specs.List.{All, AllByRecursion, flat_map, list_all, sum, zip}
use Rattle.std.proofs.lemmas.{Grind.flat_map-append, List.{length-map, Elements.All-from_recursion}}
use Rattle.std.proofs.lemmas.List.Sums.{sum-map, sum_by-cons}
use Rattle.do_base.specs.{names.Names.ObjectName, values.Induction.value_induction}
use Rattle.do_base.specs.values.Values.{objects_of, weight_of}
use Rattle.do_base.specs.declared.values.value.Value.{Value, List, the_lemmas, TheVariants.Obj}
use Rattle.do_class.specs.declared.packet.Packet.{Packet}
use Rattle.do_class.specs.declared.packet.Part.{Part, List as Parts, the_lemmas as part_lemmas}
use Rattle.do_packet.specs.Copies.{Placed, contents, copied_at, copies_of, named_at, names_with}
use Rattle.do_packet.specs.{Copies.{marks, slot_values, slots_at}, Limits.{HasPlaces, KeepsLimits}}
use Rattle.do_packet.specs.{Limits.places_within, Met.{copied_in, is_copied, is_named, met}}
use Rattle.do_packet.specs.Met.{met_one, named_in, role_of, has_object, place}
use Rattle.do_packet.specs.Packing.{copied_of, message_weight, packed, packet_with, part_at}
use Rattle.do_packet.specs.{Parts.{object_part, part_of}, Seen.Sender, declared.role.Role.Role}
use Rattle.do_packet.specs.declared.role.Role.TheVariants.{Absent, Copied, Named}
use Rattle.do_packet.proofs.Covers.{Covers, covers_left, covers_right, place_lt}
use Rattle.do_packet.proofs.{Following.lt_true, Meanings.names_count}
use Rattle.do_packet.proofs.Packed.{IsPackedAs, packed_as}
use Rattle.do_packet.proofs.Values.{copied_in-List, named_in-List, objects_of-List, objects_of-Nil}
use Rattle.do_packet.proofs.Values.{objects_of-Num, objects_of-Obj, objects_of-Text, part_of-List}
use Rattle.do_packet.proofs.Values.{part_of-Nil, part_of-Num, part_of-Obj, part_of-Text}

-- ---- how many names there are

-- the objects that pass a test are no more than all
filter_le : (p : ObjectName → Bool) (os : Listed ObjectName) → length (filter p os) ≤ length os
filter_le p [] = omega arith
filter_le p (o ∷ os) = go (p o) (filter_le p os)
  where
    go : (b : Bool) → length (filter p os) ≤ length os →
        length (cond b (o ∷ filter p os) (filter p os)) ≤ suc (length os)
    go true h = omega arith
    go false h = omega arith

-- the objects met are no more than those that were there and those that were met
pub met_le : (os more : Listed ObjectName) → length (met os more) ≤ length os + length more
met_le os [] = omega arith
met_le os (o ∷ more) =
    let one = go (has_object os o) in
    omega (arith, met_le (met_one os o) more, one)
  where
    go : (b : Bool) → length (cond b os (os ++ o ∷ [])) ≤ length os + 1
    go true = omega arith
    go false = omega (arith, length-append os (o ∷ []))

-- an object weighs 48
pub weight_of-Obj : (o : ObjectName) → weight_of (Obj o) ≡ 48
weight_of-Obj o = search (rules, the_lemmas)

-- a list weighs at least what its items weigh
pub weight_of-List : (vs : Listed Value) → weight_of (List vs) ≡ 16 + sum_by weight_of vs
weight_of-List vs =
    let e : weight_of (List vs) ≡ 16 + sum (map weight_of vs) = search (rules, the_lemmas) in
    e ∙ ap (λ n. 16 + n) (sum-map weight_of vs)

-- a value weighs at least 48 for each of its objects
abbrev Weighs : Value → Type 0
Weighs v = 48 * length (objects_of v) ≤ weight_of v

-- the items of a list do together
each_weighs : (vs : Listed Value) → AllByRecursion Weighs vs →
    48 * length (flat_map (λ os. os) (map objects_of vs)) ≤ sum_by weight_of vs
each_weighs [] h = omega arith
each_weighs (v ∷ vs) h =
    let rest = flat_map (λ os. os) (map objects_of vs) in
    omega (
      arith,
      h.0,
      each_weighs vs h.1,
      length-append (objects_of v) rest,
      sum_by-cons weight_of v vs,
    )

-- each value does
weighs : (v : Value) → Weighs v
weighs =
    value_induction Weighs
    (omega (arith, ap length objects_of-Nil))
    (λ z. omega (arith, ap length (objects_of-Num z)))
    (λ t. omega (arith, ap length (objects_of-Text t)))
    (λ o. omega (arith, ap length (objects_of-Obj o), weight_of-Obj o))
    (λ vs h.
    omega (arith, ap length (objects_of-List vs), weight_of-List vs, each_weighs vs h))

module _ (s : Sender) where
  -- the named objects at places weigh no more than the values there
  named_weigh : (ps : Listed Placed) →
      48 * length (flat_map (named_at s) ps) ≤ sum_by (λ p. weight_of p.1) ps
  named_weigh [] = omega arith
  named_weigh (p ∷ ps) =
      let test = λ (o : ObjectName). is_named (role_of s.seen s.node p.0 o) in
      omega (
        arith,
        weighs p.1,
        filter_le test (objects_of p.1),
        named_weigh ps,
        length-append (named_at s p) (flat_map (named_at s) ps),
        sum_by-cons (λ (q : Placed). weight_of q.1) p ps,
      )

  -- values with places weigh no more than the values
  pub zip_weighs : (ms : Listed Bool) (vs : Listed Value) →
      sum_by (λ p. weight_of p.1) (zip ms vs) ≤ sum_by weight_of vs
  zip_weighs [] vs = omega arith
  zip_weighs (m ∷ ms) [] = omega arith
  zip_weighs (m ∷ ms) (v ∷ vs) =
      omega (
        arith,
        zip_weighs ms vs,
        sum_by-cons weight_of v vs,
        sum_by-cons (λ (q : Placed). weight_of q.1) (m, v) (zip ms vs),
      )

  -- what a copy weighs
  abbrev copy_weight : ObjectName → ℕ
  copy_weight o = 16 + sum_by weight_of (slot_values s o)

  -- the named objects in the slots of copies weigh no more than the copies
  slots_weigh : (os : Listed ObjectName) →
      48 * length (flat_map (named_at s) (flat_map (slots_at s) os)) ≤ sum_by copy_weight os
  slots_weigh [] = omega arith
  slots_weigh (o ∷ os) =
      let here = slots_at s o in
      let rest = flat_map (slots_at s) os in
      omega (
        arith,
        slots_weigh os,
        named_weigh here,
        zip_weighs (marks s.table (s.seen.class_of o))
            (slot_values s o),
        ap length (flat_map-append (named_at s) here rest),
        length-append (flat_map (named_at s) here) (flat_map (named_at s) rest),
        sum_by-cons copy_weight o os,
      )

  -- the names of a message weigh no more than the message
  names_weigh : (values : Listed Placed) (copies : Listed ObjectName) →
      48 * length (names_with s values copies) ≤ message_weight s values copies
  names_weigh values copies =
      let slots = flat_map (slots_at s) copies in
      omega (
        arith,
        named_weigh values,
        slots_weigh copies,
        met_le [] (flat_map (named_at s) (contents s values copies)),
        ap length (flat_map-append (named_at s) values slots),
        length-append (flat_map (named_at s) values) (flat_map (named_at s) slots),
      )

-- ---- places

module _ (copies names : ℕ) where
  -- nil has no place
  within-Nil : places_within copies names part.Nil ≡ true
  within-Nil = search (rules, part_lemmas)

  -- a number has none
  within-Num : (n : ℤ) → places_within copies names (part.Num n) ≡ true
  within-Num n = search (rules, part_lemmas)

  -- a text has none
  within-Text : (t : Listed ℕ) → places_within copies names (part.Text t) ≡ true
  within-Text t = search (rules, part_lemmas)

  -- a copy has its own
  within-Copy : (k : ℕ) →
      places_within copies names (part.Copy k) ≡ nat_lt k copies
  within-Copy k = search (rules, part_lemmas)

  -- a name has its own
  within-Named : (k : ℕ) →
      places_within copies names (part.Named k) ≡ nat_lt k names
  within-Named k = search (rules, part_lemmas)

  -- a list has those of its items
  within-List : (ps : Listed Part) →
      places_within copies names (Parts ps)
      ≡ list_all (λ b. b) (map (places_within copies names) ps)
  within-List ps = search (rules, part_lemmas)

module _ (s : Sender) (C N : Listed ObjectName) (copies names : ℕ) (cl : copies ≡ length C)
    (nl : names ≡ length N) where
  module _ (copy : Bool) where
    -- the part of a value whose objects stand in the message has places that are there
    abbrev Within : Value → Type 0
    Within v = Covers C (copied_in s.seen s.node copy v) →
        Covers N (named_in s.seen s.node copy v) →
        places_within copies names (part_of s.seen s.node copy C N v) ≡ true

    -- so has that of an object
    object_within : (o : ObjectName) (role : Role) →
        Covers C (cond (is_copied role) (o ∷ []) []) →
        Covers N (cond (is_named role) (o ∷ []) []) →
        places_within copies names (object_part role C N o) ≡ true
    object_within o Copied c n =
        within-Copy copies names (place C o)
        ∙ rw cl (lt_true (place C o) (length C) (place_lt C o c.0))
    object_within o Named c n =
        within-Named copies names (place N o)
        ∙ rw nl (lt_true (place N o) (length N) (place_lt N o n.0))
    object_within o Absent c n = within-Nil copies names

    -- so have those of the items of a list
    each_within : (vs : Listed Value) → AllByRecursion Within vs →
        Covers C (flat_map (copied_in s.seen s.node copy) vs) →
        Covers N (flat_map (named_in s.seen s.node copy) vs) →
        list_all (λ b. b)
        (map (places_within copies names) (map (part_of s.seen s.node copy C N) vs)) ≡ true
    each_within [] h c n = refl
    each_within (v ∷ vs) h c n =
        let cs = copied_in s.seen s.node copy v in
        let ns = named_in s.seen s.node copy v in
        let cr = flat_map (copied_in s.seen s.node copy) vs in
        let nr = flat_map (named_in s.seen s.node copy) vs in
        let a = h.0 (covers_left C cs cr c) (covers_left N ns nr n) in
        let b = each_within vs h.1 (covers_right C cs cr c) (covers_right N ns nr n) in
        rw (a, b) refl

    -- so has that of each value
    value_within : (v : Value) → Within v
    value_within =
        value_induction Within
        (λ c n.
        ap (places_within copies names) (part_of-Nil s.seen s.node copy C N)
        ∙ within-Nil copies names)
        (λ z c n.
        ap (places_within copies names) (part_of-Num s.seen s.node copy C N z)
        ∙ within-Num copies names z)
        (λ t c n.
        ap (places_within copies names) (part_of-Text s.seen s.node copy C N t)
        ∙ within-Text copies names t)
        (λ o c n.
        let role = role_of s.seen s.node copy o in
        let co : copied_in s.seen s.node copy (Obj o) ≡ cond (is_copied role) (o ∷ []) [] =
        rw objects_of-Obj refl in
        let no : named_in s.seen s.node copy (Obj o) ≡ cond (is_named role) (o ∷ []) [] =
        rw objects_of-Obj refl in
        ap (places_within copies names) (part_of-Obj s.seen s.node copy C N o)
        ∙ object_within o role
        (subst (λ (l : Listed ObjectName). Covers C l) co c)
        (subst (λ (l : Listed ObjectName). Covers N l) no n))
        (λ vs h c n.
        ap (places_within copies names) (part_of-List s.seen s.node copy C N vs)
        ∙ within-List copies names (map (part_of s.seen s.node copy C N) vs)
        ∙ each_within vs h
        (subst (λ (l : Listed ObjectName). Covers C l) (copied_in-List s.seen s.node copy vs) c)
        (subst (λ (l : Listed ObjectName). Covers N l) (named_in-List s.seen s.node copy vs) n))

  -- so have those of values at places
  placed_within : (ps : Listed Placed) → Covers C (flat_map (copied_at s) ps) →
      Covers N (flat_map (named_at s) ps) →
      AllByRecursion (λ q. places_within copies names q ≡ true) (map (part_at s C N) ps)
  placed_within [] c n = tt
  placed_within (p ∷ ps) c n =
      let cs = copied_at s p in
      let ns = named_at s p in
      let cr = flat_map (copied_at s) ps in
      let nr = flat_map (named_at s) ps in (
        value_within p.0 p.1 (covers_left C cs cr c) (covers_left N ns nr n),
        placed_within ps (covers_right C cs cr c) (covers_right N ns nr n),
      )

  -- so have those of the slots of copies
  objects_within : (os : Listed ObjectName) →
      Covers C (flat_map (copied_at s) (flat_map (slots_at s) os)) →
      Covers N (flat_map (named_at s) (flat_map (slots_at s) os)) →
      AllByRecursion (λ c. All (λ q. places_within copies names q ≡ true) c.slots)
      (map (copied_of s C N) os)
  objects_within [] c n = tt
  objects_within (o ∷ os) c n =
      let here = slots_at s o in
      let rest = flat_map (slots_at s) os in
      let c1 =
      subst (λ (l : Listed ObjectName). Covers C l) (flat_map-append (copied_at s) here rest) c in
      let n1 =
      subst (λ (l : Listed ObjectName). Covers N l) (flat_map-append (named_at s) here rest) n in
      let cs = flat_map (copied_at s) here in
      let ns = flat_map (named_at s) here in
      let cr = flat_map (copied_at s) rest in
      let nr = flat_map (named_at s) rest in (
        All-from_recursion (λ q. places_within copies names q ≡ true) (map (part_at s C N) here)
            (placed_within here (covers_left C cs cr c1) (covers_left N ns nr n1)),
        objects_within os (covers_right C cs cr c1) (covers_right N ns nr n1),
      )

-- ---- the message

-- a number of which 48 times is no more than the limit on weights
few_names : (n w : ℕ) → 48 * n ≤ w → w ≤ 2097152 → n ≤ 65536
few_names n w h l = omega arith

-- what was packed keeps the limits
pub packed_keeps : (s : Sender) (to token : ℕ) (values : Listed Placed) (p : Packet) →
    packed s to token values ≡ Ok p → KeepsLimits p
packed_keeps s to token values p e =
    let made : IsPackedAs s to token values p = packed_as s to token values p e in
    let C = copies_of s values in
    let N = names_with s values C in
    let q = packet_with s to token values C N in
    let cl : length q.copies ≡ length C = length-map C (copied_of s C N) in
    let nl : length q.names ≡ length N =
    names_count s (record { from = s.node; to = to; next = 0; copies = 0 }) refl token N in
    let keeps : KeepsLimits q = record {
      copies = subst (λ n. n ≤ 4096) (sym cl) made.few;
      names = subst (λ n. n ≤ 65536) (sym nl)
          (few_names (length N) (message_weight s values C) (names_weigh s values C) made.light);
      values = All-from_recursion (HasPlaces q) q.values
          (placed_within s C N (length q.copies) (length q.names) cl nl values made.copied_values
          made.named_values);
      slots = All-from_recursion (λ c. All (HasPlaces q) c.slots) q.copies
          (objects_within s C N (length q.copies) (length q.names) cl nl C made.copied_slots
          made.named_slots);
    } in
    subst KeepsLimits (sym made.is) keeps
