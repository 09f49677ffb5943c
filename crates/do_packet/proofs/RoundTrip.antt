-- What is unpacked is what was packed, with the copies renamed.
use Rattle.do_class.specs.declared.packet.Part.TheVariants as part
use Rattle.std.proofs.Common.{◌≡◌, ℕ, ℤ, Bool, cond, List as Listed, [], ◌∷◌, Ok, map, length, refl}
use Rattle.std.proofs.{Common.{sym, ap, ◌∙◌, subst, rules, true}, lemmas.List.length-map}
use Rattle.std.specs.{List.{AllByRecursion, flat_map, slice_get}, Option.unwrap_or}
use Rattle.std.proofs.lemmas.Grind.{flat_map-append}
use Rattle.do_base.specs.{names.Names.ObjectName, values.Induction.value_induction}
use Rattle.do_base.specs.declared.values.value.Value.{Value, List, the_lemmas}
use Rattle.do_base.specs.declared.values.value.Value.TheVariants.{Nil, Num, Text, Obj}
use Rattle.do_class.specs.declared.packet.Packet.{Packet}
use Rattle.do_class.specs.declared.packet.Part.{Part, List as Parts, the_lemmas as part_lemmas}
use Rattle.do_packet.specs.Copies.{Placed, copied_at, copies_of, named_at, names_with, slots_at}
use Rattle.do_packet.specs.Met.{copied_in, has_object, is_copied, is_named, named_in, place}
use Rattle.do_packet.specs.{Met.role_of, Packing.{copied_of, names_to, packed, part_at}}
use Rattle.do_packet.specs.{Parts.{object_part, part_of}, RoundTrip.{AllTrue, meant, renamed}}
use Rattle.do_packet.specs.RoundTrip.{renamed_as, renamed_at, renamed_message, renamed_object}
use Rattle.do_packet.specs.{Seen.Sender, Unpacking.{copy_at, made_of, name_values, unpacked}}
use Rattle.do_packet.specs.{Unpacking.value_of, declared.{receipt.Receipt.Receipt, role.Role.Role}}
use Rattle.do_packet.specs.declared.role.Role.TheVariants.{Absent, Copied, Named}
use Rattle.do_packet.proofs.Covers.{Covers, covers_left, covers_right, place_lt}
use Rattle.do_packet.proofs.{Following.lt_true, Meanings.{names_mean, true_means}}
use Rattle.do_packet.proofs.Packed.{IsPackedAs, packed_as}
use Rattle.do_packet.proofs.Values.{copied_in-List, named_in-List, objects_of-Obj, part_of-List}
use Rattle.do_packet.proofs.Values.{part_of-Nil, part_of-Num, part_of-Obj, part_of-Text}

-- ---- one level of each function

module _ (r : Receipt) (nv : Listed Value) where
  -- nil is nil
  value_of-Nil : value_of r nv part.Nil ≡ Nil
  value_of-Nil = search (rules, part_lemmas)

  -- a number is itself
  value_of-Num : (n : ℤ) → value_of r nv (part.Num n) ≡ Num n
  value_of-Num n = search (rules, part_lemmas)

  -- a text is itself
  value_of-Text : (t : Listed ℕ) → value_of r nv (part.Text t) ≡ Text t
  value_of-Text t = search (rules, part_lemmas)

  -- a copy is the object of its place
  value_of-Copy : (k : ℕ) → value_of r nv (part.Copy k) ≡ copy_at r k
  value_of-Copy k = search (rules, part_lemmas)

  -- a name is what stands at its place
  value_of-Named : (k : ℕ) → value_of r nv (part.Named k) ≡ unwrap_or (slice_get nv k) Nil
  value_of-Named k = search (rules, part_lemmas)

  -- a list is that of its items
  value_of-List : (ps : Listed Part) →
      value_of r nv (Parts ps) ≡ List (map (value_of r nv) ps)
  value_of-List ps = search (rules, part_lemmas)

module _ (s : Sender) (r : Receipt) (C : Listed ObjectName) (means : ObjectName → Value)
    (copy : Bool) where
  -- a value in a place that is bycopy or not, renamed
  abbrev again : Value → Value
  again = renamed s r C means copy

  -- nil stays
  renamed-Nil : again Nil ≡ Nil
  renamed-Nil = search (rules, the_lemmas)

  -- a number stays
  renamed-Num : (n : ℤ) → again (Num n) ≡ Num n
  renamed-Num n = search (rules, the_lemmas)

  -- a text stays
  renamed-Text : (t : Listed ℕ) → again (Text t) ≡ Text t
  renamed-Text t = search (rules, the_lemmas)

  -- an object is renamed
  renamed-Obj : (o : ObjectName) →
      again (Obj o) ≡ renamed_as r C means (role_of s.seen s.node copy o) o
  renamed-Obj o = search (rules, the_lemmas)

  -- a list is renamed item by item
  renamed-List : (vs : Listed Value) → again (List vs) ≡ List (map again vs)
  renamed-List vs = search (rules, the_lemmas)

-- ---- a value

-- the values of the names are what these objects mean
abbrev pub Mean : Listed ObjectName → Listed Value → (ObjectName → Value) → Type 0
Mean N nv means = (o : ObjectName) → has_object N o ≡ true →
    unwrap_or (slice_get nv (place N o)) Nil ≡ means o

module _ (s : Sender) (r : Receipt) (C N : Listed ObjectName) (nv : Listed Value)
    (means : ObjectName → Value) (mean : Mean N nv means) (few : r.copies ≡ length C) where
  module _ (copy : Bool) where
    -- a value whose objects stand in the message comes back renamed
    abbrev Returns : Value → Type 0
    Returns v = Covers C (copied_in s.seen s.node copy v) →
        Covers N (named_in s.seen s.node copy v) →
        value_of r nv (part_of s.seen s.node copy C N v) ≡ renamed s r C means copy v

    -- an object does
    object_returns : (o : ObjectName) (role : Role) →
        Covers C (cond (is_copied role) (o ∷ []) []) →
        Covers N (cond (is_named role) (o ∷ []) []) →
        value_of r nv (object_part role C N o) ≡ renamed_as r C means role o
    object_returns o Copied c n =
        let h = place_lt C o c.0 in
        value_of-Copy r nv (place C o) ∙ rw (few, lt_true (place C o) (length C) h) refl
    object_returns o Named c n = value_of-Named r nv (place N o) ∙ mean o n.0
    object_returns o Absent c n = value_of-Nil r nv

    -- so do the items of a list
    each_returns : (vs : Listed Value) → AllByRecursion Returns vs →
        Covers C (flat_map (copied_in s.seen s.node copy) vs) →
        Covers N (flat_map (named_in s.seen s.node copy) vs) →
        map (value_of r nv) (map (part_of s.seen s.node copy C N) vs)
        ≡ map (renamed s r C means copy) vs
    each_returns [] h c n = refl
    each_returns (v ∷ vs) h c n =
        let cs = copied_in s.seen s.node copy v in
        let ns = named_in s.seen s.node copy v in
        let cr = flat_map (copied_in s.seen s.node copy) vs in
        let nr = flat_map (named_in s.seen s.node copy) vs in
        let a = h.0 (covers_left C cs cr c) (covers_left N ns nr n) in
        let b = each_returns vs h.1 (covers_right C cs cr c) (covers_right N ns nr n) in
        cc

    -- so does each value
    returns : (v : Value) → Returns v
    returns =
        value_induction Returns
        (λ c n.
        ap (value_of r nv) (part_of-Nil s.seen s.node copy C N) ∙ value_of-Nil r nv
        ∙ sym (renamed-Nil s r C means copy))
        (λ z c n.
        ap (value_of r nv) (part_of-Num s.seen s.node copy C N z) ∙ value_of-Num r nv z
        ∙ sym (renamed-Num s r C means copy z))
        (λ t c n.
        ap (value_of r nv) (part_of-Text s.seen s.node copy C N t) ∙ value_of-Text r nv t
        ∙ sym (renamed-Text s r C means copy t))
        (λ o c n.
        let role = role_of s.seen s.node copy o in
        let co : copied_in s.seen s.node copy (Obj o) ≡ cond (is_copied role) (o ∷ []) [] =
        rw objects_of-Obj refl in
        let no : named_in s.seen s.node copy (Obj o) ≡ cond (is_named role) (o ∷ []) [] =
        rw objects_of-Obj refl in
        ap (value_of r nv) (part_of-Obj s.seen s.node copy C N o)
        ∙ object_returns o role
        (subst (λ (l : Listed ObjectName). Covers C l) co c)
        (subst (λ (l : Listed ObjectName). Covers N l) no n)
        ∙ sym (renamed-Obj s r C means copy o))
        (λ vs h c n.
        ap (value_of r nv) (part_of-List s.seen s.node copy C N vs)
        ∙ value_of-List r nv (map (part_of s.seen s.node copy C N) vs)
        ∙ ap List (each_returns vs h
        (subst (λ (l : Listed ObjectName). Covers C l) (copied_in-List s.seen s.node copy vs) c)
        (subst (λ (l : Listed ObjectName). Covers N l) (named_in-List s.seen s.node copy vs) n))
        ∙ sym (renamed-List s r C means copy vs))

  -- so do values at places
  placed_return : (ps : Listed Placed) → Covers C (flat_map (copied_at s) ps) →
      Covers N (flat_map (named_at s) ps) →
      map (value_of r nv) (map (part_at s C N) ps) ≡ map (renamed_at s r C means) ps
  placed_return [] c n = refl
  placed_return (p ∷ ps) c n =
      let cs = copied_at s p in
      let ns = named_at s p in
      let cr = flat_map (copied_at s) ps in
      let nr = flat_map (named_at s) ps in
      let a = returns p.0 p.1 (covers_left C cs cr c) (covers_left N ns nr n) in
      let b = placed_return ps (covers_right C cs cr c) (covers_right N ns nr n) in
      cc

  -- and copied objects
  objects_return : (os : Listed ObjectName) →
      Covers C (flat_map (copied_at s) (flat_map (slots_at s) os)) →
      Covers N (flat_map (named_at s) (flat_map (slots_at s) os)) →
      map (made_of r nv) (map (copied_of s C N) os) ≡ map (renamed_object s r C means) os
  objects_return [] c n = refl
  objects_return (o ∷ os) c n =
      let here = slots_at s o in
      let rest = flat_map (slots_at s) os in
      let c1 =
      subst (λ (l : Listed ObjectName). Covers C l) (flat_map-append (copied_at s) here rest) c in
      let n1 =
      subst (λ (l : Listed ObjectName). Covers N l) (flat_map-append (named_at s) here rest) n in
      let cs = flat_map (copied_at s) here in
      let ns = flat_map (named_at s) here in
      let cr = flat_map (copied_at s) rest in
      let nr = flat_map (named_at s) rest in
      let a = placed_return here (covers_left C cs cr c1) (covers_left N ns nr n1) in
      let b = objects_return os (covers_right C cs cr c1) (covers_right N ns nr n1) in
      rw (a, b) refl

-- ---- the message

module _ (s : Sender) (token : ℕ) (values : Listed Placed) (p : Packet) (r : Receipt)
    (es hs : Listed Bool) (e : packed s r.to token values ≡ Ok p)
    (many : r.copies ≡ length p.copies) where
  -- the copies
  C : Listed ObjectName
  C = copies_of s values

  -- the named objects
  N : Listed ObjectName
  N = names_with s values (copies_of s values)

  -- what the names stand for
  nv : Listed Value
  nv = name_values r (names_to s r.to token (names_with s values (copies_of s values))) es hs

  -- where the values of the names are what they mean, the message comes back renamed
  message_returns : (means : ObjectName → Value) →
      Mean (names_with s values (copies_of s values))
      (name_values r (names_to s r.to token (names_with s values (copies_of s values))) es hs)
      means →
      unpacked r es hs p ≡ renamed_message s r values (copies_of s values) means
  unfolding C N nv
  message_returns means mean =
      let made : IsPackedAs s r.to token values p = packed_as s r.to token values p e in
      let count : r.copies ≡ length C =
      many ∙ ap (λ x. length x.copies) made.is ∙ length-map C (copied_of s C N) in
      let vs =
      placed_return s r C N nv means mean count values made.copied_values made.named_values in
      let os = objects_return s r C N nv means mean count C made.copied_slots made.named_slots in
      rw (made.is, vs, os) refl

  module _ (home : r.from ≡ s.node) (le : length es ≡ length p.names)
      (lh : length hs ≡ length p.names) where
    -- the flags are as many as the names
    counted : (fs : Listed Bool) → length fs ≡ length p.names →
        length fs ≡ length (names_to s r.to token (names_with s values (copies_of s values)))
    counted fs l =
        let made : IsPackedAs s r.to token values p = packed_as s r.to token values p e in
        l ∙ ap (λ x. length x.names) made.is

    -- by what the receiver has for each name
    pub closed_returns :
        unpacked r es hs p
        ≡ renamed_message s r values (copies_of s values)
        (meant s r (names_with s values (copies_of s values)) es hs)
    closed_returns =
        message_returns (meant s r (names_with s values (copies_of s values)) es hs)
        (names_mean s r home token (names_with s values (copies_of s values)) es hs
        (counted es le) (counted hs lh))

    -- with all entries and homes, each name stays its object
    pub open_returns : AllTrue es → AllTrue hs →
        unpacked r es hs p ≡ renamed_message s r values (copies_of s values) (λ o. Obj o)
    open_returns te th =
        message_returns (λ o. Obj o)
        (λ o h.
        names_mean s r home token (names_with s values (copies_of s values)) es hs
        (counted es le) (counted hs lh) o h
        ∙ true_means s r home token (names_with s values (copies_of s values)) es hs
        (counted es le) (counted hs lh) te th o h)
