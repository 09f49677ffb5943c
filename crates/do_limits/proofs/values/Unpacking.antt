-- What comes in a message of values that can be carried are such values.
use Rattle.do_class.specs.declared.packet.Part.TheVariants as part
use Rattle.std.proofs.Common.{◌≡◌, ◌-◌, ℕ, ℤ, Bool, true, false, cond, List as Listed, [], ◌∷◌}
use Rattle.std.{proofs.Common.{length, map, refl, sym, ap, ◌∙◌, subst, rules}, specs.Prelude.nat_le}
use Rattle.std.specs.{Prelude.{nat_lt, slice_get, unwrap_or, suc, zero}, List.AllByRecursion}
use Rattle.std.{specs.List.list_all, proofs.lemmas.{Bool.{and_from, and_parts}, List.length-map}}
use Rattle.do_base.specs.declared.values.value.Value.{List, Value, TheVariants.{Nil, Num, Text}}
use Rattle.do_class.specs.{Class.Class, declared.packet.{Copied.Copied, Name.Name}}
use Rattle.do_class.specs.declared.packet.{Name.TheVariants.{Lent, Mine, Yours}, Packet.Packet}
use Rattle.do_class.specs.declared.packet.Part.{List as Parts, Part, ind-Part, map-Part, roll-Part}
use Rattle.do_class.specs.declared.packet.Part.{the_lemmas, TheOpen.Part-F}
use Rattle.do_packet.specs.Unpacking.{copy_at, made_of, name_value, name_values, unpacked, value_of}
use Rattle.do_packet.specs.declared.receipt.Receipt.{Receipt}
use Rattle.do_limits.specs.Sendable.{AreSendable, AreSendableParts, CopyIsSendable, HasSlots}
use Rattle.do_limits.specs.Sendable.{IsReadablePacket, can_carry, can_spell}
use Rattle.do_limits.proofs.values.Packing.{spell-List, spell-Num, spell-Text, tests}
use Rattle.do_limits.proofs.values.Carried.{carry-List, carry-Nil, carry-Num, carry-Obj, carry-Text}

-- what holds of each kind of part, where it holds of the parts inside, holds of each part
module _ (P : Part → Type 0) (nil : P part.Nil) (num : (z : ℤ) → P (part.Num z))
    (text : (t : Listed ℕ) → P (part.Text t)) (copy : (k : ℕ) → P (part.Copy k))
    (named : (k : ℕ) → P (part.Named k))
    (list : (xs : Listed Part) → AllByRecursion P xs → P (Parts xs)) where
  -- of parts that are made
  each_part : {S : Type 0} (f : S → Part) → ((s : S) → P (f s)) → (ss : Listed S) →
      AllByRecursion P (map f ss)
  each_part f g [] = tt
  each_part f g (s ∷ ss) = (g s, each_part f g ss)

  -- of one level
  level : {S : Type 0} (f : S → Part) → ((s : S) → P (f s)) → (y : Part-F S) →
      P (roll-Part (map-Part S Part f y))
  unfolding roll-Part denote.Hole.Carrier.roll
  level f g Part-F.Nil = nil
  level f g (Part-F.Num z) = num z
  level f g (Part-F.Text t) = text t
  level f g (Part-F.Copy k) = copy k
  level f g (Part-F.Named k) = named k
  level f g (Part-F.List ss) = list (map f ss) (each_part f g ss)

  pub part_induction : (x : Part) → P x
  part_induction =
      ind-Part P
      (λ x y e. subst (λ (x : Part-F Part). P (roll-Part x)) e (level (λ s. s.0) (λ s. s.1) y))

-- a value that can be carried, however deep it stands
abbrev IsFlat : Value → Type 0
IsFlat v = (depth : ℕ) → can_carry v depth ≡ true

-- nil or an object, by a test
flat_if : (b : Bool) (v w : Value) → IsFlat v → IsFlat w → IsFlat (cond b v w)
flat_if true v w h k = h
flat_if false v w h k = k

-- nil
flat_nil : IsFlat Nil
flat_nil depth = carry-Nil depth

-- the value of a name
name_flat : (r : Receipt) (name : Name) (entry open_home : Bool) →
    IsFlat (name_value r name entry open_home)
name_flat r (Mine serial class) entry open_home = λ depth. carry-Obj depth _
name_flat r (Yours serial) entry open_home =
    flat_if entry _ Nil (λ depth. carry-Obj depth _) flat_nil
name_flat r (Lent o class token) entry open_home =
    flat_if open_home _ Nil (λ depth. carry-Obj depth _) flat_nil

-- the values of names
names_flat : (r : Receipt) (names : Listed Name) (entries open_home : Listed Bool) →
    AllByRecursion IsFlat (name_values r names entries open_home)
names_flat r [] entries open_home = tt
names_flat r (x ∷ names) [] open_home = tt
names_flat r (x ∷ names) (e ∷ entries) [] = tt
names_flat r (x ∷ names) (e ∷ entries) (o ∷ open_home) =
    (name_flat r x e o, names_flat r names entries open_home)

-- the one at a place, or nil
at_flat : (vs : Listed Value) (k : ℕ) → AllByRecursion IsFlat vs →
    IsFlat (unwrap_or (slice_get vs k) Nil)
at_flat [] k h = flat_nil
at_flat (v ∷ vs) zero h = h.0
at_flat (v ∷ vs) (suc k) h = at_flat vs k h.1

module _ (r : Receipt) (named : Listed Value) (flat : AllByRecursion IsFlat named) where
  -- the value of a part
  abbrev meant : Part → Value
  meant x = value_of r named x

  -- the value of nil
  meant-Nil : meant part.Nil ≡ Nil
  meant-Nil = search (rules, the_lemmas)

  -- the value of a number
  meant-Num : (z : ℤ) → meant (part.Num z) ≡ Num z
  meant-Num z = search (rules, the_lemmas)

  -- the value of a text
  meant-Text : (t : Listed ℕ) → meant (part.Text t) ≡ Text t
  meant-Text t = search (rules, the_lemmas)

  -- the value of a copy
  meant-Copy : (k : ℕ) → meant (part.Copy k) ≡ copy_at r k
  meant-Copy k = search (rules, the_lemmas)

  -- the value of a name
  meant-Named : (k : ℕ) → meant (part.Named k) ≡ unwrap_or (slice_get named k) Nil
  meant-Named k = search (rules, the_lemmas)

  -- the value of a list
  meant-List : (xs : Listed Part) → meant (Parts xs) ≡ List (map meant xs)
  meant-List xs = search (rules, the_lemmas)

  -- the value can be carried as deep as the part fits
  abbrev Carried : Part → Type 0
  Carried x = (depth : ℕ) → can_spell x depth ≡ true →
      can_carry (meant x) depth ≡ true

  -- the values of items
  items_carried : (depth : ℕ) (xs : Listed Part) → AllByRecursion Carried xs →
      list_all (λ (f : ℕ → Bool). f depth) (map can_spell xs) ≡ true →
      list_all (λ (f : ℕ → Bool). f depth) (map can_carry (map meant xs)) ≡ true
  items_carried depth [] h e = refl
  items_carried depth (x ∷ xs) h e =
      let es = and_parts (can_spell x depth) _ e in
      and_from (can_carry (meant x) depth) _ (h.0 depth es.0)
      (items_carried depth xs h.1 es.1)

  -- the value of a list
  list_carried : (xs : Listed Part) → AllByRecursion Carried xs → Carried (Parts xs)
  list_carried xs h depth e =
      let same : length (map can_carry (map meant xs)) ≡ length (map can_spell xs) =
      length-map (map meant xs) can_carry ∙ length-map xs meant
      ∙ sym (length-map xs can_spell) in
      ap (λ v. can_carry v depth) (meant-List xs) ∙ carry-List depth (map meant xs)
      ∙ tests (nat_lt 0 depth) (nat_le (length (map can_spell xs)) 1024)
      (list_all (λ (f : ℕ → Bool). f (depth - 1)) (map can_spell xs)) _ _
      (sym (spell-List depth xs) ∙ e) (λ k. ap (λ n. nat_le n 1024) same ∙ k)
      (items_carried (depth - 1) xs h)

  -- the value of each part
  part_carried : (x : Part) → Carried x
  part_carried =
      part_induction Carried
      (λ depth e. ap (λ v. can_carry v depth) meant-Nil ∙ carry-Nil depth)
      (λ z depth e.
      ap (λ v. can_carry v depth) (meant-Num z) ∙ carry-Num depth z
      ∙ sym (spell-Num depth z) ∙ e)
      (λ t depth e.
      ap (λ v. can_carry v depth) (meant-Text t) ∙ carry-Text depth t
      ∙ sym (spell-Text depth t) ∙ e)
      (λ k depth e.
      ap (λ v. can_carry v depth) (meant-Copy k)
      ∙ flat_if (nat_lt k r.copies) _ Nil (λ d. carry-Obj d _) flat_nil depth)
      (λ k depth e. ap (λ v. can_carry v depth) (meant-Named k) ∙ at_flat named k flat depth)
      list_carried

  -- the values of parts
  parts_carried : (xs : Listed Part) → AreSendableParts xs →
      AreSendable (map meant xs)
  parts_carried [] h = tt
  parts_carried (x ∷ xs) h = (part_carried x 8 h.0, parts_carried xs h.1)

  -- the slots of copies
  copies_carried : (table : Listed Class) (cs : Listed Copied) →
      AllByRecursion (CopyIsSendable table) cs →
      AllByRecursion (λ m. AreSendable m.slots × HasSlots table m.class (length m.slots))
      (map (made_of r named) cs)
  copies_carried table [] h = tt
  copies_carried table (c ∷ cs) h = (
    (
      parts_carried c.slots h.0.slots,
      subst (HasSlots table c.class) (sym (length-map c.slots (value_of r named))) h.0.whole,
    ),
    copies_carried table cs h.1,
  )

module _ (r : Receipt) (entries open_home : Listed Bool) (p : Packet)
    (table : Listed Class) (from to : ℕ) (ok : IsReadablePacket table from to p) where
  -- the values of the names
  abbrev named_in : Listed Value
  named_in = name_values r p.names entries open_home

  -- the values of a message
  pub values_come : AreSendable (unpacked r entries open_home p).values
  values_come =
      parts_carried r named_in (names_flat r p.names entries open_home) p.values ok.values

  -- the slots of its copies
  pub copies_come : AllByRecursion
      (λ m. AreSendable m.slots × HasSlots table m.class (length m.slots))
      (unpacked r entries open_home p).copies
  copies_come =
      copies_carried r named_in (names_flat r p.names entries open_home) table p.copies ok.slots
