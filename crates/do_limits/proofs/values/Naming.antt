-- What the names and the copies of a message tell, by what its sender sees of objects.
use Rattle.std.proofs.Common.{◌≡◌, ◌==◌, ◌++◌, ◌≤◌, ℕ, Bool, true, false, cond, List as Listed, []}
use Rattle.std.proofs.Common.{◌∷◌, arith, filter, fold, length, map, refl, subst, sym, ◌∙◌}
use Rattle.std.specs.Prelude.{None, Option, Some, is_some, option_map, suc, unwrap_or, zero}
use Rattle.std.specs.List.{AllByRecursion, flat_map, zip}
use Rattle.std.proofs.lemmas.{Bool.Decides.nat_tests, List.length-map, Slice.Zip.length-zip}
use Rattle.do_base.specs.{names.Names.ObjectName, values.Values.objects_of}
use Rattle.do_base.specs.declared.values.value.Value.{Value}
use Rattle.do_sched.specs.Good.{IsPort}
use Rattle.do_class.specs.{Table.{class_id, slots_of}, declared.ids.{ClassId.ClassId, Slot.Slot}}
use Rattle.do_class.specs.declared.packet.Name.TheVariants.{Lent, Mine, Yours}
use Rattle.do_packet.specs.Copies.{Placed, contents, copied_at, copies_of, grown, marks}
use Rattle.do_packet.specs.Copies.{most_copies, rounds, slot_values}
use Rattle.do_packet.specs.Met.{has_object, is_copied, met, met_one, role_of}
use Rattle.do_packet.specs.{Packing.{Naming, class_at, copied_of, name_next, part_at}, Seen.Sender}
use Rattle.do_packet.specs.declared.role.Role.TheVariants.{Absent, Copied, Named}
use Rattle.do_facts.proofs.links.NamedInMessages.{IsNameable}
use Rattle.do_limits.specs.Sendable.{AreSendable, HasSlots, IsOfTable, NameIsSendable}
use Rattle.do_facts.proofs.EachOfLists.{each_joined}

-- What a sender sees: classes of the table for objects that were made at nodes, and of its own
-- objects the slots of their classes, with values that can be carried
pub record SenderIsSendable (s : Sender) : Type 0 where
  pub seen : (o : ObjectName) (class : ClassId) → s.seen.class_of o ≡ Some class →
      IsOfTable s.table class × ((1 ≤ o.serial) × IsPort o.node)
  pub slots : (o : ObjectName) → AreSendable (slot_values s o)
  pub whole : (o : ObjectName) (class : ClassId) → (o.node == s.node) ≡ true →
      s.seen.class_of o ≡ Some class → HasSlots s.table class (length (slot_values s o))

-- numbers that are not the same
not_same : (a b : ℕ) → (a == b) ≡ false → (b == a) ≡ false
not_same a b e = grind (arith, nat_tests, e)

module _ (s : Sender) (ok : SenderIsSendable s) where
  -- an object that the sender sees a class of
  seen_at : (o : ObjectName) → is_some (s.seen.class_of o) ≡ true →
      IsOfTable s.table (class_at s o) × ((1 ≤ o.serial) × IsPort o.node)
  seen_at o h = go (s.seen.class_of o) refl h
    where
      go : (found : Option ClassId) → s.seen.class_of o ≡ found → is_some found ≡ true →
          IsOfTable s.table (unwrap_or found (class_id 0)) × ((1 ≤ o.serial) × IsPort o.node)
      go None e k = absurd (cc)
      go (Some class) e k = ok.seen o class e

  -- ---- names

  module _ (to : ℕ) where
    -- the names of a message to that port
    abbrev AreNames : Naming → Type 0
    AreNames n =
        AllByRecursion (NameIsSendable s.table s.node to) n.names × (1 ≤ n.token)

    -- one more name
    next_named : (o : ObjectName) → IsNameable s o → (n : Naming) → AreNames n →
        AreNames (name_next s to n o)
    next_named o h n k =
        go (o.node == s.node) refl (o.node == to) refl (seen_at o h.1)
      where
        go : (a : Bool) → (o.node == s.node) ≡ a → (b : Bool) → (o.node == to) ≡ b →
            IsOfTable s.table (class_at s o) × ((1 ≤ o.serial) × IsPort o.node) →
            AreNames (cond a (record n {
              names = n.names ++ Mine o.serial (class_at s o) ∷ [];
            })
            (cond b (record n { names = n.names ++ Yours o.serial ∷ [] })
            (record {
              names = n.names ++ Lent o (class_at s o) n.token ∷ [];
              token = suc n.token;
            })))
        go true own b there at =
            (each_joined (NameIsSendable s.table s.node to) n.names _ k.0 ((at.1.0, at.0), tt), k.1)
        go false own true there at =
            (each_joined (NameIsSendable s.table s.node to) n.names _ k.0 (at.1.0, tt), k.1)
        go false own false there at = (
          each_joined (NameIsSendable s.table s.node to) n.names _ k.0 (
            (
              record {
                at_least = at.1.1.0;
                at_most = at.1.1.1;
                beside = rw (not_same o.node s.node own, not_same o.node to there) refl;
              },
              (at.1.0, (at.0, k.1)),
            ),
            tt,
          ),
          omega (arith, k.1),
        )

    -- names of such objects
    pub each_named : (os : Listed ObjectName) → AllByRecursion (IsNameable s) os → (n : Naming) →
        AreNames n → AreNames (fold (name_next s to) n os)
    each_named [] h n k = k
    each_named (o ∷ os) h n k =
        each_named os h.1 (name_next s to n o) (next_named o h.0 n k)

  -- ---- copies

  -- an own object that the sender sees a class of
  abbrev pub IsOwn : ObjectName → Type 0
  IsOwn o = ((o.node == s.node) ≡ true) × (is_some (s.seen.class_of o) ≡ true)

  -- each of these objects is such a one
  abbrev AreOwn : Listed ObjectName → Type 0
  AreOwn os = AllByRecursion IsOwn os

  -- an object that is copied is such a one
  copied_own : (copy : Bool) (o : ObjectName) →
      is_copied (role_of s.seen s.node copy o) ≡ true → IsOwn o
  copied_own copy o h =
      go (is_some (s.seen.class_of o)) (o.node == s.node) (s.seen.usable o) copy h
    where
      go : (a b u copy : Bool) →
          is_copied (cond a (cond b (cond copy Copied Named) (cond u Named Absent)) Absent) ≡ true →
          (b ≡ true) × (a ≡ true)
      go true true u copy e = (refl, refl)
      go true false true copy e = absurd (cc)
      go true false false copy e = absurd (cc)
      go false b u copy e = absurd (cc)

  -- those that are copied in a place
  in_place : (copy : Bool) (os : Listed ObjectName) →
      AreOwn (filter (λ o. is_copied (role_of s.seen s.node copy o)) os)
  in_place copy [] = tt
  in_place copy (o ∷ os) =
      let rest = filter (λ o. is_copied (role_of s.seen s.node copy o)) os in
      go rest (is_copied (role_of s.seen s.node copy o)) refl (in_place copy os)
    where
      go : (rest : Listed ObjectName) (b : Bool) →
          is_copied (role_of s.seen s.node copy o) ≡ b → AreOwn rest →
          AreOwn (cond b (o ∷ rest) rest)
      go rest true e h = (copied_own copy o e, h)
      go rest false e h = h

  -- and in places
  in_places : (places : Listed Placed) → AreOwn (flat_map (copied_at s) places)
  in_places [] = tt
  in_places (p ∷ places) =
      each_joined IsOwn (copied_at s p) (flat_map (copied_at s) places)
      (in_place p.0 (objects_of p.1)) (in_places places)

  -- those that are met
  each_met : (os more : Listed ObjectName) → AreOwn os → AreOwn more → AreOwn (met os more)
  each_met os [] h k = h
  each_met os (o ∷ more) h k = each_met (met_one os o) more (one (has_object os o)) k.1
    where
      one : (b : Bool) → AreOwn (cond b os (os ++ o ∷ []))
      one true = h
      one false = each_joined IsOwn os (o ∷ []) h (k.0, tt)

  -- those of rounds
  each_round : (n : ℕ) (f : Listed ObjectName → Listed ObjectName) →
      ((os : Listed ObjectName) → AreOwn (f os)) → (os : Listed ObjectName) → AreOwn os →
      AreOwn (rounds n f os)
  unfolding rounds
  each_round zero f k os h = h
  each_round (suc n) f k os h =
      go (length (f os) == length os) (each_round n f k (f os) (k os))
    where
      go : (b : Bool) → AreOwn (rounds n f (f os)) →
          AreOwn (elim b [ true ↦ os | false ↦ rounds n f (f os) ])
      go true g = h
      go false g = g

  -- the copies of a message
  pub copies_own : (values : Listed Placed) → AreOwn (copies_of s values)
  copies_own values =
      each_round (suc most_copies) (grown s values)
      (λ os. each_met [] (flat_map (copied_at s) (contents s values os)) tt
      (in_places (contents s values os))) [] tt

  -- as many places as values
  places_whole : (class : ClassId) (vs : Listed Value) → HasSlots s.table class (length vs) →
      length (zip (marks s.table (Some class)) vs) ≡ length vs
  places_whole class vs h = go (slots_of s.table class) h
    where
      go : (found : Option (Listed Slot)) →
          option_map (λ slots. length slots) found ≡ Some (length vs) →
          length (zip (map (λ (x : Slot). x.copy) (unwrap_or found [])) vs) ≡ length vs
      go None e = absurd (cc)
      go (Some slots) e =
          let same : length slots ≡ length vs = cc in
          let marked = map (λ (x : Slot). x.copy) slots in
          omega (arith, same, length-map slots (λ (x : Slot). x.copy), length-zip marked vs)

  -- a copy has the slots of its class
  pub copy_whole : (C N : Listed ObjectName) (o : ObjectName) → IsOwn o →
      HasSlots s.table (copied_of s C N o).class (length (copied_of s C N o).slots)
  copy_whole C N o h = go (s.seen.class_of o) refl h.1
    where
      go : (found : Option ClassId) → s.seen.class_of o ≡ found → is_some found ≡ true →
          HasSlots s.table (unwrap_or found (class_id 0))
          (length (map (part_at s C N) (zip (marks s.table found) (slot_values s o))))
      go None e k = absurd (cc)
      go (Some class) e k =
          let ok : HasSlots s.table class (length (slot_values s o)) = ok.whole o class h.0 e in
          let places = zip (marks s.table (Some class)) (slot_values s o) in
          subst (HasSlots s.table class)
          (sym (length-map places (part_at s C N) ∙ places_whole class (slot_values s o) ok)) ok
