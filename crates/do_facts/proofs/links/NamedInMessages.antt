-- Each object that a message names has a class, and is the sender's own or may be named now.
use Rattle.std.proofs.Common.{◌≡◌, ◌==◌, ◌++◌, ◌||◌, Bool, true, false, cond, List, [], ◌∷◌, filter}
use Rattle.std.{proofs.Common.refl, specs.{Prelude.is_some, List.{AllByRecursion, flat_map}}}
use Rattle.do_base.specs.{names.Names.ObjectName, values.Values.objects_of}
use Rattle.do_packet.specs.Copies.{Placed, contents, named_at, names_with}
use Rattle.do_packet.specs.{Met.{has_object, is_named, met, met_one, role_of}, Seen.Sender}
use Rattle.do_packet.specs.declared.role.Role.TheVariants.{Absent, Copied, Named}

-- an object has a class, and is the sender's own, or one that it may name
abbrev pub IsNameable : Sender → ObjectName → Type 0
IsNameable s o =
    (((o.node == s.node) || s.seen.usable o) ≡ true) × (is_some (s.seen.class_of o) ≡ true)

module _ (s : Sender) where
  -- each of these objects is such a one
  abbrev All : List ObjectName → Type 0
  All os = AllByRecursion (IsNameable s) os

  -- those of two lists
  all_behind : (xs ys : List ObjectName) → All xs → All ys → All (xs ++ ys)
  all_behind [] ys h k = k
  all_behind (x ∷ xs) ys h k = (h.0, all_behind xs ys h.1 k)

  -- one more that is met
  met_one_more : (os : List ObjectName) (o : ObjectName) → All os → IsNameable s o →
      All (met_one os o)
  met_one_more os o h k = go (has_object os o)
    where
      go : (b : Bool) → All (cond b os (os ++ o ∷ []))
      go true = h
      go false = all_behind os (o ∷ []) h (k, tt)

  -- those that are met
  all_met : (os more : List ObjectName) → All os → All more → All (met os more)
  all_met os [] h k = h
  all_met os (o ∷ more) h k =
      all_met (met_one os o) more (met_one_more os o h k.0) k.1

  -- an object that is named has the role of one
  by_role : (copy : Bool) (o : ObjectName) →
      is_named (role_of s.seen s.node copy o) ≡ true → IsNameable s o
  by_role copy o h =
      go (is_some (s.seen.class_of o)) (o.node == s.node) (s.seen.usable o) copy h
    where
      go : (a b u copy : Bool) →
          is_named (cond a (cond b (cond copy Copied Named) (cond u Named Absent)) Absent) ≡ true →
          ((b || u) ≡ true) × (a ≡ true)
      go true true u copy e = (refl, refl)
      go true false true copy e = (refl, refl)
      go true false false copy e = absurd (cc)
      go false b u copy e = absurd (cc)

  -- those that are named in a place
  all_in_place : (copy : Bool) (os : List ObjectName) →
      All (filter (λ o. is_named (role_of s.seen s.node copy o)) os)
  all_in_place copy [] = tt
  all_in_place copy (o ∷ os) =
      go (is_named (role_of s.seen s.node copy o)) refl (all_in_place copy os)
    where
      go : (b : Bool) → is_named (role_of s.seen s.node copy o) ≡ b →
          All (filter (λ o. is_named (role_of s.seen s.node copy o)) os) →
          All (cond b (o ∷ filter (λ o. is_named (role_of s.seen s.node copy o)) os)
          (filter (λ o. is_named (role_of s.seen s.node copy o)) os))
      go true e h = (by_role copy o e, h)
      go false e h = h

  -- those that are named in places
  all_in_places : (places : List Placed) → All (flat_map (named_at s) places)
  all_in_places [] = tt
  all_in_places (p ∷ places) =
      all_behind (named_at s p) (flat_map (named_at s) places)
      (all_in_place p.0 (objects_of p.1)) (all_in_places places)

  -- those that a message names
  pub all_nameable : (values : List Placed) (copies : List ObjectName) →
      All (names_with s values copies)
  all_nameable values copies =
      all_met [] (flat_map (named_at s) (contents s values copies)) tt
      (all_in_places (contents s values copies))
