-- Each copy and each name of a message has a class.
use Rattle.std.proofs.Common.{◌≡◌, ◌==◌, ℕ, Bool, true, false, cond, List, [], ◌∷◌, ◌++◌, filter}
use Rattle.std.{proofs.Common.refl, specs.List.{All, AllByRecursion, flat_map}}
use Rattle.std.{specs.Option.{IsSome, is_some}, proofs.lemmas.List.Elements.All-from_recursion}
use Rattle.do_base.specs.{names.Names.ObjectName, values.Values.objects_of}
use Rattle.do_packet.specs.{Copies.{Placed, contents, grown, names_with}, Met.has_object}
use Rattle.do_packet.specs.{Met.{is_copied, is_named, met, met_one, role_of}, Seen.{Seen, Sender}}
use Rattle.do_packet.specs.declared.role.Role.{Role, TheVariants.{Absent, Copied, Named}}

module _ (P : ObjectName → Type 0) where
  -- what holds of two lists holds of both
  all_append : (xs ys : List ObjectName) → AllByRecursion P xs → AllByRecursion P ys →
      AllByRecursion P (xs ++ ys)
  all_append [] ys a b = b
  all_append (x ∷ xs) ys a b = (a.0, all_append xs ys a.1 b)

  -- what holds of objects holds of them as met
  all_met : (os more : List ObjectName) → AllByRecursion P os → AllByRecursion P more →
      AllByRecursion P (met os more)
  all_met os [] a b = a
  all_met os (o ∷ more) a b = all_met (met_one os o) more (one (has_object os o)) b.1
    where
      one : (t : Bool) → AllByRecursion P (cond t os (os ++ o ∷ []))
      one true = a
      one false = all_append os (o ∷ []) a (b.0, tt)

  -- what follows from a test holds of those that pass it
  all_filter : (p : ObjectName → Bool) → ((o : ObjectName) → p o ≡ true → P o) →
      (os : List ObjectName) → AllByRecursion P (filter p os)
  all_filter p h [] = tt
  all_filter p h (o ∷ os) = go (p o) (h o) (all_filter p h os)
    where
      go : (t : Bool) → (t ≡ true → P o) → AllByRecursion P (filter p os) →
          AllByRecursion P (cond t (o ∷ filter p os) (filter p os))
      go true k a = (k refl, a)
      go false k a = a

  -- what holds of the objects of each item holds of all
  all_flat : {Y : Type 0} (f : Y → List ObjectName) → ((y : Y) → AllByRecursion P (f y)) →
      (ys : List Y) → AllByRecursion P (flat_map f ys)
  all_flat f h [] = tt
  all_flat f h (y ∷ ys) = all_append (f y) (flat_map f ys) (h y) (all_flat f h ys)

-- the sender sees a class of the object
abbrev pub HasClass : Sender → ObjectName → Type 0
HasClass s o = IsSome (s.seen.class_of o)

-- an object that does not become nil has a class
role_has : (seen : Seen) (from : ℕ) (copy : Bool) (o : ObjectName) (test : Role → Bool) →
    test Absent ≡ false → test (role_of seen from copy o) ≡ true → IsSome (seen.class_of o)
role_has seen from copy o test e = go (is_some (seen.class_of o))
  where
    go : (b : Bool) →
        test (cond b
        (cond (o.node == from) (cond copy Copied Named) (cond (seen.usable o) Named Absent)) Absent)
        ≡ true → b ≡ true
    go true h = refl
    go false h = absurd (cc)

-- the objects that a test of what becomes of them picks have classes
picked_have : (s : Sender) (test : Role → Bool) → test Absent ≡ false → (ps : List Placed) →
    AllByRecursion (HasClass s)
    (met []
    (flat_map (λ p. filter (λ o. test (role_of s.seen s.node p.0 o)) (objects_of p.1)) ps))
picked_have s test e ps =
    let P = HasClass s in
    let picked = λ (p : Placed).
    filter (λ o. test (role_of s.seen s.node p.0 o)) (objects_of p.1) in
    all_met P [] (flat_map picked ps) tt
    (all_flat P picked
    (λ p.
    all_filter P (λ o. test (role_of s.seen s.node p.0 o))
    (λ o h. role_has s.seen s.node p.0 o test e h) (objects_of p.1)) ps)

-- each copied object has a class
pub copies_have : (s : Sender) (values : List Placed) (copies : List ObjectName) →
    All (HasClass s) (grown s values copies)
copies_have s values copies =
    All-from_recursion (HasClass s) (grown s values copies)
    (picked_have s is_copied refl (contents s values copies))

-- each named object has a class
pub names_have : (s : Sender) (values : List Placed) (copies : List ObjectName) →
    All (HasClass s) (names_with s values copies)
names_have s values copies =
    All-from_recursion (HasClass s) (names_with s values copies)
    (picked_have s is_named refl (contents s values copies))
