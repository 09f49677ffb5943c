-- What is found among the objects that a node holds, once one more is held or some are left.
use Rattle.std.proofs.Common.{◌≡◌, ◌==◌, ◌||◌, ℕ, Bool, true, false, cond, not, List, [], ◌∷◌}
use Rattle.std.proofs.Common.{filter, refl, sym, ◌∙◌, arith}
use Rattle.std.specs.{Prelude.if◌then◌else◌, List.list_any}
use Rattle.std.proofs.lemmas.{Bool.Decides.nat_tests, List.Sorted.list_any-IsPermutation}
use Rattle.do_base.specs.names.Names.{ObjectName}
use Rattle.do_packet.specs.Met.{has_object, same_object}
use Rattle.do_machine.specs.{Lists.inserted, Objects.{joined, object_at, object_lt}}
use Rattle.do_machine.{specs.ends.Closing.serials_of, proofs.Inserting.inserted_moves}

-- an object is that of a home with a serial
abbrev pub is_at : ObjectName → ℕ → ℕ → Bool
is_at o h s = if h == o.node then (if s == o.serial then true else false) else false

module _ (h s : ℕ) where
  -- once one more is held
  pub held_more : (o : ObjectName) (os : List ObjectName) → has_object (joined os o) (object_at h s)
      ≡ (if is_at o h s then true else has_object os (object_at h s))
  held_more o os = go (has_object os o) refl
    where
      here : (b : Bool) → (same_object (object_at h s) o || b)
          ≡ (if is_at o h s then true else b)
      here b = grind (arith, nat_tests)

      there : (xs : List ObjectName) → has_object xs o ≡ true →
          has_object xs (object_at h s) ≡ (if is_at o h s then true else has_object xs (object_at
          h s))
      there [] e = absurd (cc)
      there (x ∷ xs) e = grind (arith, nat_tests, e, there xs)

      go : (b : Bool) → has_object os o ≡ b →
          has_object (cond b os (inserted object_lt o os)) (object_at h s)
          ≡ (if is_at o h s then true else has_object os (object_at h s))
      go true e = there os e
      go false e =
          sym (list_any-IsPermutation (same_object (object_at h s)) (o ∷ os)
          (inserted object_lt o os) (inserted_moves object_lt o os))
          ∙ here (has_object os (object_at h s))

  -- once one is left
  pub held_less : (o : ObjectName) (os : List ObjectName) →
      has_object (filter (λ x. not (same_object o x)) os) (object_at h s)
      ≡ (if is_at o h s then false else has_object os (object_at h s))
  held_less o [] = grind (arith, nat_tests)
  held_less o (x ∷ xs) = grind (arith, nat_tests, held_less o xs)

  -- once an end is closed
  pub held_apart : (peer : ℕ) (os : List ObjectName) →
      has_object (filter (λ o. not (o.node == peer)) os) (object_at h s)
      ≡ (if h == peer then false else has_object os (object_at h s))
  held_apart peer [] = grind (arith, nat_tests)
  held_apart peer (x ∷ xs) = grind (arith, nat_tests, held_apart peer xs)

-- the serials of a peer's objects are those of which the peer's object is held
pub serials_held : (peer s : ℕ) (os : List ObjectName) →
    list_any (λ t. s == t) (serials_of peer os) ≡ has_object os (object_at peer s)
serials_held peer s [] = refl
serials_held peer s (o ∷ os) = grind (arith, nat_tests, serials_held peer s os)
