-- What comes in a message names only objects that pass, where its names and copies do.
use Rattle.do_class.specs.declared.packet.Part.TheVariants as part
use Rattle.std.proofs.Common.{◌≡◌, ◌+◌, ◌<◌, ℕ, ℤ, zero, suc, Bool, true, false, cond}
use Rattle.std.proofs.Common.{List as Listed, [], ◌∷◌, map, refl, sym, subst, rules, arith}
use Rattle.std.specs.{Prelude.{nat_lt, slice_get, unwrap_or}, List.AllByRecursion}
use Rattle.std.proofs.lemmas.Bool.Decides.{nat_tests}
use Rattle.do_base.specs.{names.Names.ObjectName, declared.values.value.Value.{Value, List}}
use Rattle.do_base.specs.declared.values.value.Value.TheVariants.{Nil, Num, Obj, Text}
use Rattle.do_class.specs.declared.packet.{Copied.Copied, Part.{List as Parts, Part, ind-Part}}
use Rattle.do_class.specs.declared.packet.Part.{map-Part, roll-Part, the_lemmas, TheOpen.Part-F}
use Rattle.do_packet.specs.Unpacking.{copy_at, made_of, value_of}
use Rattle.do_packet.specs.declared.receipt.Receipt.{Receipt}
use Rattle.do_machine.specs.Objects.{object_at}
use Rattle.do_at_hand.proofs.Shown.{AllName, Names, items, nil, numbers, one, texts}

-- what holds of each kind of part, where it holds of the parts inside, holds of each part
module _ (P : Part → Type 0) (none : P part.Nil) (num : (z : ℤ) → P (part.Num z))
    (text : (t : Listed ℕ) → P (part.Text t)) (copy : (k : ℕ) → P (part.Copy k))
    (named : (k : ℕ) → P (part.Named k))
    (list : (xs : Listed Part) → AllByRecursion P xs → P (Parts xs)) where
  -- of parts that are made
  each_part : {S : Type 0} (f : S → Part) → ((s : S) → P (f s)) → (ss : Listed S) →
      AllByRecursion P (map f ss)
  each_part f g [] = tt
  each_part f g (s ∷ ss) = (g s, each_part f g ss)

  -- of one level
  level : {S : Type 0} (f : S → Part) → ((s : S) → P (f s)) → (y : Part-F S) →
      P (roll-Part (map-Part S Part f y))
  unfolding roll-Part denote.Hole.Carrier.roll
  level f g Part-F.Nil = none
  level f g (Part-F.Num z) = num z
  level f g (Part-F.Text t) = text t
  level f g (Part-F.Copy k) = copy k
  level f g (Part-F.Named k) = named k
  level f g (Part-F.List ss) = list (map f ss) (each_part f g ss)

  part_induction : (x : Part) → P x
  part_induction =
      ind-Part P
      (λ x y e. subst (λ (x : Part-F Part). P (roll-Part x)) e (level (λ s. s.0) (λ s. s.1) y))

module _ (H : ObjectName → Bool) (r : Receipt) (named : Listed Value)
    (names : AllName H named)
    (copies : (k : ℕ) → k < r.copies → H (object_at r.to (r.next + k)) ≡ true) where
  -- the value of a part
  abbrev meant : Part → Value
  meant x = value_of r named x

  -- the value of nil
  meant-Nil : meant part.Nil ≡ Nil
  meant-Nil = search (rules, the_lemmas)

  -- the value of a number
  meant-Num : (z : ℤ) → meant (part.Num z) ≡ Num z
  meant-Num z = search (rules, the_lemmas)

  -- the value of a text
  meant-Text : (t : Listed ℕ) → meant (part.Text t) ≡ Text t
  meant-Text t = search (rules, the_lemmas)

  -- the value of a copy
  meant-Copy : (k : ℕ) → meant (part.Copy k) ≡ copy_at r k
  meant-Copy k = search (rules, the_lemmas)

  -- the value of a name
  meant-Named : (k : ℕ) → meant (part.Named k) ≡ unwrap_or (slice_get named k) Nil
  meant-Named k = search (rules, the_lemmas)

  -- the value of a list
  meant-List : (xs : Listed Part) → meant (Parts xs) ≡ List (map meant xs)
  meant-List xs = search (rules, the_lemmas)

  -- the value names only such objects
  abbrev Fine : Part → Type 0
  Fine x = Names H (meant x)

  -- the object of a copy
  copied : (k : ℕ) → Names H (copy_at r k)
  copied k = go (nat_lt k r.copies) refl
    where
      go : (b : Bool) → nat_lt k r.copies ≡ b →
          Names H (cond b (Obj (record { node = r.to; serial = r.next + k })) Nil)
      go true e = one H (object_at r.to (r.next + k)) (copies k (grind (arith, nat_tests, e)))
      go false e = nil H

  -- the one at a place, or nil
  at : (vs : Listed Value) (k : ℕ) → AllName H vs → Names H (unwrap_or (slice_get vs k) Nil)
  at [] k h = nil H
  at (v ∷ vs) zero h = h.0
  at (v ∷ vs) (suc k) h = at vs k h.1

  -- the values of items
  each_fine : (xs : Listed Part) → AllByRecursion Fine xs → AllName H (map meant xs)
  each_fine [] h = tt
  each_fine (x ∷ xs) h = (h.0, each_fine xs h.1)

  -- the value of each part
  part_fine : (x : Part) → Fine x
  part_fine =
      part_induction Fine (subst (Names H) (sym meant-Nil) (nil H))
      (λ z. subst (Names H) (sym (meant-Num z)) (numbers H z))
      (λ t. subst (Names H) (sym (meant-Text t)) (texts H t))
      (λ k. subst (Names H) (sym (meant-Copy k)) (copied k))
      (λ k. subst (Names H) (sym (meant-Named k)) (at named k names))
      (λ xs h. subst (Names H) (sym (meant-List xs)) (items H (map meant xs) (each_fine xs h)))

  -- the values of parts
  pub parts_fine : (xs : Listed Part) → AllName H (map meant xs)
  parts_fine [] = tt
  parts_fine (x ∷ xs) = (part_fine x, parts_fine xs)

  -- the slots of copies
  pub copies_fine : (cs : Listed Copied) →
      AllByRecursion (λ m. AllName H m.slots) (map (made_of r named) cs)
  copies_fine [] = tt
  copies_fine (c ∷ cs) = (parts_fine c.slots, copies_fine cs)
