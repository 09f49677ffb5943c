-- The objects that are counted as received, as a list in order.
use Rattle.std.specs.FinMap as map_of
use Rattle.std.proofs.Common.{◌≡◌, ℕ, Bool, true, false, cond, T, List, [], ◌∷◌, filter, map, refl}
use Rattle.std.{proofs.Common.{sym, ap, ◌∙◌, subst, arith}, specs.Prelude.{None, Some, is_some}}
use Rattle.std.specs.{Prelude.if◌then◌else◌, List.list_any, Ordering.{eq_by_cmp, is_eq}}
use Rattle.std.specs.FinMap.{contains_key-keys, entries-insert, entries_sorted, get-entries}
use Rattle.std.specs.FinMap.Entries.{below_all, by_order, find, is_sorted, put}
use Rattle.std.specs.declared.cmp.Ordering.{Ordering, TheVariants.{Less, Equal, Greater}}
use Rattle.std.proofs.lemmas.Bool.Decides.{nat_tests}
use Rattle.do_base.specs.names.Names.{ObjectName}
use Rattle.do_packet.specs.Met.{has_object, same_object}
use Rattle.do_sorted.proofs.RowOrGap.{first, second, less}
use Rattle.do_export.{specs.Counts.{Counts, entry_cmp}, proofs.Order.{entry_same, entry_total}}
use Rattle.do_import.{specs.ByObject.object_of, proofs.RowCounts.entries-retain}
use Rattle.do_machine.specs.{Lists.inserted, Objects.{joined, object_lt}}
use Rattle.do_machine.proofs.MappedElements.{any-map, filter-map}
use Rattle.do_machine.proofs.PutInOrder.{inserted_is, put_in}

-- the objects that are counted as received
abbrev pub held_list : Counts → List ObjectName
held_list received = map object_of (map_of.keys received)

-- two objects are one where their keys tie
object_tie : (q k : ℕ × ℕ) → same_object (object_of q) (object_of k) ≡ eq_by_cmp entry_cmp q k
object_tie q k = grind (arith, nat_tests)

-- an object stands before another where its key is lower
lower : (q k : ℕ × ℕ) → entry_cmp q k ≡ Less → object_lt (object_of q) (object_of k) ≡ true
lower q k h = grind (arith, nat_tests)

-- and behind it where it is higher
higher : (q k : ℕ × ℕ) → entry_cmp q k ≡ Greater → object_lt (object_of q) (object_of k) ≡ false
higher q k h = grind (arith, nat_tests)

-- an object is held just where it is counted
held_where : (m : Counts) (q : ℕ × ℕ) → has_object (held_list m) (object_of q)
    ≡ map_of.contains_key m q
held_where m q = any-map object_of (same_object (object_of q)) (map_of.keys m)
    ∙ (λ i. list_any (λ k. object_tie q k i) (map_of.keys m)) ∙ sym (contains_key-keys m q)

module _ {V : Type 0} (k : ℕ × ℕ) (v : V) where
  -- a key below all keys is not found
  missing : (x : ℕ × ℕ) (es : List ((ℕ × ℕ) × V)) → entry_cmp k x ≡ Less →
      T (below_all entry_cmp x es) → find entry_cmp k es ≡ None
  missing x [] h below = refl
  missing x (e ∷ es) h below =
      ap (λ r. cond (is_eq r) (Some e.1) (find entry_cmp k es))
      (entry_total.trans k x e.0 h (less _ (first _ _ below)))
      ∙ missing x es h (second _ _ below)

  -- where a row is put in place of one, the keys are the same
  keys_same : (es : List ((ℕ × ℕ) × V)) → T (is_sorted entry_cmp es) →
      is_some (find entry_cmp k es) ≡ true →
      map (λ e. e.0) (put entry_cmp k v es) ≡ map (λ e. e.0) es
  keys_same [] s found = absurd (subst T (sym found) tt)
  keys_same (e ∷ es) s found = go (entry_cmp k e.0) refl found
      (λ later. keys_same es (second _ _ s) later)
    where
      go : (r : Ordering) → entry_cmp k e.0 ≡ r →
          is_some (cond (is_eq r) (Some e.1) (find entry_cmp k es)) ≡ true →
          (is_some (find entry_cmp k es) ≡ true →
          map (λ e. e.0) (put entry_cmp k v es) ≡ map (λ e. e.0) es) →
          map (λ e. e.0) (by_order r ((k, v) ∷ e ∷ es) ((e.0, v) ∷ es)
          (e ∷ put entry_cmp k v es)) ≡ e.0 ∷ map (λ e. e.0) es
      go Less h there later = absurd (subst T
          (sym there ∙ ap is_some (missing e.0 es h (first _ _ s))) tt)
      go Equal h there later = refl
      go Greater h there later = ap (λ l. e.0 ∷ l) (later there)

  -- where a new row is put in, its object is inserted
  keys_new : (es : List ((ℕ × ℕ) × V)) → is_some (find entry_cmp k es) ≡ false →
      map object_of (map (λ e. e.0) (put entry_cmp k v es))
      ≡ put_in object_lt (object_of k) (map object_of (map (λ e. e.0) es))
  keys_new [] none = refl
  keys_new (e ∷ es) none = go (entry_cmp k e.0) refl none (λ later. keys_new es later)
    where
      -- the object before the first, or behind it
      at : (b : Bool) → object_lt (object_of k) (object_of e.0) ≡ b →
          cond b (object_of k ∷ object_of e.0 ∷ (map object_of (map (λ e. e.0) es)))
          (object_of e.0 ∷ put_in object_lt (object_of k) (map object_of (map (λ e. e.0) es)))
          ≡ put_in object_lt (object_of k) (object_of e.0 ∷ (map object_of (map (λ e. e.0) es)))
      at b h = sym (ap (λ c. cond c
          (object_of k ∷ object_of e.0 ∷ (map object_of (map (λ e. e.0) es)))
          (object_of e.0 ∷ put_in object_lt (object_of k) (map object_of (map (λ e. e.0) es)))) h)

      go : (r : Ordering) → entry_cmp k e.0 ≡ r →
          is_some (cond (is_eq r) (Some e.1) (find entry_cmp k es)) ≡ false →
          (is_some (find entry_cmp k es) ≡ false →
          map object_of (map (λ e. e.0) (put entry_cmp k v es))
          ≡ put_in object_lt (object_of k) (map object_of (map (λ e. e.0) es))) →
          map object_of (map (λ e. e.0) (by_order r ((k, v) ∷ e ∷ es) ((e.0, v) ∷ es)
          (e ∷ put entry_cmp k v es)))
          ≡ put_in object_lt (object_of k) (object_of e.0 ∷ (map object_of (map (λ e. e.0) es)))
      go Less h there later = at true (lower k e.0 h)
      go Equal h there later = absurd (subst T there tt)
      go Greater h there later =
          ap (λ l. object_of e.0 ∷ l) (later there) ∙ at false (higher k e.0 h)

-- once an object is counted it is held
pub held_more : (m : Counts) (o : ObjectName) (n : ℕ) →
    held_list (map_of.insert m (o.node, o.serial) n) ≡ joined (held_list m) o
held_more m o n =
    ap (λ es. map object_of (map (λ e. e.0) es))
    (entries-insert entry_total m (o.node, o.serial) n)
    ∙ go (map_of.contains_key m (o.node, o.serial))
    (ap is_some (sym (get-entries m (o.node, o.serial))))
    ∙ ap (λ b. if b then held_list m else inserted object_lt o (held_list m))
    (sym (held_where m (o.node, o.serial)))
  where
    go : (b : Bool) → is_some (find entry_cmp (o.node, o.serial) (map_of.entries m)) ≡ b →
        map object_of (map (λ e. e.0) (put entry_cmp (o.node, o.serial) n (map_of.entries m)))
        ≡ (if b then held_list m else inserted object_lt o (held_list m))
    go true e = ap (map object_of) (keys_same (o.node, o.serial) n (map_of.entries m)
        (entries_sorted m) e)
    go false e = keys_new (o.node, o.serial) n (map_of.entries m) e
        ∙ sym (inserted_is object_lt o (held_list m))

-- where only some keys stay, their objects are held
pub held_less : (m : Counts) (p : ℕ × ℕ → Bool) (q : ObjectName → Bool) →
    ((k : ℕ × ℕ) → q (object_of k) ≡ p k) →
    held_list (map_of.retain_keys m p) ≡ filter q (held_list m)
held_less m p q same =
    ap (λ es. map object_of (map (λ e. e.0) es)) (entries-retain entry_total entry_same m p)
    ∙ sym (filter-map object_of q (map_of.keys m)
    ∙ ap (map object_of) (filter-map (λ e. e.0) (λ k. q (object_of k)) (map_of.entries m))
    ∙ (λ i. map object_of (map (λ e. e.0) (filter (λ e. same e.0 i) (map_of.entries m)))))
