-- What a node holds and knows of foreign objects, by its maps.
use Rattle.std.specs.FinMap as map
use Rattle.std.proofs.Common.{◌≡◌, ℕ, ◌+◌, ◌<◌, ◌==◌, ◌&&◌, ◌||◌, Bool, true, false, cond, T, List}
use Rattle.std.proofs.Common.{[], ◌∷◌, Option, Some, None, is_some, filter, length, count_by}
use Rattle.std.proofs.Common.{map as each, refl, sym, ap, ◌∙◌, subst, arith}
use Rattle.std.specs.{Prelude.{nat_lt, if◌then◌else◌}, List.list_any, Option.unwrap_or}
use Rattle.std.specs.{Ordering.{eq_by_cmp, is_eq}, FinMap.{contains_key-keys, entries-insert}}
use Rattle.std.specs.FinMap.{entries_sorted, get-entries, get-retain_keys, len-entries, same_map}
use Rattle.std.proofs.lemmas.List.{length-map}
use Rattle.std.specs.FinMap.Entries.{below_all, by_order, find, is_sorted, put}
use Rattle.std.specs.declared.cmp.Ordering.{Ordering, TheVariants.{Less, Equal, Greater}}
use Rattle.std.proofs.lemmas.Bool.Decides.{nat_tests}
use Rattle.do_base.specs.names.Names.{ObjectName}
use Rattle.do_class.specs.declared.ids.ClassId.{ClassId}
use Rattle.do_packet.specs.Met.{has_object, same_object}
use Rattle.do_export.specs.Counts.{Counts, IsPositive, count_of, entry_cmp}
use Rattle.do_export.proofs.Order.{entry_total, entry_same}
use Rattle.do_import.specs.{Asked.{AskMap, CountsAsks}, ByObject.{ClassMap, object_of}}
use Rattle.do_import.{specs.Imported.KeepsClasses, proofs.RowCounts.{entries-retain, in_front}}
use Rattle.do_machine.specs.{Lists.inserted, Objects.{joined, object_lt}, State.is_known}
use Rattle.do_machine.specs.{declared.node.Node.Node, lend.Asking.wanted_lt}
use Rattle.do_machine.proofs.PutInOrder.{inserted_is, put_in}
use Rattle.do_machine.proofs.MappedElements.{any-map, filter-map}
use Rattle.do_part.{specs.{Rooting.held_of, Seen.ask_of}, proofs.InsertedCounts.any-all}
use Rattle.do_part.proofs.{LinkRows.asked_list, TestsHold.{first_holds, is_less, second_holds}}

-- ---- objects held

-- two objects are one where their keys tie
object_tie : (q k : ℕ × ℕ) → same_object (object_of q) (object_of k) ≡ eq_by_cmp entry_cmp q k
object_tie q k = grind (arith, nat_tests)

-- an object stands before another where its key is lower
lower : (q k : ℕ × ℕ) → entry_cmp q k ≡ Less → object_lt (object_of q) (object_of k) ≡ true
lower q k h = grind (arith, nat_tests)

-- and behind it where it is higher
higher : (q k : ℕ × ℕ) → entry_cmp q k ≡ Greater → object_lt (object_of q) (object_of k) ≡ false
higher q k h = grind (arith, nat_tests)

-- an object is held just where it is counted
pub held_has : (m : Counts) (q : ℕ × ℕ) → has_object (held_of m) (object_of q)
    ≡ map.contains_key m q
held_has m q = any-map object_of (same_object (object_of q)) (map.keys m)
    ∙ (λ i. list_any (λ k. object_tie q k i) (map.keys m)) ∙ sym (contains_key-keys m q)

module _ {V : Type 0} (k : ℕ × ℕ) (v : V) where
  -- a key below all keys is not found
  missing : (x : ℕ × ℕ) (es : List ((ℕ × ℕ) × V)) → entry_cmp k x ≡ Less
      → T (below_all entry_cmp x es) → find entry_cmp k es ≡ None
  missing x [] h below = refl
  missing x (e ∷ es) h below =
      ap (λ r. cond (is_eq r) (Some e.1) (find entry_cmp k es))
      (entry_total.trans k x e.0 h (is_less (first_holds _ _ below)))
      ∙ missing x es h (second_holds _ _ below)

  -- where a row is put in place of one, the keys are the same
  keys_same : (es : List ((ℕ × ℕ) × V)) → T (is_sorted entry_cmp es)
      → is_some (find entry_cmp k es) ≡ true
      → each (λ e. e.0) (put entry_cmp k v es) ≡ each (λ e. e.0) es
  keys_same [] s found = absurd (subst T (sym found) tt)
  keys_same (e ∷ es) s found = go (entry_cmp k e.0) refl found
      (λ later. keys_same es (second_holds _ _ s) later)
    where
      go : (r : Ordering) → entry_cmp k e.0 ≡ r
          → is_some (cond (is_eq r) (Some e.1) (find entry_cmp k es)) ≡ true
          → (is_some (find entry_cmp k es) ≡ true
          → each (λ e. e.0) (put entry_cmp k v es) ≡ each (λ e. e.0) es)
          → each (λ e. e.0) (by_order r ((k, v) ∷ e ∷ es) ((e.0, v) ∷ es)
          (e ∷ put entry_cmp k v es)) ≡ e.0 ∷ each (λ e. e.0) es
      go Less h there later = absurd (subst T
          (sym there ∙ ap is_some (missing e.0 es h (first_holds _ _ s))) tt)
      go Equal h there later = refl
      go Greater h there later = ap (λ l. e.0 ∷ l) (later there)

  -- where a new row is put in, its object is inserted
  keys_new : (es : List ((ℕ × ℕ) × V)) → is_some (find entry_cmp k es) ≡ false
      → each object_of (each (λ e. e.0) (put entry_cmp k v es))
      ≡ put_in object_lt (object_of k) (each object_of (each (λ e. e.0) es))
  keys_new [] none = refl
  keys_new (e ∷ es) none = go (entry_cmp k e.0) refl none (λ later. keys_new es later)
    where
      -- the object before the first, or behind it
      at : (b : Bool) → object_lt (object_of k) (object_of e.0) ≡ b
          → cond b (object_of k ∷ object_of e.0 ∷ (each object_of (each (λ e. e.0) es)))
          (object_of e.0 ∷ put_in object_lt (object_of k) (each object_of (each (λ e. e.0) es)))
          ≡ put_in object_lt (object_of k) (object_of e.0 ∷ (each object_of (each (λ e. e.0) es)))
      at b h = sym (ap (λ c. cond c
          (object_of k ∷ object_of e.0 ∷ (each object_of (each (λ e. e.0) es)))
          (object_of e.0 ∷ put_in object_lt (object_of k) (each object_of (each (λ e. e.0) es)))) h)

      go : (r : Ordering) → entry_cmp k e.0 ≡ r
          → is_some (cond (is_eq r) (Some e.1) (find entry_cmp k es)) ≡ false
          → (is_some (find entry_cmp k es) ≡ false
          → each object_of (each (λ e. e.0) (put entry_cmp k v es))
          ≡ put_in object_lt (object_of k) (each object_of (each (λ e. e.0) es)))
          → each object_of (each (λ e. e.0) (by_order r ((k, v) ∷ e ∷ es) ((e.0, v) ∷ es)
          (e ∷ put entry_cmp k v es)))
          ≡ put_in object_lt (object_of k) (object_of e.0 ∷ (each object_of (each (λ e. e.0) es)))
      go Less h there later = at true (lower k e.0 h)
      go Equal h there later = absurd (subst T there tt)
      go Greater h there later =
          ap (λ l. object_of e.0 ∷ l) (later there) ∙ at false (higher k e.0 h)

-- once an object is counted it is held
pub held_more : (m : Counts) (o : ObjectName) (n : ℕ)
    → held_of (map.insert m (o.node, o.serial) n) ≡ joined (held_of m) o
held_more m o n =
    ap (λ es. each object_of (each (λ e. e.0) es))
    (entries-insert entry_total m (o.node, o.serial) n)
    ∙ go (map.contains_key m (o.node, o.serial))
    (ap is_some (sym (get-entries m (o.node, o.serial))))
    ∙ ap (λ b. if b then held_of m else inserted object_lt o (held_of m))
    (sym (held_has m (o.node, o.serial)))
  where
    go : (b : Bool) → is_some (find entry_cmp (o.node, o.serial) (map.entries m)) ≡ b
        → each object_of (each (λ e. e.0) (put entry_cmp (o.node, o.serial) n (map.entries m)))
        ≡ (if b then held_of m else inserted object_lt o (held_of m))
    go true e = ap (each object_of) (keys_same (o.node, o.serial) n (map.entries m)
        (entries_sorted m) e)
    go false e = keys_new (o.node, o.serial) n (map.entries m) e
        ∙ sym (inserted_is object_lt o (held_of m))

-- where only some keys stay, their objects are held
pub held_less : (m : Counts) (p : ℕ × ℕ → Bool) (q : ObjectName → Bool)
    → ((k : ℕ × ℕ) → q (object_of k) ≡ p k)
    → held_of (map.retain_keys m p) ≡ filter q (held_of m)
held_less m p q same =
    ap (λ es. each object_of (each (λ e. e.0) es)) (entries-retain entry_total entry_same m p)
    ∙ sym (filter-map object_of q (map.keys m)
    ∙ ap (each object_of) (filter-map (λ e. e.0) (λ k. q (object_of k)) (map.entries m))
    ∙ (λ i. each object_of (each (λ e. e.0) (filter (λ e. same e.0 i) (map.entries m)))))

-- ---- objects known

-- an entry is there just where it counts something
pub has-count : (c : Counts) → IsPositive c → (k : ℕ × ℕ)
    → map.contains_key c k ≡ nat_lt 0 (count_of c k.0 k.1)
has-count c positive k = go (map.get c k) (positive k)
  where
    go : (found : Option ℕ) → (is_some found ≡ true → 0 < unwrap_or found 0)
        → is_some found ≡ nat_lt 0 (unwrap_or found 0)
    go None above = refl
    go (Some n) above = let some = above refl in grind (arith, nat_tests, some)

-- some pass just where one does
pub any_counted : {X : Type 0} (p : X → Bool) (xs : List X)
    → nat_lt 0 (count_by p xs) ≡ list_any p xs
any_counted p [] = refl
any_counted p (x ∷ xs) = ap (nat_lt 0) (in_front p x xs) ∙ go (p x) (any_counted p xs)
  where
    go : (b : Bool) → nat_lt 0 (count_by p xs) ≡ list_any p xs
        → nat_lt 0 (cond b 1 0 + count_by p xs) ≡ (b || list_any p xs)
    go true later = grind (arith, nat_tests)
    go false later = ap (nat_lt 0) (plus (count_by p xs)) ∙ later
      where
        plus : (n : ℕ) → 0 + n ≡ n
        plus n = omega arith

-- an object is asked for just where an ask of it is counted
pub asked_known : (asked : Counts) (asks : AskMap) → CountsAsks asked asks → (q : ℕ × ℕ)
    → list_any (λ w. same_object (object_of q) w.object) (asked_list asks)
    ≡ map.contains_key asked q
asked_known asked asks are q =
    any-all wanted_lt (λ w. same_object (object_of q) w.object) (each ask_of (map.entries asks))
    ∙ any-map ask_of (λ w. same_object (object_of q) w.object) (map.entries asks)
    ∙ sym (any-map (λ e. e.0) (λ k. (q.0 == k.0.0) && (q.1 == k.1.1)) (map.entries asks))
    ∙ sym (any_counted (λ k. (q.0 == k.0.0) && (q.1 == k.1.1)) (map.keys asks))
    ∙ ap (nat_lt 0) (sym (are.counted q)) ∙ sym (has-count asked are.positive q)

-- what a node knows is what it has the class of
pub known_is : (n : Node) (received asked : Counts) (asks : AskMap) (classes : ClassMap)
    → n.held ≡ held_of received → n.asked ≡ asked_list asks
    → KeepsClasses received asked classes → CountsAsks asked asks → (q : ℕ × ℕ)
    → is_known n (object_of q) ≡ map.contains_key classes q
known_is n received asked asks classes held asked_for keeps are q =
    (λ i. has_object (held i) (object_of q)
    || list_any (λ w. same_object (object_of q) w.object) (asked_for i))
    ∙ (λ i. held_has received q i || asked_known asked asks are q i)
    ∙ sym (keeps q)

-- ---- classes

-- classes are among others
abbrev pub AreAmong : ClassMap → ClassMap → Type 0
AreAmong few many =
    (q : ℕ × ℕ) → map.contains_key few q ≡ true → map.get few q ≡ map.get many q

-- classes among others are those that are known
pub classes_known : (few many : ClassMap) (known : ℕ × ℕ → Bool) → AreAmong few many
    → ((q : ℕ × ℕ) → known q ≡ map.contains_key few q) → few ≡ map.retain_keys many known
classes_known few many known among same = same_map entry_total entry_same few _ (λ q.
    go q (map.get few q) refl (among q)
    ∙ ap (λ b. cond b (map.get many q) None) (sym (same q))
    ∙ sym (get-retain_keys many known q (λ x e. ap known (sym (entry_same q x e)))))
  where
    go : (q : ℕ × ℕ) (found : Option ClassId) → map.get few q ≡ found
        → (is_some (map.get few q) ≡ true → map.get few q ≡ map.get many q)
        → map.get few q ≡ cond (is_some (map.get few q)) (map.get many q) None
    go q None e h = e ∙ ap (λ f. cond (is_some f) (map.get many q) None) (sym e)
    go q (Some class) e h = h (ap is_some e)
        ∙ ap (λ f. cond (is_some f) (map.get many q) None) (sym e)

-- as many objects are held as were received
pub held_len : (m : Counts) → length (held_of m) ≡ map.len m
held_len m = length-map (map.keys m) object_of
    ∙ length-map (map.entries m) (λ e. e.0) ∙ sym (len-entries m)
