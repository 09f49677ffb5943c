-- That the thread has room for each object that was received.
use Rattle.std.specs.FinMap as map
use Rattle.std.proofs.Common.{◌==◌, ◌≡◌, ℕ, ◌+◌, ◌-◌, ◌<◌, ◌≤◌, min, Bool, true, false, not, cond}
use Rattle.std.proofs.Common.{◌&&◌, T, List, [], length, Some, None, Option, is_some, IsTrue, ◌⊎◌}
use Rattle.std.proofs.Common.{inl, inr, refl, sym, ap, ◌∙◌, subst, arith}
use Rattle.std.specs.FinMap.{find, entries_sorted, get-empty, get-entries, len-empty, len-entries}
use Rattle.std.specs.FinMap.{len-insert, len-remove, get-retain_keys}
use Rattle.do_sorted.proofs.FewerRows.{HasAll, no_longer, shorter}
use Rattle.do_export.specs.Counts.{Counts, IsPositive, entry_cmp, raised, count_of, others_of}
use Rattle.do_export.proofs.{Order.{entry_total, entry_same}, Positive.none_positive}
use Rattle.do_import.specs.Held.{may_leave, IsThread, IsRoomy}

-- a row of the thread
abbrev Row : Type 0
Row = (ℕ × ℕ) × Unit {0}

-- of two tests that hold together, the first holds
and_first : (a b : Bool) → (a && b) ≡ true → a ≡ true
and_first true b h = refl
and_first false b h = h

-- what is not some is None
is_none : {A : Type 0} (o : Option A) → is_some o ≡ false → o ≡ None
is_none None h = refl
is_none (Some x) h = absurd (subst T h tt)

module _ (received uses : Counts) (es : List Row) (t : IsThread received uses es) where
  -- each object of the thread was received
  has_all : HasAll entry_cmp es (map.entries received)
  has_all q h = ap is_some (sym (get-entries received q))
      ∙ and_first (map.contains_key received q) (not (map.contains_key uses q)) (sym (t.each q) ∙ h)

  -- the thread is no longer than what was received
  pub not_longer : length es ≤ map.len received
  not_longer = omega (
    arith,
    no_longer entry_total es (map.entries received) t.sorted
        (entries_sorted received) has_all,
    len-entries received,
  )

  -- and shorter where an object that was received may not leave
  pub is_shorter : (k : ℕ × ℕ) → may_leave received uses k ≡ false
      → map.contains_key received k ≡ true → length es < map.len received
  is_shorter k stays there =
      let less = shorter entry_total es (map.entries received) t.sorted
      (entries_sorted received) has_all k tt (is_none _ (t.each k ∙ stays))
      (ap is_some (sym (get-entries received k)) ∙ there) in
      omega (arith, less, len-entries received)

-- a count more is one entry more at most, and one taken out leaves no more
pub len_raised : (m : Counts) (k : ℕ × ℕ) (v : ℕ) → map.len (map.insert m k v) ≤ map.len m + 1
len_raised m k v = go (map.contains_key m k) (len-insert entry_total m k v)
  where
    -- whether there is an entry already or not
    go : (b : Bool) → map.len (map.insert m k v) ≡ cond b (map.len m) (map.len m + 1)
        → map.len (map.insert m k v) ≤ map.len m + 1
    go true e = omega (arith, e)
    go false e = omega (arith, e)

-- to name once more is one entry more at most
pub len_named : (m : Counts) (peer serial : ℕ) → map.len (raised m peer serial) ≤ map.len m + 1
len_named m peer serial = len_raised m (peer, serial) (count_of m peer serial + 1)

-- to remove an entry leaves no more
pub len_removed : (m : Counts) (k : ℕ × ℕ) → map.len (map.remove m k) ≤ map.len m
len_removed m k = go (map.contains_key m k) (len-remove entry_total m k)
  where
    -- whether there is an entry or not
    go : (b : Bool) → map.len (map.remove m k) ≡ cond b (map.len m - 1) (map.len m)
        → map.len (map.remove m k) ≤ map.len m
    go true e = omega (arith, e)
    go false e = omega (arith, e)

-- to keep some keys keeps no more entries
pub len_others : (m : Counts) (home : ℕ) → map.len (others_of m home) ≤ map.len m
len_others m home = omega (
  arith,
  no_longer entry_total (map.entries (others_of m home)) (map.entries m)
      (entries_sorted (others_of m home)) (entries_sorted m) has,
  len-entries (others_of m home),
  len-entries m,
)
  where
    -- whether an object has another home
    p : ℕ × ℕ → Bool
    p k = not (k.0 == home)

    -- what passes is there
    go : (b : Bool) (o : Option ℕ) → is_some (cond b o None) ≡ true → is_some o ≡ true
    go true o h = h
    go false o h = absurd (subst T (sym h) tt)

    -- each entry that is kept was there
    has : HasAll entry_cmp (map.entries (others_of m home)) (map.entries m)
    has q h = ap is_some (sym (get-entries m q)) ∙ go (p q) (map.get m q)
        (ap is_some (sym (get-retain_keys m p q (λ x same. ap p (sym (entry_same q x same)))))
        ∙ ap is_some (get-entries (others_of m home) q) ∙ h)

-- where there is room, the thread has more room than objects were received
pub room_of : (a c d : ℕ) → 0 < min a (c - d) → d < c
room_of a c d h = omega (arith, h)

-- nothing was received or is used, and there is no thread
pub empty_roomy : (received uses : Counts) (es : List Row) (spare : ℕ) → received ≡ map.empty
    → es ≡ [] → uses ≡ map.empty → IsRoomy received uses es spare
empty_roomy received uses es spare r e u = record {
  threads = record {
    sorted = subst (λ es. T (map.is_sorted entry_cmp es)) (sym e) tt;
    each = λ q. ap (λ es. is_some (find entry_cmp q es)) e
        ∙ sym (ap (λ m. map.contains_key m q && not (map.contains_key uses q)) r
        ∙ ap (λ o. is_some o && not (map.contains_key uses q)) (get-empty entry_cmp q));
  };
  room = omega (arith, ap map.len r, len-empty entry_cmp ℕ);
  used = subst IsPositive (sym u) none_positive;
}

-- where an object is gone, no room is needed
pub room_or : (b : Bool) (n : ℕ) → (b ≡ true → 0 < n) → IsTrue (not b) ⊎ (0 < n)
room_or true n f = inr (f refl)
room_or false n f = inl refl

-- a change of one entry at most takes one place at most
pub one_off : (b : Bool) (a c : ℕ) → c + cond b 0 1 ≡ a → a ≤ c + 1
one_off true a c e = omega (arith, e)
one_off false a c e = omega (arith, e)

-- the lesser of two falls by one at most, where each does
pub min_falls : (a b x y : ℕ) → a ≤ x + 1 → b ≤ y + 1 → min a b ≤ min x y + 1
min_falls a b x y p q = omega (arith, p, q)

-- the lesser of two does not fall, where neither does
pub min_keeps : (a b x y : ℕ) → a ≤ x → b ≤ y → min a b ≤ min x y
min_keeps a b x y p q = omega (arith, p, q)
