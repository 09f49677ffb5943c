-- What has left so far, from nothing to all that leaves.
use Rattle.std.specs.FinMap as map
use Rattle.std.proofs.Common.{◌≡◌, ℕ, ◌+◌, ◌-◌, ◌<◌, arith, inl, inr, Bool, true, false, cond, not}
use Rattle.std.proofs.Common.{◌||◌, List, [], ◌∷◌, ◌++◌, Option, None, map as each, refl, sym, ap}
use Rattle.std.{proofs.Common.{◌∙◌, subst, append_assoc, append-nil}, specs.Prelude.is_some}
use Rattle.std.{proofs.Math.Bool.or-true, specs.{Ordering.eq_by_cmp, FinMap.empty_of_len}}
use Rattle.std.specs.FinMap.{get-empty, get-remove, get-retain_keys, len-remove, same_map}
use Rattle.std.proofs.lemmas.Bool.{cases_eq}
use Rattle.do_base.specs.names.Names.{ObjectName}
use Rattle.do_export.specs.Counts.{Counts, entry_cmp, count_of}
use Rattle.do_import.specs.{ByObject.left_of, Held.{NoneLeaves, IsLowestLeaving}, Imported.Imported}
use Rattle.do_leaving.specs.Leavers.{leavers, told, classes_left, AllLeave}
use Rattle.do_export.proofs.Order.{entry_total, entry_same}
use Rattle.do_leaving.proofs.LeaversFound.{none_leaves, tied}
use Rattle.do_leaving.proofs.OneLeaves.{lowest_is, first_leaves, users_stay, all_used}

-- an object's key
abbrev pub key : ObjectName → ℕ × ℕ
key o = (o.node, o.serial)

-- imports after these counts of received objects are left
abbrev pub after : Imported → Counts → ℕ → Imported
after old received links =
    record old { received = received; classes = classes_left old received; links = links }

-- what has left so far, while these counts are left
pub record LeftSoFar (old : Imported) (received : Counts) (before so_far : List (ObjectName × ℕ))
    : Type 0 where
  pub told_of : so_far ++ each told (leavers received old.uses)
      ≡ before ++ each told (leavers old.received old.uses)
  pub users : map.retain_keys received (map.contains_key old.uses)
      ≡ map.retain_keys old.received (map.contains_key old.uses)
  pub within : (q : ℕ × ℕ) → map.contains_key received q ≡ true
      → map.contains_key old.received q ≡ true

-- nothing has left yet
pub left_none : (old : Imported) (before : List (ObjectName × ℕ))
    → LeftSoFar old old.received before before
left_none old before = record { told_of = refl; users = refl; within = λ q h. h }

-- what the classes have at an object while these counts are left
class-find : (old : Imported) (received : Counts) (q : ℕ × ℕ)
    → map.get (classes_left old received) q
    ≡ cond (map.contains_key received q || not (map.contains_key old.received q)
    || map.contains_key old.asked q) (map.get old.classes q) None
class-find old received q = get-retain_keys old.classes (λ k. map.contains_key received k
    || not (map.contains_key old.received k) || map.contains_key old.asked k) q
    (λ x t. ap (λ k. map.contains_key received k || not (map.contains_key old.received k)
    || map.contains_key old.asked k) (sym (entry_same q x t)))

-- no class is left yet
classes_none : (old : Imported) → classes_left old old.received ≡ old.classes
classes_none old = same_map entry_total entry_same _ _ (λ q.
    class-find old old.received q
    ∙ go q (map.contains_key old.received q) (map.contains_key old.asked q))
  where
    -- each class is kept, whoever is received or used
    go : (q : ℕ × ℕ) (b c : Bool)
        → cond (b || not b || c) (map.get old.classes q) None ≡ map.get old.classes q
    go q true c = refl
    go q false c = refl

-- the imports are those after nothing has left
pub after_none : (old : Imported) → old ≡ after old old.received old.links
after_none old = λ i. record old { classes = sym (classes_none old) i }

module _ (old : Imported) (received : Counts) (o : ObjectName) where
  -- whether an object's class stays, where it is or is not received any more
  abbrev stays : Option ℕ → ℕ × ℕ → Bool
  stays had q = is_some had || not (map.contains_key old.received q) || map.contains_key old.asked q

  -- the class of an object that was asked for stays
  asked_stays : map.contains_key old.asked (key o) ≡ true → (q : ℕ × ℕ) (b : Bool)
      → eq_by_cmp entry_cmp q (key o) ≡ b
      → cond (stays (map.get received q) q) (map.get old.classes q) None
      ≡ cond (stays (cond b None (map.get received q)) q) (map.get old.classes q) None
  asked_stays is q false e = refl
  asked_stays is q true e =
      let asked = ap (map.contains_key old.asked) (entry_same q (key o) (tied _ e)) ∙ is in
      let all = λ (b : Bool). ap (λ a. b || a) asked ∙ or-true b in
      ap (λ c. cond c (map.get old.classes q) None)
      (all (map.contains_key received q || not (map.contains_key old.received q))
      ∙ sym (all (not (map.contains_key old.received q))))

  -- the class of any other that leaves goes
  other_goes : map.contains_key old.received (key o) ≡ true
      → map.contains_key old.asked (key o) ≡ false → (q : ℕ × ℕ) (b : Bool)
      → eq_by_cmp entry_cmp q (key o) ≡ b
      → cond b None (cond (stays (map.get received q) q) (map.get old.classes q) None)
      ≡ cond (stays (cond b None (map.get received q)) q) (map.get old.classes q) None
  other_goes had is q false e = refl
  other_goes had is q true e =
      let same = entry_same q (key o) (tied _ e) in
      let received_once = ap (map.contains_key old.received) same ∙ had in
      let unasked = ap (map.contains_key old.asked) same ∙ is in
      sym (λ i. cond (not (received_once i) || unasked i) (map.get old.classes q) None)

  -- the class of an object that leaves goes with it, unless it was asked for
  pub class_goes : map.contains_key old.received (key o) ≡ true
      → left_of (classes_left old received) o (map.contains_key old.asked (key o))
      ≡ classes_left old (map.remove received (key o))
  class_goes had = same_map entry_total entry_same _ _ (λ q.
      gone (map.contains_key old.asked (key o)) refl q
      ∙ sym (class-find old (map.remove received (key o)) q
      ∙ ap (λ v. cond (stays v q) (map.get old.classes q) None)
      (get-remove entry_total received (key o) q)))
    where
      -- by whether it was asked for
      gone : (a : Bool) → map.contains_key old.asked (key o) ≡ a → (q : ℕ × ℕ)
          → map.get (left_of (classes_left old received) o a) q
          ≡ cond (stays (cond (eq_by_cmp entry_cmp q (key o)) None (map.get received q)) q)
          (map.get old.classes q) None
      gone true is q =
          class-find old received q ∙ asked_stays is q (eq_by_cmp entry_cmp q (key o)) refl
      gone false is q =
          get-remove entry_total (classes_left old received) (key o) q
          ∙ ap (cond (eq_by_cmp entry_cmp q (key o)) None) (class-find old received q)
          ∙ other_goes had is q (eq_by_cmp entry_cmp q (key o)) refl

-- what is left once one more was taken out was there
still_there : (received : Counts) (k q : ℕ × ℕ)
    → map.contains_key (map.remove received k) q ≡ true → map.contains_key received q ≡ true
still_there received k q h = go (eq_by_cmp entry_cmp q k) (map.get received q)
    (ap is_some (sym (get-remove entry_total received k q)) ∙ h)
  where
    -- at what was taken out, and at each other
    go : (b : Bool) (v : Option ℕ) → is_some (cond b None v) ≡ true → is_some v ≡ true
    go true v e = absurd (clash e)
      where
        -- false is not true
        clash : false ≡ true → ⊥
        clash e = cc
    go false v e = e

-- one more leaves
pub left_more : (old : Imported) (received : Counts) (before so_far : List (ObjectName × ℕ))
    (one : ObjectName × ℕ) → LeftSoFar old received before so_far
    → IsLowestLeaving received old.uses (key one.0)
    → one.1 ≡ count_of received one.0.node one.0.serial
    → LeftSoFar old (map.remove received (key one.0)) before (so_far ++ one ∷ [])
left_more old received before so_far one so lowest count = record {
  told_of = append_assoc so_far (one ∷ []) _
      ∙ ap (λ l. so_far ++ l)
      (ap (λ n. (one.0, n) ∷ each told (leavers (map.remove received (key one.0)) old.uses)) count
      ∙ sym (ap (each told) (first_leaves received old.uses (key one.0) lowest)))
      ∙ so.told_of;
  users = users_stay received old.uses (key one.0) lowest ∙ so.users;
  within = λ q h. so.within q (still_there received (key one.0) q h);
}

-- the imports once one more left
pub after_more : (old now new : Imported) (before so_far : List (ObjectName × ℕ)) (o : ObjectName)
    → LeftSoFar old now.received before so_far → now ≡ after old now.received now.links
    → map.contains_key now.received (key o) ≡ true
    → new ≡ record now {
      received = map.remove now.received (key o);
      classes = left_of now.classes o (map.contains_key now.asked (key o));
      links = new.links;
    } → new ≡ after old (map.remove now.received (key o)) new.links
after_more old now new before so_far o so same had is =
    is
    ∙ ap (λ (i : Imported). record i {
      received = map.remove now.received (key o);
      classes = left_of i.classes o (map.contains_key i.asked (key o));
      links = new.links;
    }) same
    ∙ (λ i. record old {
      received = map.remove now.received (key o);
      classes = class_goes old now.received o (so.within (key o) had) i;
      links = new.links;
    })

-- one more left, with the imports and the list after it
pub left_step : (old now new : Imported) (before so_far so_far' : List (ObjectName × ℕ))
    (one : ObjectName × ℕ) → LeftSoFar old now.received before so_far
    → now ≡ after old now.received now.links
    → IsLowestLeaving now.received now.uses (key one.0)
    → one.1 ≡ count_of now.received one.0.node one.0.serial
    → new ≡ record now {
      received = map.remove now.received (key one.0);
      classes = left_of now.classes one.0 (map.contains_key now.asked (key one.0));
      links = new.links;
    } → so_far' ≡ so_far ++ one ∷ []
    → LeftSoFar old new.received before so_far' × (new ≡ after old new.received new.links)
left_step old now new before so_far so_far' one so same lowest count is items =
    let L : Counts → Type 0 = λ u. IsLowestLeaving now.received u (key one.0) in
    let P : Counts → Type 0 = λ r. LeftSoFar old r before (so_far ++ one ∷ []) in
    let Q : List (ObjectName × ℕ) → Type 0 = λ l. LeftSoFar old new.received before l in
    let received = ap (λ (i : Imported). i.received) is in
    let had = (lowest_is now.received now.uses (key one.0) lowest).0 in
    let more = left_more old now.received before so_far one so
    (subst L (ap (λ (i : Imported). i.uses) same) lowest) count in (
      subst Q (sym items) (subst P (sym received) more),
      after_more old now new before so_far one.0 so same had is
          ∙ ap (λ r. after old r new.links) (sym received),
    )

-- all have left
pub left_all : (old now : Imported) (before so_far : List (ObjectName × ℕ))
    → LeftSoFar old now.received before so_far → now ≡ after old now.received now.links
    → NoneLeaves now.received now.uses → AllLeave old now before so_far
left_all old now before so_far so same none =
    let uses : now.uses ≡ old.uses = ap (λ (i : Imported). i.uses) same in
    let P : Counts → Type 0 = λ u. NoneLeaves now.received u in
    let none_now = subst P uses none in
    let users : now.received ≡ map.retain_keys old.received (map.contains_key old.uses) =
    sym (all_used now.received old.uses none_now) ∙ so.users in
    record {
      told_of = sym (ap (λ l. so_far ++ each told l) (none_leaves now.received old.uses none_now)
          ∙ append-nil so_far) ∙ so.told_of;
      same = same ∙ (λ i. record old {
        received = users i;
        classes = classes_left old now.received;
        links = now.links;
      });
    }

-- where an object was received there is room for one
pub some_received : (m : Counts) (k : ℕ × ℕ) → map.contains_key m k ≡ true → 0 < map.len m
some_received m k there = elim (cases_eq (map.len m) 0) [
  | inl none ↦ absurd (clash
      (sym (ap is_some (ap (λ n. map.get n k) (empty_of_len m none) ∙ get-empty entry_cmp k))
      ∙ there))
  | inr some ↦ omega (arith, some)
]
  where
    -- false is not true
    clash : false ≡ true → ⊥
    clash e = cc

-- one fewer is received once it is taken out
pub fewer_received : (m : Counts) (k : ℕ × ℕ) → map.contains_key m k ≡ true
    → map.len (map.remove m k) + 1 ≡ map.len m
fewer_received m k there =
    omega (
      arith,
      some_received m k there,
      len-remove entry_total m k ∙ ap (λ b. cond b (map.len m - 1) (map.len m)) there,
    )
