-- What a walk over values keeps.
use Rattle.do_packet.specs.declared.role.Role.TheVariants as roles
use Rattle.std.proofs.Common.{◌≡◌, ℕ, ◌+◌, Bool, true, false, cond, not, ◌||◌, List, [], ◌∷◌, ◌++◌}
use Rattle.std.proofs.Common.{map, refl, sym, ap, ◌∙◌, subst, arith, append_assoc, append-nil}
use Rattle.std.specs.List.{flat_map, list_any, position_or_len}
use Rattle.std.proofs.lemmas.Grind.{common_steps, fold-append, flat_map-append}
use Rattle.do_base.specs.names.Names.{ObjectName}
use Rattle.do_base.specs.declared.values.value.Value.{Value, List as Listed, TheVariants.Obj}
use Rattle.do_class.specs.declared.packet.Part.{Part, List as Parts, TheVariants.{Nil, Copy, Named}}
use Rattle.do_packet.specs.Met.{copied_in, has_object, is_copied, is_named, met, met_one, named_in}
use Rattle.do_packet.specs.{Met.{place, role_of, same_object}, Parts.{part_of, object_part}}
use Rattle.do_packet.specs.{Seen.Seen, walk.Walking.{IsPrefix, Walked}}
use Rattle.do_packet.specs.declared.{packing.walk.Walk.Walk, role.Role.Role}
use Rattle.do_packet.proofs.{Prefixes.{prefix_met, prefix_trans}, Values.objects_of-Obj}
use Rattle.do_packet.proofs.Values.{part_of-Obj, part_of-List, copied_in-List, named_in-List}

-- each name is of the same object as itself
pub same_object-refl : (o : ObjectName) → same_object o o ≡ true
same_object-refl o = grind (arith, common_steps)

-- ---- places

-- where one passes the test, further objects change nothing
place_found : (p : ObjectName → Bool) (xs ys : List ObjectName) → list_any p xs ≡ true →
    position_or_len p (xs ++ ys) ≡ position_or_len p xs
place_found p [] ys h = absurd (cc)
place_found p (x ∷ xs) ys h = go (p x) h (place_found p xs ys)
  where
    go : (b : Bool) → (b || list_any p xs) ≡ true →
        (list_any p xs ≡ true → position_or_len p (xs ++ ys) ≡ position_or_len p xs) →
        cond (not b) (1 + position_or_len p (xs ++ ys)) 0
        ≡ cond (not b) (1 + position_or_len p xs) 0
    go true h f = refl
    go false h f = ap (λ n. 1 + n) (f h)

-- where none passes the test, the next object that does stands behind them
place_after : (p : ObjectName → Bool) (xs : List ObjectName) (y : ObjectName)
    (ys : List ObjectName) → list_any p xs ≡ false → p y ≡ true →
    position_or_len p (xs ++ y ∷ ys) ≡ position_or_len p xs
place_after p [] y ys h t = rw t refl
place_after p (x ∷ xs) y ys h t = go (p x) h (λ k. place_after p xs y ys k t)
  where
    go : (b : Bool) → (b || list_any p xs) ≡ false →
        (list_any p xs ≡ false → position_or_len p (xs ++ y ∷ ys) ≡ position_or_len p xs) →
        cond (not b) (1 + position_or_len p (xs ++ y ∷ ys)) 0
        ≡ cond (not b) (1 + position_or_len p xs) 0
    go true h f = refl
    go false h f = ap (λ n. 1 + n) (f h)

-- an object that was met stands where it was met, whatever else is met
pub place_stays : (os more : List ObjectName) (o : ObjectName) → IsPrefix (met_one os o) more →
    place more o ≡ place os o
place_stays os more o p = go (has_object os o) refl p.0 p.1
  where
    go : (b : Bool) → has_object os o ≡ b → (rest : List ObjectName) →
        more ≡ cond b os (os ++ o ∷ []) ++ rest → place more o ≡ place os o
    go true e rest q = ap (λ l. place l o) q ∙ place_found (same_object o) os rest e
    go false e rest q =
        ap (λ l. place l o) (q ∙ append_assoc os (o ∷ []) rest)
        ∙ place_after (same_object o) os o rest e (same_object-refl o)

-- ---- walks

-- one walk after another
walked_more : {Y X : Type 0} (want : List ObjectName → List ObjectName → Y → X)
    (cs ns cs1 ns1 : List ObjectName) (ys : List Y) (y : Y) (a b c : Walk) (xs : List X) (x : X) →
    Walked cs ns (λ C N. map (want C N) ys) a b xs → Walked cs1 ns1 (λ C N. want C N y) b c x →
    Walked (cs ++ cs1) (ns ++ ns1) (λ C N. map (want C N) (ys ++ y ∷ [])) a c (xs ++ x ∷ [])
walked_more want cs ns cs1 ns1 ys y a b c xs x v w = record {
  copies = w.copies ∙ ap (λ l. met l cs1) v.copies ∙ sym (fold-append met_one a.copies cs cs1);
  names = w.names ∙ ap (λ l. met l ns1) v.names ∙ sym (fold-append met_one a.names ns ns1);
  stands = λ C N p q.
      let pc : IsPrefix b.copies c.copies =
      subst (λ (l : List ObjectName). IsPrefix b.copies l) (sym w.copies)
      (prefix_met b.copies cs1) in
      let qn : IsPrefix b.names c.names =
      subst (λ (l : List ObjectName). IsPrefix b.names l) (sym w.names)
      (prefix_met b.names ns1) in
      let e =
      v.stands C N (prefix_trans b.copies c.copies C pc p) (prefix_trans b.names c.names N qn q) in
      let d = w.stands C N p q in
      grind (arith, common_steps, e, d);
}

module _ (seen : Seen) (from : ℕ) (copy : Bool) where
  -- what is made of a value in the walk from a to b
  abbrev pub WalkedValue : Value → Walk → Walk → Part → Type 0
  WalkedValue v a b made =
      Walked (copied_in seen from copy v) (named_in seen from copy v)
      (λ C N. part_of seen from copy C N v) a b made

  module _ (o : ObjectName) where
    -- the copied objects of an object, by what becomes of it
    copied_by : (r : Role) → role_of seen from copy o ≡ r →
        copied_in seen from copy (Obj o) ≡ cond (is_copied r) (o ∷ []) []
    copied_by r e = rw objects_of-Obj (rw e refl)

    -- the named objects of an object, by what becomes of it
    named_by : (r : Role) → role_of seen from copy o ≡ r →
        named_in seen from copy (Obj o) ≡ cond (is_named r) (o ∷ []) []
    named_by r e = rw objects_of-Obj (rw e refl)

    -- the part of an object, by what becomes of it
    part_by : (r : Role) → role_of seen from copy o ≡ r → (C N : List ObjectName) →
        part_of seen from copy C N (Obj o) ≡ object_part r C N o
    part_by r e C N = part_of-Obj seen from copy C N o ∙ ap (λ r. object_part r C N o) e

    -- a copied object is met among the copies
    pub walked_copy : (a b : Walk) → role_of seen from copy o ≡ roles.Copied →
        b.copies ≡ met_one a.copies o → b.names ≡ a.names →
        WalkedValue (Obj o) a b (Copy (place a.copies o))
    walked_copy a b e c n = record {
      copies = c ∙ ap (met a.copies) (sym (copied_by roles.Copied e));
      names = n ∙ ap (met a.names) (sym (named_by roles.Copied e));
      stands = λ C N p q.
          let at = subst (λ (l : List ObjectName). IsPrefix l C) c p in
          sym (part_by roles.Copied e C N ∙ ap Copy (place_stays a.copies C o at));
    }

    -- a named object is met among the names
    pub walked_name : (a b : Walk) → role_of seen from copy o ≡ roles.Named →
        b.copies ≡ a.copies → b.names ≡ met_one a.names o →
        WalkedValue (Obj o) a b (Named (place a.names o))
    walked_name a b e c n = record {
      copies = c ∙ ap (met a.copies) (sym (copied_by roles.Named e));
      names = n ∙ ap (met a.names) (sym (named_by roles.Named e));
      stands = λ C N p q.
          let at = subst (λ (l : List ObjectName). IsPrefix l N) n q in
          sym (part_by roles.Named e C N ∙ ap Named (place_stays a.names N o at));
    }

    -- an object that becomes nil is met nowhere
    pub walked_nil : (a : Walk) → role_of seen from copy o ≡ roles.Absent →
        WalkedValue (Obj o) a a Nil
    walked_nil a e = record {
      copies = ap (met a.copies) (sym (copied_by roles.Absent e));
      names = ap (met a.names) (sym (named_by roles.Absent e));
      stands = λ C N p q. sym (part_by roles.Absent e C N);
    }

  -- a list's part, from the parts of its items
  pub walked_list : (vs : List Value) (a b : Walk) (ps : List Part) →
      Walked (flat_map (copied_in seen from copy) vs) (flat_map (named_in seen from copy) vs)
      (λ C N. map (part_of seen from copy C N) vs) a b ps →
      WalkedValue (Listed vs) a b (Parts ps)
  walked_list vs a b ps w = record {
    copies = w.copies ∙ ap (met a.copies) (sym (copied_in-List seen from copy vs));
    names = w.names ∙ ap (met a.names) (sym (named_in-List seen from copy vs));
    stands = λ C N p q. ap Parts (w.stands C N p q) ∙ sym (part_of-List seen from copy C N vs);
  }

-- the objects of items with one more
flat_one : {Y : Type 0} (f : Y → List ObjectName) (ys : List Y) (y : Y) →
    flat_map f (ys ++ y ∷ []) ≡ flat_map f ys ++ f y
flat_one f ys y =
    flat_map-append f ys (y ∷ []) ∙ ap (λ l. flat_map f ys ++ l) (append-nil (f y))

-- one more item
pub walked_step : {Y X : Type 0} (f h : Y → List ObjectName)
    (want : List ObjectName → List ObjectName → Y → X) (ys zs : List Y) (y : Y) (a b c : Walk)
    (xs : List X) (x : X) → zs ≡ ys ++ y ∷ [] →
    Walked (flat_map f ys) (flat_map h ys) (λ C N. map (want C N) ys) a b xs →
    Walked (f y) (h y) (λ C N. want C N y) b c x →
    Walked (flat_map f zs) (flat_map h zs) (λ C N. map (want C N) zs) a c (xs ++ x ∷ [])
walked_step {Y} {X} f h want ys zs y a b c xs x e v w =
    let m =
    walked_more want (flat_map f ys) (flat_map h ys) (f y) (h y) ys y a b c xs x v w in
    subst
    (λ (l : List Y).
    Walked (flat_map f l) (flat_map h l) (λ C N. map (want C N) l) a c (xs ++ x ∷ []))
    (sym e)
    (record {
      copies = m.copies ∙ ap (met a.copies) (sym (flat_one f ys y));
      names = m.names ∙ ap (met a.names) (sym (flat_one h ys y));
      stands = m.stands;
    })
