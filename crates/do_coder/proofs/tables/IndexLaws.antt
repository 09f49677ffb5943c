-- Laws of the index of a log.
use Rattle.std.proofs.Common.{◌≡◌, ℕ, zero, suc, ◌+◌, ◌-◌, ◌<◌, ◌≤◌, Bool, true, false, List, []}
use Rattle.std.proofs.Common.{◌∷◌, ◌++◌, length, drop, take, get_or, Option, Some, None, refl, sym}
use Rattle.std.{proofs.Common.{ap, subst, ◌∙◌, arith, inl, inr, is_eq}, specs.Prelude.◌⊎◌}
use Rattle.std.specs.{BTreeMap.{BTreeMap, get, Updates, is_at}, declared.cmp.Ordering.Ordering}
use Rattle.std.specs.{declared.cmp.Ordering.TheVariants.{Less, Equal, Greater}, Ordering.nat_cmp}
use Rattle.std.proofs.lemmas.{Map.Lookups.{exact_pairs, exact_unsigned}, Bool.cases_lt}
use Rattle.std.proofs.lemmas.List.{length-drop, get_or-drop, length-take-le}
use Rattle.do_coder.specs.declared.recent.{pair.Pair.Pair, index.Places.Places}
use Rattle.do_coder.specs.Recent.{pair, same_pair, place_in, AllDiffer}
use Rattle.do_coder.specs.NameLog.{pair_cmp, IsFound, AreFound, StandsAt}
use Rattle.do_coder.proofs.tables.TableLaws.{same_is, same_self, place_got, got_place}

-- a place in the later part of a log, counted from where that begins
drop_at_place : (n : ℕ) (log : List Pair) (k : ℕ)
    → get_or (drop n log) k (pair 0 0) ≡ get_or log (n + k) (pair 0 0)
drop_at_place n log k = get_or-drop n log k (pair 0 0)

-- a pair that stands at a place has this place in the table
pub stood : (log : List Pair) (start at : ℕ) (p : Pair) → AllDiffer (drop start log)
    → StandsAt log start at p → place_in p (drop start log) ≡ Some (at - start)
stood log start at p d s =
    let from = s.from in
    let inside = s.inside in
    let sum : start + (at - start) ≡ at = omega arith in
    let there : get_or (drop start log) (at - start) (pair 0 0) ≡ p =
    drop_at_place start log (at - start) ∙ ap (λ (k : ℕ). get_or log k (pair 0 0)) sum
    ∙ s.same in
    ap (λ (w : Pair). place_in w (drop start log)) (sym there)
    ∙ got_place (drop start log) (at - start) d (omega (arith, length-drop start log))

-- a pair that stands at none of its two places isn't in the table
pub not_stood : (log : List Pair) (start : ℕ) (index : BTreeMap Pair Places) (p : Pair)
    (places : Places) → start ≤ length log → AreFound log index start (length log)
    → get pair_cmp index p ≡ Some places
    → (StandsAt log start places.now p → ⊥) → (StandsAt log start places.kept p → ⊥)
    → place_in p (drop start log) ≡ None
not_stood log start index p places begins found stored now kept =
    go (place_in p (drop start log)) refl
  where
    go : (o : Option ℕ) → place_in p (drop start log) ≡ o → o ≡ None
    go None e = refl
    go (Some k) e =
        let g = place_got p (drop start log) k e in
        let inside : start + k < length log = omega (arith, g.0, length-drop start log) in
        let there : get_or log (start + k) (pair 0 0) ≡ p = sym (drop_at_place start log k) ∙ g.1 in
        let f = found (start + k) (omega arith) inside in
        let same : Some f.places ≡ Some places = sym f.stored ∙ ap (get pair_cmp index) there
        ∙ stored in
        let one : f.places ≡ places = cc in
        elim f.here [
          | inl h ↦ absurd (kept (record {
            from = omega (arith, ap (λ (s : Places). s.kept) one, h);
            inside = omega (arith, ap (λ (s : Places). s.kept) one, h, inside);
            same = ap (λ (n : ℕ). get_or log n (pair 0 0)) (sym (ap (λ (s : Places). s.kept) one)
                ∙ h) ∙ there;
          }))
          | inr h ↦ absurd (now (record {
            from = omega (arith, ap (λ (s : Places). s.now) one, h);
            inside = omega (arith, ap (λ (s : Places). s.now) one, h, inside);
            same = ap (λ (n : ℕ). get_or log n (pair 0 0)) (sym (ap (λ (s : Places). s.now) one)
                ∙ h) ∙ there;
          }))
        ]

-- a pair without places isn't in the table
pub not_stored : (log : List Pair) (start : ℕ) (index : BTreeMap Pair Places) (p : Pair)
    → start ≤ length log → AreFound log index start (length log) → get pair_cmp index p ≡ None
    → place_in p (drop start log) ≡ None
not_stored log start index p begins found stored = go (place_in p (drop start log)) refl
  where
    go : (o : Option ℕ) → place_in p (drop start log) ≡ o → o ≡ None
    go None e = refl
    go (Some k) e =
        let g = place_got p (drop start log) k e in
        let inside : start + k < length log = omega (arith, g.0, length-drop start log) in
        let there : get_or log (start + k) (pair 0 0) ≡ p = sym (drop_at_place start log k) ∙ g.1 in
        let f = found (start + k) (omega arith) inside in
        let same : None ≡ Some f.places = sym stored ∙ ap (get pair_cmp index) (sym there)
        ∙ f.stored in
        absurd cc

-- pairs of the same serial and class are the same
pub stands_same : (p q : Pair) → p.serial ≡ q.serial → p.class.0 ≡ q.class.0 → p ≡ q
stands_same p q a b = ap (λ (n : ℕ). record { serial = n; class = p.class }) a
    ∙ ap (λ (n : ℕ). record { serial = q.serial; class = record { 0 = n } }) b

pub ruleset standing = (stands_same)

pub ruleset finding = (stood, not_stood, not_stored)

-- ---- a pair that comes to the end

-- the order has pairs as equal only where they are the same
keys_exact : (p q : Pair) → pair_cmp p q ≡ Equal → p ≡ q
keys_exact p q e =
    ap (λ (w : ℕ × ℕ). record { serial = w.0; class = record { 0 = w.1 } })
    (exact_pairs nat_cmp nat_cmp exact_unsigned exact_unsigned (p.serial, p.class.0) (
      q.serial,
      q.class.0,
    ) e)

-- the test of an order for equality is exact
at_equal : (o : Ordering) → is_eq o ≡ true → o ≡ Equal
at_equal Less e = absurd cc
at_equal Equal e = refl
at_equal Greater e = absurd cc

-- a pair is not at the key of another
key_apart : (p q : Pair) → (p ≡ q → ⊥) → is_at (pair_cmp p) q ≡ false
key_apart p q ne = go (is_at (pair_cmp p) q) refl
  where
    go : (t : Bool) → is_at (pair_cmp p) q ≡ t → is_at (pair_cmp p) q ≡ false
    go true t = absurd (ne (keys_exact p q (at_equal (pair_cmp p q) t)))
    go false t = t

-- a pair at the end of a log leaves those before it in their places
before_push : (log : List Pair) (p : Pair) (k : ℕ) → k < length log
    → get_or (log ++ p ∷ []) k (pair 0 0) ≡ get_or log k (pair 0 0)
before_push [] p k lt = absurd (omega arith)
before_push (q ∷ log) p zero lt = refl
before_push (q ∷ log) p (suc k) lt = before_push log p k (omega arith)

-- and stands there
at_push : (log : List Pair) (p : Pair) → get_or (log ++ p ∷ []) (length log) (pair 0 0) ≡ p
at_push [] p = refl
at_push (q ∷ log) p = at_push log p

module _ (log : List Pair) (index after : BTreeMap Pair Places) (p : Pair) (places : Places)
    (updates : Updates pair_cmp index after p (Some places)) where
  -- a pair that is another is found as before
  other_found : (k : ℕ) → k < length log → (get_or log k (pair 0 0) ≡ p → ⊥) → IsFound log index k
      → IsFound (log ++ p ∷ []) after k
  other_found k lt ne f =
      let same = before_push log p k lt in
      let kept =
      updates.2 (get_or log k (pair 0 0))
      (key_apart p (get_or log k (pair 0 0)) (λ e. ne (sym e))) in
      record {
        places = f.places;
        stored = ap (get pair_cmp after) same ∙ kept ∙ f.stored;
        here = f.here;
      }

  -- the pair itself is found where one of its places is
  own_found : (k : ℕ) → get_or (log ++ p ∷ []) k (pair 0 0) ≡ p
      → (places.kept ≡ k) ⊎ (places.now ≡ k) → IsFound (log ++ p ∷ []) after k
  own_found k same here = record {
    places = places;
    stored = ap (get pair_cmp after) same ∙ updates.1;
    here = here;
  }

  -- each pair of the table is found in the longer log
  pub noted_now : (start : ℕ) → places.now ≡ length log → place_in p (drop start log) ≡ None
      → AllDiffer (drop start log) → AreFound log index start (length log)
      → AreFound (log ++ p ∷ []) after start (length log + 1)
  noted_now start last new d found k from lt =
      elim (cases_lt k (length log)) [
        | inl inside ↦ other_found k inside (λ e. let s =
            stood log start k p d (record { from = from; inside = inside; same = e }) in
            absurd cc) (found k from inside)
        | inr end ↦ let at : length log ≡ k = omega arith in
            subst (IsFound (log ++ p ∷ []) after) at (own_found (length log) (at_push log p)
            (inr last))
      ]

  -- and each that was kept, if the pair has its kept place among its places
  pub noted_kept : (from to : ℕ) → to ≤ length log
      → ((k : ℕ) → from ≤ k → k < to → get_or log k (pair 0 0) ≡ p → places.kept ≡ k)
      → AreFound log index from to → AreFound (log ++ p ∷ []) after from to
  noted_kept from to within own found k low high = go (same_pair (get_or log k (pair 0 0)) p) refl
    where
      inside : k < length log
      inside = omega arith

      go : (t : Bool) → same_pair (get_or log k (pair 0 0)) p ≡ t → IsFound (log ++ p ∷ []) after k
      go true t =
          let e = same_is (get_or log k (pair 0 0)) p t in
          own_found k (before_push log p k inside ∙ e) (inl (own k low high e))
      go false t = other_found k inside (λ e. let s : same_pair (get_or log k (pair 0 0)) p ≡ true =
          ap (λ (w : Pair). same_pair w p) e ∙ same_self p in absurd cc) (found k low high)

-- ---- where a pair stands in what was kept

-- the front of a log has its pairs in their places
pub take_at_place : (n : ℕ) (log : List Pair) (k : ℕ) → k < n
    → get_or (take n log) k (pair 0 0) ≡ get_or log k (pair 0 0)
take_at_place zero log k lt = absurd (omega arith)
take_at_place (suc n) [] k lt = refl
take_at_place (suc n) (q ∷ log) zero lt = refl
take_at_place (suc n) (q ∷ log) (suc k) lt = take_at_place n log k (omega arith)

module _ (log : List Pair) (index : BTreeMap Pair Places) (p : Pair) (from to : ℕ)
    (within : to ≤ length log) (differ : AllDiffer (drop from (take to log)))
    (found : AreFound log index from to) where
  -- a pair that was kept stands in that front
  stands_kept : (k : ℕ) → from ≤ k → k < to → get_or log k (pair 0 0) ≡ p
      → StandsAt (take to log) from k p
  stands_kept k low high same = record {
    from = low;
    inside = omega (arith, length-take-le to log within);
    same = take_at_place to log k high ∙ same;
  }

  -- it has one place there
  pub one_place : (at k : ℕ) → StandsAt (take to log) from at p → from ≤ k → k < to
      → get_or log k (pair 0 0) ≡ p → at ≡ k
  one_place at k s low high same =
      let a = stood (take to log) from at p differ s in
      let b = stood (take to log) from k p differ (stands_kept k low high same) in
      let e : Some (at - from) ≡ Some (k - from) = sym a ∙ b in
      let d : at - from ≡ k - from = cc in
      let start = s.from in
      omega arith

  -- or it is the one that was kept
  pub kept_place : (places : Places) (k : ℕ) → get pair_cmp index p ≡ Some places
      → (StandsAt (take to log) from places.now p → ⊥) → from ≤ k → k < to
      → get_or log k (pair 0 0) ≡ p → places.kept ≡ k
  kept_place places k stored not low high same =
      let f = found k low high in
      let e : Some f.places ≡ Some places = sym f.stored ∙ ap (get pair_cmp index) same ∙ stored in
      let one : f.places ≡ places = cc in
      elim f.here [
        | inl h ↦ sym (ap (λ (s : Places). s.kept) one) ∙ h
        | inr h ↦ absurd
            (not (subst (λ (n : ℕ). StandsAt (take to log) from n p) (sym h
            ∙ ap (λ (s : Places). s.now) one) (stands_kept k low high same)))
      ]

  -- a pair without places was not kept
  pub no_place : (k : ℕ) → get pair_cmp index p ≡ None → from ≤ k → k < to
      → get_or log k (pair 0 0) ≡ p → ⊥
  no_place k none low high same =
      let f = found k low high in
      let e : None ≡ Some f.places = sym none ∙ ap (get pair_cmp index) (sym same) ∙ f.stored in
      absurd cc

-- ---- a log that became longer, or did not

module _ (log : List Pair) (p : Pair) (index : BTreeMap Pair Places) where
  -- what is found in a longer log is found in its front
  pub found_front : (from to : ℕ) → to ≤ length log → AreFound (log ++ p ∷ []) index from to
      → AreFound log index from to
  found_front from to within found k low high =
      let f = found k low high in
      let same = before_push log p k (omega arith) in
      record {
        places = f.places;
        stored = ap (get pair_cmp index) (sym same) ∙ f.stored;
        here = f.here;
      }

  -- the same to the end of the front
  pub found_end : (from : ℕ) → AreFound (log ++ p ∷ []) index from (length log + 1)
      → AreFound log index from (length log)
  found_end from found =
      found_front from (length log) (omega arith) (λ k low high. found k low (omega arith))

-- a log that is another one by its name
pub found_same : (log other : List Pair) (index : BTreeMap Pair Places) (from to : ℕ)
    → other ≡ log → AreFound log index from to → AreFound other index from to
found_same log other index from to e found =
    subst (λ (w : List Pair). AreFound w index from to) (sym e) found

-- the same to its end
pub found_same_end : (log other : List Pair) (index : BTreeMap Pair Places) (from : ℕ)
    → other ≡ log → AreFound log index from (length log)
    → AreFound other index from (length other)
found_same_end log other index from e found =
    subst (λ (w : List Pair). AreFound w index from (length w)) (sym e) found
