-- Names that a peer gives back leave a node tidy.
use Rattle.std.specs.FinMap as map
use Rattle.std.proofs.Common.{◌≡◌, ℕ, Bool, true, false, cond, Option, None, refl, ap, sym, ◌∙◌}
use Rattle.std.{proofs.Common.{◌-◌, ◌<◌, Some, arith}, specs.Prelude.{is_some, nat_lt, unwrap_or}}
use Rattle.std.{specs.Prelude.◌==◌, proofs.lemmas.Bool.{ltb-true, Decides.nat_tests}}
use Rattle.std.specs.{Ordering.eq_by_cmp, FinMap.{get-insert, get-remove, same_map}}
use Rattle.do_export.specs.Counts.{Counts, count_of, entry_cmp, lowered}
use Rattle.do_export.proofs.Order.{entry_same, entry_total}
use Rattle.do_machine.specs.{declared.node.Node.Node, State.is_open}
use Rattle.do_network.specs.{Counting.{given_back, over_open_ends}, Own.Own}
use Rattle.do_effects.{proofs.TidyCounts.{kept_get, tied}, specs.Tidy.IsTidy}

module _ (n : Node) (c m : Counts) (k : ℕ × ℕ) (w : Option ℕ) (tidy : over_open_ends n c ≡ c)
    (is : is_open n k.0 ≡ true)
    (one : (q : ℕ × ℕ) → map.get m q ≡ cond (eq_by_cmp entry_cmp q k) w (map.get c q)) where
  abbrev open_to : ℕ × ℕ → Bool
  open_to e = is_open n e.0

  -- over a closed end nothing is counted
  none_closed : (q : ℕ × ℕ) → open_to q ≡ false → (b : Bool) → eq_by_cmp entry_cmp q k ≡ b →
      None ≡ map.get m q
  none_closed q shut true e =
      let other : true ≡ false =
      sym is ∙ sym (ap open_to (entry_same q k (tied _ e))) ∙ shut in cc
  none_closed q shut false e =
      sym (one q ∙ ap (λ b. cond b w (map.get c q)) e
      ∙ ap (λ (x : Counts). map.get x q) (sym tidy) ∙ kept_get c open_to q
      ∙ ap (λ b. cond b (map.get c q) None) shut)

  each_open : (q : ℕ × ℕ) (b : Bool) → open_to q ≡ b → cond b (map.get m q) None ≡ map.get m q
  each_open q true e = refl
  each_open q false e = none_closed q e (eq_by_cmp entry_cmp q k) refl

  -- counts that differ from tidy ones at an open end are tidy
  pub same_open : over_open_ends n m ≡ m
  same_open = same_map entry_total entry_same _ _ (λ q.
      kept_get m open_to q ∙ each_open q (open_to q) refl)

-- so are those of which names were taken off
pub lowered_open : (n : Node) (c : Counts) (peer serial amount : ℕ) → over_open_ends n c ≡ c →
    is_open n peer ≡ true → over_open_ends n (lowered c peer serial amount)
    ≡ lowered c peer serial amount
lowered_open n c peer serial amount tidy is =
    elim (count_of c peer serial == amount) as (λ b.
    over_open_ends n (cond b (map.remove c (peer, serial))
    (map.insert c (peer, serial) (count_of c peer serial - amount)))
    ≡ cond b (map.remove c (peer, serial))
    (map.insert c (peer, serial) (count_of c peer serial - amount))) [
      | true ↦ same_open n c _ (peer, serial) None tidy is
          (λ q. get-remove entry_total c (peer, serial) q)
      | false ↦ same_open n c _ (peer, serial) _ tidy is
          (λ q. get-insert entry_total c (peer, serial) _ q)
    ]

-- a node that was given names back is tidy
pub released_tidy : (p : Own) (peer serial amount : ℕ) → IsTidy p → is_open p.node peer ≡ true →
    IsTidy (given_back peer serial amount p)
released_tidy p peer serial amount tidy is = record {
  counts = lowered_open p.node p.counts peer serial amount tidy.counts is;
  received = tidy.received;
  classes = tidy.classes;
}

module _ (c : Counts) (peer serial : ℕ)
    (there : map.contains_key c (peer, serial) ≡ nat_lt 0 (count_of c peer serial)) where
  -- a map that says the same of an entry is the same
  same_entry : (m : Counts) (w : Option ℕ) → w ≡ map.get c (peer, serial) →
      ((q : ℕ × ℕ) → map.get m q
      ≡ cond (eq_by_cmp entry_cmp q (peer, serial)) w (map.get c q)) → m ≡ c
  same_entry m w is one = same_map entry_total entry_same m c (λ q.
      one q ∙ each q (eq_by_cmp entry_cmp q (peer, serial)) refl)
    where
      each : (q : ℕ × ℕ) (b : Bool) → eq_by_cmp entry_cmp q (peer, serial) ≡ b →
          cond b w (map.get c q) ≡ map.get c q
      each q true e =
          is ∙ ap (λ x. map.get c x) (sym (entry_same q (peer, serial) (tied _ e)))
      each q false e = refl

  -- an entry that counts something counts it still
  some_stays : (n : ℕ) (b : Bool) → (n == 0) ≡ b → true ≡ nat_lt 0 n →
      Some n ≡ map.get c (peer, serial) →
      cond b (map.remove c (peer, serial)) (map.insert c (peer, serial) (n - 0)) ≡ c
  some_stays n true e h is =
      let some : 0 < n = ltb-true 0 n (sym h) in
      let none : n ≡ 0 = grind (arith, nat_tests, e) in
      absurd (omega (arith, some, none))
  some_stays n false e h is =
      let less : n - 0 ≡ n = omega arith in
      same_entry (map.insert c (peer, serial) (n - 0)) (Some (n - 0)) (ap Some less ∙ is)
      (λ q. get-insert entry_total c (peer, serial) (n - 0) q)

  -- names that are none take nothing off, where each entry counts something
  pub none_lowered : lowered c peer serial 0 ≡ c
  none_lowered = go (map.get c (peer, serial)) refl there
    where
      go : (o : Option ℕ) → map.get c (peer, serial) ≡ o →
          is_some o ≡ nat_lt 0 (unwrap_or o 0) →
          cond (unwrap_or o 0 == 0) (map.remove c (peer, serial))
          (map.insert c (peer, serial) (unwrap_or o 0 - 0)) ≡ c
      go None e h =
          same_entry (map.remove c (peer, serial)) None (sym e)
          (λ q. get-remove entry_total c (peer, serial) q)
      go (Some n) e h = some_stays n (n == 0) refl h (sym e)
