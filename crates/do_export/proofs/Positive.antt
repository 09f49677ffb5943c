-- That no entry counts 0, after each change.
use Rattle.std.specs.FinMap as map
use Rattle.std.proofs.Common.{◌≡◌, ℕ, ◌<◌, Bool, true, false, not, cond, ◌==◌, T, Option, Some}
use Rattle.std.proofs.Common.{None, List, is_some, sym, ap, subst}
use Rattle.std.specs.{Option.unwrap_or, Ordering.eq_by_cmp, FinMap.{get-empty, get-insert}}
use Rattle.std.specs.FinMap.{get-remove, get-retain_keys, Entries.{put, where_key}}
use Rattle.do_sorted.specs.Rows.{without}
use Rattle.do_export.specs.Counts.{Counts, IsPositive, AreEntries, entry_cmp, others_of}
use Rattle.do_export.proofs.Order.{entry_total, entry_same, put_is, without_is, others_are}

-- what is found counts something
abbrev Above : Option ℕ → Type 0
Above found = is_some found ≡ true → 0 < unwrap_or found 0

-- nothing is found
nothing : Above None
nothing there = absurd (subst T (sym there) tt)

-- where there is no entry none counts 0
pub none_positive : IsPositive map.empty
none_positive q = subst Above (sym (get-empty entry_cmp q)) nothing

module _ (c : Counts) (positive : IsPositive c) where
  -- an entry that counts something is put in
  pub put_positive : (k : ℕ × ℕ) (v : ℕ) → 0 < v → IsPositive (map.insert c k v)
  put_positive k v above q = subst Above (sym (get-insert entry_total c k v q))
      (go (eq_by_cmp entry_cmp q k))
    where
      -- at the entry itself, and at each other
      go : (b : Bool) → Above (cond b (Some v) (map.get c q))
      go true = λ there. above
      go false = positive q

  -- an entry is taken out
  pub out_positive : (k : ℕ × ℕ) → IsPositive (map.remove c k)
  out_positive k q = subst Above (sym (get-remove entry_total c k q))
      (go (eq_by_cmp entry_cmp q k))
    where
      -- at the entry itself, and at each other
      go : (b : Bool) → Above (cond b None (map.get c q))
      go true = nothing
      go false = positive q

  -- the entries of a peer are taken out
  pub others_positive : (peer : ℕ) → IsPositive (others_of c peer)
  others_positive peer q =
      subst Above (sym (get-retain_keys c other q (λ x e. ap other (sym (entry_same q x e)))))
      (go (other q))
    where
      -- whether an entry is of another peer
      other : ℕ × ℕ → Bool
      other k = not (k.0 == peer)

      -- at an entry of another peer, and at one of the peer
      go : (b : Bool) → Above (cond b (map.get c q) None)
      go true = positive q
      go false = nothing

-- rows of entries stay so, where a peer is written in two ways
module _ (es new : List ((ℕ × ℕ) × ℕ)) (are : AreEntries es) (p q : ℕ) (same : q ≡ p) where
  -- once a row that counts something is put in
  pub entries_put : (t v : ℕ) → 0 < v → new ≡ put entry_cmp (q, t) v es → AreEntries new
  entries_put t v above e =
      let is = put_is es new are.sorted p q t same v e in
      record {
        sorted = is.0;
        positive = subst IsPositive (sym is.1) (put_positive _ are.positive (p, t) v above);
      }

  -- once the rows of an entry are taken out
  pub entries_out : (t : ℕ) → new ≡ without entry_cmp (q, t) es → AreEntries new
  entries_out t e =
      let is = without_is es new are.sorted p q t same e in
      record {
        sorted = is.0;
        positive = subst IsPositive (sym is.1) (out_positive _ are.positive (p, t));
      }

  -- once the rows of all other peers are kept
  pub entries_others : new ≡ where_key entry_cmp (λ k. not (k.0 == q)) es → AreEntries new
  entries_others e =
      let is = others_are es new are.sorted p q same e in
      record {
        sorted = is.0;
        positive = subst IsPositive (sym is.1) (others_positive _ are.positive p);
      }
