-- Entries stay within bounds where one of them changes.
use Rattle.std.specs.FinMap as map
use Rattle.std.proofs.Common.{◌≡◌, ℕ, ◌+◌, ◌-◌, ◌<◌, ◌≤◌, ◌==◌, Bool, true, false, cond, Option}
use Rattle.std.{proofs.Common.{Some, None, refl, sym, ap, ◌∙◌, arith}, specs.Prelude.if◌then◌else◌}
use Rattle.std.specs.{Option.unwrap_or, Ordering.eq_by_cmp, FinMap.{get-insert, get-remove}}
use Rattle.do_export.specs.Counts.{Counts, count_of, entry_cmp, lowered, raised}
use Rattle.do_export.proofs.Order.{entry_total, entry_same}
use Rattle.do_machine.specs.State.{is_open}
use Rattle.do_part.specs.{Linked.AreLinked, Seen.own_of, declared.part.Part.TheInside.Inside}
use Rattle.do_part.proofs.Bounds.{at-le}
use Rattle.do_export.proofs.Counting.{count-raised}
use Rattle.do_part.proofs.{Entries.counted-has, Linking.{SameImports, links_entered}}
use Rattle.do_part.proofs.MapKeys.{out_has, put_has, tied}

-- entries are fewer, and count no more
pub record AreFewer (c d : Counts) : Type 0 where
  pub has : (k : ℕ × ℕ) → map.contains_key d k ≡ true → map.contains_key c k ≡ true
  pub counts : (k : ℕ × ℕ) → count_of d k.0 k.1 ≤ count_of c k.0 k.1

-- entries without one are fewer
pub removed_fewer : (c : Counts) (k : ℕ × ℕ) → AreFewer c (map.remove c k)
removed_fewer c k = record {
  has = out_has entry_total entry_same c k;
  counts = λ q. let e = ap (λ o. unwrap_or o 0) (get-remove entry_total c k q) in
      let l = less (eq_by_cmp entry_cmp q k) (map.get c q) in omega (arith, e, l);
}
  where
    less : (b : Bool) (o : Option ℕ) → unwrap_or (cond b None o) 0 ≤ unwrap_or o 0
    less true o = omega arith
    less false o = omega arith

-- and so they are where names are given back
pub lowered_fewer : (c : Counts) (peer serial n left : ℕ) → 0 < n
    → left + n ≡ count_of c peer serial → AreFewer c (lowered c peer serial n)
lowered_fewer c peer serial n left some sum = go (count_of c peer serial == n)
  where
    -- a lower count in place of the count
    put : AreFewer c (map.insert c (peer, serial) (count_of c peer serial - n))
    put = record {
      has = put_has entry_total entry_same c (peer, serial) (count_of c peer serial - n)
          (λ q. map.contains_key c q ≡ true)
          (counted-has (map.get c (peer, serial)) (omega (arith, some, sum))) (λ q h. h);
      counts = λ q. let e = ap (λ o. unwrap_or o 0) (get-insert entry_total c (peer, serial)
          (count_of c peer serial - n) q) in
          let l = less q (eq_by_cmp entry_cmp q (peer, serial)) refl in omega (arith, e, l);
    }
      where
        less : (q : ℕ × ℕ) (b : Bool) → eq_by_cmp entry_cmp q (peer, serial) ≡ b
            → unwrap_or (cond b (Some (count_of c peer serial - n)) (map.get c q)) 0
            ≤ count_of c q.0 q.1
        less q true e =
            let same = ap (λ k. count_of c k.0 k.1) (tied entry_same (peer, serial) q e) in
            omega (arith, same)
        less q false e = omega arith

    go : (b : Bool) → AreFewer c (if b then map.remove c (peer, serial)
        else map.insert c (peer, serial) (count_of c peer serial - n))
    go true = removed_fewer c (peer, serial)
    go false = put

module _ (i j : Inside) (l : AreLinked i) (node : j.holders.node ≡ i.holders.node)
    (imports : SameImports i.holders.imports j.holders.imports) (ends : j.ends ≡ i.ends) where
  -- bounds are kept where entries are fewer
  pub links_fewer : i.holders.names ≤ j.holders.names
      → AreFewer i.exports.counts j.exports.counts → AreLinked j
  links_fewer names fewer = links_entered i j l node imports names
      (λ k there. ap (λ ps. is_open (record (own_of i).node { open_to = ps }) k.0) ends
      ∙ l.ends k (fewer.has k there))
      (λ k. let a = fewer.counts k in let b = l.sent k in omega (arith, a, b, names))

  -- and where an object was named once more
  pub links_named : (peer serial : ℕ) → is_open (own_of i).node peer ≡ true
      → j.holders.names ≡ i.holders.names + 1
      → j.exports.counts ≡ raised i.exports.counts peer serial → AreLinked j
  links_named peer serial known names counts =
      links_entered i j l node imports (omega (arith, names))
      (λ k there. ap (λ ps. is_open (record (own_of i).node { open_to = ps }) k.0) ends
      ∙ put_has entry_total entry_same i.exports.counts (peer, serial)
      (count_of i.exports.counts peer serial + 1)
      (λ q. is_open (own_of i).node q.0 ≡ true) known l.ends k
      (ap (λ c. map.contains_key c k) (sym counts) ∙ there))
      (λ k. let a = l.sent k in
      let b = count-raised i.exports.counts peer serial k.0 k.1 in
      let m = at-le peer serial k.0 k.1 in
      let e = ap (λ c. count_of c k.0 k.1) counts in
      omega (arith, a, b, m, e, names))
