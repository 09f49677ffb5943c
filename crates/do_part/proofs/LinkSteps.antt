-- A part is sound once it lends or asks, or a lend or an ask is over.
use Rattle.std.specs.FinMap as map
use Rattle.std.proofs.Common.{◌≡◌, ◌≢◌, ℕ, ◌+◌, ◌≤◌, ◌<◌, true, List, sym, ap, ◌∙◌, arith}
use Rattle.do_base.specs.names.Names.{ObjectName}
use Rattle.do_export.{specs.Counts.{count_of, IsPositive}, proofs.Order.{entry_total, entry_same}}
use Rattle.do_import.specs.{Asked.AskKey, ByObject.added, Imported.{Imported, all_off}}
use Rattle.do_leaving.{specs.Counted.times, proofs.CountsOff.all_off-count}
use Rattle.do_part.specs.{Holding.most_names, Linked.AreLinked, Sound.IsSound}
use Rattle.do_part.{specs.declared.part.Part.TheInside.Inside, proofs.Bounds.at-le}
use Rattle.do_export.proofs.Counting.{count-raised}
use Rattle.do_part.proofs.{Linking.{links_linked, sound_linked, with_imports}, MapKeys.put_has}

module _ (i : Inside) (s : IsSound i) (m : Imported) (home : m.own ≡ i.holders.imports.own)
    (positive : IsPositive m.uses) where
  -- one lend or ask more of an object
  pub sound_more : (o : ObjectName) → m.uses ≡ added i.holders.imports.uses o
      → m.named ≡ added i.holders.imports.named o → i.holders.names + 1 ≤ most_names
      → AreLinked (with_imports i m (i.holders.names + 1))
      → IsSound (with_imports i m (i.holders.names + 1))
  sound_more o uses named most links = sound_linked i m (i.holders.names + 1) s home
      (λ x away. let a = ap (λ c. count_of c x.node x.serial) uses in
      let b = ap (λ c. count_of c x.node x.serial) named in
      let d = count-raised i.holders.imports.uses o.node o.serial x.node x.serial in
      let e = count-raised i.holders.imports.named o.node o.serial x.node x.serial in
      omega (arith, a, b, d, e))
      positive
      (λ x. let b = ap (λ c. count_of c x.node x.serial) named in
      let e = count-raised i.holders.imports.named o.node o.serial x.node x.serial in
      let l = at-le o.node o.serial x.node x.serial in
      omega (arith, b, e, l))
      most links

  -- some lends or asks less
  pub sound_less : (os : List ObjectName) (names : ℕ)
      → m.uses ≡ all_off i.holders.imports.uses os
      → m.named ≡ all_off i.holders.imports.named os
      → ((x : ObjectName) → times x os ≤ count_of i.holders.imports.named x.node x.serial)
      → i.holders.names ≤ names → names ≤ most_names
      → AreLinked (with_imports i m names) → IsSound (with_imports i m names)
  sound_less os names uses named enough more most links = sound_linked i m names s home
      (λ x away. let a = ap (λ c. count_of c x.node x.serial) uses in
      let b = ap (λ c. count_of c x.node x.serial) named in
      let d = all_off-count i.holders.imports.uses os x in
      let e = all_off-count i.holders.imports.named os x in
      let l = enough x in
      let used = s.balanced.used x away in
      omega (arith, a, b, d, e, l, used))
      positive
      (λ x. let b = ap (λ c. count_of c x.node x.serial) named in
      let e = all_off-count i.holders.imports.named os x in
      omega (arith, b, e, more))
      most links

  -- a part that received an object
  pub sound_got : m.uses ≡ i.holders.imports.uses → m.named ≡ i.holders.imports.named
      → i.holders.names + 1 ≤ most_names → AreLinked (with_imports i m (i.holders.names + 1))
      → IsSound (with_imports i m (i.holders.names + 1))
  sound_got uses named most links = sound_linked i m (i.holders.names + 1) s home
      (λ x away. let a = ap (λ c. count_of c x.node x.serial) uses in
      let b = ap (λ c. count_of c x.node x.serial) named in
      omega (arith, a, b))
      positive
      (λ x. let b = ap (λ c. count_of c x.node x.serial) named in omega (arith, b))
      most links

-- an object that was received is foreign, and was received no more often than names were counted
pub got_linked : (i : Inside) (m : Imported) → AreLinked i → (o : ObjectName)
    → o.node ≢ i.holders.node → m.received ≡ added i.holders.imports.received o
    → ((k : AskKey) → map.contains_key m.asks k ≡ true
    → (k.0.0 ≢ i.holders.node) × (0 < k.0.1))
    → AreLinked (with_imports i m (i.holders.names + 1))
got_linked i m l o foreign received asked = links_linked i m (i.holders.names + 1) l (omega arith)
    (λ k. let a = l.got k in
    let b = count-raised i.holders.imports.received o.node o.serial k.0 k.1 in
    let e = ap (λ c. count_of c k.0 k.1) received in
    let t = at-le o.node o.serial k.0 k.1 in
    omega (arith, a, b, e, t))
    (λ k there. put_has entry_total entry_same i.holders.imports.received (o.node, o.serial)
    (count_of i.holders.imports.received o.node o.serial + 1) (λ q. q.0 ≢ i.holders.node) foreign
    l.held k (ap (λ c. map.contains_key c k) (sym received) ∙ there))
    asked
