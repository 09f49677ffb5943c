-- Counts of something by object, once there is one more or one less of an object.
use Rattle.std.specs.FinMap as map
use Rattle.std.proofs.Common.{◌≡◌, ℕ, ◌+◌, ◌<◌, ◌==◌, ◌&&◌, Bool, cond, eqb, List, [], ◌∷◌}
use Rattle.std.proofs.Common.{if◌then◌else◌, count_by, refl, sym, ap, ◌∙◌, subst, arith, ne_eqb}
use Rattle.std.{proofs.lemmas.Bool.Decides.nat_tests, specs.{Option.unwrap_or, FinMap.get-empty}}
use Rattle.do_base.specs.names.Names.{ObjectName}
use Rattle.do_export.specs.Counts.{Counts, entry_cmp, count_of, lowered}
use Rattle.do_export.proofs.Counting.{at, count-raised, count-lowered, positive-raised}
use Rattle.do_export.proofs.{Counting.positive-lowered, Positive.none_positive}
use Rattle.do_import.specs.{Asked.AreCounts, ByObject.{added, taken_off}, Imported.all_off}
use Rattle.do_import.proofs.RowCounts.{in_front}

-- the test of an object at a key
abbrev pub is_of : ℕ × ℕ → ℕ × ℕ → Bool
is_of q k = (q.0 == k.0) && (q.1 == k.1)

-- one at the key of an object, and none at another
abbrev pub one : ObjectName → ℕ × ℕ → ℕ
one o q = cond (is_of q (o.node, o.serial)) 1 0

-- the same test, of an entry of counts
turned : (a b c d : ℕ) → at a b c d ≡ cond ((eqb c a) && (eqb d b)) 1 0
turned a b c d = grind (arith, nat_tests)

-- an object is at its own key
itself : (o : ObjectName) → one o (o.node, o.serial) ≡ 1
itself o = grind (arith, nat_tests)

module _ (c : Counts) (f f' : ℕ × ℕ → ℕ) (are : AreCounts c f) (o : ObjectName) where
  -- there is one more of an object
  pub counts_more : ((q : ℕ × ℕ) → f' q ≡ f q + one o q) → AreCounts (added c o) f'
  counts_more more = record {
    counted = λ q.
        let had = are.counted q in
        let raised = count-raised c o.node o.serial q.0 q.1 in
        let is = turned o.node o.serial q.0 q.1 in
        let now = more q in
        omega (arith, had, raised, is, now);
    positive = positive-raised c o.node o.serial are.positive;
  }

  -- there is one less of an object
  pub counts_less : ((q : ℕ × ℕ) → f q ≡ f' q + one o q) → AreCounts (taken_off c o) f'
  counts_less less = subst (λ d. AreCounts d f') (sym one_less) (record {
    counted = λ q.
        let had = are.counted q in
        let lower = count-lowered c o.node o.serial above q.0 q.1 in
        let is = turned o.node o.serial q.0 q.1 in
        let now = less q in
        omega (arith, had, lower, is, now);
    positive = positive-lowered c o.node o.serial above are.positive;
  })
    where
      -- it is counted
      above : 0 < count_of c o.node o.serial
      above =
          let had = are.counted (o.node, o.serial) in
          let now = less (o.node, o.serial) in
          let is = itself o in
          omega (arith, had, now, is)

      -- so that one is taken off
      one_less : taken_off c o ≡ lowered c o.node o.serial 1
      one_less = ap (λ b. if b then c else lowered c o.node o.serial 1)
          (ne_eqb (count_of c o.node o.serial) 0 (λ z. absurd (omega (arith, above, z))))

-- how often an object is among others
abbrev pub among : ℕ × ℕ → List ObjectName → ℕ
among q = count_by (λ o. is_of q (o.node, o.serial))

-- there is one less of each of some objects
pub counts_off : (c : Counts) (f f' : ℕ × ℕ → ℕ) (os : List ObjectName) → AreCounts c f
    → ((q : ℕ × ℕ) → f q ≡ f' q + among q os) → AreCounts (all_off c os) f'
counts_off c f f' [] are less = record {
  counted = λ q. let had = are.counted q in let now = less q in omega (arith, had, now);
  positive = are.positive;
}
counts_off c f f' (o ∷ os) are less =
    counts_off (taken_off c o) (λ q. f' q + among q os) f' os
    (counts_less c f (λ q. f' q + among q os) are o (λ q.
    let now = less q in
    let first = in_front (λ x. is_of q (x.node, x.serial)) o os in
    omega (arith, now, first))) (λ q. refl)

-- where there is nothing none is counted
pub counts_none : (f : ℕ × ℕ → ℕ) → ((q : ℕ × ℕ) → f q ≡ 0) → AreCounts map.empty f
counts_none f none = record {
  counted = λ q. ap (λ v. unwrap_or v 0) (get-empty entry_cmp q) ∙ sym (none q);
  positive = none_positive;
}
