-- The order of entries, and what sorted rows of them say as counts.
use Rattle.std.specs.FinMap as map
use Rattle.std.proofs.Common.{◌==◌, not, ◌≡◌, ◌≢◌, ℕ, ◌<◌, ◌≤◌, false, T, List, Some, None, Option}
use Rattle.std.proofs.Common.{IsSome, refl, sym, ap, ◌∙◌, subst, arith}
use Rattle.std.specs.Ordering.{nat_cmp, is_eq, is_lt, ordering_then}
use Rattle.std.specs.{Cmp.{IsTotalOrder, on_total, then_total, nat_cmp_total}, FinMap.find}
use Rattle.std.specs.FinMap.{is_sorted, IsAntisymmetric, nat_cmp-IsAntisymmetric, get-from_sorted}
use Rattle.std.proofs.lemmas.Bool.Decides.{nat_tests}
use Rattle.std.specs.declared.cmp.Ordering.{Ordering, TheVariants.{Less, Equal, Greater}}
use Rattle.do_sorted.specs.Rows.{first_from, without}
use Rattle.std.specs.Option.{unwrap_or}
use Rattle.std.specs.FinMap.Entries.{put, where_key, is_sorted-put, is_sorted-where_key}
use Rattle.do_sorted.proofs.RowsAsMap.{from_put, from_without, from_where_key}
use Rattle.do_sorted.proofs.FirstRow.{none_from, first_there, first_lowest, first_not_below}
use Rattle.do_export.specs.Counts.{entry_cmp, HasNoneFrom, IsLowest, IsLowestFrom}

-- entries are in a total order
pub entry_total : IsTotalOrder entry_cmp
entry_total = then_total (on_total (λ e. e.0) nat_cmp_total) (on_total (λ e. e.1) nat_cmp_total)

-- only an entry itself ties with it
pub entry_same : IsAntisymmetric entry_cmp
entry_same (p, s) (q, t) e = go (nat_cmp p q) refl e
  where
    -- by how the peers compare
    go : (r : Ordering) → nat_cmp p q ≡ r → ordering_then r (nat_cmp s t) ≡ Equal
        → ◌≡◌ {A = ℕ × ℕ} (p, s) (q, t)
    go Less _ e = absurd (subst (λ r. T (is_eq r)) (sym e) tt)
    go Greater _ e = absurd (subst (λ r. T (is_eq r)) (sym e) tt)
    go Equal b e = λ i. (nat_cmp-IsAntisymmetric p q b i, nat_cmp-IsAntisymmetric s t e i)

-- a count above 0 is that of an entry
pub some_above : (o : Option ℕ) → 0 < unwrap_or o 0 → IsSome o
some_above None h = absurd (omega arith)
some_above (Some n) h = refl

-- an entry of a peer from a serial on is not below the entry there
from_start : (p n s : ℕ) → n ≤ s → is_lt (entry_cmp (p, s) (p, n)) ≡ false
from_start p n s h = grind (arith, nat_tests)

-- an entry of a peer that is not below the one at a serial has that serial or a higher one
not_below : (p n s : ℕ) → is_lt (entry_cmp (p, s) (p, n)) ≡ false → n ≤ s
not_below p n s h = grind (arith, nat_tests)

-- an entry of a lower serial is below
lower : (p s t : ℕ) → s < t → entry_cmp (p, s) (p, t) ≡ Less
lower p s t h = grind (arith, nat_tests)

-- an entry of a peer is below those of the peers of higher ports, and no other peer is between
higher : (p q n s t : ℕ) → is_lt (entry_cmp (q, t) (p, n)) ≡ false → q ≢ p
    → entry_cmp (p, s) (q, t) ≡ Less
higher p q n s t h apart = grind (arith, nat_tests)

module _ {V : Type 0} (es : List ((ℕ × ℕ) × V)) (s : T (is_sorted entry_cmp es)) (p n : ℕ) where
  -- where no row is from an entry on, the peer has none from there on
  pub none_of : first_from entry_cmp (p, n) es ≡ None → HasNoneFrom (map.from_sorted es) p n
  none_of e t above = get-from_sorted entry_cmp es (p, t) s
      ∙ none_from entry_total (p, n) es e (p, t) (from_start p n t above)

  -- where the first row from an entry on is another peer's, the peer has none from there on
  pub other_of : (x : (ℕ × ℕ) × V) → first_from entry_cmp (p, n) es ≡ Some x → x.0.0 ≢ p
      → HasNoneFrom (map.from_sorted es) p n
  other_of ((q, t), v) e apart u above = get-from_sorted entry_cmp es (p, u) s
      ∙ first_lowest entry_total (p, n) es _ s e (p, u) (from_start p n u above)
      (higher p q n u t (first_not_below entry_total (p, n) es _ e) apart)

  -- where it is the peer's, it is the peer's lowest from there on
  pub lowest_of : (x : (ℕ × ℕ) × V) → first_from entry_cmp (p, n) es ≡ Some x → x.0.0 ≡ p
      → IsLowestFrom (map.from_sorted es) p n x.0.1
  lowest_of ((q, t), v) e is = record {
    there = subst IsSome
        (sym (get-from_sorted entry_cmp es (p, t) s ∙ ap (λ r. find entry_cmp (r, t) es) (sym is)
        ∙ first_there entry_total (p, n) es _ e)) refl;
    at_start = not_below p n t (ap (λ r. is_lt (entry_cmp (r, t) (p, n))) (sym is)
        ∙ first_not_below entry_total (p, n) es _ e);
    none_below = λ u above h. get-from_sorted entry_cmp es (p, u) s
        ∙ first_lowest entry_total (p, n) es _ s e (p, u) (from_start p n u above)
        (ap (λ r. entry_cmp (p, u) (r, t)) is ∙ lower p u t h);
  }

-- the peer's lowest entry from 0 on is its lowest
pub lowest_is : {V : Type 0} (counts : map.FinMap entry_cmp V) (p s : ℕ)
    → IsLowestFrom counts p 0 s → IsLowest counts p s
lowest_is counts p s low =
    record { there = low.there; none_below = λ u h. low.none_below u (omega arith) h }

-- what a change of the rows at an entry, whose peer is written in two ways, is to the counts
module _ {V : Type 0} (es new : List ((ℕ × ℕ) × V)) (s : T (is_sorted entry_cmp es)) (p q t : ℕ)
    (same : q ≡ p) where
  -- to put a row is to insert the entry, and the rows stay sorted
  pub put_is : (v : V) → new ≡ put entry_cmp (q, t) v es → T (is_sorted entry_cmp new)
      × (map.from_sorted {R = entry_cmp} new ≡ map.insert (map.from_sorted es) (p, t) v)
  put_is v e = (
    subst (λ r. T (is_sorted entry_cmp r)) (sym e)
        (is_sorted-put entry_cmp entry_total (q, t) v es s),
    ap map.from_sorted e ∙ ap (λ r. map.from_sorted (put entry_cmp (r, t) v es)) same
        ∙ from_put entry_total (p, t) v es s,
  )

  -- to take out the rows of an entry is to remove it, and the rows stay sorted
  pub without_is : new ≡ without entry_cmp (q, t) es → T (is_sorted entry_cmp new)
      × (map.from_sorted {R = entry_cmp} new ≡ map.remove (map.from_sorted es) (p, t))
  without_is e = (
    subst (λ r. T (is_sorted entry_cmp r)) (sym e) (is_sorted-where_key entry_cmp _ es s),
    ap map.from_sorted e ∙ ap (λ r. map.from_sorted (without entry_cmp (r, t) es)) same
        ∙ from_without entry_total entry_same (p, t) es s,
  )

-- to keep the rows of all other peers, where the peer is written in two ways, is to keep their
-- entries
pub others_are : {V : Type 0} (es new : List ((ℕ × ℕ) × V)) → T (is_sorted entry_cmp es) → (p q : ℕ)
    → q ≡ p
    → new ≡ where_key entry_cmp (λ k. not (k.0 == q)) es
    → T (is_sorted entry_cmp new)
    × (map.from_sorted {R = entry_cmp} new
    ≡ map.retain_keys (map.from_sorted es) (λ k. not (k.0 == p)))
others_are es new s p q same e = (
  subst (λ r. T (is_sorted entry_cmp r)) (sym e) (is_sorted-where_key entry_cmp _ es s),
  ap map.from_sorted e
      ∙ ap (λ r. map.from_sorted {R = entry_cmp} (where_key entry_cmp (λ k. not (k.0 == r)) es))
      same
      ∙ from_where_key entry_total entry_same (λ k. not (k.0 == p)) es s,
)

-- what the rows have at an entry is what the counts have
pub found_is : {V : Type 0} (es : List ((ℕ × ℕ) × V)) → T (is_sorted entry_cmp es) → (p q t : ℕ)
    → q ≡ p
    → map.get {R = entry_cmp} (map.from_sorted es) (p, t) ≡ find entry_cmp (q, t) es
found_is es s p q t same = get-from_sorted entry_cmp es (p, t) s
    ∙ ap (λ r. find entry_cmp (r, t) es) (sym same)
