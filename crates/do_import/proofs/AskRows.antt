-- The asks as rows in their order.
use Rattle.std.specs.FinMap as map
use Rattle.std.proofs.Common.{◌≡◌, ◌≢◌, ◌<◌, arith, false, Some, None, IsSome, ℕ, T, List, is_some}
use Rattle.std.proofs.Common.{refl, sym, ap, ◌∙◌, subst, Bool, true, not, eqb, eq-eqb, ne_eqb, inl}
use Rattle.std.{proofs.Common.inr, specs.Ordering.{is_eq, is_lt, ordering_then}}
use mathlib.Core.Bool.{false≢true}
use Rattle.std.{proofs.lemmas.Bool.cases_eq, specs.Cmp.{IsTotalOrder, on_total, then_total}}
use Rattle.std.specs.FinMap.{find, put, is_sorted, IsAntisymmetric, get-from_sorted}
use Rattle.std.specs.FinMap.Entries.{is_sorted-put, is_sorted-where_key}
use Rattle.std.specs.declared.cmp.Ordering.{Ordering, TheVariants.{Less, Equal, Greater}}
use Rattle.do_sorted.{specs.Rows.{without, first_from}, proofs.RowsAsMap.{from_put, from_without}}
use Rattle.do_export.{specs.Counts.entry_cmp, proofs.Order.{entry_total, entry_same}}
use Rattle.do_class.specs.declared.ids.ClassId.{ClassId}
use Rattle.do_sorted.proofs.FirstRow.{none_from, first_there, first_lowest, first_not_below}
use Rattle.std.proofs.lemmas.Bool.Decides.{nat_tests}
use Rattle.do_import.specs.Asked.{AskKey, ask_cmp, HasNoAsk, IsLowestAsk}

-- asks are in a total order
pub ask_total : IsTotalOrder ask_cmp
ask_total = then_total (on_total (λ k. k.0) entry_total) (on_total (λ k. k.1) entry_total)

-- only an ask itself ties with it
pub ask_same : IsAntisymmetric ask_cmp
ask_same (a, b) (c, d) e = go (entry_cmp a c) refl e
  where
    -- by how the first halves compare
    go : (r : Ordering) → entry_cmp a c ≡ r → ordering_then r (entry_cmp b d) ≡ Equal
        → ◌≡◌ {A = AskKey} (a, b) (c, d)
    go Less _ e = absurd (subst (λ r. T (is_eq r)) (sym e) tt)
    go Greater _ e = absurd (subst (λ r. T (is_eq r)) (sym e) tt)
    go Equal p e = λ i. (entry_same a c p i, entry_same b d e i)

module _ {V : Type 0} (es new : List (AskKey × V)) (s : T (is_sorted ask_cmp es)) (k : AskKey) where
  -- to put a row is to insert the ask, and the rows stay sorted
  pub put_is : (v : V) → new ≡ put ask_cmp k v es
      → T (is_sorted ask_cmp new)
      × (map.from_sorted {R = ask_cmp} new ≡ map.insert (map.from_sorted es) k v)
  put_is v e = (
    subst (λ r. T (is_sorted ask_cmp r)) (sym e)
        (is_sorted-put ask_cmp ask_total k v es s),
    ap map.from_sorted e
        ∙ from_put ask_total k v es s,
  )

  -- to take out the rows of an ask is to remove it, and the rows stay sorted
  pub without_is : new ≡ without ask_cmp k es
      → T (is_sorted ask_cmp new)
      × (map.from_sorted {R = ask_cmp} new ≡ map.remove (map.from_sorted es) k)
  without_is e = (
    subst (λ r. T (is_sorted ask_cmp r)) (sym e) (is_sorted-where_key ask_cmp _ es s),
    ap map.from_sorted e ∙ from_without ask_total ask_same k es s,
  )

-- what the rows have of an ask is what the map has
pub kept_is : {V : Type 0} (es : List (AskKey × V)) → T (is_sorted ask_cmp es)
    → (k : AskKey) (b : _)
    → b ≡ is_some (find ask_cmp k es) → b ≡ map.contains_key {R = ask_cmp} (map.from_sorted es) k
kept_is es s k b e = e ∙ ap is_some (sym (get-from_sorted ask_cmp es k s))

-- where the asks of a home begin
abbrev pub home_start : ℕ → AskKey
home_start p = ((p, 1), (0, 0))

-- an ask of a home by a node is not below where they begin
from_start : (p l n s : ℕ) → 0 < l → is_lt (ask_cmp ((p, l), (n, s)) (home_start p)) ≡ false
from_start p l n s h = grind (arith, nat_tests)

-- an ask of a home is below those of higher homes, and no other home is between
higher : (p h l n s l' n' s' : ℕ)
    → is_lt (ask_cmp ((h, l'), (n', s')) (home_start p)) ≡ false → h ≢ p
    → ask_cmp ((p, l), (n, s)) ((h, l'), (n', s')) ≡ Less
higher p h l n s l' n' s' above apart = grind (arith, nat_tests)

module _ (es : List (AskKey × ClassId)) (s : T (is_sorted ask_cmp es)) (p : ℕ) where
  -- where no row is from the home's start on, the home has no ask
  pub none_asked : first_from ask_cmp (home_start p) es ≡ None → HasNoAsk (map.from_sorted es) p
  none_asked e l n t h = get-from_sorted ask_cmp es ((p, l), (n, t)) s
      ∙ none_from ask_total (home_start p) es e ((p, l), (n, t)) (from_start p l n t h)

  -- where the first row from there on is another home's, the home has no ask
  pub other_asked : (x : AskKey × ClassId) → first_from ask_cmp (home_start p) es ≡ Some x
      → x.0.0.0 ≢ p → HasNoAsk (map.from_sorted es) p
  other_asked (((h, l'), (n', s')), v) e apart l n t above =
      get-from_sorted ask_cmp es ((p, l), (n, t)) s
      ∙ first_lowest ask_total (home_start p) es _ s e ((p, l), (n, t)) (from_start p l n t above)
      (higher p h l n t l' n' s' (first_not_below ask_total (home_start p) es _ e) apart)

  -- where it is the home's, it is the home's lowest ask
  pub lowest_asked : (x : AskKey × ClassId) → first_from ask_cmp (home_start p) es ≡ Some x
      → (same : x.0.0.0 ≡ p)
      → IsLowestAsk (map.from_sorted es) (record { node = x.0.0.0; serial = x.0.1.1 })
      (record { lender = x.0.0.1; number = x.0.1.0 })
  lowest_asked (((h, l'), (n', s')), v) e same = record {
    there = subst IsSome
        (sym (get-from_sorted ask_cmp es ((h, l'), (n', s')) s
        ∙ first_there ask_total (home_start p) es _ e)) refl;
    none_below = λ l n t above below. get-from_sorted ask_cmp es ((h, l), (n, t)) s
        ∙ first_lowest ask_total (home_start p) es _ s e ((h, l), (n, t))
        (ap (λ r. is_lt (ask_cmp ((r, l), (n, t)) (home_start p))) same ∙ from_start p l n t above)
        below;
  }

-- homes that compare as the same are the same
pub are_same : (h p : ℕ) (differ : Bool) → differ ≡ not (eqb h p) → differ ≡ false → h ≡ p
are_same h p differ is off = elim (cases_eq h p) [
  | inl same ↦ same
  | inr other ↦ absurd (false≢true (sym off ∙ is ∙ ap not (ne_eqb h p other)))
]

-- homes that compare as different are different
pub are_other : (h p : ℕ) (differ : Bool) → differ ≡ not (eqb h p) → differ ≡ true → h ≢ p
are_other h p differ is on same = false≢true (sym (is ∙ ap not (eq-eqb h p same)) ∙ on)
