-- The finite map that sorted rows are, and what a change of the rows is to it.
use Rattle.std.specs.FinMap as map
use Rattle.std.proofs.Common.{◌≡◌, Bool, true, false, not, cond, T, List, [], None, refl, sym, ap}
use Rattle.std.proofs.Common.{◌∙◌}
use Rattle.std.specs.{Ordering.{eq_by_cmp, is_eq}, Cmp.{IsTotalOrder, alike_right, eq_by_cmp_equiv}}
use Rattle.std.specs.FinMap.{find, put, is_sorted, IsAntisymmetric, same_map, same_entries_map}
use Rattle.std.specs.FinMap.{entries-from_sorted, entries-insert, get-from_sorted, get-remove}
use Rattle.std.specs.FinMap.{get-empty, get-retain_keys}
use Rattle.std.specs.FinMap.Entries.{where_key, is_sorted-put, is_sorted-where_key, find-where_key}
use Rattle.std.specs.declared.cmp.Ordering.{Ordering}
use Rattle.do_sorted.specs.Rows.{without}

-- to choose by the opposite is to choose the other way round
turned : {A : Type 0} (b : Bool) (x y : A) → cond (not b) x y ≡ cond b y x
turned true x y = refl
turned false x y = refl

module _ {K V : Type 0} {R : K → K → Ordering} (o : IsTotalOrder R) where
  -- to put a row is to insert into the map
  pub from_put : (k : K) (v : V) (es : List (K × V)) → T (is_sorted R es)
      → map.from_sorted {R = R} (put R k v es) ≡ map.insert (map.from_sorted es) k v
  from_put k v es s =
      same_entries_map _ _ (entries-from_sorted R _ (is_sorted-put R o k v es s)
      ∙ sym (entries-insert o (map.from_sorted es) k v
      ∙ ap (put R k v) (entries-from_sorted R es s)))

  -- to take out the rows of a key is to remove it from the map
  pub from_without : IsAntisymmetric R → (k : K) (es : List (K × V)) → T (is_sorted R es)
      → map.from_sorted {R = R} (without R k es) ≡ map.remove (map.from_sorted es) k
  from_without same k es s = same_map o same _ _ (λ q.
      get-from_sorted R _ q (is_sorted-where_key R _ es s)
      ∙ find-where_key R (λ x. not (eq_by_cmp R k x)) q
      (λ x t. ap (λ r. not (is_eq r)) (sym (alike_right o q x k t))) es
      ∙ turned (eq_by_cmp R k q) _ _
      ∙ ap (λ b. cond b None (find R q es)) ((eq_by_cmp_equiv o).symm k q)
      ∙ sym (get-remove o (map.from_sorted es) k q
      ∙ ap (cond (eq_by_cmp R q k) None) (get-from_sorted R es q s)))

  -- no rows are the empty map
  pub from_nothing : IsAntisymmetric R → map.from_sorted {X = V} {R = R} [] ≡ map.empty
  from_nothing same = same_map o same _ _ (λ q. get-from_sorted R [] q tt ∙ sym (get-empty R q))

  -- to keep the rows whose keys pass a test is to keep these keys in the map
  pub from_where_key : IsAntisymmetric R → (p : K → Bool) (es : List (K × V)) → T (is_sorted R es)
      → map.from_sorted {R = R} (where_key R p es) ≡ map.retain_keys (map.from_sorted es) p
  from_where_key same p es s = same_map o same _ _ (λ q.
      get-from_sorted R _ q (is_sorted-where_key R p es s)
      ∙ find-where_key R p q (λ x t. ap p (sym (same q x t))) es
      ∙ ap (λ v. cond (p q) v None) (sym (get-from_sorted R es q s))
      ∙ sym (get-retain_keys (map.from_sorted es) p q (λ x t. ap p (sym (same q x t)))))
