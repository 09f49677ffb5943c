-- What a check lists of a node by the names of its objects is what it lists by the objects.
use Rattle.std.proofs.Common.{◌≡◌, ℕ, true, false, cond, List, [], ◌∷◌, refl, ap, ◌∙◌, Some, inl}
use Rattle.std.proofs.Common.{inr}
use Rattle.std.specs.{Prelude.{filter, map, option_map}, List.{cons_option, filter_map, flat_map}}
use Rattle.do_base.specs.names.Names.{ObjectName}
use Rattle.do_machine.specs.{Lists.IsIn, declared.node.{Node.Node, Stored.Stored}}
use Rattle.do_machine.specs.{State.{own, stored}, check.Snapshot.{entry_of, object_line}}
use Rattle.do_network.specs.{Own.{Own, is_counted}, Snapshot.entries_counted}
use Rattle.do_site.specs.Listed.{entries_among, line_at, line_by, names_stored}

module _ (n : Node) where
  -- objects that are stored under their serials are listed by their names
  listed_by : (xs : List Stored) →
      ((x : Stored) → IsIn xs x → stored x.serial n.heap ≡ Some x) →
      filter_map (line_at n) (map (λ (x : Stored). own n x.serial) xs) ≡ map (object_line n) xs
  listed_by [] apart = refl
  listed_by (x ∷ xs) apart =
      ap (λ o. cons_option (option_map (line_by (own n x.serial)) o)
      (filter_map (line_at n) (map (λ (x : Stored). own n x.serial) xs))) (apart x (inl refl))
      ∙ ap (λ ls. object_line n x ∷ ls) (listed_by xs (λ y at. apart y (inr at)))

  pub objects_listed : ((x : Stored) → IsIn n.heap x → stored x.serial n.heap ≡ Some x) →
      filter_map (line_at n) (names_stored n) ≡ map (object_line n) n.heap
  objects_listed = listed_by n.heap

module _ (p : Own) (peer : ℕ) where
  -- so are the entries of a peer
  entries_by : (xs : List Stored) →
      entries_among p peer (map (λ (x : Stored). own p.node x.serial) xs)
      ≡ map (λ (x : Stored). entry_of peer (own p.node x.serial))
      (filter (λ (x : Stored). is_counted p peer x.serial) xs)
  entries_by [] = refl
  entries_by (x ∷ xs) =
      let o = own p.node x.serial in
      let os = filter (λ (o : ObjectName). is_counted p peer o.serial)
      (map (λ (x : Stored). own p.node x.serial) xs) in
      let ys = filter (λ (x : Stored). is_counted p peer x.serial) xs in
      elim (is_counted p peer x.serial) as (λ b. map (entry_of peer) (cond b (o ∷ os) os)
      ≡ map (λ (x : Stored). entry_of peer (own p.node x.serial)) (cond b (x ∷ ys) ys)) [
        | true ↦ ap (λ es. entry_of peer o ∷ es) (entries_by xs)
        | false ↦ entries_by xs
      ]

  pub entries_listed : entries_among p peer (names_stored p.node) ≡ entries_counted p peer
  entries_listed = entries_by p.node.heap

-- so are the entries of all peers
pub all_listed : (p : Own) (stored : List ObjectName) → stored ≡ names_stored p.node →
    (peers : List ℕ) → flat_map (λ peer. entries_among p peer stored) peers
    ≡ flat_map (entries_counted p) peers
all_listed p stored is peers =
    ap (λ os. flat_map (λ peer. entries_among p peer os) peers) is
    ∙ (λ j. flat_map (λ peer. entries_listed p peer j) peers)
