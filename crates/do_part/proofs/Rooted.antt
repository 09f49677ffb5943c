-- A part stays sound where its root changes, or only what it holds of other nodes.
use Rattle.std.proofs.Common.{◌≡◌, ◌≢◌, ℕ, ◌≤◌, Some, None, Option, cond, eqb, ◌&&◌, map, false}
use Rattle.std.proofs.Common.{refl, sym, ap, ◌∙◌, arith, eq-eqb, ne_eqb, subst}
use Rattle.do_base.specs.names.Names.{ObjectName}
use Rattle.do_machine.specs.{Objects.object_at, held.Kept.is_root}
use Rattle.do_network.specs.Own.{Own}
use Rattle.do_part.specs.{Holding.{plain, CanGo, HasCome, HasGone}, Names.{stack_of, AreStored}}
use Rattle.do_part.specs.{Owned.Owned, Rooting.{root_of, root_size}, Seen.{own_of, owned_of}}
use Rattle.do_part.specs.{Sound.IsSound, declared.holders.Holders.Holders}
use Rattle.do_part.{specs.declared.part.Part.TheInside.Inside, proofs.Bounds.at-le}
use Rattle.do_part.proofs.{Linking.links_kept, Naming.of-Obj, Rest.{SameNumbers, numbers_turned}}
use Rattle.do_part.proofs.{Rest.{heap_kept, uses_kept}, Turning.{turned_go, sound_turned}}

-- a root names no object more often than it has names
pub root-le : (port : ℕ) (root : Option ℕ) (o : ObjectName) → root_of port root o ≤ root_size root
root-le port None o = omega arith
root-le port (Some s) o = let e = of-Obj (object_at port s) o in
    let l = at-le port s o.node o.serial in omega arith

-- an own object is held by a root as often as that names it
pub root-holds : (own : Own) (n : ℕ)
    → root_of own.node.port own.node.root (object_at own.node.port n)
    ≡ cond (is_root own.node n) 1 0
root-holds own n = go own.node.root
  where
    go : (root : Option ℕ) → root_of own.node.port root (object_at own.node.port n)
        ≡ cond (elim root [ None ↦ false | Some r ↦ eqb r n ]) 1 0
    go None = refl
    go (Some r) = of-Obj (object_at own.node.port r) (object_at own.node.port n)
        ∙ ap (λ b. cond (b && (eqb r n)) 1 0) (eq-eqb own.node.port own.node.port refl)

-- a root names no foreign object
pub root-away : (port : ℕ) (root : Option ℕ) (o : ObjectName) → o.node ≢ port
    → root_of port root o ≡ 0
root-away port None o away = refl
root-away port (Some s) o away = of-Obj (object_at port s) o
    ∙ ap (λ b. cond (b && (eqb s o.serial)) 1 0) (ne_eqb port o.node (λ e. away (sym e)))

-- a root is one name at most
pub size-le : (root : Option ℕ) → root_size root ≤ 1
size-le None = omega arith
size-le (Some s) = omega arith

module _ (i : Inside) (s : IsSound i) (v : Owned) (is : owned_of i ≡ v) where
  -- the old root can go once the new one came
  pub root_go : (b : Holders) (after : Option ℕ)
      → AreStored v.own.node (root_of i.holders.node after)
      → HasCome i.holders b (root_of i.holders.node after) (root_size after)
      → CanGo b (root_of b.node i.root)
  root_go b after stored come =
      subst (λ p. CanGo b (root_of p i.root)) (sym come.came.node)
      (turned_go i s v is b (root_of i.holders.node after) (root_of i.holders.node i.root)
      (root_size after) stored come (λ n. let h = root-holds (own_of i) n in omega arith)
      (λ o away. let y = root-away i.holders.node i.root o away in omega arith))

  -- and the part is sound with the new one
  pub sound_rooted : (b c : Holders) (after : Option ℕ)
      → AreStored v.own.node (root_of i.holders.node after) → root_size after ≤ v.room.names
      → HasCome i.holders b (root_of i.holders.node after) (root_size after)
      → HasGone b c (root_of b.node i.root) → IsSound (record i { holders = c; root = after })
  sound_rooted b c after stored room come gone =
      sound_turned i s v is j b (root_of i.holders.node after) (root_of i.holders.node i.root)
      (root_size after) stored room come went refl
      (λ n. let h = root-holds (own_of i) n in
      let g = root-holds (own_of j) n in
      let y = ap (λ p. root_of p after (object_at p n)) same.node in
      let z = ap (λ p. stack_of i.stack.invocations (object_at p n)) same.node in
      omega arith)
      (λ o away. let x = root-away i.holders.node i.root o away in
      let y = root-away i.holders.node after o away in
      let u = uses_kept i j same heap o in omega arith)
      (λ o. let u = uses_kept i j same heap o in let f = s.few o in omega arith) s.numbered
      (links_kept i j s.links same.node same.imports (let x = come.names in let y = gone.names in
      omega (arith, x, y)) refl refl)
    where
      -- the part after it
      j : Inside
      j = record i { holders = c; root = after }

      -- what went is the old root at this node
      went : HasGone b c (root_of i.holders.node i.root)
      went = subst (λ p. HasGone b c (root_of p i.root)) come.came.node gone

      -- the rest is the same
      same : SameNumbers i.holders c
      same = numbers_turned i.holders b c (root_of i.holders.node after)
          (root_of i.holders.node i.root) (root_size after) come went

      heap : map plain c.store.objects ≡ map plain i.holders.store.objects
      heap = heap_kept i.holders b c (root_of i.holders.node after)
          (root_of i.holders.node i.root) (root_size after) come went
