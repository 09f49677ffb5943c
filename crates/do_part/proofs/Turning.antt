-- A part stays sound where names come and others go.
use Rattle.std.proofs.Common.{◌≡◌, ◌≢◌, ℕ, ◌+◌, ◌≤◌, Some, None, false, IsSome, List, ◌<◌, map, sym}
use Rattle.std.proofs.Common.{ap, ◌∙◌, arith, subst, length, refl}
use Rattle.std.specs.{Prelude.◌==◌, List.IsDistinct}
use Rattle.do_base.specs.names.Names.{ObjectName}
use Rattle.do_machine.specs.Objects.{object_at}
use Rattle.do_stack.specs.Stacked.{Stacked}
use Rattle.do_store.specs.Names.{find_stored}
use Rattle.do_part.specs.Holding.{plain, most_names, CanCome, CanGo, HasCome, HasGone}
use Rattle.do_part.specs.{Linked.AreLinked, Names.{stack_of, AreStored}, Numbered.IsNumbered}
use Rattle.do_part.specs.{Owned.Owned, Seen.{own_of, owned_of}, Sound.{IsBalanced, IsSound}}
use Rattle.do_part.specs.{Sound.{holders, uses}, declared.holders.Holders.Holders}
use Rattle.do_part.specs.declared.{part.Part.TheInside.Inside, tally.Tally.TheVariants.{More, Less}}
use Rattle.do_part.proofs.Balanced.{balanced-came, balanced-went, can_come, can_go}
use Rattle.do_part.proofs.{Bounds.{entries-le, choice-le}, Linking.links_kept}
use Rattle.do_part.proofs.Rest.{SameNumbers, numbers_turned, heap_kept, uses_kept}
use Rattle.do_part.proofs.{Stored.found-stored, Tallying.tallied-none}

module _ (i : Inside) (s : IsSound i) (v : Owned) (is : owned_of i ≡ v) where
  -- what the node stores is stored
  known : (d : ObjectName → ℕ) → AreStored v.own.node d → (n : ℕ)
      → 0 < d (object_at i.holders.node n) → IsSome (find_stored i.holders.store.objects n)
  known d stored n above = found-stored i.holders.store.objects n
      (subst (λ (w : Owned). AreStored w.own.node d) (sym is) stored n above)

  -- what there is room for stays below the most names
  pub room_below : (size : ℕ) → size ≤ v.room.names
      → (size ≤ i.holders.imports.spare) × (i.holders.names + size ≤ most_names)
  room_below size room =
      let r = subst (λ (w : Owned). size ≤ w.room.names) (sym is) room in
      let m = s.most in
      (omega (arith, r), omega (arith, r, m))

  -- an own object has few holders
  holders-le : (n : ℕ) → holders (own_of i) n ≤ i.holders.names + 65
  holders-le n =
      let f = s.few (object_at i.holders.node n) in
      let e = entries-le (own_of i) n in
      let l = s.small in
      let r = choice-le (elim i.root [ None ↦ false | Some r ↦ r == n ]) in
      omega arith

  -- names can come, where there is room for them
  pub sound_come : (d : ObjectName → ℕ) (size : ℕ) → AreStored v.own.node d
      → ((o : ObjectName) → d o ≤ size) → size ≤ v.room.names → CanCome i.holders d size
  sound_come d size stored small room =
      let r = room_below size room in
      can_come i.holders d (holders (own_of i)) (uses i) size s.balanced (known d stored)
      (λ n. let l = holders-le n in let z = small (object_at i.holders.node n) in
      let m = r.1 in omega arith)
      (λ o. let f = s.few o in let z = small o in let m = r.1 in omega arith)
      r.0 r.1

  -- the balance once names came
  pub balanced_in : (b : Holders) (d : ObjectName → ℕ) (size : ℕ) → AreStored v.own.node d
      → HasCome i.holders b d size
      → IsBalanced b (λ n. holders (own_of i) n + d (object_at i.holders.node n))
      (λ o. uses i o + d o)
  balanced_in b d size stored come =
      balanced-came i.holders b d (holders (own_of i))
      (λ n. holders (own_of i) n + d (object_at i.holders.node n)) (uses i) (λ o. uses i o + d o)
      come.came s.balanced (come.positive s.balanced.positive) (known d stored) (λ n. refl)
      (λ o away. refl)

  -- then names that are counted can go
  pub turned_go : (b : Holders) (d e : ObjectName → ℕ) (size : ℕ) → AreStored v.own.node d
      → HasCome i.holders b d size
      → ((n : ℕ) → e (object_at i.holders.node n)
      ≤ holders (own_of i) n + d (object_at i.holders.node n))
      → ((o : ObjectName) → o.node ≢ i.holders.node → e o ≤ uses i o + d o) → CanGo b e
  turned_go b d e size stored come held used =
      can_go b e (λ n. holders (own_of i) n + d (object_at i.holders.node n))
      (λ o. uses i o + d o) (balanced_in b d size stored come)
      (λ n. let h = held n in let x = ap (λ p. e (object_at p n)) come.came.node in omega arith)
      (λ o away. used o (λ h. away (h ∙ sym come.came.node)))

  -- a part is sound that has just the names that came for those that went
  pub sound_after : (j : Inside) (c : Holders) (d e : ObjectName → ℕ) (size : ℕ)
      → size ≤ v.room.names
      → IsBalanced c (λ n. holders (own_of i) n + d (object_at i.holders.node n))
      (λ o. uses i o + d o)
      → c.node ≡ i.holders.node → c.names ≡ i.holders.names + size → HasGone c j.holders e
      → j.ends ≡ i.ends
      → ((n : ℕ) → holders (own_of j) n + e (object_at i.holders.node n)
      ≡ holders (own_of i) n + d (object_at i.holders.node n))
      → ((o : ObjectName) → o.node ≢ i.holders.node → uses j o + e o ≡ uses i o + d o)
      → ((o : ObjectName) → uses j o ≤ i.holders.names + size)
      → IsNumbered i.holders.node j.stack.invocations j.stack.late j.next_call → AreLinked j
      → IsSound j
  sound_after j c d e size room before node names gone ends holds used few numbered links =
      let same = gone.names in
      let r = room_below size room in
      record {
        balanced = balanced-went j.holders c e
            (λ n. holders (own_of i) n + d (object_at i.holders.node n)) (holders (own_of j))
            (λ o. uses i o + d o) (uses j) gone.went before (gone.positive before.positive)
            (λ n. let h = holds n in let x = ap (λ p. e (object_at p n)) node in omega arith)
            (λ o away. let u = used o (λ h. away (h ∙ sym node)) in omega arith);
        few = λ o. let f = few o in omega (arith, f, names, same);
        most = let m = r.1 in omega (arith, m, names, same);
        small = subst (λ (l : List ℕ). length l ≤ 64) (sym ends) s.small;
        apart = subst (IsDistinct (λ (p q : ℕ). p == q)) (sym ends) s.apart;
        numbered = subst (λ p. IsNumbered p j.stack.invocations j.stack.late j.next_call)
            (sym (sym gone.went.node ∙ node)) numbered;
        links = links;
      }

  -- so it is where nothing happens between what comes and what goes
  pub sound_turned : (j : Inside) (b : Holders) (d e : ObjectName → ℕ) (size : ℕ)
      → AreStored v.own.node d → size ≤ v.room.names → HasCome i.holders b d size
      → HasGone b j.holders e → j.ends ≡ i.ends
      → ((n : ℕ) → holders (own_of j) n + e (object_at i.holders.node n)
      ≡ holders (own_of i) n + d (object_at i.holders.node n))
      → ((o : ObjectName) → o.node ≢ i.holders.node → uses j o + e o ≡ uses i o + d o)
      → ((o : ObjectName) → uses j o ≤ i.holders.names + size)
      → IsNumbered i.holders.node j.stack.invocations j.stack.late j.next_call → AreLinked j
      → IsSound j
  sound_turned j b d e size stored room come gone ends holds used few numbered links =
      sound_after j b d e size room (balanced_in b d size stored come) come.came.node come.names
      gone ends holds used few numbered links

  -- names that stand in the stack can go
  pub stack_go : (b : Holders) (d e : ObjectName → ℕ) (size : ℕ) → AreStored v.own.node d
      → HasCome i.holders b d size
      → ((o : ObjectName) → e o ≤ stack_of i.stack.invocations o + d o) → CanGo b e
  stack_go b d e size stored come less = turned_go b d e size stored come
      (λ n. let l = less (object_at i.holders.node n) in omega arith)
      (λ o away. let l = less o in omega arith)

  -- a part is sound with other invocations, if these name just what came for what went
  pub sound_moved : (b c : Holders) (d e : ObjectName → ℕ) (size : ℕ) (k : Stacked) (call : ℕ)
      → AreStored v.own.node d → ((o : ObjectName) → d o ≤ size) → size ≤ v.room.names
      → HasCome i.holders b d size → HasGone b c e
      → ((o : ObjectName) → stack_of k.invocations o + e o ≡ stack_of i.stack.invocations o + d o)
      → IsNumbered i.holders.node k.invocations k.late call
      → IsSound (record i { holders = c; stack = k; next_call = call })
  sound_moved b c d e size k call stored small room come gone moved numbered =
      sound_turned j b d e size stored room come gone refl
      (λ n. let m = moved (object_at i.holders.node n) in
      let x = ap (λ p. stack_of k.invocations (object_at p n)) same.node in omega arith)
      (λ o away. let m = moved o in let u = uses_kept i j same heap o in omega arith)
      (λ o. let m = moved o in let u = uses_kept i j same heap o in let f = s.few o in
      let z = small o in omega arith)
      numbered
      (links_kept i j s.links same.node same.imports (let x = come.names in let y = gone.names in
      omega (arith, x, y)) refl refl)
    where
      -- the part after it
      j : Inside
      j = record i { holders = c; stack = k; next_call = call }

      -- the rest is the same
      same : SameNumbers i.holders c
      same = numbers_turned i.holders b c d e size come gone

      heap : map plain c.store.objects ≡ map plain i.holders.store.objects
      heap = heap_kept i.holders b c d e size come gone

-- a part is sound with other invocations that name the same
pub sound_stacked : (i : Inside) → IsSound i → (k : Stacked) (call : ℕ)
    → ((o : ObjectName) → stack_of k.invocations o ≡ stack_of i.stack.invocations o)
    → IsNumbered i.holders.node k.invocations k.late call
    → IsSound (record i { stack = k; next_call = call })
sound_stacked i s k call same numbered =
    sound_moved i s (owned_of i) refl i.holders i.holders (λ o. 0) (λ o. 0) 0 k call
    (λ n above. absurd (omega (arith, above))) (λ o. omega arith) (omega arith)
    (tallied-none More i.holders (λ o. 0) 0 (λ o. refl) refl)
    (tallied-none Less i.holders (λ o. 0) 0 (λ o. refl) refl)
    (λ o. let x = same o in omega (arith, x)) numbered
