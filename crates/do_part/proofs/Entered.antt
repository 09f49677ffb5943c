-- A part where a peer's entry changed.
use Rattle.std.proofs.Common.{◌≡◌, ℕ, ◌+◌, ◌<◌, ◌≤◌, Some, None, Option, Bool, true, false, IsSome}
use Rattle.std.proofs.Common.{cond, eqb, ◌&&◌, refl, sym, ap, arith, subst, List, eqb-true}
use Rattle.std.proofs.Common.{if◌then◌else◌}
use Rattle.do_export.specs.Counts.{Exported}
use Rattle.do_machine.specs.{Objects.object_at, State.stored, declared.node.Stored.Stored}
use Rattle.do_part.specs.{Holding.{CanGo, HasCome, HasGone}, Linked.AreLinked, Names.stack_of}
use Rattle.do_part.specs.{Names.AreStored, Owned.Owned, Rooting.root_of, Seen.{own_of, owned_of}}
use Rattle.do_part.specs.{Sound.{IsSound, holders, uses}, declared.holders.Holders.Holders}
use Rattle.do_part.specs.declared.{part.Part.TheInside.Inside, tally.Tally.TheVariants.{More, Less}}
use Rattle.do_part.proofs.{Balanced.can_go, Entries.{entries_to, names-entry}}
use Rattle.do_part.proofs.Rest.{SameNumbers, numbers_came, numbers_gone, uses_kept}
use Rattle.do_part.proofs.{Rooted.root-away, Tallying.tallied-none, Turning.sound_turned}

-- the object of an entry is stored
pub entry-stored : (heap : List Stored) (port at serial : ℕ) (b : Bool) (r : Option ℕ)
    → port ≡ at → r ≡ (if b then Some serial else None) → IsSome (stored serial heap)
    → (n : ℕ) → 0 < root_of port r (object_at at n) → IsSome (stored n heap)
entry-stored heap port at serial b r same is some n above = go (eqb serial n) refl
  where
    go : (a : Bool) → eqb serial n ≡ a → IsSome (stored n heap)
    go true e = subst (λ m. IsSome (stored m heap)) (eqb-true serial n e) some
    go false e =
        let x = names-entry port serial n b r is in
        let y = ap (λ p. root_of port r (object_at p n)) same in
        let f : ◌≡◌ {A = ℕ} (cond ((eqb serial n) && b) 1 0) 0 =
        ap (λ a. cond (a && b) 1 0) e in
        absurd (omega (arith, x, y, f, above))

module _ (i : Inside) (s : IsSound i) (v : Owned) (is : owned_of i ≡ v) (after : Exported)
    (r : Option ℕ) where
  -- a part is sound with the entry that was counted
  pub sound_named : (b : Holders) → AreStored v.own.node (root_of i.holders.node r)
      → 1 ≤ v.room.names
      → HasCome i.holders b (root_of i.holders.node r) 1
      → ((n : ℕ) → entries_to after.counts n i.ends
      ≡ entries_to i.exports.counts n i.ends
      + root_of i.holders.node r (object_at i.holders.node n))
      → AreLinked (record i { holders = b; exports = after })
      → IsSound (record i { holders = b; exports = after })
  sound_named b known room come moved links =
      sound_turned i s v is j b (root_of i.holders.node r) (λ o. 0) 1 known room come
      (tallied-none Less b (λ o. 0) 0 (λ o. refl) refl) refl
      (λ n. let m = moved n in
      let z = ap (λ p. stack_of i.stack.invocations (object_at p n)) same.node in omega arith)
      (λ o away. let y = root-away i.holders.node r o away in
      let u = uses_kept i j same come.came.heap o in omega arith)
      (λ o. let u = uses_kept i j same come.came.heap o in let f = s.few o in omega arith)
      s.numbered links
    where
      -- the part after it
      j : Inside
      j = record i { holders = b; exports = after }

      -- the rest is the same
      same : SameNumbers i.holders b
      same = numbers_came i.holders b (root_of i.holders.node r) 1 come

  -- the name that an entry was can go
  pub entry_go : ((n : ℕ) → entries_to i.exports.counts n i.ends
      ≡ entries_to after.counts n i.ends + root_of i.holders.node r (object_at i.holders.node n))
      → CanGo i.holders (root_of i.holders.node r)
  entry_go moved =
      can_go i.holders (root_of i.holders.node r) (holders (own_of i)) (uses i) s.balanced
      (λ n. let m = moved n in omega arith)
      (λ o away. let z = root-away i.holders.node r o away in omega arith)

  -- and the part is sound without it
  pub sound_left : (b : Holders) → HasGone i.holders b (root_of i.holders.node r)
      → ((n : ℕ) → entries_to i.exports.counts n i.ends
      ≡ entries_to after.counts n i.ends + root_of i.holders.node r (object_at i.holders.node n))
      → AreLinked (record i { holders = b; exports = after })
      → IsSound (record i { holders = b; exports = after })
  sound_left b gone moved links =
      sound_turned i s v is j i.holders (λ o. 0) (root_of i.holders.node r) 0
      (λ n above. absurd (omega (arith, above))) (omega arith)
      (tallied-none More i.holders (λ o. 0) 0 (λ o. refl) refl) gone refl
      (λ n. let m = moved n in
      let z = ap (λ p. stack_of i.stack.invocations (object_at p n)) same.node in omega arith)
      (λ o away. let y = root-away i.holders.node r o away in
      let u = uses_kept i j same (sym gone.went.heap) o in omega arith)
      (λ o. let u = uses_kept i j same (sym gone.went.heap) o in let f = s.few o in omega arith)
      s.numbered links
    where
      -- the part after it
      j : Inside
      j = record i { holders = b; exports = after }

      -- the rest is the same
      same : SameNumbers i.holders b
      same = numbers_gone i.holders b (root_of i.holders.node r) gone
