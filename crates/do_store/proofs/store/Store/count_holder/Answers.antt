use Rattle.do_store.proofs.store.Store.count_holder.Goals as goal
use Rattle.std.proofs.Common.{◌≡◌, ℕ, ◌+◌, ◌-◌, ◌<◌, ◌^◌, Bool, true, false, cond, List, Some, None}
use Rattle.std.proofs.Common.{map, refl, arith, ap, sym, ◌∙◌}
use Rattle.do_store.specs.{Objects.stored_at, Names.{Stored, find_stored}, Books.seen}
use Rattle.do_store.specs.declared.object.Object.{Object}
use Rattle.do_store.proofs.Turns.{find-seen, behind, reheld, clash}

-- the object that the caller means
agrees : (xs : List Object) (n : ℕ) (x : Object) (s : Stored) → stored_at xs n ≡ Some x
    → find_stored (map seen xs) n ≡ Some s → s ≡ seen x
agrees xs n x s stored found = one s (seen x) (sym found ∙ find-seen xs n x stored)
  where
    -- what stands in an option is one thing
    one : (a c : Stored) → Some a ≡ Some c → a ≡ c
    one a c e = cc

-- an object that is found is stored
gone : {A : Type 0} (xs : List Object) (n : ℕ) (s : Stored) → stored_at xs n ≡ None
    → find_stored (map seen xs) n ≡ Some s → A
gone xs n s none found = let f = behind xs n s found in clash none f.stored

-- how many holders there are then
counted : (comes : Bool) (held was : ℕ) → (comes ≡ true → was + 1 < 2 ^ 64 → held ≡ was + 1)
    → (comes ≡ false → held ≡ was - 1) → (comes ≡ true → was + 1 < 2 ^ 64)
    → held ≡ cond comes (was + 1) (was - 1)
counted true held was more less bound = more refl (bound refl)
counted false held was more less bound = less refl

pub returns-in_default-clause-objects : goal.returns-in_default-clause-objects
returns-in_default-clause-objects c =
    let there = rw (← c.self.view_is) at c.requires in
    gone c.self.inside.table.objects c.args.serial there.0 (sym c.in_default.ensures.value) there.1

pub invariant_of-self : goal.invariant_of-self
invariant_of-self c =
    let stored : stored_at c.self.inside.table.objects c.args.serial
    ≡ Some c.in-Some.object.now = sym c.in-Some.ensures.value in
    c.settle.ensures.books c.self.inside.node c.self.inside.table.next (λ n. 0)
    (λ n. 0) c.in-Some.object.now c.self.invariant c.in-Some.ensures.rising stored refl
    (c.self.invariant.counted c.args.serial c.in-Some.object.now stored) (λ k differs. refl)

pub returns-clause-objects : goal.returns-clause-objects
returns-clause-objects c =
    let stored : stored_at c.self.inside.table.objects c.args.serial
    ≡ Some c.in-Some.object.now = sym c.in-Some.ensures.value in
    let there = rw (← c.self.view_is) at c.requires in
    let same = agrees c.self.inside.table.objects c.args.serial c.in-Some.object.now there.0
    stored there.1 in
    let held : there.0.held ≡ c.in-Some.object.now.held = ap (λ (s : Stored). s.held) same in
    let bound = there.2 in
    rw (← c.self.view_is)
    (c.settle.ensures.seen c.self.inside.table.next c.in-Some.ensures.rising
    ∙ reheld c.self.inside.table.next c.self.inside.table.objects c.args.serial _
    c.in-Some.object.now (λ (o : Stored). cond c.args.comes (o.held + 1) (o.held - 1))
    c.in-Some.ensures.rising stored
    (counted c.args.comes _ c.in-Some.object.now.held c.after_holder-held.ensures.comes
    c.after_holder-held.ensures.goes (λ e. let b = bound e in omega arith)))
