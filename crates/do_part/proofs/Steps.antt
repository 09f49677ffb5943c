-- Steps that count names: none, one after the other, and the same names in other words.
use Rattle.std.proofs.Common.{◌≡◌, ◌≢◌, ℕ, ◌+◌, ◌≤◌, Some, map, refl, sym, ap, ◌∙◌, arith, subst}
use Rattle.do_base.specs.names.Names.{ObjectName}
use Rattle.do_export.specs.Counts.{count_of}
use Rattle.do_import.specs.Imported.{Imported}
use Rattle.do_machine.specs.Objects.{object_at}
use Rattle.do_store.specs.Names.{Stored as Kept, find_stored, Objects}
use Rattle.do_part.specs.{Holding.{plain, CanCome, CanGo, Came}, declared.holders.Holders.Holders}
use Rattle.do_part.proofs.Replaced.{still}

-- no name comes
pub came-none : (a : Holders) (f : ObjectName → ℕ) → ((o : ObjectName) → f o ≡ 0) → Came a a f
came-none a f none = record {
  own = λ n o is.
      is ∙ ap (λ h. Some (record o { held = h }))
      (let e = none (object_at a.node n) in omega arith);
  heap = refl;
  home = refl;
  next = refl;
  spare = refl;
  node = refl;
  foreign = λ o away. let e = none o in omega arith;
  imports = refl;
}

-- no name comes, and only the number of names ever counted changes
pub came-kept : (a b : Holders) (f : ObjectName → ℕ) → b.store ≡ a.store → b.node ≡ a.node
    → b.imports ≡ a.imports → ((o : ObjectName) → f o ≡ 0) → Came a b f
came-kept a b f store node imports none = record {
  own = λ n o is.
      ap (λ (s : Objects). find_stored s.objects n) store ∙ is
      ∙ ap (λ h. Some (record o { held = h }))
      (let e = none (object_at a.node n) in omega arith);
  heap = ap (λ (s : Objects). map plain s.objects) store;
  home = ap (λ (s : Objects). s.node) store;
  next = ap (λ (s : Objects). s.next) store;
  spare = ap (λ (s : Objects). s.spare) store;
  node = node;
  foreign = λ o away.
      let x = ap (λ (i : Imported). count_of i.uses o.node o.serial) imports in
      let e = none o in omega arith;
  imports = subst (λ (i : Imported). i ≡ record a.imports { uses = i.uses; spare = i.spare })
      (sym imports) refl;
}

-- names come, and then others
pub came-then : (a b c : Holders) (d e f : ObjectName → ℕ) → Came a b d → Came b c e
    → ((o : ObjectName) → f o ≡ d o + e o) → Came a c f
came-then a b c d e f first second sum = record {
  own = λ n o is.
      let moved = second.own n (record o { held = o.held + d (object_at a.node n) })
      (first.own n o is) in
      let at = ap (λ m. e (object_at m n)) first.node in
      moved ∙ ap (λ h. Some (record o { held = h }))
      (let s = sum (object_at a.node n) in omega arith);
  heap = second.heap ∙ first.heap;
  home = second.home ∙ first.home;
  next = second.next ∙ first.next;
  spare = second.spare ∙ first.spare;
  node = second.node ∙ first.node;
  foreign = λ o away.
      let x = first.foreign o away in
      let y = second.foreign o (λ h. away (h ∙ first.node)) in
      let s = sum o in
      omega arith;
  imports = second.imports
      ∙ ap (λ (i : Imported). record i { uses = c.imports.uses; spare = c.imports.spare })
      first.imports;
}

-- the same names come, in other words
pub came-as : (a b : Holders) (d f : ObjectName → ℕ) → Came a b d
    → ((o : ObjectName) → f o ≡ d o) → Came a b f
came-as a b d f came same = record {
  own = λ n o is.
      came.own n o is ∙ ap (λ h. Some (record o { held = o.held + h })) (sym (same _));
  heap = came.heap;
  home = came.home;
  next = came.next;
  spare = came.spare;
  node = came.node;
  foreign = λ o away. let x = came.foreign o away in let s = same o in omega arith;
  imports = came.imports;
}

-- fewer names can come
pub can-less : (a : Holders) (f e : ObjectName → ℕ) (s u : ℕ) → CanCome a f s
    → ((o : ObjectName) → e o ≤ f o) → u ≤ s → CanCome a e u
can-less a f e s u can less fewer = record {
  own = λ n above.
      let l = less (object_at a.node n) in
      let x = can.own n (omega arith) in
      (x.0, x.1, omega (arith, x.2, l));
  foreign = λ o away. let x = can.foreign o away in let l = less o in omega arith;
  room = let r = can.room in omega arith;
  few = let r = can.few in omega arith;
}

-- where names can come, and some came, the others can come
pub can-rest : (a b : Holders) (f d e : ObjectName → ℕ) (s t u : ℕ) → CanCome a f s → Came a b d
    → a.imports.spare ≤ b.imports.spare + t → b.names ≡ a.names + t
    → ((o : ObjectName) → d o + e o ≤ f o) → t + u ≤ s → CanCome b e u
can-rest a b f d e s t u can came spare names less fewer = record {
  own = λ n above.
      let at : e (object_at b.node n) ≡ e (object_at a.node n) =
      ap (λ m. e (object_at m n)) came.node in
      let l = less (object_at a.node n) in
      let x = can.own n (omega arith) in
      (_, came.own n x.0 x.1, omega (arith, x.2, l, at));
  foreign = λ o away.
      let apart : o.node ≢ a.node = λ h. away (h ∙ sym came.node) in
      let x = can.foreign o apart in
      let y = came.foreign o apart in
      let l = less o in
      omega arith;
  room = let r = can.room in omega arith;
  few = let r = can.few in omega arith;
}

-- fewer names can go
pub go-less : (a : Holders) (f e : ObjectName → ℕ) → CanGo a f
    → ((o : ObjectName) → e o ≤ f o) → CanGo a e
go-less a f e can less = record {
  own = λ n above.
      let l = less (object_at a.node n) in
      let x = can.own n (omega arith) in
      (x.0, x.1, omega (arith, x.2, l));
  foreign = λ o away. let x = can.foreign o away in let l = less o in omega arith;
}

-- where names can go, and some went, the others can go
pub go-rest : (a b : Holders) (f d e : ObjectName → ℕ) → CanGo a f → Came b a d
    → ((o : ObjectName) → d o + e o ≤ f o) → CanGo b e
go-rest a b f d e can went less = record {
  own = λ n above.
      let at : object_at b.node n ≡ object_at a.node n =
      ap (λ m. object_at m n) (sym went.node) in
      let atd = ap d at in
      let ate = ap e at in
      let l = less (object_at a.node n) in
      let x = can.own n (omega arith) in
      let s = still a.store.objects b.store.objects n x.0 (sym went.heap) x.1 in
      let held = one _ _ (sym (went.own n s.object s.found) ∙ x.1) in
      let more = ap (λ (o : Kept). o.held) held in
      (s.object, s.found, omega (arith, x.2, l, more, atd, ate));
  foreign = λ o away.
      let x = can.foreign o (λ h. away (h ∙ went.node)) in
      let y = went.foreign o away in
      let l = less o in
      omega arith;
}
  where
    -- what stands in an option is one thing
    one : (p q : Kept) → Some p ≡ Some q → p ≡ q
    one p q e = cc
