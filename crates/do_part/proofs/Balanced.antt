-- The balance after names were counted or taken off.
use Rattle.std.proofs.Common.{◌≡◌, ◌≢◌, ℕ, ◌+◌, ◌<◌, ◌≤◌, ◌^◌, List, [], ◌∷◌, Some, None, Option}
use Rattle.std.proofs.Common.{IsSome, map, refl, sym, ap, ◌∙◌, arith, inl, inr, subst}
use Rattle.std.proofs.lemmas.{Bool.cases_eq, List.Sums.sum_by-cons}
use Rattle.do_base.specs.names.Names.{ObjectName}
use Rattle.do_import.specs.Imported.{Imported}
use Rattle.do_machine.specs.{Objects.object_at, declared.node.Stored.Stored}
use Rattle.do_store.specs.Listing.{Rising}
use Rattle.do_store.specs.Names.{Stored as Kept, find_stored, named_in, values_name}
use Rattle.do_export.specs.Counts.{IsPositive}
use Rattle.do_part.specs.{Holding.{plain, most_names, CanCome, CanGo, Came}, Names.heap_of}
use Rattle.do_part.specs.{Sound.IsBalanced, declared.holders.Holders.Holders}
use Rattle.do_part.proofs.Replaced.{still}

-- the store's words for names in slots are those of the node
pub named-plain : (port n : ℕ) (xs : List Kept)
    → heap_of (map plain xs) (object_at port n) ≡ named_in port n xs
named-plain port n [] = refl
named-plain port n (x ∷ xs) =
    let a = sum_by-cons (λ (y : Stored). values_name port n y.slots) (plain x) (map plain xs) in
    let b = sum_by-cons (λ (y : Kept). values_name port n y.slots) x xs in
    let c = named-plain port n xs in
    omega arith

-- the serials of objects rise as those of the same objects do
pub rising-plain : (low top : ℕ) (xs ys : List Kept) → map plain ys ≡ map plain xs
    → Rising (λ (o : Kept). o.serial) low xs top → Rising (λ (o : Kept). o.serial) low ys top
rising-plain low top xs ys same r =
    over low ys
    (subst (λ l. Rising (λ (o : Stored). o.serial) low l top) (sym same) (under low xs r))
  where
    -- the same of the plain objects
    under : (low : ℕ) (zs : List Kept) → Rising (λ (o : Kept). o.serial) low zs top
        → Rising (λ (o : Stored). o.serial) low (map plain zs) top
    under low [] r = r
    under low (z ∷ zs) r = (r.0, under (z.serial + 1) zs r.1)

    -- and back
    over : (low : ℕ) (zs : List Kept) → Rising (λ (o : Stored). o.serial) low (map plain zs) top
        → Rising (λ (o : Kept). o.serial) low zs top
    over low [] r = r
    over low (z ∷ zs) r = (r.0, over (z.serial + 1) zs r.1)

-- what is found is something
pub some_of : {X : Type 0} (f : Option X) (x : X) → f ≡ Some x → IsSome f
some_of f x e = rw e refl

-- something is found
pub record Found {X : Type 0} (f : Option X) : Type 0 where
  pub value : X
  pub is : f ≡ Some value

-- what is something is found
pub found_of : {X : Type 0} (f : Option X) → IsSome f → Found f
found_of None some = absurd (cc)
found_of (Some x) some = record { value = x; is = refl }

-- what is stored among the same objects
pub still_some : (xs ys : List Kept) (n : ℕ) → map plain ys ≡ map plain xs
    → IsSome (find_stored xs n) → IsSome (find_stored ys n)
still_some xs ys n same some =
    let f = found_of (find_stored xs n) some in
    let s = still xs ys n f.value same f.is in
    some_of _ s.object s.found

-- among the same objects the same are named
named-same : (port n : ℕ) (xs ys : List Kept) → map plain ys ≡ map plain xs
    → named_in port n ys ≡ named_in port n xs
named-same port n xs ys same =
    sym (named-plain port n ys) ∙ ap (λ l. heap_of l (object_at port n)) same
    ∙ named-plain port n xs

module _ (a b : Holders) (d : ObjectName → ℕ) (f f' : ℕ → ℕ) (u u' : ObjectName → ℕ)
    (came : Came a b d) where
  -- the objects are the same but for their holders
  there : (n : ℕ) → IsSome (find_stored a.store.objects n) → IsSome (find_stored b.store.objects n)
  there n = still_some a.store.objects b.store.objects n came.heap

  -- the balance once names came
  pub balanced-came : IsBalanced a f u → IsPositive b.imports.uses
      → ((n : ℕ) → 0 < d (object_at a.node n) → IsSome (find_stored a.store.objects n))
      → ((n : ℕ) → f' n ≡ f n + d (object_at a.node n))
      → ((o : ObjectName) → o.node ≢ a.node → u' o ≡ u o + d o) → IsBalanced b f' u'
  balanced-came s positive known holds uses = record {
    home = came.home ∙ s.home ∙ sym came.node;
    lender = ap (λ (i : Imported). i.own) came.imports ∙ s.lender ∙ sym came.node;
    held = λ n o is.
        let x = still b.store.objects a.store.objects n o (sym came.heap) is in
        let e = one _ _ (sym is ∙ came.own n x.object x.found) in
        let h = ap (λ (y : Kept). y.held) e in
        let g = s.held n x.object x.found in
        let k = holds n in
        omega arith;
    there = λ n above. elim (cases_eq (f n) 0) [
      | inl none ↦ let k = holds n in there n (known n (omega arith))
      | inr some ↦ there n (s.there n (omega arith))
    ];
    closed = λ n above. there n (s.closed n (subst (λ m. 0 < m)
        (named-same b.node n a.store.objects b.store.objects came.heap
        ∙ ap (λ m. named_in m n a.store.objects) came.node) above));
    rising = subst (λ m. Rising (λ (o : Kept). o.serial) 0 b.store.objects m) (sym came.next)
        (rising-plain 0 a.store.next a.store.objects b.store.objects came.heap s.rising);
    used = λ o away.
        let apart : o.node ≢ a.node = λ h. away (h ∙ sym came.node) in
        let x = came.foreign o apart in
        let y = s.used o apart in
        let z = uses o apart in
        omega arith;
    positive = positive;
  }
    where
      -- what stands in an option is one thing
      one : (p q : Kept) → Some p ≡ Some q → p ≡ q
      one p q e = cc

  -- the balance once names went
  pub balanced-went : IsBalanced b f u → IsPositive a.imports.uses
      → ((n : ℕ) → f n ≡ f' n + d (object_at b.node n))
      → ((o : ObjectName) → o.node ≢ b.node → u o ≡ u' o + d o) → IsBalanced a f' u'
  balanced-went s positive holds uses = record {
    home = sym came.home ∙ s.home ∙ came.node;
    lender = sym (ap (λ (i : Imported). i.own) came.imports) ∙ s.lender ∙ came.node;
    held = λ n o is.
        let g = s.held n _ (came.own n o is) in
        let k = holds n in
        let e = ap (λ m. d (object_at m n)) came.node in
        omega arith;
    there = λ n above. back n (s.there n (let k = holds n in omega arith));
    closed = λ n above. back n (s.closed n (subst (λ m. 0 < m)
        (sym (named-same a.node n a.store.objects b.store.objects came.heap)
        ∙ ap (λ m. named_in m n b.store.objects) (sym came.node)) above));
    rising = subst (λ m. Rising (λ (o : Kept). o.serial) 0 a.store.objects m) came.next
        (rising-plain 0 b.store.next b.store.objects a.store.objects (sym came.heap) s.rising);
    used = λ o away.
        let x = came.foreign o away in
        let apart : o.node ≢ b.node = λ h. away (h ∙ came.node) in
        let y = s.used o apart in
        let z = uses o apart in
        omega arith;
    positive = positive;
  }
    where
      -- the objects are the same but for their holders
      back : (n : ℕ) → IsSome (find_stored b.store.objects n)
          → IsSome (find_stored a.store.objects n)
      back n = still_some b.store.objects a.store.objects n (sym came.heap)

-- names can come, where the objects are stored and no count gets too high
pub can_come : (a : Holders) (d : ObjectName → ℕ) (f : ℕ → ℕ) (u : ObjectName → ℕ) (size : ℕ)
    → IsBalanced a f u
    → ((n : ℕ) → 0 < d (object_at a.node n) → IsSome (find_stored a.store.objects n))
    → ((n : ℕ) → f n + d (object_at a.node n) < 2 ^ 64) → ((o : ObjectName) → u o + d o < 2 ^ 64)
    → size ≤ a.imports.spare → a.names + size ≤ most_names → CanCome a d size
can_come a d f u size s known low few room most = record {
  own = λ n above.
      let x = found_of (find_stored a.store.objects n) (known n above) in
      let h = s.held n x.value x.is in
      let l = low n in
      (x.value, x.is, omega (arith, h, l));
  foreign = λ o away. let h = s.used o away in let l = few o in omega arith;
  room = room;
  few = most;
}

-- names can go, where they are counted
pub can_go : (a : Holders) (d : ObjectName → ℕ) (f : ℕ → ℕ) (u : ObjectName → ℕ)
    → IsBalanced a f u
    → ((n : ℕ) → d (object_at a.node n) ≤ f n)
    → ((o : ObjectName) → o.node ≢ a.node → d o ≤ u o) → CanGo a d
can_go a d f u s held used = record {
  own = λ n above.
      let l = held n in
      let x = found_of (find_stored a.store.objects n) (s.there n (omega arith)) in
      let h = s.held n x.value x.is in
      (x.value, x.is, omega (arith, h, l));
  foreign = λ o away. let h = s.used o away in let l = used o away in omega arith;
}

-- the balance in other words
pub balanced-as : (a : Holders) (f f' : ℕ → ℕ) (u u' : ObjectName → ℕ) → IsBalanced a f u
    → ((n : ℕ) → f' n ≡ f n) → ((o : ObjectName) → o.node ≢ a.node → u' o ≡ u o)
    → IsBalanced a f' u'
balanced-as a f f' u u' s holds uses = record {
  home = s.home;
  lender = s.lender;
  held = λ n o is. s.held n o is ∙ sym (holds n);
  there = λ n above. s.there n (let h = holds n in omega arith);
  closed = s.closed;
  rising = s.rising;
  used = λ o away. s.used o away ∙ sym (uses o away);
  positive = s.positive;
}
