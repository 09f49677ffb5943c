-- A part once objects that nothing holds were taken out, and what is not used was left.
use Rattle.std.specs.FinMap as map
use Rattle.std.proofs.Common.{◌≡◌, ◌≢◌, ℕ, ◌+◌, ◌<◌, ◌++◌, Bool, true, false, cond, eqb, List, []}
use Rattle.std.proofs.Common.{◌∷◌, Some, None, IsSome, is_some, T, refl, sym, ap, ◌∙◌, subst, arith}
use Rattle.std.proofs.{Common.{inl, inr, eqb-true, ne_eqb}, lemmas.Bool.cases_eq}
use Rattle.do_base.specs.names.Names.{ObjectName}
use Rattle.do_export.specs.Counts.{IsPositive, count_of}
use Rattle.do_import.specs.Imported.{Imported, all_off}
use Rattle.do_leaving.specs.Counted.{heap_of as bare, serial_of}
use Rattle.do_leaving.specs.Sweeping.{TakenOut, foreign_names}
use Rattle.do_leaving.proofs.{CountsOff.{all_off-count, foreign-times}, SlotNames.heap_times}
use Rattle.do_leaving.proofs.StoreLookups.{rising-without, sum-without}
use Rattle.do_leaving.proofs.TakenInTurn.{taken_rises, taken_sum}
use Rattle.do_machine.specs.held.Refers.{heap_objects}
use Rattle.do_store.specs.{Listing.Rising, Names.{Objects, Stored as Kept, find_stored, named_in}}
use Rattle.do_store.specs.Names.{replaced, values_name}
use Rattle.do_part.specs.{Linked.AreLinked, Seen.own_of, Sound.{IsSound, holders, uses}}
use Rattle.do_part.specs.declared.part.Part.TheInside.{Inside}
use Rattle.do_part.proofs.{Balanced.named-plain, LinkEnds.links_retained}

-- an object of another serial is found still
find_other : (m n : ℕ) → n ≢ m → (xs : List Kept)
    → find_stored (replaced m (λ s. []) xs) n ≡ find_stored xs n
find_other m n other [] = refl
find_other m n other (x ∷ xs) = go (eqb x.serial m) refl (find_other m n other xs)
  where
    go : (b : Bool) → eqb x.serial m ≡ b
        → find_stored (replaced m (λ s. []) xs) n ≡ find_stored xs n
        → find_stored (cond b [] (x ∷ []) ++ replaced m (λ s. []) xs) n
        ≡ cond (eqb x.serial n) (Some x) (find_stored xs n)
    go true e later = later ∙ sym (ap (λ c. cond c (Some x) (find_stored xs n))
        (ne_eqb x.serial n (λ h. other (sym h ∙ eqb-true x.serial m e))))
    go false e later = ap (λ f. cond (eqb x.serial n) (Some x) f) later

-- one that was taken out is not found
find_gone : (m : ℕ) (xs : List Kept) → find_stored (replaced m (λ s. []) xs) m ≡ None
find_gone m [] = refl
find_gone m (x ∷ xs) = go (eqb x.serial m) refl (find_gone m xs)
  where
    go : (b : Bool) → eqb x.serial m ≡ b → find_stored (replaced m (λ s. []) xs) m ≡ None
        → find_stored (cond b [] (x ∷ []) ++ replaced m (λ s. []) xs) m ≡ None
    go true e later = later
    go false e later = ap (λ c. cond c (Some x) (find_stored (replaced m (λ s. []) xs) m)) e ∙ later

-- stored objects have these holders, and what is held or named is stored
record AreKept (node : ℕ) (holds : ℕ → ℕ) (xs : List Kept) : Type 0 where
  held : (n : ℕ) (o : Kept) → find_stored xs n ≡ Some o → o.held ≡ holds n
  there : (n : ℕ) → 0 < holds n → IsSome (find_stored xs n)
  closed : (n : ℕ) → 0 < named_in node n xs → IsSome (find_stored xs n)

module _ (node : ℕ) (holds : ℕ → ℕ) where
  -- so it is once one is taken out that nothing holds or names
  kept_less : (top : ℕ) (xs : List Kept) (o : Kept) → Rising serial_of 0 xs top
      → find_stored xs o.serial ≡ Some o → o.held ≡ 0 → named_in node o.serial xs ≡ 0
      → AreKept node holds xs → AreKept node holds (replaced o.serial (λ s. []) xs)
  kept_less top xs o rising found free unnamed kept = record {
    held = λ n x is. elim (cases_eq n o.serial) [
      | inl same ↦ absurd (clash x (sym (ap (find_stored less) same ∙ find_gone o.serial xs) ∙ is))
      | inr other ↦ kept.held n x (sym (find_other o.serial n other xs) ∙ is)
    ];
    there = λ n above. elim (cases_eq n o.serial) [
      | inl same ↦
          let h = kept.held o.serial o found in
          let e = ap holds same in
          absurd (omega (arith, above, h, e, free))
      | inr other ↦
          subst IsSome (sym (find_other o.serial n other xs)) (kept.there n above)
    ];
    closed = λ n above.
        let sum = sum-without (λ y. values_name node n y.slots) 0 top xs o rising found in
        elim (cases_eq n o.serial) [
          | inl same ↦
              let e = ap (λ m. named_in node m xs) same in
              absurd (omega (arith, above, sum, e, unnamed))
          | inr other ↦ subst IsSome (sym (find_other o.serial n other xs))
              (kept.closed n (omega (arith, above, sum)))
        ];
  }
    where
      -- the others
      less : List Kept
      less = replaced o.serial (λ s. []) xs

      clash : (x : Kept) → None ≡ Some x → ⊥
      clash x e = subst T (sym (ap is_some e)) tt

  -- and once some are, one after the other
  kept_after : (top : ℕ) (xs gone ys : List Kept) → TakenOut node xs gone ys
      → Rising serial_of 0 xs top → AreKept node holds xs → AreKept node holds ys
  kept_after top _ _ _ (TakenOut.none xs) rising kept = kept
  kept_after top _ _ _ (TakenOut.more xs gone ys o found free unnamed rest) rising kept =
      kept_after top (replaced o.serial (λ s. []) xs) gone ys rest
      (rising-without 0 top o.serial xs rising) (kept_less top xs o rising found free unnamed kept)

-- the part with another store and other imports
abbrev pub left_with : Inside → Objects → Imported → Inside
left_with i store m =
    record i { holders = record i.holders { store = store; imports = m } }

-- a part is sound once objects were taken out with their uses
pub sound_left_behind : (i : Inside) (store : Objects) (m : Imported) (gone : List Kept)
    → IsSound i
    → TakenOut i.holders.store.node i.holders.store.objects gone store.objects
    → store.node ≡ i.holders.store.node → store.next ≡ i.holders.store.next
    → m.uses ≡ all_off i.holders.imports.uses (foreign_names i.holders.store.node gone)
    → m.named ≡ i.holders.imports.named → m.own ≡ i.holders.imports.own → IsPositive m.uses
    → AreLinked (left_with i store m) → IsSound (left_with i store m)
sound_left_behind i store m gone s taken home next uses_are named own positive links = record {
  balanced = record {
    home = home ∙ s.balanced.home;
    lender = own ∙ s.balanced.lender;
    held = kept.held;
    there = kept.there;
    closed = λ n above. kept.closed n
        (subst (λ p. 0 < named_in p n store.objects) (sym s.balanced.home) above);
    rising = subst (Rising serial_of 0 store.objects) (sym next)
        (taken_rises i.holders.store.node 0 i.holders.store.next i.holders.store.objects gone
        store.objects taken s.balanced.rising);
    used = λ o away.
        let a = ap (λ c. count_of c o.node o.serial) uses_are in
        let b = all_off-count i.holders.imports.uses
        (foreign_names i.holders.store.node gone) o in
        let c = foreign-times i.holders.store.node (heap_objects (bare gone)) o
        (λ h. away (h ∙ s.balanced.home)) in
        let d = heap_times o.node o.serial gone in
        let e = s.balanced.used o away in
        let f = moved o in
        omega (arith, a, b, c, d, e, f);
    positive = positive;
  };
  few = λ o. let f = moved o in let g = s.few o in omega (arith, f, g);
  most = s.most;
  small = s.small;
  apart = s.apart;
  numbered = s.numbered;
  links = links;
}
  where
    -- what is stored still
    kept : AreKept i.holders.store.node (holders (own_of i)) store.objects
    kept = kept_after i.holders.store.node (holders (own_of i)) i.holders.store.next
        i.holders.store.objects gone store.objects taken s.balanced.rising (record {
          held = s.balanced.held;
          there = s.balanced.there;
          closed = λ n above. s.balanced.closed n
              (subst (λ p. 0 < named_in p n i.holders.store.objects) s.balanced.home above);
        })

    -- what is named less is what the slots of those taken out named
    moved : (o : ObjectName) → uses (left_with i store m) o + named_in o.node o.serial gone
        ≡ uses i o
    moved o =
        let a = taken_sum (λ x. values_name o.node o.serial x.slots) i.holders.store.node 0
        i.holders.store.next i.holders.store.objects gone store.objects taken
        s.balanced.rising in
        let b = named-plain o.node o.serial i.holders.store.objects in
        let c = named-plain o.node o.serial store.objects in
        let d = ap (λ x. count_of x o.node o.serial) named in
        omega (arith, a, b, c, d)

-- bounds are kept where only some objects stay received
pub links_left : (i : Inside) (store : Objects) (m : Imported) → AreLinked i
    → (p : ℕ × ℕ → Bool) → m.received ≡ map.retain_keys i.holders.imports.received p
    → m.asks ≡ i.holders.imports.asks → AreLinked (left_with i store m)
links_left i store m l p received asks =
    links_retained (record i { holders = record i.holders { store = store } }) m (record {
      ends = l.ends;
      sent = l.sent;
      got = l.got;
      held = l.held;
      asked = l.asked;
    }) p received asks
