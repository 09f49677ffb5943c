-- What a node stores is what its store has.
use Rattle.std.proofs.Common.{◌≡◌, ℕ, List, [], ◌∷◌, Some, None, Option, Bool, true, false, cond}
use Rattle.std.proofs.Common.{eqb, IsSome, map, refl, sym, ap, ◌∙◌, subst}
use Rattle.std.specs.Prelude.{option_map, MatchOption}
use Rattle.do_base.specs.declared.values.value.Value.{Value}
use Rattle.do_class.specs.declared.ids.ClassId.{ClassId}
use Rattle.do_machine.specs.{Objects.object_at, State.stored, declared.node.Stored.Stored}
use Rattle.do_store.specs.Names.{Stored as Kept, find_stored, stored_name}
use Rattle.do_part.specs.Holding.{plain}
use Rattle.do_part.proofs.{Balanced.{found_of, some_of}, Replaced.found-serial}

-- the node stores what the store has
pub stored-plain : (xs : List Kept) (n : ℕ)
    → stored n (map plain xs) ≡ option_map plain (find_stored xs n)
stored-plain [] n = refl
stored-plain (x ∷ xs) n = go (eqb x.serial n) (stored-plain xs n)
  where
    go : (b : Bool) → stored n (map plain xs) ≡ option_map plain (find_stored xs n)
        → cond b (Some (plain x)) (stored n (map plain xs))
        ≡ option_map plain (cond b (Some x) (find_stored xs n))
    go true later = refl
    go false later = later

-- what the node stores the store has
pub found-stored : (xs : List Kept) (n : ℕ) → IsSome (stored n (map plain xs))
    → IsSome (find_stored xs n)
found-stored xs n some = by_option (find_stored xs n) refl
  where
    by_option : (f : Option Kept) → find_stored xs n ≡ f → IsSome (find_stored xs n)
    by_option None none =
        let e : stored n (map plain xs) ≡ None = stored-plain xs n ∙ ap (option_map plain) none in
        let g : IsSome {T = Stored} None = subst IsSome e some in
        absurd (cc)
    by_option (Some x) found = rw found refl

-- what the store does not have the node does not store
pub none-stored : (xs : List Kept) (n : ℕ) → find_stored xs n ≡ None
    → stored n (map plain xs) ≡ None
none-stored xs n none = stored-plain xs n ∙ ap (option_map plain) none

-- what the store has the node stores
some-stored : (xs : List Kept) (n : ℕ) (o : Kept) → find_stored xs n ≡ Some o
    → stored n (map plain xs) ≡ Some (record { serial = n; class = o.class; slots = o.slots })
some-stored xs n o found = stored-plain xs n ∙ ap (option_map plain) found
    ∙ ap (λ (s : ℕ). Some (record { serial = s; class = o.class; slots = o.slots }))
    (found-serial xs n o found)

-- what is found, with its class and its slots
pub look : {S : Type 0} (xs : List Kept) (n : ℕ) (f : Option S) (class_of : S → ClassId)
    (slots_of : S → List Value)
    → MatchOption f (find_stored xs n ≡ None) (λ p. (o : Kept) × (find_stored xs n ≡ Some o)
    × (class_of p ≡ o.class) × (slots_of p ≡ o.slots))
    → MatchOption f (stored n (map plain xs) ≡ None)
    (λ p. stored n (map plain xs)
    ≡ Some (record { serial = n; class = class_of p; slots = slots_of p }))
look xs n None class_of slots_of h = none-stored xs n h
look xs n (Some p) class_of slots_of h =
    some-stored xs n h.0 h.1
    ∙ λ j. Some (record { serial = n; class = sym h.2 j; slots = sym h.3 j })

-- what the store has is something that the node stores
pub stored-found : (xs : List Kept) (n : ℕ) → IsSome (find_stored xs n)
    → IsSome (stored n (map plain xs))
stored-found xs n some = let f = found_of (find_stored xs n) some in
    some_of _ _ (some-stored xs n f.value f.is)

-- the names of stored objects, as the store tells them
pub stored-named : (p q : ℕ) → p ≡ q → (xs : List Kept)
    → map (stored_name p) xs ≡ map (λ (x : Stored). object_at q x.serial) (map plain xs)
stored-named p q same [] = refl
stored-named p q same (x ∷ xs) =
    λ j. object_at (same j) x.serial ∷ stored-named p q same xs j
