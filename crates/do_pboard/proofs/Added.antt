-- What added types leave is what is told.
use Rattle.std.proofs.Common.{◌≡◌, ℕ, pos, Bool, true, false, ◌&&◌, ◌||◌, nat_lt, nat_le, List, []}
use Rattle.std.proofs.Common.{◌∷◌, ◌++◌, length, Option, Some, None, refl, sym, ◌∙◌, ap, true≢false}
use Rattle.std.proofs.Common.{subst}
use Rattle.std.specs.{Prelude.if◌then◌else◌, List.list_any, Option.option_map, Str.bytes_eq}
use Rattle.std.proofs.lemmas.{List.Folds.list_any-append, Map.Entries.length-keys_of}
use Rattle.do_base.specs.names.Names.{ObjectName}
use Rattle.do_table.specs.{Entries.{value_of, given}, laws.TableLaws.same_name}
use Rattle.do_pboard.specs.{Calls.as_number, Changes.{extended, is_owned, same_owner, with_all}}
use Rattle.do_pboard.specs.{Changes.with_types, Core.Pasteboard}
use Rattle.do_native_acts.specs.History.{left}
use Rattle.do_pboard.specs.Meaning.{joined, told_count, told_data, told_owner, told_types}
use Rattle.do_pboard.specs.declared.calls.Call.{Call, TheVariants.AddTypes}
use Rattle.do_pboard.proofs.{TypesAdded.{keys_joined, value_joined}, Declared.{Has, IsTold}}

-- or nothing
or_none : (b : Bool) → b ≡ (b || false)
or_none true = refl
or_none false = refl

-- three tests, of which one is to pass
grouped : (a b c : Bool) → ((a || b) || c) ≡ (a || (b || c))
grouped true b c = refl
grouped false b c = refl

-- a text is among texts, or is one of them
any_same : (known : List (List ℕ)) (new kind : List ℕ) (same : Bool) → bytes_eq kind new ≡ same
    → list_any (bytes_eq new) known ≡ true
    → list_any (bytes_eq kind) known ≡ (list_any (bytes_eq kind) known || same)
any_same known new kind true is there =
    let found : list_any (bytes_eq kind) known ≡ true =
    ap (λ n. list_any (bytes_eq n) known) (same_name kind new is) ∙ there in
    found ∙ sym (ap (λ b. b || true) found)
any_same known new kind false is there = or_none (list_any (bytes_eq kind) known)

-- a text is among texts with one more where it is among them or is it
any_new : (known : List (List ℕ)) (new kind : List ℕ) (b : Bool)
    → list_any (bytes_eq new) known ≡ b
    → list_any (bytes_eq kind) (if b then known else known ++ new ∷ [])
    ≡ (list_any (bytes_eq kind) known || bytes_eq kind new)
any_new known new kind true there = any_same known new kind (bytes_eq kind new) refl there
any_new known new kind false absent =
    list_any-append (bytes_eq kind) known (new ∷ [])
    ∙ ap (λ b. list_any (bytes_eq kind) known || b) (sym (or_none (bytes_eq kind new)))

-- a text is among texts with more where it is among one or the other
any_joined : (known more : List (List ℕ)) (kind : List ℕ)
    → list_any (bytes_eq kind) (joined known more)
    ≡ (list_any (bytes_eq kind) known || list_any (bytes_eq kind) more)
any_joined known [] kind = or_none (list_any (bytes_eq kind) known)
any_joined known (new ∷ more) kind =
    any_joined (if list_any (bytes_eq new) known then known else known ++ new ∷ []) more kind
    ∙ ap (λ b. b || list_any (bytes_eq kind) more)
    (any_new known new kind (list_any (bytes_eq new) known) refl)
    ∙ grouped (list_any (bytes_eq kind) known) (bytes_eq kind new) (list_any (bytes_eq kind) more)

-- a type that may be added has its data, or none
given_told : (known more : Bool) (o : Option (Option (List ℕ))) (has : Option (List ℕ))
    → o ≡ (if known then Some has else None) → (known ≡ false → has ≡ None)
    → given o None more ≡ (if known || more then Some has else None)
given_told true more o has is none = ap (λ x. given x None more) is
given_told false true o has is none =
    ap (λ x. given x None true) is ∙ ap (λ d. Some d) (sym (none refl))
given_told false false o has is none = ap (λ x. given x None false) is

-- where neither passes, the first does not
or_false : (a b : Bool) → (a || b) ≡ false → a ≡ false
or_false true b e = absurd (true≢false e)
or_false false b e = refl

-- what a pasteboard has once types were added
joined_has : (b : Pasteboard) (count : ℕ) (owner : Option ObjectName) (known : List (List ℕ))
    (data_of : List ℕ → Option (List ℕ)) (types : List (List ℕ)) → Has b count owner known data_of
    → Has (record b { types = with_types b.types types }) count owner (joined known types) data_of
joined_has b count owner known data_of types is = record {
  count = is.count;
  owner = is.owner;
  types = keys_joined b.types types ∙ ap (λ ks. joined ks types) is.types;
  held = λ kind. value_joined b.types types kind
      ∙ given_told (list_any (bytes_eq kind) known) (list_any (bytes_eq kind) types)
      (value_of b.types kind) (data_of kind) (is.held kind) (is.others kind)
      ∙ ap (λ t. if t then Some (data_of kind) else None) (sym (any_joined known types kind));
  others = λ kind absent. is.others kind
      (or_false (list_any (bytes_eq kind) known) (list_any (bytes_eq kind) types)
      (sym (any_joined known types kind) ∙ absent));
}

-- the types that may have been added
abbrev added_left : Pasteboard → List (List ℕ) → Bool → Bool → Pasteboard
added_left b types mine few =
    left b (option_map as_number
    (if mine then option_map (with_all b) (if few then Some (with_types b.types types) else None)
    else Some (b, pos 0)))

-- types are added
added_told : (h : List Call) (b : Pasteboard) (types : List (List ℕ)) (owner : Option ObjectName)
    (mine few : Bool) → (nat_lt 0 (told_count h) && same_owner owner (told_owner h)) ≡ mine
    → nat_le (length (joined (told_types h) types)) 64 ≡ few → IsTold h b
    → IsTold (AddTypes types owner ∷ h) (added_left b types mine few)
added_told h b types owner mine few is_mine is_few is = by mine few refl refl
  where
    told_is : told_types (AddTypes types owner ∷ h)
        ≡ (if mine && few then joined (told_types h) types else told_types h)
    told_is =
        ap (λ t. if t && nat_le (length (joined (told_types h) types)) 64
        then joined (told_types h) types else told_types h) is_mine
        ∙ ap (λ t. if mine && t then joined (told_types h) types else told_types h) is_few

    by : (m f : Bool) → mine ≡ m → few ≡ f
        → IsTold (AddTypes types owner ∷ h) (added_left b types m f)
    by true true one other =
        subst (λ ts. Has (record b { types = with_types b.types types }) (told_count h)
        (told_owner h) ts (told_data h))
        (sym (told_is ∙ ap (λ t. if t && few then joined (told_types h) types else told_types h) one
        ∙ ap (λ t. if t then joined (told_types h) types else told_types h) other))
        (joined_has b (told_count h) (told_owner h) (told_types h) (told_data h) types is)
    by true false one other =
        subst (λ ts. Has b (told_count h) (told_owner h) ts (told_data h))
        (sym (told_is ∙ ap (λ t. if t && few then joined (told_types h) types else told_types h) one
        ∙ ap (λ t. if t then joined (told_types h) types else told_types h) other)) is
    by false f one other =
        subst (λ ts. Has b (told_count h) (told_owner h) ts (told_data h))
        (sym (told_is
        ∙ ap (λ t. if t && few then joined (told_types h) types else told_types h) one)) is

-- types are added, or not
pub extended_told : (h : List Call) (b : Pasteboard) (types : List (List ℕ))
    (owner : Option ObjectName) → IsTold h b
    → IsTold (AddTypes types owner ∷ h) (left b (option_map as_number (extended b types owner)))
extended_told h b types owner is =
    let all = with_types b.types types in
    let mine =
    ap (λ n. nat_lt 0 n && same_owner owner b.owner) is.count
    ∙ ap (λ o. nat_lt 0 (told_count h) && same_owner owner o) is.owner in
    let longer : length all ≡ length (joined (told_types h) types) =
    sym (length-keys_of all)
    ∙ ap length (keys_joined b.types types ∙ ap (λ ks. joined ks types) is.types) in
    added_told h b types owner (is_owned b owner) (nat_le (length all) 64) (sym mine)
    (ap (λ n. nat_le n 64) (sym longer)) is
