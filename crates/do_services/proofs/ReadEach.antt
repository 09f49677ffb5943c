-- Services that are read one by one, each put behind the others, are the table of all of them.
use Rattle.std.proofs.Common.{◌≡◌, ◌∙◌, ℕ, Bool, true, false, not, is_some, ap, arith, length, refl}
use Rattle.std.proofs.Common.{List as Listed, [], ◌∷◌, ◌++◌, Option, Some, None, map, sym, ◌+◌, ◌<◌}
use Rattle.std.proofs.Common.{◌≤◌, drop, get_or}
use Rattle.std.specs.{Prelude.{if◌then◌else◌, slice_get}, Option.option_map}
use Rattle.std.proofs.Math.{ListN.drop_of_length-le, Seq.{get_or-append_seam, take-append_seam}}
use Rattle.std.proofs.lemmas.List.{append-nil, append_assoc, at_drop_more, length-append}
use Rattle.std.proofs.lemmas.Option.{slice_get-get_or}
use Rattle.do_base.specs.declared.values.value.Value.{Value}
use Rattle.do_grammar.specs.Words.{◌>>?◌}
use Rattle.do_native_acts.specs.{Rows.{read_all, with_first}, laws.KindLaws.then_is}
use Rattle.do_table.specs.Entries.{added, are_distinct, once, value_of}
use Rattle.do_table.specs.laws.TableLaws.{distinct_pushed, entry_refused}
use Rattle.do_services.specs.{Core.{Entry, keyed, service_in}, declared.service.Service.Service}

-- the table that the services of values make behind others
abbrev pub read_into : Listed Entry → Listed Value → Option (Listed Entry)
read_into es [] = Some es
read_into es (v ∷ vs) =
    service_in v >>? λ s. if is_some (value_of es s.item) then None
    else read_into (es ++ keyed s ∷ []) vs

-- nothing leads to nothing
then_none : {A B : Type 0} {o : Option A} (f : A → Option B) → o ≡ None → (o >>? f) ≡ None
then_none f e = ap (λ p. p >>? f) e

-- an entry whose item is in front of it is there twice
item_twice : (es more : Listed Entry) (e : Entry) → is_some (value_of es e.0) ≡ true
    → are_distinct (es ++ e ∷ more) ≡ false
item_twice es more e known =
    entry_refused (es ++ e ∷ more) es (length es) e there (sym (take-append_seam es (e ∷ more)))
    (ap not known)
  where
    there : slice_get (es ++ e ∷ more) (length es) ≡ Some e
    there =
        slice_get-get_or (es ++ e ∷ more) (length es) e
        (omega (arith, length-append es (e ∷ more)))
        ∙ ap Some (get_or-append_seam es e more e)

-- what one service more makes of a table, where the others are read as they should be
read_one : (es : Listed Entry) (s : Service) (others : Option (Listed Service)) (known : Bool)
    (read : Option (Listed Entry)) → is_some (value_of es s.item) ≡ known
    → (known ≡ false → read ≡ (others >>? λ ss. once ((es ++ keyed s ∷ []) ++ map keyed ss)))
    → (if known then None else read)
    ≡ (option_map (λ ss. s ∷ ss) others >>? λ ss. once (es ++ map keyed ss))
read_one es s None true read is fresh = refl
read_one es s None false read is fresh = fresh refl
read_one es s (Some ss) true read is fresh =
    sym (ap (λ b. if b then Some (es ++ keyed s ∷ map keyed ss) else None)
    (item_twice es (map keyed ss) (keyed s) is))
read_one es s (Some ss) false read is fresh =
    fresh refl ∙ ap once (append_assoc es (keyed s ∷ []) (map keyed ss))

-- services that are read behind distinct others are the table of all, where all are distinct
read_behind : (vs : Listed Value) (es : Listed Entry) → are_distinct es ≡ true
    → read_into es vs ≡ (read_all service_in vs >>? λ ss. once (es ++ map keyed ss))
read_behind [] es distinct =
    sym (ap once (append-nil es) ∙ ap (λ b. if b then Some es else None) distinct)
read_behind (v ∷ vs) es distinct = by (service_in v) (read_behind vs)
  where
    by : (o : Option Service) → ((ds : Listed Entry) → are_distinct ds ≡ true
        → read_into ds vs ≡ (read_all service_in vs >>? λ ss. once (ds ++ map keyed ss)))
        → (o >>? λ s. if is_some (value_of es s.item) then None
        else read_into (es ++ keyed s ∷ []) vs)
        ≡ (with_first o (read_all service_in vs) >>? λ ss. once (es ++ map keyed ss))
    by None rest = refl
    by (Some s) rest =
        read_one es s (read_all service_in vs) (is_some (value_of es s.item))
        (read_into (es ++ keyed s ∷ []) vs) refl (λ fresh.
        rest (es ++ keyed s ∷ []) (distinct_pushed es (keyed s) fresh distinct))

-- the services of values that are read behind none are the table of all
pub read_table : (vs : Listed Value)
    → read_into [] vs ≡ (read_all service_in vs >>? λ ss. once (map keyed ss))
read_table vs = read_behind vs [] refl

module _ (es : Listed Entry) (vs : Listed Value) (i : ℕ)
    (so_far : read_into es (drop i vs) ≡ read_into [] vs) where
  -- what the services of the values make, where the rest makes this
  whole : (left : Option (Listed Entry)) → read_into es (drop i vs) ≡ left
      → left ≡ (read_all service_in vs >>? λ ss. once (map keyed ss))
  whole left is = sym is ∙ so_far ∙ read_table vs

  -- where no value is left it is the table so far
  pub none_left : length vs ≤ i → Some es ≡ (read_all service_in vs >>? λ ss. once (map keyed ss))
  none_left past = whole (Some es) (ap (read_into es) (drop_of_length-le vs past))

  module _ (v : Value) (within : i < length vs) (is_next : v ≡ get_or vs i v) where
    -- what the next value makes of the rest
    next_read : read_into es (drop i vs) ≡ read_into es (v ∷ drop (i + 1) vs)
    next_read =
        at_drop_more (read_into es) vs i v within
        ∙ ap (λ x. read_into es (x ∷ drop (i + 1) vs)) (sym is_next)

    -- a value that is no service makes nothing of all
    pub no_service : service_in v ≡ None
        → None ≡ (read_all service_in vs >>? λ ss. once (map keyed ss))
    no_service none = whole None (next_read ∙ then_none _ none)

    -- nor does one whose item is there
    pub known_item : (s : Service) → service_in v ≡ Some s → is_some (value_of es s.item) ≡ true
        → None ≡ (read_all service_in vs >>? λ ss. once (map keyed ss))
    known_item s is known =
        whole None (next_read ∙ then_is _ is
        ∙ ap (λ b. if b then None else read_into (es ++ keyed s ∷ []) (drop (i + 1) vs)) known)

    -- one with a new item is put behind the others
    pub one_more : (s : Service) (new : Listed Entry) → service_in v ≡ Some s
        → is_some (value_of es s.item) ≡ false → new ≡ added es s.item s
        → read_into new (drop (i + 1) vs) ≡ read_into [] vs
    one_more s new is fresh put =
        ap (λ xs. read_into xs (drop (i + 1) vs))
        (put ∙ ap (λ b. if b then es else es ++ keyed s ∷ []) fresh)
        ∙ sym (next_read ∙ then_is _ is
        ∙ ap (λ b. if b then None else read_into (es ++ keyed s ∷ []) (drop (i + 1) vs)) fresh)
        ∙ so_far
