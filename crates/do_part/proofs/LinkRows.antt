-- Lends and asks as a node lists them, when a row is put into their maps or taken out.
use Rattle.std.specs.FinMap as map
use Rattle.std.proofs.Common.{◌≡◌, ℕ, ◌<◌, ◌++◌, ◌==◌, ◌&&◌, ◌||◌, Bool, true, false, not, ◌⊎◌, inl}
use Rattle.std.proofs.Common.{inr, T, List, [], ◌∷◌, Option, Some, None, is_some, filter, length}
use Rattle.std.proofs.Common.{map as each, refl, sym, ap, ◌∙◌, subst, arith, eqb}
use Rattle.std.specs.{Prelude.{nat_lt, if◌then◌else◌}, List.list_any}
use Rattle.std.specs.{Ordering.{eq_by_cmp, is_eq, ordering_then}, Cmp.{IsTotalOrder, tied_itself}}
use Rattle.std.specs.FinMap.{contains_key-keys, entries-insert, get-entries, len-entries}
use Rattle.std.specs.declared.cmp.Ordering.{Ordering, TheVariants.{Less, Equal, Greater}}
use Rattle.std.proofs.lemmas.Bool.Decides.{nat_tests}
use Rattle.do_base.specs.names.Names.{ObjectName, TokenName}
use Rattle.do_class.specs.declared.ids.ClassId.{ClassId}
use Rattle.do_export.specs.Counts.{entry_cmp, others_of}
use Rattle.do_export.proofs.{Order.{entry_total, entry_same}, Counting.tie}
use Rattle.do_import.specs.Asked.{AskKey, AskMap, ask_cmp, ask_key}
use Rattle.do_import.{specs.Imported.{AreNumbered, LendMap}, proofs.AskRows.{ask_total, ask_same}}
use Rattle.do_import.proofs.RowCounts.{entries-remove, entries-retain}
use Rattle.do_machine.specs.{Lists.{IsIn, all_inserted, inserted}, declared.node.Lend.Lend}
use Rattle.do_machine.specs.declared.node.Wanted.{Wanted}
use Rattle.do_machine.specs.lend.{Asking.{same_wanted, wanted, wanted_lt}, Lending.is_lend}
use Rattle.do_machine.proofs.PutInOrder.{in_all, inserted_is, put_last}
use Rattle.do_machine.proofs.MappedElements.{any-map, filter-map, of_map}
use Rattle.do_part.specs.Seen.{ask_of, lend_lt, lend_of}
use Rattle.do_part.proofs.InsertedCounts.{any-all, length-all}
use Rattle.do_part.proofs.{InsertedInOrder.{IsOrder, filter-all}, InsertionsCommute.all-put}
use Rattle.std.proofs.lemmas.List.{length-map}

-- ---- orders

-- lends stand by their numbers
lend_order : IsOrder lend_lt
lend_order = record {
  follows = λ x y z h k. follows x.number y.number z.number h k;
  apart = λ x y h. apart x.number y.number h;
}
  where
    follows : (x y z : ℕ) → nat_lt x y ≡ true → nat_lt z y ≡ false → nat_lt x z ≡ true
    follows x y z h k = grind (arith, nat_tests)

    apart : (x y : ℕ) → nat_lt x y ≡ true → nat_lt y x ≡ false
    apart x y h = grind (arith, nat_tests)

module _ (x y : ℕ) where
  -- by numbers in front a list comes before one at most
  apart_more : (a b : Bool) → (a ≡ true → b ≡ false)
      → (if x == y then a else nat_lt x y) ≡ true → (if y == x then b else nat_lt y x) ≡ false
  apart_more a b later h = go (x == y) (y == x) refl refl h
    where
      go : (p q : Bool) → (x == y) ≡ p → (y == x) ≡ q
          → (if p then a else nat_lt x y) ≡ true → (if q then b else nat_lt y x) ≡ false
      go true true e f h = later h
      go true false e f h = absurd (let z : false ≡ true = grind (arith, nat_tests, e, f) in cc)
      go false true e f h = absurd (let z : false ≡ true = grind (arith, nat_tests, e, f) in cc)
      go false false e f h = grind (arith, nat_tests)

  -- lists of which neither comes before the other begin alike
  same_more : (a b : Bool) → (if x == y then a else nat_lt x y) ≡ false
      → (if y == x then b else nat_lt y x) ≡ false → (x ≡ y) × (a ≡ false) × (b ≡ false)
  same_more a b h k = go (x == y) (y == x) refl refl h k
    where
      go : (p q : Bool) → (x == y) ≡ p → (y == x) ≡ q → (if p then a else nat_lt x y) ≡ false
          → (if q then b else nat_lt y x) ≡ false → (x ≡ y) × (a ≡ false) × (b ≡ false)
      go true true e f h k = (grind (arith, nat_tests), h, k)
      go true false e f h k = absurd (let z : false ≡ true = grind (arith, nat_tests, e, f) in cc)
      go false true e f h k = absurd (let z : false ≡ true = grind (arith, nat_tests, e, f) in cc)
      go false false e f h k = absurd (let z : false ≡ true = grind (arith, nat_tests) in cc)

  -- what comes before a list comes before all that do not
  follows_more : (z : ℕ) (a b c : Bool) → (a ≡ true → b ≡ false → c ≡ true)
      → (if x == y then a else nat_lt x y) ≡ true → (if z == y then b else nat_lt z y) ≡ false
      → (if x == z then c else nat_lt x z) ≡ true
  follows_more z a b c later h k = go (x == y) (z == y) (x == z) refl refl refl h k
    where
      go : (p q r : Bool) → (x == y) ≡ p → (z == y) ≡ q → (x == z) ≡ r
          → (if p then a else nat_lt x y) ≡ true → (if q then b else nat_lt z y) ≡ false
          → (if r then c else nat_lt x z) ≡ true
      go true true true e f g h k = later h k
      go true true false e f g h k =
          absurd (let w : false ≡ true = grind (arith, nat_tests, e, f, g) in cc)
      go true false true e f g h k =
          absurd (let w : false ≡ true = grind (arith, nat_tests, e, f, g) in cc)
      go true false false e f g h k = grind (arith, nat_tests)
      go false true true e f g h k =
          absurd (let w : false ≡ true = grind (arith, nat_tests, e, f, g) in cc)
      go false true false e f g h k = grind (arith, nat_tests)
      go false false true e f g h k =
          absurd (let w : false ≡ true = grind (arith, nat_tests) in cc)
      go false false false e f g h k = grind (arith, nat_tests)

-- asks stand by lender, number, port and serial
pub ask_order : IsOrder wanted_lt
ask_order = record {
  follows = λ x y z.
      follows_more x.token.lender y.token.lender z.token.lender _ _ _
      (follows_more x.token.number y.token.number z.token.number _ _ _
      (follows_more x.object.node y.object.node z.object.node _ _ _
      (follows_more x.object.serial y.object.serial z.object.serial _ _ _ (λ h k. h))));
  apart = λ x y.
      apart_more x.token.lender y.token.lender _ _
      (apart_more x.token.number y.token.number _ _
      (apart_more x.object.node y.object.node _ _
      (apart_more x.object.serial y.object.serial _ _ (λ h. refl))));
}

-- ---- rows

module _ {K V X : Type 0} (f : K × V → X) (before : X → X → Bool) (order : IsOrder before) where
  -- the rows that pass, listed, are those of the list that pass
  rows_left : (t : K × V → Bool) (q : X → Bool) → ((e : K × V) → q (f e) ≡ t e)
      → (es : List (K × V)) → all_inserted before (each f (filter t es))
      ≡ filter q (all_inserted before (each f es))
  rows_left t q same es = sym (filter-all before order q (each f es)
      ∙ ap (all_inserted before) (filter-map f q es ∙ λ i. each f (filter (λ e. same e i) es)))

-- a row of a map has a key of it
pub in_entries : {K V : Type 0} {R : K → K → Ordering} → IsTotalOrder R → (m : map.FinMap R V)
    (e : K × V) → IsIn (map.entries m) e → map.contains_key m e.0 ≡ true
in_entries {K} {V} {R} total m e a = contains_key-keys m e.0 ∙ go (map.entries m) a
  where
    go : (es : List (K × V)) → IsIn es e
        → list_any (eq_by_cmp R e.0) (each (λ x. x.0) es) ≡ true
    go [] a = absurd a
    go (x ∷ es) (inl same) =
        ap (λ r. is_eq r || list_any (eq_by_cmp R e.0) (each (λ y. y.0) es))
        (ap (λ y. R e.0 y.0) same ∙ tied_itself total e.0)
    go (x ∷ es) (inr later) =
        or_later (eq_by_cmp R e.0 x.0) _ (go es later)
      where
        or_later : (b c : Bool) → c ≡ true → (b || c) ≡ true
        or_later true c h = refl
        or_later false c h = h

-- what is not there is not found
unfound : {K V : Type 0} {R : K → K → Ordering} (m : map.FinMap R V) (k : K)
    → map.contains_key m k ≡ false → map.find R k (map.entries m) ≡ None
unfound {K} {V} {R} m k none = sym (get-entries m k) ∙ go (map.get m k) none
  where
    go : (found : Option V) → is_some found ≡ false → found ≡ None
    go None e = refl
    go (Some v) e = absurd (subst T e tt)

-- ---- lends

-- the lends of a map, as a node lists them
abbrev pub lent_list : LendMap → List Lend
lent_list lends = all_inserted lend_lt (each lend_of (map.entries lends))

-- a lend of the next number stands last
pub lent_more : (lends : LendMap) (next borrower : ℕ) (o : ObjectName) → AreNumbered lends next
    → lent_list (map.insert lends (borrower, next) o)
    ≡ lent_list lends ++ record { number = next; object = o; borrower = borrower } ∷ []
lent_more lends next borrower o numbers =
    ap (λ es. all_inserted lend_lt (each lend_of es))
    (entries-insert entry_total lends (borrower, next) o)
    ∙ all-put lend_lt lend_order entry_cmp lend_of (borrower, next) o (map.entries lends)
    (unfound lends (borrower, next) (new (map.contains_key lends (borrower, next)) refl))
    (λ e a. inl (lower e a))
    ∙ inserted_is lend_lt (lend_of ((borrower, next), o)) (lent_list lends)
    ∙ put_last lend_lt (lend_of ((borrower, next), o)) (lent_list lends) (λ w a.
    let e = of_map lend_of (map.entries lends) w
    (in_all lend_lt (each lend_of (map.entries lends)) w a) in
    subst (λ (l : Lend). nat_lt next l.number ≡ false) e.2 (higher e.0 e.1))
  where
    -- a row has a lower number
    below : (e : (ℕ × ℕ) × ObjectName) → IsIn (map.entries lends) e → e.0.1 < next
    below e a = numbers e.0 (in_entries entry_total lends e a)

    lower : (e : (ℕ × ℕ) × ObjectName) → IsIn (map.entries lends) e → nat_lt e.0.1 next ≡ true
    lower e a = let low = below e a in grind (arith, nat_tests, low)

    higher : (e : (ℕ × ℕ) × ObjectName) → IsIn (map.entries lends) e → nat_lt next e.0.1 ≡ false
    higher e a = let low = below e a in grind (arith, nat_tests, low)

    -- the next number was given to none
    new : (b : Bool) → map.contains_key lends (borrower, next) ≡ b
        → map.contains_key lends (borrower, next) ≡ false
    new false e = e
    new true e = absurd (let low = numbers (borrower, next) e in omega (arith, low))

-- a lend is that of its row
lend_tie : (borrower number : ℕ) (e : (ℕ × ℕ) × ObjectName)
    → is_lend borrower number (lend_of e) ≡ eq_by_cmp entry_cmp (borrower, number) e.0
lend_tie borrower number e = sym (tie e.0.0 e.0.1 borrower number
    ∙ turned (eqb e.0.0 borrower) (eqb e.0.1 number))
  where
    turned : (a b : Bool) → (a && b) ≡ (b && a)
    turned true true = refl
    turned true false = refl
    turned false true = refl
    turned false false = refl

-- a lend that is settled is left out
pub lent_less : (lends : LendMap) (borrower number : ℕ)
    → lent_list (map.remove lends (borrower, number))
    ≡ filter (λ l. not (is_lend borrower number l)) (lent_list lends)
lent_less lends borrower number =
    ap (λ es. all_inserted lend_lt (each lend_of es))
    (entries-remove entry_total entry_same lends (borrower, number))
    ∙ rows_left lend_of lend_lt lend_order
    (λ e. not (eq_by_cmp entry_cmp (borrower, number) e.0))
    (λ l. not (is_lend borrower number l)) (λ e. ap not (lend_tie borrower number e))
    (map.entries lends)

-- where the lends to a peer are over, they are left out
pub lent_apart : (lends : LendMap) (peer : ℕ) → lent_list (others_of lends peer)
    ≡ filter (λ l. not (l.borrower == peer)) (lent_list lends)
lent_apart lends peer =
    ap (λ es. all_inserted lend_lt (each lend_of es))
    (entries-retain entry_total entry_same lends (λ k. not (k.0 == peer)))
    ∙ rows_left lend_of lend_lt lend_order (λ e. not (e.0.0 == peer))
    (λ l. not (l.borrower == peer)) (λ e. refl) (map.entries lends)

-- a lend is listed just where its row is there
pub lent_has : (lends : LendMap) (borrower number : ℕ)
    → list_any (is_lend borrower number) (lent_list lends)
    ≡ map.contains_key lends (borrower, number)
lent_has lends borrower number =
    any-all lend_lt (is_lend borrower number) (each lend_of (map.entries lends))
    ∙ any-map lend_of (is_lend borrower number) (map.entries lends)
    ∙ (λ i. list_any (λ e. lend_tie borrower number e i) (map.entries lends))
    ∙ sym (contains_key-keys lends (borrower, number)
    ∙ any-map (λ e. e.0) (eq_by_cmp entry_cmp (borrower, number)) (map.entries lends))

-- ---- asks

-- the asks of a map, as a node lists them
abbrev pub asked_list : AskMap → List Wanted
asked_list asks = all_inserted wanted_lt (each ask_of (map.entries asks))

-- an ask is that of its row
ask_tie : (o : ObjectName) (t : TokenName) (e : AskKey × ClassId)
    → same_wanted (wanted o t.lender t.number) (ask_of e) ≡ eq_by_cmp ask_cmp (ask_key o t) e.0
ask_tie o t e = sym (parts (entry_cmp (o.node, t.lender) e.0.0)
    (entry_cmp (t.number, o.serial) e.0.1)
    ∙ (λ i. tie e.0.0.0 e.0.0.1 o.node t.lender i && tie e.0.1.0 e.0.1.1 t.number o.serial i)
    ∙ grind (arith, nat_tests))
  where
    parts : (r s : Ordering) → is_eq (ordering_then r s) ≡ (is_eq r && is_eq s)
    parts Less s = refl
    parts Equal s = refl
    parts Greater s = refl

-- an ask that is kept is inserted
pub asked_more : (asks : AskMap) (o : ObjectName) (t : TokenName) (class : ClassId)
    → map.contains_key asks (ask_key o t) ≡ false
    → asked_list (map.insert asks (ask_key o t) class)
    ≡ inserted wanted_lt (wanted o t.lender t.number) (asked_list asks)
asked_more asks o t class new =
    ap (λ es. all_inserted wanted_lt (each ask_of es))
    (entries-insert ask_total asks (ask_key o t) class)
    ∙ all-put wanted_lt ask_order ask_cmp ask_of (ask_key o t) class (map.entries asks)
    (unfound asks (ask_key o t) new)
    (λ e a. go e a (wanted_lt (ask_of e) w) (wanted_lt w (ask_of e)) refl refl)
  where
    w : Wanted
    w = wanted o t.lender t.number

    -- a row of another key stands before the ask or behind it
    go : (e : AskKey × ClassId) → IsIn (map.entries asks) e → (b c : Bool)
        → wanted_lt (ask_of e) w ≡ b → wanted_lt w (ask_of e) ≡ c
        → (wanted_lt (ask_of e) w ≡ true) ⊎ (wanted_lt w (ask_of e) ≡ true)
    go e a true c p q = inl p
    go e a false true p q = inr q
    go e a false false p q =
        let l = same_more e.0.0.1 t.lender _ _ p q in
        let n = same_more e.0.1.0 t.number _ _ l.1 l.2 in
        let h = same_more e.0.0.0 o.node _ _ n.1 n.2 in
        let s = same_more e.0.1.1 o.serial _ _ h.1 h.2 in
        absurd (subst T (sym (in_entries ask_total asks e a)
        ∙ ap (map.contains_key asks) (λ i. ((h.0 i, l.0 i), (n.0 i, s.0 i))) ∙ new) tt)

-- an ask that is over is left out
pub asked_less : (asks : AskMap) (o : ObjectName) (t : TokenName)
    → asked_list (map.remove asks (ask_key o t))
    ≡ filter (λ v. not (same_wanted (wanted o t.lender t.number) v)) (asked_list asks)
asked_less asks o t =
    ap (λ es. all_inserted wanted_lt (each ask_of es))
    (entries-remove ask_total ask_same asks (ask_key o t))
    ∙ rows_left ask_of wanted_lt ask_order (λ e. not (eq_by_cmp ask_cmp (ask_key o t) e.0))
    (λ v. not (same_wanted (wanted o t.lender t.number) v)) (λ e. ap not (ask_tie o t e))
    (map.entries asks)

-- an ask is listed just where its row is there
pub asked_has : (asks : AskMap) (o : ObjectName) (t : TokenName)
    → list_any (same_wanted (wanted o t.lender t.number)) (asked_list asks)
    ≡ map.contains_key asks (ask_key o t)
asked_has asks o t =
    any-all wanted_lt (same_wanted (wanted o t.lender t.number)) (each ask_of (map.entries asks))
    ∙ any-map ask_of (same_wanted (wanted o t.lender t.number)) (map.entries asks)
    ∙ (λ i. list_any (λ e. ask_tie o t e i) (map.entries asks))
    ∙ sym (contains_key-keys asks (ask_key o t)
    ∙ any-map (λ e. e.0) (eq_by_cmp ask_cmp (ask_key o t)) (map.entries asks))

-- as many asks are listed as there are rows
pub asked_len : (asks : AskMap) → length (asked_list asks) ≡ map.len asks
asked_len asks = length-all wanted_lt (each ask_of (map.entries asks))
    ∙ length-map (map.entries asks) ask_of ∙ sym (len-entries asks)
