-- What is found among lends, asks and ends, once one more is there or some are gone.
use Rattle.std.proofs.Common.{◌≡◌, ◌==◌, ◌++◌, ◌||◌, ℕ, Bool, true, false, not, List, [], ◌∷◌}
use Rattle.std.proofs.Common.{filter, refl, sym, ◌∙◌, arith}
use Rattle.std.{specs.{Prelude.if◌then◌else◌, List.list_any}, proofs.lemmas.Bool.Decides.nat_tests}
use Rattle.std.proofs.lemmas.List.{Folds.list_any-append, Sorted.list_any-IsPermutation}
use Rattle.do_machine.specs.{declared.node.{Lend.Lend, Wanted.Wanted}, Lists.inserted}
use Rattle.do_machine.specs.{Objects.object_at, lend.Asking.{same_wanted, wanted, wanted_lt}}
use Rattle.do_machine.{specs.lend.Lending.is_lend, proofs.Inserting.inserted_moves}
use Rattle.do_facts.specs.links.{Links.Links, Moves.{closed, opens}, Facts.is_lent_to}

-- an ask is one of these numbers
abbrev pub is_ask : Wanted → ℕ → ℕ → ℕ → ℕ → Bool
is_ask w h s l t =
    if h == w.object.node then (if s == w.object.serial then
    (if l == w.token.lender then (if t == w.token.number then true else false) else false)
    else false) else false

module _ (h s l t : ℕ) where
  -- among the asks with one more
  pub asked_more : (w : Wanted) (xs : List Wanted) →
      list_any (same_wanted (wanted (object_at h s) l t)) (inserted wanted_lt w xs)
      ≡ (if is_ask w h s l t then true
      else list_any (same_wanted (wanted (object_at h s) l t)) xs)
  asked_more w xs =
      sym (list_any-IsPermutation (same_wanted (wanted (object_at h s) l t)) (w ∷ xs)
      (inserted wanted_lt w xs) (inserted_moves wanted_lt w xs))
      ∙ grind (arith, nat_tests)

  -- among the asks without one
  pub asked_less : (w : Wanted) (xs : List Wanted) →
      list_any (same_wanted (wanted (object_at h s) l t)) (filter (λ v. not (same_wanted w v)) xs)
      ≡ (if is_ask w h s l t then false
      else list_any (same_wanted (wanted (object_at h s) l t)) xs)
  asked_less w [] = grind (arith, nat_tests)
  asked_less w (x ∷ xs) = grind (arith, nat_tests, asked_less w xs)

-- a lend is of these numbers
abbrev pub is_lend_of : Lend → ℕ → ℕ → ℕ → ℕ → Bool
is_lend_of l b t h s =
    if b == l.borrower then (if t == l.number then (if h == l.object.node then
    (if s == l.object.serial then true else false) else false) else false) else false

module _ (b t h s : ℕ) where
  -- among the lends with one more
  pub lent_more : (l : Lend) (xs : List Lend) →
      list_any (is_lent_to b t h s) (xs ++ l ∷ [])
      ≡ (if is_lend_of l b t h s then true else list_any (is_lent_to b t h s) xs)
  lent_more l xs =
      list_any-append (is_lent_to b t h s) xs (l ∷ []) ∙ grind (arith, nat_tests)

  -- without those to a peer
  pub lent_apart : (peer : ℕ) (xs : List Lend) →
      list_any (is_lent_to b t h s) (filter (λ l. not (l.borrower == peer)) xs)
      ≡ (if b == peer then false else list_any (is_lent_to b t h s) xs)
  lent_apart peer [] = grind (arith, nat_tests)
  lent_apart peer (x ∷ xs) = grind (arith, nat_tests, lent_apart peer xs)

  -- without that of a number to a peer
  pub lent_less : (peer number : ℕ) (xs : List Lend) →
      list_any (is_lent_to b t h s) (filter (λ l. not (is_lend peer number l)) xs)
      ≡ (if b == peer then (if t == number then false else list_any (is_lent_to b t h s) xs)
      else list_any (is_lent_to b t h s) xs)
  lent_less peer number [] = grind (arith, nat_tests)
  lent_less peer number (x ∷ xs) = grind (arith, nat_tests, lent_less peer number xs)

module _ (b t : ℕ) where
  -- among the lends with one more, whatever is lent
  pub lends_more : (l : Lend) (xs : List Lend) →
      list_any (is_lend b t) (xs ++ l ∷ [])
      ≡ (if b == l.borrower then (if t == l.number then true else list_any (is_lend b t) xs)
      else list_any (is_lend b t) xs)
  lends_more l xs =
      list_any-append (is_lend b t) xs (l ∷ []) ∙ grind (arith, nat_tests)

  -- without those to a peer
  pub lends_apart : (peer : ℕ) (xs : List Lend) →
      list_any (is_lend b t) (filter (λ l. not (l.borrower == peer)) xs)
      ≡ (if b == peer then false else list_any (is_lend b t) xs)
  lends_apart peer [] = grind (arith, nat_tests)
  lends_apart peer (x ∷ xs) = grind (arith, nat_tests, lends_apart peer xs)

  -- without that of a number to a peer
  pub lends_less : (peer number : ℕ) (xs : List Lend) →
      list_any (is_lend b t) (filter (λ l. not (is_lend peer number l)) xs)
      ≡ (if b == peer then (if t == number then false else list_any (is_lend b t) xs)
      else list_any (is_lend b t) xs)
  lends_less peer number [] = grind (arith, nat_tests)
  lends_less peer number (x ∷ xs) = grind (arith, nat_tests, lends_less peer number xs)

-- among the open ends without one
pub open_less : (x peer : ℕ) (ps : List ℕ) →
    list_any (λ q. q == x) (filter (λ q. not (q == peer)) ps)
    ≡ (if x == peer then false else list_any (λ q. q == x) ps)
open_less x peer [] = grind (arith, nat_tests)
open_less x peer (q ∷ ps) = grind (arith, nat_tests, open_less x peer ps)

-- an end that is open once another was closed was open
pub was_open : (p : Links) (peer x : ℕ) → opens (closed peer p) x ≡ true → opens p x ≡ true
was_open p peer x o = grind (arith, nat_tests, o, open_less x peer p.open_to)

module _ (b t : ℕ) where
  -- what is lent is a lend
  pub lent_lends : (h s : ℕ) (xs : List Lend) → list_any (is_lent_to b t h s) xs ≡ true →
      list_any (is_lend b t) xs ≡ true
  lent_lends h s [] e = e
  lent_lends h s (x ∷ xs) e = grind (arith, nat_tests, e, lent_lends h s xs)

  -- and a lend is of an object
  pub lend_there : (xs : List Lend) → list_any (is_lend b t) xs ≡ true →
      (h : ℕ) × (s : ℕ) × (list_any (is_lent_to b t h s) xs ≡ true)
  lend_there [] e = absurd (cc)
  lend_there (x ∷ xs) e = go (is_lend b t x) refl (lend_there xs) e
    where
      go : (c : Bool) → is_lend b t x ≡ c →
          (list_any (is_lend b t) xs ≡ true →
          (h : ℕ) × (s : ℕ) × (list_any (is_lent_to b t h s) xs ≡ true)) →
          (c || list_any (is_lend b t) xs) ≡ true →
          (h : ℕ) × (s : ℕ) × (list_any (is_lent_to b t h s) (x ∷ xs) ≡ true)
      go true k r e =
          let o = x.object in
          (o.node, o.serial, grind (arith, nat_tests, k))
      go false k r e =
          let rest = r e in
          (rest.0, rest.1, grind (arith, rest.2))
