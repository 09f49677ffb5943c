-- A token stays that of one object, and a node apart from itself, whatever moves.
use Rattle.std.proofs.Common.{◌≡◌, ◌==◌, ◌++◌, ℕ, Bool, true, false, cond, List, [], ◌∷◌, ◌⊎◌, inl}
use Rattle.std.proofs.Common.{inr, refl, sym, ◌∙◌, arith}
use Rattle.std.{specs.{Prelude.if◌then◌else◌, List.list_any}, proofs.lemmas.Bool.Decides.nat_tests}
use Rattle.do_base.specs.names.Names.{ObjectName}
use Rattle.do_machine.specs.declared.node.Lend.{Lend}
use Rattle.do_facts.specs.{Net.{Net, Note, net_after}, Moves.with_wire, links.Links.{Atom, End}}
use Rattle.do_facts.specs.links.{Links.Links, Moves.{Lends, Settles, closed, moved, next_lend}}
use Rattle.do_facts.specs.links.Facts.{EachAsk, EachFresh, EachLend, EachToken, is_lent_to, open_in}
use Rattle.do_facts.proofs.{Notes.total-append, links.ListsChanged.{is_lend_of, lent_apart}}
use Rattle.do_facts.proofs.links.ListsChanged.{lent_less, lent_more, open_less}

ruleset steps = (nat_tests, total-append)

-- each node is apart from itself
abbrev pub Apart : Net Links Atom → Type 0
Apart net = (n : ℕ) → open_in net n n ≡ false

module _ (net : Net Links Atom) (a : ℕ) (q : Links) (taken sent : List (Note Atom)) where
  -- the ends stay
  pub apart_same : Apart net → q.open_to ≡ (net.part a).open_to →
      Apart (net_after a q taken sent net)
  apart_same apart e x = grind (arith, steps, apart x, e)

  -- the lends stay
  pub tokens_same : EachToken net → q.lent ≡ (net.part a).lent →
      EachToken (net_after a q taken sent net)
  tokens_same tokens e x v z u y i r c =
      grind (arith, steps, tokens x v z u y i r c, e)

module _ (net : Net Links Atom) (a : ℕ) (taken sent : List (Note Atom)) where
  -- an end is closed
  pub apart_closed : (peer : ℕ) → Apart net →
      Apart (net_after a (closed peer (net.part a)) taken sent net)
  apart_closed peer apart x =
      grind (arith, steps, apart x, open_less x peer (net.part a).open_to)

  -- its lends are over
  pub tokens_closed : (peer : ℕ) → EachToken net →
      EachToken (net_after a (closed peer (net.part a)) taken sent net)
  tokens_closed peer tokens x v z u y i r c =
      let lent = (net.part a).lent in
      let first = lent_apart y v z u peer lent in
      let second = lent_apart c v i r peer lent in
      grind (arith, steps, tokens x v z u y i r c, first, second)

  -- a lend is over
  pub tokens_settled : (from number : ℕ) → EachToken net →
      EachToken (net_after a (moved (net.part a) (Settles from number)) taken sent net)
  tokens_settled from number tokens x v z u y i r c =
      let lent = (net.part a).lent in
      let first = lent_less y v z u from number lent in
      let second = lent_less c v i r from number lent in
      grind (arith, steps, tokens x v z u y i r c, first, second)

-- a lend among those with one more is that one, or was there
lent_cases : (b t h s : ℕ) (l : Lend) (xs : List Lend) →
    list_any (is_lent_to b t h s) (xs ++ l ∷ []) ≡ true →
    (is_lend_of l b t h s ≡ true) ⊎ (list_any (is_lent_to b t h s) xs ≡ true)
lent_cases b t h s l xs e =
    go (is_lend_of l b t h s) refl (sym (lent_more b t h s l xs) ∙ e)
  where
    go : (c : Bool) → is_lend_of l b t h s ≡ c →
        (if c then true else list_any (is_lent_to b t h s) xs) ≡ true →
        (is_lend_of l b t h s ≡ true) ⊎ (list_any (is_lent_to b t h s) xs ≡ true)
    go true k e = inl k
    go false k e = inr e

module _ (net : Net Links Atom) (a to : ℕ) (o : ObjectName) (tokens : EachToken net)
    (fresh : EachFresh net) where
  -- the part of the node
  abbrev p : Links
  p = net.part a

  -- the new lend
  abbrev l : Lend
  l = next_lend p to o

  -- a lend under the next token is the new one
  not_old : (b t h s i r c : ℕ) → is_lend_of l b t h s ≡ true →
      list_any (is_lent_to c t i r) p.lent ≡ true → ⊥
  not_old b t h s i r c new old =
      let none = (fresh a c i r t).unlent in
      grind (arith, nat_tests, new, old, none)

  -- two lends under one token, of which one is new, are one
  tokens_here : (t h s b i r c : ℕ) → list_any (is_lent_to b t h s) (p.lent ++ l ∷ []) ≡ true →
      list_any (is_lent_to c t i r) (p.lent ++ l ∷ []) ≡ true → (h ≡ i) × (s ≡ r) × (b ≡ c)
  tokens_here t h s b i r c x y =
      go (lent_cases b t h s l p.lent x) (lent_cases c t i r l p.lent y)
    where
      go : (is_lend_of l b t h s ≡ true) ⊎ (list_any (is_lent_to b t h s) p.lent ≡ true) →
          (is_lend_of l c t i r ≡ true) ⊎ (list_any (is_lent_to c t i r) p.lent ≡ true) →
          (h ≡ i) × (s ≡ r) × (b ≡ c)
      go (inl m) (inl k) = grind (arith, nat_tests, m, k)
      go (inl m) (inr k) = absurd (not_old b t h s i r c m k)
      go (inr m) (inl k) = absurd (not_old c t i r h s b k m)
      go (inr m) (inr k) = (tokens a t h s b i r c).same m k

  -- one more lend, under a token that was not given
  pub tokens_lent : (taken sent : List (Note Atom)) →
      EachToken (net_after a (moved p (Lends to o)) taken sent net)
  tokens_lent taken sent x v z u y i r c =
      record { same = go (x == a) refl }
    where
      go : (b : Bool) → (x == a) ≡ b →
          list_any (is_lent_to y v z u) (cond b (moved p (Lends to o)) (net.part x)).lent ≡ true →
          list_any (is_lent_to c v i r) (cond b (moved p (Lends to o)) (net.part x)).lent ≡ true →
          (z ≡ i) × (u ≡ r) × (y ≡ c)
      go true e m k = tokens_here v z u y i r c m k
      go false e m k = (tokens x v z u y i r c).same m k

-- ---- a loss

module _ (net : Net Links Atom) (a m : ℕ) (first rest : List Atom)
    (e : net.wire a m ≡ first ++ rest) where
  -- the net after a loss
  abbrev lost : Net Links Atom
  lost = record net { wire = with_wire a m (first ++ (End [] ∷ rest)) net.wire }

  -- each lend is where it was
  pub lends_lost : EachLend net → EachLend lost
  lends_lost one x y z u v = grind (arith, steps, one x y z u v, e)

  -- and each token that was not given nowhere
  pub fresh_lost : EachFresh net → EachFresh lost
  fresh_lost fresh x y z u v = grind (arith, steps, fresh x y z u v, e)

  -- and each ask where it was
  pub asks_lost : EachAsk net → EachAsk lost
  asks_lost asks x z u w v = grind (arith, steps, asks x z u w v, e)
