-- While no end closes, a move takes no reason away for which an object is held along its lends.
use Rattle.std.proofs.Common.{◌≡◌, ◌⊎◌, ◌||◌, ◌++◌, ℕ, Bool, true, false, cond, not, List, [], ◌∷◌}
use Rattle.std.{proofs.Common.{inl, inr, filter, refl, sym, ap, ◌∙◌, arith}, specs.List.list_any}
use Rattle.std.proofs.lemmas.{Bool.Decides.nat_tests, List.Folds.list_any-append}
use Rattle.std.proofs.lemmas.List.Sorted.{list_any-IsPermutation}
use Rattle.do_base.specs.names.Names.{ObjectName, TokenName}
use Rattle.do_packet.specs.Met.{has_object, same_object}
use Rattle.do_machine.specs.{Lists.inserted, Objects.object_at, declared.node.Lend.Lend}
use Rattle.do_machine.specs.declared.node.Wanted.{Wanted}
use Rattle.do_machine.specs.lend.{Asking.{same_wanted, wanted, wanted_lt}, Lending.is_lend}
use Rattle.do_machine.proofs.Inserting.{inserted_moves}
use Rattle.do_facts.specs.links.{Links.Links, Moves.{Asks, Closes, Ends, GivesUp, Holds, Leaves}}
use Rattle.do_facts.specs.links.Moves.{Lends, Misses, Move, Receives, Refuses, Settles, Strikes}
use Rattle.do_facts.specs.links.Moves.{has_wanted, is_in_use, may, moved, next_lend}
use Rattle.do_facts.proofs.{OnceInLists.still_there, links.HeldChanged.held_more}
use Rattle.do_facts.proofs.links.ListsChanged.{asked_less, asked_more, is_ask}
use Rattle.do_facts.proofs.links.SameIsEqual.{object_is}

-- the move closes no end, gives no ask up, refuses none, and frees nothing
abbrev pub IsCalm : Move → Type 0
IsCalm (Closes peer) = ⊥
IsCalm (GivesUp w told) = ⊥
IsCalm (Misses from s k told) = ⊥
IsCalm (Refuses from s k) = ⊥
IsCalm (Ends from names) = ⊥
IsCalm (Strikes heap) = ⊥
IsCalm _ = Unit {0}

-- the move lends an object, or asks for it
abbrev pub Begins : Move → ObjectName → Type 0
Begins (Lends to z) o = same_object o z ≡ true
Begins (Asks from z t) o = same_object o z ≡ true
Begins _ o = ⊥

-- what is found among some is found among all
any_filtered : {X : Type 0} (test f : X → Bool) (xs : List X) →
    list_any test (filter f xs) ≡ true → list_any test xs ≡ true
any_filtered test f [] h = h
any_filtered test f (x ∷ xs) h = go (f x) (test x) refl (any_filtered test f xs) h
  where
    go : (b c : Bool) → test x ≡ c →
        (list_any test (filter f xs) ≡ true → list_any test xs ≡ true) →
        list_any test (cond b (x ∷ filter f xs) (filter f xs)) ≡ true →
        (c || list_any test xs) ≡ true
    go b true e rest k = refl
    go true false e rest k = rest (ap (λ c. c || list_any test (filter f xs)) (sym e) ∙ k)
    go false false e rest k = rest k

module _ (p : Links) (h s : ℕ) where
  -- the object
  abbrev o : ObjectName
  o = object_at h s

  -- what is in use is held still
  pub part_held : (v : Move) → may p v → IsCalm v → is_in_use p o ≡ true →
      has_object p.held o ≡ true → has_object (moved p v).held o ≡ true
  part_held (Leaves z) m c u e = go (same_object z o) refl
    where
      go : (b : Bool) → same_object z o ≡ b →
          has_object (filter (λ x. not (same_object z x)) p.held) o ≡ true
      go true k = absurd (no (ap (is_in_use p) (object_is z o k) ∙ u) m.2)
        where
          no : is_in_use p z ≡ true → is_in_use p z ≡ false → ⊥
          no x y = cc
      go false k = still_there same_object object_is z o p.held k e
  part_held (Closes peer) m c u e = absurd c
  part_held (GivesUp w told) m c u e = absurd c
  part_held (Holds from t) m c u e =
      grind (arith, nat_tests, held_more h s (object_at from t) p.held, e)
  part_held (Refuses from t k) m c u e = absurd c
  part_held (Receives from t k told) m c u e =
      grind (arith, nat_tests, held_more h s (object_at from t) p.held, e)
  part_held (Misses from t k told) m c u e = absurd c
  part_held (Ends from names) m c u e = absurd c
  part_held (Strikes heap) m c u e = absurd c
  part_held _ m c u e = e

  module _ (l t : ℕ) where
    -- the ask
    abbrev w : Wanted
    w = wanted o l t

    -- held, or asked for still
    abbrev Still : Move → Type 0
    Still v = (has_object (moved p v).held o ≡ true) ⊎ (has_wanted (moved p v) w ≡ true)

    -- an ask that was granted is over
    received : (from u : ℕ) (k : TokenName) (told : Bool) →
        has_wanted p w ≡ true → Still (Receives from u k told)
    received from u k told e =
        go (is_ask (wanted (object_at from u) k.lender k.number) h s l t) refl
      where
        go : (b : Bool) → is_ask (wanted (object_at from u) k.lender k.number) h s l t ≡ b →
            Still (Receives from u k told)
        go true q = inl (grind (arith, nat_tests, held_more h s (object_at from u) p.held, q))
        go false q =
            inr (grind (
              arith,
              nat_tests,
              asked_less h s l t (wanted (object_at from u) k.lender k.number) p.asked,
              q,
              e,
            ))

    -- what is asked for is so still, or it is held
    pub part_asked : (v : Move) → IsCalm v → has_wanted p w ≡ true → Still v
    part_asked (Closes peer) c e = absurd c
    part_asked (GivesUp v told) c e = absurd c
    part_asked (Asks from z k) c e =
        inr (grind (arith, nat_tests, asked_more h s l t (wanted z from k) p.asked, e))
    part_asked (Refuses from u k) c e = absurd c
    part_asked (Receives from u k told) c e = received from u k told e
    part_asked (Misses from u k told) c e = absurd c
    part_asked (Ends from names) c e = absurd c
    part_asked (Strikes heap) c e = absurd c
    part_asked _ c e = inr e

  -- the tests of a lend and of an ask
  abbrev lends : Lend → Bool
  lends l = same_object o l.object

  abbrev asks : Wanted → Bool
  asks w = same_object o w.object

  -- in use as it was, or by a lend or an ask that begins
  abbrev Before : Move → Type 0
  Before v = (is_in_use p o ≡ true) ⊎ Begins v o

  -- an object is lent
  lent_before : (to : ℕ) (z : ObjectName) →
      (list_any lends (p.lent ++ next_lend p to z ∷ []) || list_any asks p.asked) ≡ true →
      Before (Lends to z)
  lent_before to z u =
      go (list_any lends p.lent) (same_object o z) (list_any asks p.asked)
      (sym (ap (λ b. b || list_any asks p.asked)
      (list_any-append lends p.lent (next_lend p to z ∷ []))) ∙ u)
    where
      go : (a b c : Bool) → ((a || (b || false)) || c) ≡ true →
          ((a || c) ≡ true) ⊎ (b ≡ true)
      go true b c k = inl refl
      go false true c k = inr refl
      go false false c k = inl k

  -- an object is asked for
  asked_before : (from : ℕ) (z : ObjectName) (t : ℕ) →
      (list_any lends p.lent || list_any asks (inserted wanted_lt (wanted z from t) p.asked))
      ≡ true → Before (Asks from z t)
  asked_before from z t u =
      go (list_any lends p.lent) (same_object o z) (list_any asks p.asked)
      (ap (λ b. list_any lends p.lent || b)
      (list_any-IsPermutation asks (wanted z from t ∷ p.asked)
      (inserted wanted_lt (wanted z from t) p.asked)
      (inserted_moves wanted_lt (wanted z from t) p.asked)) ∙ u)
    where
      go : (a b c : Bool) → (a || (b || c)) ≡ true → ((a || c) ≡ true) ⊎ (b ≡ true)
      go true b c k = inl refl
      go false true c k = inr refl
      go false false c k = inl k

  -- one of two that were not fewer
  either_more : (a b c : Bool) → (b ≡ true → c ≡ true) → (a || b) ≡ true → (a || c) ≡ true
  either_more true b c f k = refl
  either_more false b c f k = f k

  more_either : (a b c : Bool) → (a ≡ true → b ≡ true) → (a || c) ≡ true → (b || c) ≡ true
  more_either true b c f k = ap (λ x. x || c) (f refl)
  more_either false true c f k = refl
  more_either false false c f k = k

  -- what is in use was so, or begins to be
  pub part_used : (v : Move) → IsCalm v → is_in_use (moved p v) o ≡ true → Before v
  part_used (Lends to z) c u = lent_before to z u
  part_used (Closes peer) c u = absurd c
  part_used (GivesUp w told) c u = absurd c
  part_used (Asks from z t) c u = asked_before from z t u
  part_used (Refuses from t k) c u = absurd c
  part_used (Receives from t k told) c u =
      let w = wanted (object_at from t) k.lender k.number in
      inl (either_more (list_any lends p.lent)
      (list_any asks (filter (λ v. not (same_wanted w v)) p.asked)) (list_any asks p.asked)
      (any_filtered asks (λ v. not (same_wanted w v)) p.asked) u)
  part_used (Misses from t k told) c u = absurd c
  part_used (Settles from t) c u =
      inl (more_either (list_any lends (filter (λ l. not (is_lend from t l)) p.lent))
      (list_any lends p.lent) (list_any asks p.asked)
      (any_filtered lends (λ l. not (is_lend from t l)) p.lent) u)
  part_used (Ends from names) c u = absurd c
  part_used (Strikes heap) c u = absurd c
  part_used _ c u = inl u
