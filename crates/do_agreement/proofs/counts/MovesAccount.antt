-- A move that takes nothing accounts for what its node held.
use Rattle.std.proofs.Common.{◌≡◌, ◌==◌, ◌+◌, ℕ, Bool, true, false, cond, List, [], ◌∷◌, refl, sym}
use Rattle.std.{proofs.Common.{ap, ◌∙◌, arith}, specs.List.list_any}
use Rattle.std.proofs.lemmas.Bool.Decides.{nat_tests}
use Rattle.do_base.specs.names.Names.{ObjectName, TokenName}
use Rattle.do_packet.specs.Met.{has_object}
use Rattle.do_machine.specs.{Objects.object_at, ends.Closing.serials_of}
use Rattle.do_facts.specs.{Net.total, links.{Facts.told_of, Links.{Atom, Left, Lent, Links, Mine}}}
use Rattle.do_facts.specs.links.{Links.Yours, Moves.{Closes, GivesUp, Leaves, Lends, Mentions}}
use Rattle.do_facts.specs.links.Moves.{Move, Names, Stores, Strikes, closed, may, moved, note}
use Rattle.do_facts.specs.links.Moves.{opens, posts, takes, telling}
use Rattle.do_facts.proofs.links.{Bridge.link_bridge, HeldChanged.{held_apart, held_less}}
use Rattle.do_facts.proofs.links.{HeldChanged.serials_held, ListsChanged.open_less}
use Rattle.do_agreement.specs.Accounted.{Accounted, given, told, worth, worth_of}

-- a test that passes does not fail
pub apart : {b : Bool} → b ≡ true → b ≡ false → ⊥
apart x y = cc

-- a serial is among those of a home's objects where the object is held
serials_tell : (h s : ℕ) (xs : List ObjectName) →
    list_any (λ x. x == s) (serials_of h xs) ≡ has_object xs (object_at h s)
serials_tell h s xs = turned (serials_of h xs) ∙ serials_held h s xs
  where
    turned : (ts : List ℕ) → list_any (λ x. x == s) ts ≡ list_any (λ x. s == x) ts
    turned [] = refl
    turned (t ∷ ts) = grind (arith, nat_tests, turned ts)

-- an object that is held is held by its name
held_as : (h s : ℕ) (o : ObjectName) (xs : List ObjectName) →
    has_object xs o ≡ true → (o.node == h) ≡ true → (o.serial == s) ≡ true →
    has_object xs (object_at h s) ≡ true
held_as h s o [] e k l = e
held_as h s o (x ∷ xs) e k l = grind (arith, nat_tests, e, k, l, held_as h s o xs)

module _ (h s c : ℕ) where
  -- a note that gives nothing back
  noted_given : (to : ℕ) (x : Atom) → worth_of h s c x ≡ 0 → given h s c (note to x) ≡ 0
  noted_given to x e = go (to == h)
    where
      go : (b : Bool) → total (worth_of h s c) (cond b (x ∷ []) []) ≡ 0
      go true = omega (arith, e)
      go false = refl

  -- a note that tells nothing
  noted_told : (to : ℕ) (x : Atom) → told_of s x ≡ 0 → told h s c (note to x) ≡ 0
  noted_told to x e = go (to == h)
    where
      go : (b : Bool) → total (told_of s) (cond b (x ∷ []) []) ≡ 0
      go true = omega (arith, e)
      go false = refl

  -- over an end that is closed no move gives or tells anything
  shut_moved : (p : Links) (v : Move) → may p v → opens p h ≡ false →
      (opens (moved p v) h ≡ false) × (given h s c (posts p v) ≡ 0)
      × (told h s c (posts p v) ≡ 0)
  shut_moved p v m o =
      let both = link_bridge.closed p v h m o in (
        both.0,
        ap (total (worth_of h s c)) both.1,
        ap (total (told_of s)) both.1,
      )

  -- a move that holds as much, and gives and tells nothing
  plain : (p : Links) (v : Move) → may p v → opens (moved p v) h ≡ opens p h →
      worth h s c (moved p v) ≡ worth h s c p → given h s c (posts p v) ≡ 0 →
      told h s c (posts p v) ≡ 0 → Accounted h s c p (moved p v) (posts p v)
  plain p v m ends same none quiet = record {
    still = λ o. omega (arith, same, none);
    quiet = λ o. quiet;
    untold = λ o k t. absurd (apart o (sym ends ∙ k));
    ended = λ o k t. absurd (apart o (sym ends ∙ k));
    shut = λ o. shut_moved p v m o;
  }

  -- a lender that is told, or not
  telling_given : (b : Bool) (token : TokenName) → given h s c (telling b token) ≡ 0
  telling_given true token = noted_given token.lender _ refl
  telling_given false token = refl

  -- it is told of no object
  telling_told : (b : Bool) (token : TokenName) → told h s c (telling b token) ≡ 0
  telling_told true token = noted_told token.lender _ refl
  telling_told false token = refl

  -- an object that is left is given back
  left_worth : (p : Links) (o : ObjectName) → has_object p.held o ≡ true →
      worth h s c (moved p (Leaves o)) + given h s c (posts p (Leaves o)) ≡ worth h s c p
  left_worth p o held =
      go (o.node == h) refl (o.serial == s) refl (has_object p.held (object_at h s)) refl
    where
      go : (a : Bool) → (o.node == h) ≡ a → (b : Bool) → (o.serial == s) ≡ b → (d : Bool) →
          has_object p.held (object_at h s) ≡ d →
          worth h s c (moved p (Leaves o)) + given h s c (posts p (Leaves o)) ≡ cond d c 0
      go a e b f d g =
          grind (
            arith,
            nat_tests,
            e,
            f,
            g,
            held_less h s o p.held,
            held_as h s o p.held held,
          )

  -- an object is left
  leaves : (p : Links) (o : ObjectName) → may p (Leaves o) →
      Accounted h s c p (moved p (Leaves o)) (posts p (Leaves o))
  leaves p o m = record {
    still = λ k. left_worth p o m.1;
    quiet = λ k. noted_told o.node (Left o.serial) refl;
    untold = λ k l t. absurd (apart k l);
    ended = λ k l t. absurd (apart k l);
    shut = λ k. shut_moved p (Leaves o) m k;
  }

  -- an end that closes
  closes : (p : Links) (peer : ℕ) → opens p peer ≡ true →
      Accounted h s c p (closed peer p) (posts p (Closes peer))
  closes p peer m = record {
    still = λ o.
        grind (arith, nat_tests, o, open_less h peer p.open_to, held_apart h s peer p.held);
    quiet = λ o. grind (arith, nat_tests, o, open_less h peer p.open_to);
    untold = λ o k t. grind (
      arith,
      nat_tests,
      o,
      k,
      t,
      open_less h peer p.open_to,
      serials_tell h s p.held,
      serials_tell peer s p.held,
    );
    ended = λ o k t. grind (
      arith,
      nat_tests,
      o,
      k,
      t,
      open_less h peer p.open_to,
      serials_tell h s p.held,
      serials_tell peer s p.held,
    );
    shut = λ o. shut_moved p (Closes peer) m o;
  }

  -- any move that takes nothing
  pub accounts_moved : (p : Links) (v : Move) → may p v → takes v ≡ [] →
      Accounted h s c p (moved p v) (posts p v)
  accounts_moved p (Names to serial) m e =
      plain p (Names to serial) m refl refl (noted_given to (Mine serial) refl)
      (noted_told to (Mine serial) refl)
  accounts_moved p (Mentions to serial) m e =
      plain p (Mentions to serial) m refl refl (noted_given to (Yours serial) refl)
      (noted_told to (Yours serial) refl)
  accounts_moved p (Lends to o) m e =
      plain p (Lends to o) m refl refl (noted_given to (Lent o p.token) refl)
      (noted_told to (Lent o p.token) refl)
  accounts_moved p (Leaves o) m e = leaves p o m
  accounts_moved p (Closes peer) m e = closes p peer m
  accounts_moved p (GivesUp w b) m e =
      plain p (GivesUp w b) m refl refl (telling_given b w.token) (telling_told b w.token)
  accounts_moved p (Stores heap serial) m e = plain p (Stores heap serial) m refl refl refl refl
  accounts_moved p (Strikes heap) m e = plain p (Strikes heap) m refl refl refl refl
  accounts_moved p _ m e = absurd (cc)
