-- What a node names once it moved, it named before, was named to it, or stores.
use Rattle.std.proofs.Common.{◌≡◌, ◌==◌, ◌&&◌, ◌||◌, ℕ, Bool, true, false, cond, not, List, [], ◌∷◌}
use Rattle.std.proofs.Common.{filter, map, refl, sym, ap, subst}
use Rattle.std.{specs.{Prelude.All, List.{AllByRecursion, list_any}}, proofs.lemmas.Bool.eqb-true}
use Rattle.std.proofs.lemmas.List.Elements.{All-cons, All-filter, All-head, All-nil, All-push}
use Rattle.std.proofs.lemmas.List.{Elements.{All-tail, All-weaker}, Sorted.All-permutation}
use Rattle.do_base.specs.names.Names.{ObjectName, TokenName}
use Rattle.do_packet.specs.Met.{has_object, same_object}
use Rattle.do_machine.specs.{declared.node.Wanted.Wanted, Lists.inserted}
use Rattle.do_machine.specs.{Objects.{joined, object_at, object_lt}, ends.Closing.serials_of}
use Rattle.do_machine.specs.lend.{Asking.{same_wanted, wanted, wanted_lt}, Lending.is_lend}
use Rattle.do_machine.proofs.Inserting.{inserted_moves}
use Rattle.do_facts.specs.{Net.Note, links.Links.{Ask, Atom, End, Gone, Granted, Left, Lent, Links}}
use Rattle.do_facts.specs.links.{Links.{Mine, Settled, Yours}, Moves.{Asks, Closes, Ends, GivesUp}}
use Rattle.do_facts.specs.links.Moves.{Grants, Holds, Leaves, Lends, Mentions, Misses, Move, Names}
use Rattle.do_facts.specs.links.Moves.{Receives, Refuses, Returns, Settles, Stores, Strikes, closed}
use Rattle.do_facts.specs.links.Moves.{may, may_name, moved, next_lend, opens, posts, stores, takes}
use Rattle.do_facts.{specs.links.Moves.{telling, without_ask}, proofs.links.SameIsEqual.object_is}

-- each object that a part holds, lends or asks for is such
pub record NamesOnly (P : ObjectName → Type 0) (p : Links) : Type 0 where
  pub held : All P p.held
  pub lent : All (λ l. P l.object) p.lent
  pub asked : All (λ w. P w.object) p.asked

-- each object that an atom names on its way is such
abbrev pub Passes : (ObjectName → Type 0) → ℕ → ℕ → Atom → Type 0
Passes P from to (Mine s) = P (object_at from s)
Passes P from to (Yours s) = P (object_at to s)
Passes P from to (Lent o t) = P o
Passes P from to (Ask s t) = P (object_at to s)
Passes P from to (Granted s t) = P (object_at from s)
Passes P from to (Gone s t) = P (object_at from s)
Passes P from to (Settled t) = Unit {0}
Passes P from to (Left s) = P (object_at to s)
Passes P from to (End names) = All (λ s. P (object_at to s)) names

-- notes that a node takes, and notes that it posts, name only such
abbrev pub TakenPass : (ObjectName → Type 0) → ℕ → List (Note Atom) → Type 0
TakenPass P a taken = AllByRecursion (λ k. Passes P k.peer a k.atom) taken

abbrev pub PostedPass : (ObjectName → Type 0) → ℕ → List (Note Atom) → Type 0
PostedPass P a sent = AllByRecursion (λ k. Passes P a k.peer k.atom) sent

module _ (P Q : ObjectName → Type 0) (more : (o : ObjectName) → P o → Q o) where
  -- what names only such names only what follows from it
  pub names_weaker : (p : Links) → NamesOnly P p → NamesOnly Q p
  names_weaker p h = record {
    held = All-weaker P Q more p.held h.held;
    lent = All-weaker (λ l. P l.object) (λ l. Q l.object) (λ l x. more l.object x) p.lent h.lent;
    asked = All-weaker (λ w. P w.object) (λ w. Q w.object) (λ w x. more w.object x) p.asked h.asked;
  }

  -- and so does an atom
  pub passes_weaker : (from to : ℕ) (x : Atom) → Passes P from to x → Passes Q from to x
  passes_weaker from to (Mine s) h = more (object_at from s) h
  passes_weaker from to (Yours s) h = more (object_at to s) h
  passes_weaker from to (Lent o t) h = more o h
  passes_weaker from to (Ask s t) h = more (object_at to s) h
  passes_weaker from to (Granted s t) h = more (object_at from s) h
  passes_weaker from to (Gone s t) h = more (object_at from s) h
  passes_weaker from to (Settled t) h = tt
  passes_weaker from to (Left s) h = more (object_at to s) h
  passes_weaker from to (End names) h =
      All-weaker (λ s. P (object_at to s)) (λ s. Q (object_at to s))
      (λ s x. more (object_at to s) x) names h

module _ (P : ObjectName → Type 0) where
  -- what is the same as one of such is such
  any_passes : {X : Type 0} (of : X → ObjectName) (xs : List X) (o : ObjectName) →
      All (λ x. P (of x)) xs → list_any (λ x. same_object o (of x)) xs ≡ true → P o
  any_passes of [] o all h = absurd (cc)
  any_passes of (x ∷ xs) o all h =
      go (same_object o (of x)) refl
      (any_passes of xs o (All-tail (λ y. P (of y)) x xs all)) h
    where
      go : (b : Bool) → same_object o (of x) ≡ b →
          (list_any (λ y. same_object o (of y)) xs ≡ true → P o) →
          (b || list_any (λ y. same_object o (of y)) xs) ≡ true → P o
      go true e rest k =
          subst P (sym (object_is o (of x) e)) (All-head (λ y. P (of y)) x xs all)
      go false e rest k = rest k

  -- one more is held
  joined_passes : (os : List ObjectName) (o : ObjectName) → All P os → P o → All P (joined os o)
  joined_passes os o all h = go (has_object os o)
    where
      go : (b : Bool) → All P (cond b os (inserted object_lt o os))
      go true = all
      go false =
          All-permutation P (o ∷ os) (inserted object_lt o os) (inserted_moves object_lt o os)
          (All-cons P o os h all)

  -- the serials of a peer's objects
  serials_pass : (peer : ℕ) (os : List ObjectName) → All P os →
      All (λ s. P (object_at peer s)) (serials_of peer os)
  serials_pass peer [] all = All-nil (λ s. P (object_at peer s))
  serials_pass peer (o ∷ os) all =
      go (o.node == peer) refl (serials_pass peer os (All-tail P o os all))
    where
      go : (b : Bool) → (o.node == peer) ≡ b →
          All (λ s. P (object_at peer s)) (serials_of peer os) →
          All (λ s. P (object_at peer s)) (map (λ x. x.serial)
          (cond b (o ∷ filter (λ x. x.node == peer) os) (filter (λ x. x.node == peer) os)))
      go true e rest =
          All-cons (λ s. P (object_at peer s)) o.serial (serials_of peer os)
          (subst P (ap (λ n. object_at n o.serial) (eqb-true o.node peer e))
          (All-head P o os all)) rest
      go false e rest = rest

  -- a lender that is told, or not
  telling_passes : (a : ℕ) (told : Bool) (token : TokenName) → PostedPass P a (telling told token)
  telling_passes a true token = (tt, tt)
  telling_passes a false token = tt

  module _ (a : ℕ) (p : Links) (named : NamesOnly P p) where
    -- what a node may name is such
    known_passes : (o : ObjectName) → may_name p o ≡ true → P o
    known_passes o h = go (has_object p.held o) refl (opens p o.node) h
      where
        asked : list_any (λ w. same_object o w.object) p.asked ≡ true → P o
        asked e = any_passes (λ w. w.object) p.asked o named.asked e

        first : (b c : Bool) → (b && c) ≡ true → b ≡ true
        first true c e = refl
        first false c e = absurd (cc)

        go : (b : Bool) → has_object p.held o ≡ b → (c : Bool) →
            ((b || list_any (λ w. same_object o w.object) p.asked) && c) ≡ true → P o
        go true e c k = any_passes (λ x. x) p.held o named.held e
        go false e c k = asked (first (list_any (λ w. same_object o w.object) p.asked) c k)

    -- an ask less
    less_asked : (w : Wanted) → All (λ v. P v.object) (without_ask w p).asked
    less_asked w = All-filter (λ v. not (same_wanted w v)) (λ v. P v.object) p.asked named.asked

    -- an end is closed
    closed_names : (peer : ℕ) → NamesOnly P (closed peer p)
    closed_names peer = record {
      held = All-filter (λ o. not (o.node == peer)) P p.held named.held;
      lent = All-filter (λ l. not (l.borrower == peer)) (λ l. P l.object) p.lent named.lent;
      asked = named.asked;
    }

    -- any move
    pub names_moved : ((s : ℕ) → stores p s ≡ true → P (object_at a s)) → (v : Move) → may p v →
        TakenPass P a (takes v) → NamesOnly P (moved p v) × PostedPass P a (posts p v)
    names_moved own (Names to s) m t = (named, (own s m.1, tt))
    names_moved own (Mentions to s) m t = (named, (known_passes (object_at to s) m.1, tt))
    names_moved own (Lends to o) m t =
        let passes = known_passes o m.1 in (
          record {
            held = named.held;
            lent = All-push (λ l. P l.object) p.lent (next_lend p to o) named.lent passes;
            asked = named.asked;
          },
          (passes, tt),
        )
    names_moved own (Leaves o) m t = (
      record {
        held = All-filter (λ x. not (same_object o x)) P p.held named.held;
        lent = named.lent;
        asked = named.asked;
      },
      (any_passes (λ x. x) p.held o named.held m.1, tt),
    )
    names_moved own (Closes peer) m t =
        (closed_names peer, (serials_pass peer p.held named.held, tt))
    names_moved own (GivesUp w told) m t = (
      record { held = named.held; lent = named.lent; asked = less_asked w },
      telling_passes a told w.token,
    )
    names_moved own (Holds from s) m t = (
      record {
        held = joined_passes p.held (object_at from s) named.held t.0;
        lent = named.lent;
        asked = named.asked;
      },
      tt,
    )
    names_moved own (Asks from o token) m t =
        let w = wanted o from token in (
          record {
            held = named.held;
            lent = named.lent;
            asked = All-permutation (λ v. P v.object) (w ∷ p.asked) (inserted wanted_lt w p.asked)
                (inserted_moves wanted_lt w p.asked)
                (All-cons (λ v. P v.object) w p.asked t.0 named.asked);
          },
          (t.0, tt),
        )
    names_moved own (Returns from o token) m t = (named, (tt, tt))
    names_moved own (Grants from s k) m t = (named, (t.0, tt))
    names_moved own (Refuses from s k) m t = (named, (t.0, tt))
    names_moved own (Receives from s k told) m t = (
      record {
        held = joined_passes p.held (object_at from s) named.held t.0;
        lent = named.lent;
        asked = less_asked (wanted (object_at from s) k.lender k.number);
      },
      telling_passes a told k,
    )
    names_moved own (Misses from s k told) m t = (
      record {
        held = named.held;
        lent = named.lent;
        asked = less_asked (wanted (object_at from s) k.lender k.number);
      },
      telling_passes a told k,
    )
    names_moved own (Settles from number) m t = (
      record {
        held = named.held;
        lent = All-filter (λ l. not (is_lend from number l)) (λ l. P l.object) p.lent named.lent;
        asked = named.asked;
      },
      tt,
    )
    names_moved own (Ends from names) m t =
        (closed_names from, (serials_pass from p.held named.held, tt))
    names_moved own (Stores heap serial) m t =
        (record { held = named.held; lent = named.lent; asked = named.asked }, tt)
    names_moved own (Strikes heap) m t =
        (record { held = named.held; lent = named.lent; asked = named.asked }, tt)
    names_moved own _ m t = (named, tt)
