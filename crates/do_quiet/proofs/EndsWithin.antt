-- A node has ends, lends and asks towards the peers that it had ends towards as it opened.
use Rattle.std.proofs.Common.{◌≡◌, ◌==◌, ℕ, Bool, true, false, cond, not, List, [], ◌∷◌, refl}
use Rattle.std.{proofs.Common.{subst, sym}, specs.Prelude.All, proofs.lemmas.Bool.eqb-true}
use Rattle.std.proofs.lemmas.List.Elements.{All-append, All-cons, All-filter, All-nil}
use Rattle.std.proofs.lemmas.List.Sorted.{All-permutation}
use Rattle.do_base.specs.names.Names.{ObjectName}
use Rattle.do_machine.specs.{declared.node.{Stored.Stored, Wanted.Wanted}, Lists.inserted}
use Rattle.do_machine.specs.{Objects.object_at, lend.Asking.{same_wanted, wanted, wanted_lt}}
use Rattle.do_machine.{specs.lend.Lending.is_lend, proofs.Inserting.inserted_moves}
use Rattle.do_facts.specs.{Net.Net, Moves.{Happening, Happens, Keeps, Lost, Moved, net_then}}
use Rattle.do_facts.specs.links.{Links.{Atom, Links}, Moves.{Asks, Closes, Ends, GivesUp, Holds}}
use Rattle.do_facts.specs.links.Moves.{Leaves, Lends, Misses, Move, Receives, Settles, Stores}
use Rattle.do_facts.specs.links.Moves.{Strikes, closed, link_rules, may, moved, next_lend, opens}
use Rattle.do_facts.{specs.links.Moves.without_ask, proofs.links.ListsChanged.was_open}

-- each open end, borrower, home of what is asked for and lender of it passes a test of ports
pub record IsWithin (ends : ℕ → Bool) (p : Links) : Type 0 where
  pub reached : (peer : ℕ) → opens p peer ≡ true → ends peer ≡ true
  pub lent : All (λ l. ends l.borrower ≡ true) p.lent
  pub homes : All (λ w. ends w.object.node ≡ true) p.asked
  pub lenders : All (λ w. ends w.token.lender ≡ true) p.asked

module _ (ends : ℕ → Bool) where
  -- an ask of a home and a lender that pass
  abbrev Passes : (Wanted → ℕ) → Wanted → Type 0
  Passes of w = ends (of w) ≡ true

  -- one more ask
  more_pass : (of : Wanted → ℕ) (w : Wanted) (xs : List Wanted) → ends (of w) ≡ true →
      All (Passes of) xs → All (Passes of) (inserted wanted_lt w xs)
  more_pass of w xs e h =
      All-permutation (Passes of) (w ∷ xs) (inserted wanted_lt w xs)
      (inserted_moves wanted_lt w xs) (All-cons (Passes of) w xs e h)

  module _ (p : Links) (within : IsWithin ends p) where
    -- an end less
    closed_within : (peer : ℕ) → IsWithin ends (closed peer p)
    closed_within peer = record {
      reached = λ z o. within.reached z (was_open p peer z o);
      lent = All-filter (λ l. not (l.borrower == peer)) (λ l. ends l.borrower ≡ true) p.lent
          within.lent;
      homes = within.homes;
      lenders = within.lenders;
    }

    -- an ask less
    less_within : (w : Wanted) → IsWithin ends (without_ask w p)
    less_within w = record {
      reached = within.reached;
      lent = within.lent;
      homes = All-filter (λ v. not (same_wanted w v)) (Passes (λ v. v.object.node)) p.asked
          within.homes;
      lenders = All-filter (λ v. not (same_wanted w v)) (Passes (λ v. v.token.lender)) p.asked
          within.lenders;
    }

    -- other objects held
    same_within : (held : List ObjectName) → IsWithin ends (record p { held = held })
    same_within held = record {
      reached = within.reached;
      lent = within.lent;
      homes = within.homes;
      lenders = within.lenders;
    }

    -- other objects stored
    stored_within : (heap : List Stored) (serial : ℕ) →
        IsWithin ends (record p { heap = heap; serial = serial })
    stored_within heap serial = record {
      reached = within.reached;
      lent = within.lent;
      homes = within.homes;
      lenders = within.lenders;
    }

    -- an object lent over an open end
    lent_within : (to : ℕ) (o : ObjectName) → opens p to ≡ true →
        IsWithin ends (moved p (Lends to o))
    lent_within to o e = record {
      reached = within.reached;
      lent = All-append (λ l. ends l.borrower ≡ true) p.lent (next_lend p to o ∷ []) within.lent
          (All-cons (λ l. ends l.borrower ≡ true) (next_lend p to o) []
          (within.reached to e) (All-nil (λ l. ends l.borrower ≡ true)));
      homes = within.homes;
      lenders = within.lenders;
    }

    -- an object asked for over an open end, of a lender over one
    asked_within : (from : ℕ) (o : ObjectName) (token : ℕ) → opens p from ≡ true →
        opens p o.node ≡ true → IsWithin ends (moved p (Asks from o token))
    asked_within from o token e f = record {
      reached = within.reached;
      lent = within.lent;
      homes = more_pass (λ v. v.object.node) (wanted o from token) p.asked
          (within.reached o.node f) within.homes;
      lenders = more_pass (λ v. v.token.lender) (wanted o from token) p.asked
          (within.reached from e) within.lenders;
    }

    -- a lend less
    settled_within : (from number : ℕ) → IsWithin ends (moved p (Settles from number))
    settled_within from number = record {
      reached = within.reached;
      lent = All-filter (λ l. not (is_lend from number l)) (λ l. ends l.borrower ≡ true) p.lent
          within.lent;
      homes = within.homes;
      lenders = within.lenders;
    }

  -- any move
  pub within_moved : (p : Links) → IsWithin ends p → (v : Move) → may p v →
      IsWithin ends (moved p v)
  within_moved p h (Lends to o) m = lent_within p h to o m.0
  within_moved p h (Leaves o) m = same_within p h (moved p (Leaves o)).held
  within_moved p h (Closes peer) m = closed_within p h peer
  within_moved p h (GivesUp w told) m = less_within p h w
  within_moved p h (Holds from s) m = same_within p h (moved p (Holds from s)).held
  within_moved p h (Asks from o t) m = asked_within p h from o t m.0 m.1
  within_moved p h (Receives from s k told) m =
      let held = (moved p (Holds from s)).held in
      less_within (record p { held = held }) (same_within p h held)
      (wanted (object_at from s) k.lender k.number)
  within_moved p h (Misses from s k told) m =
      less_within p h (wanted (object_at from s) k.lender k.number)
  within_moved p h (Settles from number) m = settled_within p h from number
  within_moved p h (Ends from serials) m = closed_within p h from
  within_moved p h (Stores heap serial) m = stored_within p h heap serial
  within_moved p h (Strikes heap) m = stored_within p h heap p.serial
  within_moved p h _ m = h

-- each part stays within, whatever happens
pub within_keeps : (ends : ℕ → ℕ → Bool) →
    Keeps link_rules (λ net. (port : ℕ) → IsWithin (ends port) (net.part port))
within_keeps ends = record { by = by_happening }
  where
    by_happening : (net : Net Links Atom) (h : Happening Atom Move) →
        ((port : ℕ) → IsWithin (ends port) (net.part port)) → Happens link_rules net h →
        (port : ℕ) → IsWithin (ends port) ((net_then link_rules net h).part port)
    by_happening net (Moved port v) within m = λ other. go other (other == port) refl
      where
        go : (other : ℕ) (b : Bool) → (other == port) ≡ b →
            IsWithin (ends other) (cond b (moved (net.part port) v) (net.part other))
        go other true e =
            subst (λ q. IsWithin (ends q) (moved (net.part port) v))
            (sym (eqb-true other port e))
            (within_moved (ends port) (net.part port) (within port) v m.0)
        go other false e = within other
    by_happening net (Lost from to first rest) within m = within
