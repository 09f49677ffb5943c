-- Counts stay right when a node takes an item in hand.
use Rattle.std.proofs.Common.{◌≡◌, ◌==◌, ◌+◌, ◌-◌, ℕ, true, false, cond, List, ◌∷◌, ap, ◌∙◌, arith}
use Rattle.do_export.specs.Counts.{count_of}
use Rattle.do_machine.specs.State.{is_open}
use Rattle.do_network.specs.{Own.Own, fits.Counted.Counted}
use Rattle.do_network.specs.fits.Notes.{Note, exports_of, returns_of, tells_of}
use Rattle.do_agreement.specs.InHand.{in_hand}
use Rattle.do_agreement.proofs.hands.InHandCounts.{counts_in_hand, received_in_hand}
use Rattle.do_agreement.proofs.{counts.MovesAccount.apart, places.Numbers.same_number}

module _ (p q : Own) (x : Note) (there back : List Note) (here : is_open p.node q.node.port ≡ true)
  where
    -- the node with an item of the other in hand
    abbrev now : Own
    now = in_hand q.node.port x p

    -- what it received of the other's
    received_is : (s : ℕ) → count_of now.received q.node.port s
        ≡ count_of p.received q.node.port s + exports_of q.node.port p.node.port s x
    received_is s =
        received_in_hand q.node.port p x q.node.port s
        ∙ ap (λ b. count_of p.received q.node.port s
        + cond b (exports_of q.node.port p.node.port s x) 0) (same_number q.node.port)

    -- what it counts for the other
    counts_are : (s : ℕ) → count_of now.counts q.node.port s
        ≡ count_of p.counts q.node.port s - returns_of s x
    counts_are s =
        counts_in_hand q.node.port p x q.node.port s
        ∙ ap (λ b. count_of p.counts q.node.port s - cond b (returns_of s x) 0)
        (same_number q.node.port)

    -- what the sender counts: what the item exports is received
    pub sender_in_hand : Counted q p (x ∷ there) back → Counted q now there back
    sender_in_hand fit = record {
      agree = λ o k s. omega (arith, fit.agree o k s, received_is s);
      ended = λ o k s. absurd (apart here k);
      closed = fit.closed;
      silent = λ o s. omega (arith, fit.silent o s);
    }

    -- what the taker counts: what the item gives back is taken off
    pub taker_in_hand : ((s : ℕ) → tells_of s x ≡ 0) → Counted p q there (x ∷ back) →
        Counted now q there back
    taker_in_hand none fit = record {
      agree = λ o k s. omega (arith, fit.agree o k s, counts_are s);
      ended = λ o k s.
          let before = fit.ended o k s in
          record {
            untold = λ t. omega (
              arith,
              before.untold (omega (arith, t, none s)),
              counts_are s,
            );
            told = λ t. omega (
              arith,
              before.told (omega (arith, t, none s)),
              counts_are s,
            );
          };
      closed = λ k s. absurd (apart here k);
      silent = fit.silent;
    }

module _ (p q : Own) (from : ℕ) (x : Note) (other : (q.node.port == from) ≡ false)
    (there back : List Note) where
  -- the node with an item of a third in hand
  abbrev then : Own
  then = in_hand from x p

  -- it received nothing of the other's
  received_stays : (s : ℕ) → count_of then.received q.node.port s
      ≡ count_of p.received q.node.port s
  received_stays s =
      received_in_hand from p x q.node.port s
      ∙ ap (λ b. count_of p.received q.node.port s
      + cond b (exports_of from p.node.port s x) 0) other
      ∙ omega arith

  -- and the other gave nothing back
  counts_stay : (s : ℕ) → count_of then.counts q.node.port s ≡ count_of p.counts q.node.port s
  counts_stay s =
      counts_in_hand from p x q.node.port s
      ∙ ap (λ b. count_of p.counts q.node.port s - cond b (returns_of s x) 0) other
      ∙ omega arith

  -- what a third node counts
  pub third_in_hand : Counted q p there back → Counted q then there back
  third_in_hand fit = record {
    agree = λ o k s. omega (arith, fit.agree o k s, received_stays s);
    ended = λ o k s.
        let before = fit.ended o k s in
        record { untold = before.untold; told = before.told };
    closed = fit.closed;
    silent = fit.silent;
  }

  -- what the taker counts for a third node
  pub for_third_in_hand : Counted p q there back → Counted then q there back
  for_third_in_hand fit = record {
    agree = λ o k s. omega (arith, fit.agree o k s, counts_stay s);
    ended = λ o k s.
        let before = fit.ended o k s in
        record {
          untold = λ t. omega (arith, before.untold t, counts_stay s);
          told = λ t. omega (arith, before.told t, counts_stay s);
        };
    closed = λ k s.
        let none = fit.closed k s in
        (counts_stay s ∙ none.0, received_stays s ∙ none.1);
    silent = fit.silent;
  }
