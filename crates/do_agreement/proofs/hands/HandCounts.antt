-- What the sites of a network count while one of them has an item in hand.
use Rattle.do_agreement.proofs.hands.HandSites as sites
use Rattle.std.proofs.Common.{◌≡◌, ◌==◌, ◌&&◌, ℕ, Bool, true, false, cond, List, ◌∷◌, refl, sym, ap}
use Rattle.std.{proofs.Common.{◌∙◌, subst, arith}, specs.Prelude.Some, proofs.lemmas.Bool.eqb-true}
use Rattle.do_class.specs.Class.{Class}
use Rattle.do_machine.specs.State.{is_open}
use Rattle.do_network.specs.{Links.Part, Net.{Net, part_at}, Own.Own, fits.Counted.Counted}
use Rattle.do_network.specs.fits.Notes.{Note, tells_of, total}
use Rattle.do_agreement.specs.NetInHand.{closes_for, ends, part_in_hand}
use Rattle.do_agreement.proofs.hands.InHandCounted.{for_third_in_hand, sender_in_hand}
use Rattle.do_agreement.proofs.hands.InHandCounted.{taker_in_hand, third_in_hand}
use Rattle.do_agreement.proofs.{counts.MovesAccount.apart, places.PlacesChanged.some_is}
use Rattle.do_agreement.proofs.places.Numbers.{flipped, never_apart, same_number}
use Rattle.do_agreement.proofs.hands.HandSites.{Hand, at_from, at_port, by_hand, now_from, now_rest}
use Rattle.do_agreement.proofs.hands.{HandSites.{now_to, other}, LinksRead.tells_nothing}

module _ {table : List Class} {port from : ℕ} {N : Net} {under_way : ℕ → ℕ → List Note} {x : Note}
    {xs : List Note} (hand : Hand table port from N under_way x xs) where
  -- the site that takes
  abbrev p : Part
  p = sites.p hand

  -- the site whose item it takes
  abbrev q : Part
  q = sites.q hand

  -- the network with the item in hand
  abbrev H : Net
  H = sites.H hand

  -- what is under way
  abbrev now : ℕ → ℕ → List Note
  now = sites.now hand

  -- the second is of its port
  is_from : q.own.node.port ≡ from
  is_from = (hand.fit.owns from q (at_from hand)).port_is

  -- the end is open, by the other's port
  here_is : is_open p.own.node q.own.node.port ≡ true
  here_is = ap (λ n. is_open p.own.node n) is_from ∙ hand.here

  -- the first is as it was but for the item
  abbrev mine : Own
  mine = (part_in_hand from x p).own

  -- what the sender counts
  sender_counts : Counted q.own mine (now from port) (now port from)
  sender_counts =
      subst (λ fore. Counted q.own mine fore (now port from)) (sym (now_rest hand))
      (subst (λ back. Counted q.own mine xs back) (sym (now_from hand port from (other hand)))
      (subst (λ n. Counted q.own (part_in_hand n x p).own xs (under_way port from)) is_from
      (sender_in_hand p.own q.own x xs (under_way port from) here_is
      (subst (λ fore. Counted q.own p.own fore (under_way port from)) hand.first
      (hand.fit.counted from port q p (at_from hand) (at_port hand) (other hand) refl)))))

  -- what the taker counts for it, unless it is closing
  taker_counts : ends x.item ≡ false → Counted mine q.own (now port from) (now from port)
  taker_counts open_still =
      subst (λ back. Counted mine q.own (now port from) back) (sym (now_rest hand))
      (subst (λ fore. Counted mine q.own fore xs) (sym (now_from hand port from (other hand)))
      (subst (λ n. Counted (part_in_hand n x p).own q.own (under_way port from) xs) is_from
      (taker_in_hand p.own q.own x (under_way port from) xs here_is
      (tells_nothing x open_still)
      (subst (λ back. Counted p.own q.own (under_way port from) back) hand.first
      (hand.fit.counted port from p q (at_port hand) (at_from hand)
      (flipped from port (other hand)) refl)))))

  module _ (c : ℕ) (w : Part) (third : (port == c) ≡ false) (ne : (from == c) ≡ false)
      (n : part_at N c ≡ Some w) where
    -- a third node's port is another than the sender's
    third_is : (w.own.node.port == from) ≡ false
    third_is = ap (λ k. k == from) (hand.fit.owns c w n).port_is ∙ flipped from c ne

    -- what the taker counts for a third node
    counts_third : Counted mine w.own (now port c) (now c port)
    counts_third =
        subst (λ back. Counted mine w.own (now port c) back) (sym (now_from hand c port ne))
        (subst (λ fore. Counted mine w.own fore (under_way c port))
        (sym (now_from hand port c (other hand)))
        (for_third_in_hand p.own w.own from x third_is (under_way port c) (under_way c port)
        (hand.fit.counted port c p w (at_port hand) n third refl)))

    -- what a third node counts for the taker
    third_counts : Counted w.own mine (now c port) (now port c)
    third_counts =
        subst (λ back. Counted w.own mine (now c port) back)
        (sym (now_from hand port c (other hand)))
        (subst (λ fore. Counted w.own mine fore (under_way port c)) (sym (now_from hand c port ne))
        (third_in_hand p.own w.own from x third_is (under_way c port) (under_way port c)
        (hand.fit.counted c port w p n (at_port hand) (flipped port c third) refl)))

  -- what the taker counts for any other
  taker_for : (c : ℕ) (w : Part) → (port == c) ≡ false → part_at N c ≡ Some w →
      closes_for port from x port c ≡ false → Counted mine w.own (now port c) (now c port)
  taker_for c w third n none = go (from == c) refl
    where
      go : (b : Bool) → (from == c) ≡ b → Counted mine w.own (now port c) (now c port)
      go true e =
          let is : from ≡ c = eqb-true from c e in
          subst (λ k. Counted mine w.own (now port k) (now k port)) is
          (subst (λ z. Counted mine z.own (now port from) (now from port))
          (some_is q w (sym (at_from hand) ∙ ap (part_at N) is ∙ n))
          (taker_counts (stays (ends x.item) (port == port) (c == from) none (same_number port)
          (ap (λ k. k == from) (sym is) ∙ same_number from))))
        where
          stays : (a b d : Bool) → (a && (b && d)) ≡ false → b ≡ true → d ≡ true → a ≡ false
          stays false b d h i j = refl
          stays true b d h i j = absurd (apart (ap (λ z. z && d) i ∙ j) h)
      go false e = counts_third c w third e n

  -- what any other counts for the taker
  for_taker : (c : ℕ) (w : Part) → (port == c) ≡ false → part_at N c ≡ Some w →
      Counted w.own mine (now c port) (now port c)
  for_taker c w third n = go (from == c) refl
    where
      go : (b : Bool) → (from == c) ≡ b → Counted w.own mine (now c port) (now port c)
      go true e =
          let is : from ≡ c = eqb-true from c e in
          subst (λ k. Counted w.own mine (now k port) (now port k)) is
          (subst (λ z. Counted z.own mine (now from port) (now port from))
          (some_is q w (sym (at_from hand) ∙ ap (part_at N) is ∙ n)) sender_counts)
      go false e = third_counts c w third e n

  -- what each counts for each
  pub counted_in_hand : (a m : ℕ) (y z : Part) → part_at H a ≡ Some y → part_at H m ≡ Some z →
      (a == m) ≡ false → closes_for port from x a m ≡ false →
      Counted y.own z.own (now a m) (now m a)
  counted_in_hand a m y z h k =
      by_hand hand (λ b y. (c : ℕ) (w : Part) → part_at H c ≡ Some w → (b == c) ≡ false →
      closes_for port from x b c ≡ false → Counted y.own w.own (now b c) (now c b))
      (by_hand hand (λ c w. (port == c) ≡ false → closes_for port from x port c ≡ false →
      Counted mine w.own (now port c) (now c port))
      (λ ne. absurd (never_apart port ne))
      (λ c w third n ne none. taker_for c w third n none))
      (λ b y third l. by_hand hand (λ c w. (b == c) ≡ false → closes_for port from x b c ≡ false →
      Counted y.own w.own (now b c) (now c b))
      (λ ne none. for_taker b y third l)
      (λ c w fourth n ne none.
      subst (λ back. Counted y.own w.own (now b c) back) (sym (now_to hand c b third))
      (subst (λ fore. Counted y.own w.own fore (under_way c b)) (sym (now_to hand b c fourth))
      (hand.fit.counted b c y w l n ne refl))))
      a y h m z k

  -- over an open end no end tells of an object
  pub silent_in_hand : (a m : ℕ) (y : Part) → part_at H a ≡ Some y → is_open y.own.node m ≡ true →
      (s : ℕ) → total (tells_of s) (now a m) ≡ 0
  silent_in_hand a m y h =
      by_hand hand (λ b z. is_open z.own.node m ≡ true → (s : ℕ) → total (tells_of s) (now b m) ≡ 0)
      (λ o s. ap (total (tells_of s)) (now_from hand port m (other hand))
      ∙ hand.fit.silent port m p (at_port hand) o s)
      (λ b z third l o s. go (port == m) refl b z l o s)
      a y h
    where
      less_told : (b : ℕ) (s : ℕ) (c : Bool) → (c ≡ true → under_way b port ≡ x ∷ xs) →
          total (tells_of s) (under_way b port) ≡ 0 →
          total (tells_of s) (cond c xs (under_way b port)) ≡ 0
      less_told b s true is h =
          let all = ap (total (tells_of s)) (is refl) in
          omega (arith, h, all)
      less_told b s false is h = h

      go : (d : Bool) → (port == m) ≡ d → (b : ℕ) (z : Part) → part_at N b ≡ Some z →
          is_open z.own.node m ≡ true → (s : ℕ) → total (tells_of s) (now b m) ≡ 0
      go true e b z l o s =
          let is : port ≡ m = eqb-true port m e in
          subst (λ k. total (tells_of s) (now b k) ≡ 0) is
          (less_told b s ((b == from) && (port == port))
          (λ c. ap (λ k. under_way k port) (eqb-true b from (former (b == from) (port == port) c))
          ∙ hand.first)
          (hand.fit.silent b port z l (ap (λ k. is_open z.own.node k) is ∙ o) s))
        where
          former : (c d : Bool) → (c && d) ≡ true → c ≡ true
          former true d h = refl
          former false d h = absurd (cc)
      go false e b z l o s =
          ap (total (tells_of s)) (now_to hand b m e) ∙ hand.fit.silent b m z l o s
