-- As a machine opens, nothing is lent and nothing is asked for.
use Rattle.std.proofs.Common.{◌≡◌, ◌==◌, ℕ, false, not, List, [], ◌∷◌, filter, refl, arith}
use Rattle.std.{specs.List.list_any, proofs.lemmas.Bool.Decides.nat_tests}
use Rattle.do_class.specs.Class.{Class}
use Rattle.do_machine.specs.{declared.state.Seat.Seat, World.opening, run.Fresh.blank}
use Rattle.do_facts.specs.{Net.Net, View.net_of, links.Facts.{EachSilent, LinksHold}}
use Rattle.do_facts.specs.links.{Links.{Atom, Links, links}, Moves.opens, Sound.IsSound}
use Rattle.do_facts.proofs.{OpeningAsNet.{opening_parts, opening_wires}, links.HeapsGrow.new_below}

-- a node that lends nothing and asks for nothing, and is apart from itself
record IsNew (port : ℕ) (p : Links) : Type 0 where
  lent : p.lent ≡ []
  asked : p.asked ≡ []
  apart : opens p port ≡ false

-- the other ports are not the own one
none_itself : (port : ℕ) (ps : List ℕ) →
    list_any (λ x. x == port) (filter (λ p. not (p == port)) ps) ≡ false
none_itself port [] = refl
none_itself port (p ∷ ps) = grind (arith, nat_tests, none_itself port ps)

module _ (net : Net Links Atom) (new : (n : ℕ) → IsNew n (net.part n))
    (none : (n m : ℕ) → net.wire n m ≡ []) where
  -- where nothing is lent, asked for or on its way, all holds
  hold_of_new : LinksHold net
  hold_of_new = record {
    apart = λ n. (new n).apart;
    lends = λ n m h s t. record {
      once = λ d. grind (arith, nat_tests, none n m, (new m).asked);
      most = λ d. grind (arith, nat_tests, none n m, none m n, (new m).asked, (new n).lent);
      least = λ d. grind (arith, nat_tests, none n m, none m n, (new m).asked, (new n).lent);
      known = λ d. grind (arith, nat_tests, none n m, (new m).asked);
      told = λ d. grind (arith, nat_tests, none m n);
    };
    tokens = λ n t h s b i r c. record { same = grind (arith, nat_tests, (new n).lent) };
    fresh = λ n m h s t. record {
      unlent = λ d. grind (arith, nat_tests, (new n).lent);
      untold = λ d. grind (arith, nat_tests, (new n).lent);
      unsent = λ d. grind (arith, nat_tests, none n m, (new m).asked);
    };
    asks = λ m h s l t. record {
      once = λ d. grind (arith, nat_tests, none m h, none h m, (new m).asked);
    };
  }

module _ (table : List Class) (seats : List Seat) where
  -- the parts as a machine opens
  opening_new : (n : ℕ) → IsNew n ((net_of links (opening table seats)).part n)
  opening_new =
      opening_parts table seats links IsNew
      (λ port. record { lent = refl; asked = refl; apart = refl })
      (λ all s. record { lent = refl; asked = refl; apart = none_itself s.node all })

  -- a machine opens so
  pub opening_hold : LinksHold (net_of links (opening table seats))
  opening_hold =
      hold_of_new (net_of links (opening table seats)) opening_new
      (opening_wires table seats links)

  -- and its nodes hold nothing
  pub opening_sound : (n : ℕ) → IsSound ((net_of links (opening table seats)).part n)
  opening_sound =
      opening_parts table seats links (λ port p. IsSound p)
      (λ port. record {
        held = tt;
        reached = λ o h. absurd (cc);
        asked = tt;
        given = λ k h. absurd (cc);
      })
      (λ all s. record {
        held = tt;
        reached = λ o h. absurd (cc);
        asked = tt;
        given = λ k h. new_below k 1 (blank table s.root ∷ []) h;
      })

  -- and nothing is told
  pub opening_silent : EachSilent (net_of links (opening table seats))
  opening_silent n m s o =
      grind (arith, nat_tests, opening_wires table seats links n m)
