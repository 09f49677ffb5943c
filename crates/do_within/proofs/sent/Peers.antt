-- A site to which there is a link is there.
use Rattle.std.proofs.Common.{◌≡◌, ◌==◌, ◌||◌, ℕ, Bool, true, false, cond, List, [], ◌∷◌, map, not}
use Rattle.std.proofs.Common.{refl, sym, ap, ◌∙◌, arith}
use Rattle.std.specs.{Prelude.{None, Option, Some, find, is_some, option_map}, List.list_any}
use Rattle.std.proofs.lemmas.Bool.Decides.{nat_tests}
use Rattle.do_machine.specs.World.{others}
use Rattle.do_network.specs.{Links.{Link, link_to}, Net.{Net, Place, net_ports, part_at, place_at}}

-- what is found by a number is there where the number is
found_key : {X : Type 0} (key : X → ℕ) (n : ℕ) (xs : List X) →
    is_some (find (λ x. n == key x) xs) ≡ list_any (λ k. n == k) (map key xs)
found_key key n [] = refl
found_key key n (x ∷ xs) = go (n == key x) (found_key key n xs)
  where
    go : (b : Bool) → is_some (find (λ y. n == key y) xs) ≡ list_any (λ k. n == k) (map key xs) →
        is_some (cond b (Some x) (find (λ y. n == key y) xs))
        ≡ (b || list_any (λ k. n == k) (map key xs))
    go true e = refl
    go false e = e

-- a number among the others is another
among_others : (to port : ℕ) (ps : List ℕ) → list_any (λ k. to == k) (others ps port) ≡ true →
    (list_any (λ k. to == k) ps ≡ true) × ((port == to) ≡ false)
among_others to port [] e = absurd (cc)
among_others to port (p ∷ ps) e = go (p == port) refl e (among_others to port ps)
  where
    go : (b : Bool) → (p == port) ≡ b →
        list_any (λ k. to == k) (cond (not b) (p ∷ others ps port) (others ps port)) ≡ true →
        (list_any (λ k. to == k) (others ps port) ≡ true →
        (list_any (λ k. to == k) ps ≡ true) × ((port == to) ≡ false)) →
        (((to == p) || list_any (λ k. to == k) ps) ≡ true) × ((port == to) ≡ false)
    go true q h later = let k = later h in (behind (to == p) k.0, k.1)
      where
        behind : (a : Bool) {b : Bool} → b ≡ true → (a || b) ≡ true
        behind true h = refl
        behind false h = h
    go false q h later = here (to == p) refl h
      where
        here : (c : Bool) → (to == p) ≡ c →
            (c || list_any (λ k. to == k) (others ps port)) ≡ true →
            ((c || list_any (λ k. to == k) ps) ≡ true) × ((port == to) ≡ false)
        here true r k = (refl, grind (arith, nat_tests, q, r))
        here false r k = later k

-- where there is a link there is a site, and another
pub linked_there : (N : Net) (port to : ℕ) (links : List Link) →
    map (λ (l : Link). l.peer) links ≡ others (net_ports N) port →
    is_some (link_to links to) ≡ true →
    (is_some (part_at N to) ≡ true) × ((port == to) ≡ false)
linked_there N port to links peers some =
    let found = among_others to port (net_ports N)
    (ap (λ ks. list_any (λ k. to == k) ks) (sym peers)
    ∙ sym (found_key (λ (l : Link). l.peer) to links) ∙ some) in
    (site (place_at N to) (found_key (λ (x : Place). x.port) to N.places ∙ found.0), found.1)
  where
    site : (o : Option Place) → is_some o ≡ true →
        is_some (option_map (λ (x : Place). x.part) o) ≡ true
    site None e = absurd (cc)
    site (Some x) e = refl
