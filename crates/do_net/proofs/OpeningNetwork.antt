-- A network opens as its sites do.
use Rattle.std.proofs.Common.{◌≡◌, ℕ, zero, suc, List, [], ◌∷◌, map, refl, ap, sym, subst, ◌∙◌}
use Rattle.std.proofs.Common.{Some, ◌<◌, ◌+◌, ◌++◌, get_or, length, take}
use Rattle.std.{proofs.lemmas.List.{map-append, take_more}, specs.Prelude.slice_get}
use Rattle.do_class.specs.Class.{Class}
use Rattle.do_machine.specs.{declared.state.Seat.Seat, run.Run.Acting, World.by_port}
use Rattle.do_network.specs.Net.{net_opening, opening_place}
use Rattle.std.specs.List.{AllByRecursion}
use Rattle.do_net.specs.Hosts.{Hosting, Rests, net_of, place_of}
use Rattle.do_net.specs.Net.{AreAlike, opening_hosting, opening_hostings}

-- the places of sites that open
opens_at : (table : List Class) (act : Acting) (ports : List ℕ) (seats : List Seat) →
    map place_of (map (opening_hosting table act ports) seats)
    ≡ map (opening_place table ports) seats
opens_at table act ports [] = refl
opens_at table act ports (s ∷ seats) =
    ap (λ ps. opening_place table ports s ∷ ps) (opens_at table act ports seats)

-- of sites that open all was fetched
rest_at : (table : List Class) (act : Acting) (ports : List ℕ) (seats : List Seat) →
    AllByRecursion (Rests table act) (map (opening_hosting table act ports) seats)
rest_at table act ports [] = tt
rest_at table act ports (s ∷ seats) = (refl, rest_at table act ports seats)

-- so opens the network
pub opens : (table : List Class) (act : Acting) (seats : List Seat) (xs : List Hosting) →
    xs ≡ opening_hostings table act seats → net_of xs ≡ net_opening table seats
opens table act seats xs e =
    let sorted = by_port seats in
    ap net_of e
    ∙ ap (λ ps. record { places = ps }) (opens_at table act (map (λ s. s.node) sorted) sorted)

-- and all was fetched of it
pub opens_rest : (table : List Class) (act : Acting) (seats : List Seat) (xs : List Hosting) →
    xs ≡ opening_hostings table act seats → AllByRecursion (Rests table act) xs
opens_rest table act seats xs e =
    let sorted = by_port seats in
    subst (AllByRecursion (Rests table act)) (sym e)
    (rest_at table act (map (λ s. s.node) sorted) sorted)

-- each of some that decide alike decides as all
pub makes_as_all : {A : Type 0} (act : Acting) (decides : A → Acting) (makers : List A) (i : ℕ)
    (m : A) → AllByRecursion (λ o. decides o ≡ act) makers → slice_get makers i ≡ Some m
    → decides m ≡ act
makes_as_all act decides [] i m all at = absurd (cc)
makes_as_all act decides (o ∷ makers) zero m all at =
    let same : o ≡ m = cc in ap decides (sym same) ∙ all.0
makes_as_all act decides (o ∷ makers) (suc i) m all at =
    makes_as_all act decides makers i m all.1 at

-- all decide as the first, where all decide alike
pub alike_first : {A : Type 0} (decides : A → Acting) (makers : List A) (m : A)
    → AreAlike decides makers → slice_get makers 0 ≡ Some m
    → AllByRecursion (λ o. decides o ≡ decides m) makers
alike_first decides [] m alike at = tt
alike_first decides (o ∷ makers) m alike at =
    let same : o ≡ m = cc in
    subst (λ x. AllByRecursion (λ o. decides o ≡ decides x) (o ∷ makers)) same (refl, alike)

-- one site more opens
pub opens_more : {X Y : Type 0} (g : X → Y) (opens_at : Seat → Y) (hosts new : List X)
    (h : X) (seats : List Seat) (i : ℕ) (s : Seat) → map g hosts ≡ map opens_at (take i seats)
    → new ≡ hosts ++ h ∷ [] → g h ≡ opens_at s → i < length seats → s ≡ get_or seats i s
    → map g new ≡ map opens_at (take (i + 1) seats)
opens_more g opens_at hosts new h seats i s so_far added opened within is =
    let last : opens_at s ≡ opens_at (get_or seats i s) = ap opens_at is in
    ap (map g) added ∙ map-append g hosts (h ∷ [])
    ∙ ap (λ hs. hs ++ g h ∷ []) so_far
    ∙ ap (λ x. map opens_at (take i seats) ++ x ∷ []) (opened ∙ last)
    ∙ sym (map-append opens_at (take i seats) (get_or seats i s ∷ []))
    ∙ sym (ap (map opens_at) (take_more seats i s within))
