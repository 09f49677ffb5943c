-- The sites and channels of a network with the place of a port changed.
use Rattle.std.proofs.Common.{◌≡◌, ◌==◌, ℕ, Bool, true, false, refl, sym, ap, ◌∙◌, subst}
use Rattle.std.specs.Prelude.{Some, is_some, option_and_then, option_map, unwrap_or}
use Rattle.std.proofs.lemmas.Bool.{eqb-true}
use Rattle.do_network.specs.{Links.Part, Net.{Net, Place, change_place, channel, channel_to}}
use Rattle.do_network.specs.Net.{net_ports, part_at, place_at}
use Rattle.do_agreement.proofs.places.KeyedLists.{changed_twice, found_changed, found_elsewhere}
use Rattle.do_agreement.proofs.places.KeyedLists.{same_keys}

-- what there is, is equal to itself
pub some_is : {X : Type 0} (x y : X) → Some x ≡ Some y → x ≡ y
some_is x y e = ap (λ o. unwrap_or o x) e

module _ (port : ℕ) (f : Place → Place) (keeps : (x : Place) → (f x).port ≡ x.port) (N : Net) where
  -- the network afterwards
  abbrev M : Net
  M = change_place port f N

  -- the place of another port
  pub place_elsewhere : (other : ℕ) → (port == other) ≡ false →
      place_at M other ≡ place_at N other
  place_elsewhere other apart =
      found_elsewhere (λ x. x.port) f keeps port other apart N.places

  -- the site of another port
  pub part_elsewhere : (other : ℕ) → (port == other) ≡ false → part_at M other ≡ part_at N other
  part_elsewhere other apart = ap (option_map (λ x. x.part)) (place_elsewhere other apart)

  -- a channel from another port
  pub channel_elsewhere : (other to : ℕ) → (port == other) ≡ false →
      channel M other to ≡ channel N other to
  channel_elsewhere other to apart =
      ap (option_and_then (channel_to to)) (place_elsewhere other apart)

  -- the ports are the same
  pub ports_same : net_ports M ≡ net_ports N
  ports_same = same_keys (λ x. x.port) f keeps port N.places

  module _ (pl : Place) (there : place_at N port ≡ Some pl) where
    -- the place itself
    pub place_here : place_at M port ≡ Some (f pl)
    place_here =
        found_changed (λ x. x.port) f keeps port N.places ∙ ap (option_map f) there

    -- its site
    pub part_here : part_at M port ≡ Some (f pl).part
    part_here = ap (option_map (λ x. x.part)) place_here

    -- a channel of it
    pub channel_here : (to : ℕ) → channel M port to ≡ channel_to to (f pl)
    channel_here to = ap (option_and_then (channel_to to)) place_here

    -- what holds of the site itself and of each other holds of all
    pub by_part : (P : ℕ → Part → Type 0) → P port (f pl).part →
        ((x : ℕ) (q : Part) → (port == x) ≡ false → part_at N x ≡ Some q → P x q) →
        (x : ℕ) (q : Part) → part_at M x ≡ Some q → P x q
    by_part P here others x q k = go (port == x) refl
      where
        go : (b : Bool) → (port == x) ≡ b → P x q
        go true e =
            let is : port ≡ x = eqb-true port x e in
            subst (λ y. P y q) is
            (subst (P port) (some_is (f pl).part q
            (sym part_here ∙ ap (part_at M) is ∙ k)) here)
        go false e = others x q e (sym (part_elsewhere x e) ∙ k)

    -- the same sites are there
    pub part_there : (x : ℕ) → is_some (part_at N x) ≡ true → is_some (part_at M x) ≡ true
    part_there x h = go (port == x) refl
      where
        go : (b : Bool) → (port == x) ≡ b → is_some (part_at M x) ≡ true
        go true e =
            ap (λ y. is_some (part_at M y)) (sym (eqb-true port x e)) ∙ ap is_some part_here
        go false e = ap is_some (part_elsewhere x e) ∙ h

-- a place that is changed twice
pub place_twice : (port : ℕ) (f g : Place → Place) → ((x : Place) → (f x).port ≡ x.port) →
    (N : Net) → change_place port g (change_place port f N) ≡ change_place port (λ x. g (f x)) N
place_twice port f g keeps N =
    ap (λ ps. record { places = ps }) (changed_twice (λ x. x.port) f keeps g port N.places)
