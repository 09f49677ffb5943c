-- What a network is once a node took something, or something was lost on its way.
use Rattle.std.proofs.Common.{◌≡◌, ◌==◌, ℕ, Bool, true, false, cond, List, [], ◌∷◌, refl, ap, sym}
use Rattle.std.{proofs.Common.{Option, Some, None, ◌∙◌}, specs.Prelude.{if◌then◌else◌, not}}
use Rattle.std.specs.{Prelude.{option_and_then, option_map, slice_get, unwrap_or}, List.find}
use Rattle.do_base.specs.declared.events.event.Event.TheVariants.{Take}
use Rattle.do_class.specs.Class.{Class}
use Rattle.do_machine.specs.{Lists.change_first, run.Run.Acting, take.Take.{can_take, take_effect}}
use Rattle.do_machine.specs.declared.item.Item.TheVariants.{End}
use Rattle.do_network.specs.{Frames.read_frame, Links.{Part, names_read}, Own.site_context}
use Rattle.do_network.specs.Net.{Carried, Channel, Lost, Net, Place, Whole, change_place, channel}
use Rattle.do_network.specs.{Net.{channel_to, part_at, place_at, with_channel}, Site.Handled}
use Rattle.do_network.specs.{Site.{enabled_input, moves, takes}, Step.{NetStepped, advanced, hands}}
use Rattle.do_network.specs.Step.{input_of, net_moved, net_skipped, net_step, net_take}
use Rattle.do_net.specs.Hosts.{net_can_take, net_handed, oldest, oldest_to}

-- the part of a place that is found
abbrev part_in : ℕ → List Place → Option Part
part_in port ps = option_map (λ x. x.part) (find (λ (x : Place). port == x.port) ps)

-- what is found first is the same whether the part of the place is in the one or the other
either_part : (b : Bool) (x y : Place) (found : Option Place) → x.part ≡ y.part →
    option_map (λ (v : Place). v.part) (cond b (Some x) found)
    ≡ option_map (λ (v : Place). v.part) (cond b (Some y) found)
either_part true x y found e = ap Some e
either_part false x y found e = refl

-- or what is found later
later_part : (b : Bool) (x : Place) (found other : Option Place) →
    option_map (λ (v : Place). v.part) found ≡ option_map (λ (v : Place). v.part) other →
    option_map (λ (v : Place). v.part) (cond b (Some x) found)
    ≡ option_map (λ (v : Place). v.part) (cond b (Some x) other)
later_part true x found other e = refl
later_part false x found other e = e

-- what stands in a channel is no matter of a part
pub part_stays : (from port to : ℕ) (f : Channel → Channel) (ps : List Place) →
    part_in port (change_first (λ x. from == x.port) (with_channel to f) ps) ≡ part_in port ps
part_stays from port to f [] = refl
part_stays from port to f (x ∷ ps) =
    elim (from == x.port) as (λ b. part_in port (cond b (with_channel to f x ∷ ps)
    (x ∷ change_first (λ v. from == v.port) (with_channel to f) ps)) ≡ part_in port (x ∷ ps)) [
      | true ↦ either_part (port == x.port) (with_channel to f x) x _ refl
      | false ↦ later_part (port == x.port) x _ _ (part_stays from port to f ps)
    ]

-- what is done unless a test passes
unless_is : (b : Bool) (h : Handled) → b ≡ true → (if not b then None else Some h) ≡ Some h
unless_is b h e = ap (λ t. if not t then None else Some h) e

-- an input that takes what stands in a channel is enabled where the node can take
enabled_taking : (table : List Class) (act : Acting) (p : Part) (from : ℕ) (x : Carried) →
    can_take from p.own.node ≡ true →
    (h : Handled) × (enabled_input table act p (input_of from x) ≡ Some h)
enabled_taking table act p from (Whole f) can =
    let h = takes table p from (read_frame table from p.own.node.port (names_read p from) f) in
    (h, unless_is (can_take from p.own.node) h can)
enabled_taking table act p from Lost can =
    let h = moves p (take_effect (site_context table p.own) from (End [])) in
    (h, unless_is (can_take from p.own.node) h can)

-- what is done with the part of a port
abbrev on_part : List Class → Acting → Net → ℕ → ℕ → Carried → Option Part → Option NetStepped
on_part table act M port from x o = elim o [
  | None ↦ None
  | Some p ↦ option_map (net_moved port M) (enabled_input table act p (input_of from x))
]

-- what a take does by the oldest, by the part, and by whether the node can
abbrev on_oldest : List Class → Acting → Net → ℕ → ℕ → Option Carried → Option NetStepped
on_oldest table act N port from o = elim o [
  | None ↦ None
  | Some x ↦ hands table act (change_place from (with_channel port (advanced x)) N) port
      (input_of from x)
]

-- what a take does by the channel is what it does by the oldest
by_channel : (table : List Class) (act : Acting) (N : Net) (port from : ℕ)
    (found : Option Channel) →
    (elim found [
      | None ↦ None
      | Some c ↦ on_oldest table act N port from (slice_get c.waiting 0)
    ]) ≡ on_oldest table act N port from (option_and_then (λ c. slice_get c.waiting 0) found)
by_channel table act N port from None = refl
by_channel table act N port from (Some c) = refl

-- the oldest of a place is that of its channel
pub by_place : (port : ℕ) (found : Option Place) →
    option_and_then (λ c. slice_get c.waiting 0) (option_and_then (channel_to port) found)
    ≡ option_and_then (oldest_to port) found
by_place port None = refl
by_place port (Some x) = refl

-- what a take does by the part of the reader
abbrev on_taker : List Class → Acting → Net → ℕ → ℕ → Option Part → Option NetStepped
on_taker table act N port from o = elim o [
  | None ↦ None
  | Some p ↦ if not (can_take from p.own.node) then None else elim (channel N from port) [
    | None ↦ None
    | Some c ↦ on_oldest table act N port from (slice_get c.waiting 0)
  ]
]

-- where the node can take, a take is what it does by the oldest
by_oldest : (table : List Class) (act : Acting) (N : Net) (port from : ℕ) (p : Part) →
    part_at N port ≡ Some p → can_take from p.own.node ≡ true →
    net_take table act N port from ≡ on_oldest table act N port from (oldest N from port)
by_oldest table act N port from p e can =
    ap (on_taker table act N port from) e
    ∙ ap (λ b. if not b then None else elim (channel N from port) [
      | None ↦ None
      | Some c ↦ on_oldest table act N port from (slice_get c.waiting 0)
    ]) can
    ∙ by_channel table act N port from (channel N from port)
    ∙ ap (on_oldest table act N port from) (by_place port (place_at N from))

-- a node that can take is there
can_part : (N : Net) (port from : ℕ) → net_can_take N port from ≡ true →
    (p : Part) × ((part_at N port ≡ Some p) × (can_take from p.own.node ≡ true))
can_part N port from = go (part_at N port)
  where
    go : (o : Option Part) → (elim o [
      | None ↦ false
      | Some p ↦ can_take from p.own.node
    ]) ≡ true → (p : Part) × ((o ≡ Some p) × (can_take from p.own.node ≡ true))
    go None e = absurd (cc)
    go (Some p) e = (p, (refl, e))

-- the network that hands what was taken, where it does, is the step
same_step : (N M : Net) (step : Option NetStepped) (s : NetStepped) → step ≡ Some s →
    unwrap_or step (net_skipped M) ≡ unwrap_or step (net_skipped N)
same_step N M None s e = absurd (cc)
same_step N M (Some t) s e = refl

-- what a take comes to, by the oldest
pub take_is : (table : List Class) (act : Acting) (N M : Net) (port from : ℕ) (x : Carried) →
    net_can_take N port from ≡ true → oldest N from port ≡ Some x →
    M ≡ change_place from (with_channel port (advanced x)) N →
    net_handed table act M port (input_of from x) ≡ net_step table act N (Take port from)
take_is table act N M port from x can old is_m =
    let found = can_part N port from can in
    let p = found.0 in
    let K = change_place from (with_channel port (advanced x)) N in
    let there : part_at K port ≡ Some p =
    part_stays from port port (advanced x) N.places ∙ found.1.0 in
    let h = enabled_taking table act p from x found.1.1 in
    let done : hands table act K port (input_of from x) ≡ Some (net_moved port K h.0) =
    ap (on_part table act K port from x) there ∙ ap (option_map (net_moved port K)) h.1 in
    let takes : net_take table act N port from ≡ hands table act K port (input_of from x) =
    by_oldest table act N port from p found.1.0 found.1.1
    ∙ ap (on_oldest table act N port from) old in
    ap (λ v. net_handed table act v port (input_of from x)) is_m
    ∙ same_step N K (hands table act K port (input_of from x)) (net_moved port K h.0) done
    ∙ sym (ap (λ o. unwrap_or o (net_skipped N)) takes)

-- where nothing waits nothing is taken
pub take_empty : (table : List Class) (act : Acting) (N : Net) (port from : ℕ) →
    net_can_take N port from ≡ true → oldest N from port ≡ None →
    net_skipped N ≡ net_step table act N (Take port from)
take_empty table act N port from can old =
    let found = can_part N port from can in
    sym (ap (λ o. unwrap_or o (net_skipped N))
    (by_oldest table act N port from found.0 found.1.0 found.1.1
    ∙ ap (on_oldest table act N port from) old))

-- where the node cannot take nothing is taken
pub take_cannot : (table : List Class) (act : Acting) (N : Net) (port from : ℕ) →
    net_can_take N port from ≡ false → net_skipped N ≡ net_step table act N (Take port from)
take_cannot table act N port from cannot =
    sym (ap (λ o. unwrap_or o (net_skipped N)) (go (part_at N port) cannot))
  where
    go : (o : Option Part) → (elim o [
      | None ↦ false
      | Some p ↦ can_take from p.own.node
    ]) ≡ false → on_taker table act N port from o ≡ None
    go None e = refl
    go (Some p) e = ap (λ b. if not b then None else elim (channel N from port) [
      | None ↦ None
      | Some c ↦ on_oldest table act N port from (slice_get c.waiting 0)
    ]) e
