-- What a network is once something was lost on its way.
use Rattle.std.proofs.Common.{◌≡◌, ◌==◌, ℕ, Bool, true, false, List, [], refl, ap, sym, subst, ◌∙◌}
use Rattle.std.proofs.Common.{Option, Some, None}
use Rattle.std.specs.Prelude.{if◌then◌else◌, length, nat_lt, not, option_and_then, unwrap_or}
use Rattle.std.{specs.List.{find, AllByRecursion}, proofs.lemmas.List.append-nil}
use Rattle.do_base.specs.declared.events.event.Event.TheVariants.{Lose}
use Rattle.do_class.specs.Class.{Class}
use Rattle.do_machine.specs.{Lists.change_first, State.is_open, run.Run.Acting}
use Rattle.do_trace.specs.declared.outcome.Outcome.{Outcome}
use Rattle.do_network.specs.{declared.wire.Wire.Wire, Links.Part, Net.{Channel, Net, change_place}}
use Rattle.do_network.specs.Net.{channel, channel_to, part_at, change_channel, with_channel}
use Rattle.do_network.specs.Step.{NetStepped, net_lose, net_skipped, net_step, with_loss}
use Rattle.do_machine.proofs.FirstPlace.{found_map, none_map}
use Rattle.do_net.specs.Hosts.{Goes, HostLoses, Hosting, Rests, net_is_open, net_of, place_of}
use Rattle.do_net.specs.{Lanes.has_behind, Seen.{Seen, at_rest}}
use Rattle.do_net.proofs.FirstFound.{change_same, each_changed, each_found}
use Rattle.do_net.proofs.HandIsStep.{net_changed, of_port, skip_goes}

-- the network after an event that steps no node
abbrev stays : Net → NetStepped
stays N = record { net = N; outcome = record { enabled = true; shown = [] }; wires = [] }

-- what a loss comes to in a channel
abbrev on_channel : Net → ℕ → ℕ → ℕ → Option Channel → Option NetStepped
on_channel N from to after o = elim o [
  | None ↦ None
  | Some c ↦ if nat_lt (length c.waiting) after then None
      else Some (stays (change_place from (with_channel to (with_loss after)) N))
]

-- where the reader's end is open
abbrev on_reader : Net → ℕ → ℕ → ℕ → Option Part → Option NetStepped
on_reader N from to after o = elim o [
  | None ↦ None
  | Some p ↦ if not (is_open p.own.node from) then None
      else on_channel N from to after (channel N from to)
]

-- where it is, the channel decides
open_loses : (N : Net) (from to after : ℕ) (o : Option Part) → (elim o [
  | None ↦ false
  | Some p ↦ is_open p.own.node from
]) ≡ true → on_reader N from to after o ≡ on_channel N from to after (channel N from to)
open_loses N from to after None e = absurd (cc)
open_loses N from to after (Some p) e =
    ap (λ b. if not b then None else on_channel N from to after (channel N from to)) e

-- what a loss comes to in a channel, by whether so many stand in it
by_behind : (N : Net) (from to after : ℕ) (o : Option Channel) →
    on_channel N from to after o ≡ (if has_behind after o
    then Some (stays (change_place from (with_channel to (with_loss after)) N)) else None)
by_behind N from to after None = refl
by_behind N from to after (Some c) = go (nat_lt (length c.waiting) after)
  where
    go : (b : Bool) → (if b then None
        else Some (stays (change_place from (with_channel to (with_loss after)) N)))
        ≡ (if not b then Some (stays (change_place from (with_channel to (with_loss after)) N))
        else None)
    go true = refl
    go false = refl

-- where no site has the port of the sender nothing is lost
pub none_lost : (table : List Class) (act : Acting) (xs : List Hosting) (from to after : ℕ)
    (wires : List Wire) (outcome : Outcome) → net_is_open (net_of xs) to from ≡ true →
    find (of_port from) xs ≡ None → outcome ≡ record { enabled = false; shown = [] } →
    AllByRecursion (Rests table act) xs →
    Goes table act xs wires wires outcome (net_step table act (net_of xs) (Lose from to after))
    (Unit {0})
none_lost table act xs from to after wires outcome e none is_out rest =
    let N = net_of xs in
    let missing : channel N from to ≡ None = ap (option_and_then (channel_to to))
    (none_map (of_port from) place_of (λ v. from == v.port) (λ v. refl) xs none) in
    subst (λ s. Goes table act xs wires wires outcome s (Unit {0}))
    (sym (ap (λ o. unwrap_or o (net_skipped N))
    (open_loses N from to after (part_at N to) e ∙ ap (on_channel N from to after) missing)))
    (skip_goes table act xs wires outcome rest is_out tt)

-- the sites go on as the one does in a lane of which something is lost, or not
pub lost_goes : (table : List Class) (act : Acting) (xs ys : List Hosting) (x z : Hosting)
    (from to after : ℕ) (t : Bool) (wires : List Wire) (outcome : Outcome) →
    net_is_open (net_of xs) to from ≡ true → find (of_port from) xs ≡ Some x →
    HostLoses x z to after t → ys ≡ change_first (of_port from) (λ v. z) xs →
    outcome ≡ record { enabled = t; shown = [] } → AllByRecursion (Rests table act) xs →
    Goes table act ys wires wires outcome (net_step table act (net_of xs) (Lose from to after))
    (Unit {0})
lost_goes table act xs ys x z from to after t wires outcome e found lost is_ys is_out rest =
    let N = net_of xs in
    let place : channel N from to ≡ channel_to to (place_of x) =
    ap (option_and_then (channel_to to))
    (found_map (of_port from) place_of (λ v. from == v.port) (λ v. refl) xs x found) in
    let behind : has_behind after (channel N from to) ≡ t =
    ap (has_behind after) place ∙ sym lost.0 in
    let loses : net_lose N from to after ≡ (if t
    then Some (stays (change_place from (with_channel to (with_loss after)) N)) else None) =
    open_loses N from to after (part_at N to) e ∙ by_behind N from to after (channel N from to)
    ∙ ap (λ b. if b then Some (stays (change_place from (with_channel to (with_loss after)) N))
    else None) behind in
    subst (λ s. Goes table act ys wires wires outcome s (Unit {0}))
    (sym (ap (λ o. unwrap_or o (net_skipped N)) loses)) (go t lost.1 is_out)
  where
    go : (b : Bool) → z ≡ (if b then record x {
      channels = change_channel to (with_loss after) x.channels;
    } else x) → outcome ≡ record { enabled = b; shown = [] } →
        Goes table act ys wires wires outcome (unwrap_or (if b then Some (stays
        (change_place from (with_channel to (with_loss after)) (net_of xs))) else None)
        (net_skipped (net_of xs))) (Unit {0})
    go true is_z out =
        let site : z.site ≡ x.site = ap (λ (v : Hosting). v.site) is_z in
        let rests : Rests table act x =
        each_found (Rests table act) (of_port from) xs x rest found in
        record {
          rest = subst (AllByRecursion (Rests table act)) (sym is_ys)
              (each_changed (Rests table act) (of_port from) z xs rest
              (subst (λ (s : Seen). s ≡ at_rest table act s.part) (sym site) rests));
          net = ap net_of is_ys
              ∙ net_changed from (with_channel to (with_loss after)) xs x z found
              (ap place_of is_z);
          wires = sym (append-nil wires);
          outcome = out;
          spelled = tt;
        }
    go false is_z out =
        let same : ys ≡ xs = is_ys ∙ ap (λ w. change_first (of_port from) (λ v. w) xs) is_z
        ∙ change_same (of_port from) xs x found in
        subst (λ vs. Goes table act vs wires wires outcome (net_skipped (net_of xs)) (Unit {0}))
        (sym same)
        (skip_goes table act xs wires outcome rest out tt)
