-- What a network is once a site of it was handed an input.
use Rattle.do_network.specs.declared.input.Done.TheVariants as dones
use Rattle.std.proofs.Common.{◌≡◌, ◌==◌, ℕ, Bool, true, false, List, [], ◌∷◌, ◌++◌, cond, map, refl}
use Rattle.std.proofs.Common.{ap, sym, subst, ◌∙◌, Option, Some, None, arith, Result, Ok, Err}
use Rattle.std.specs.Prelude.{IfOk, OnOk, option_and_then, option_map, unwrap_or}
use Rattle.std.{specs.List.{find, AllByRecursion}, proofs.lemmas.List.append-nil}
use Rattle.do_class.specs.Class.{Class}
use Rattle.do_machine.specs.{Lists.change_first, State.is_open, run.Run.Acting, take.Take.can_take}
use Rattle.do_trace.specs.declared.outcome.Outcome.{Outcome}
use Rattle.do_network.specs.{declared.{input.{Done.Done, Input.Input}, wire.Wire.Wire}, Links.Part}
use Rattle.do_network.specs.Net.{Net, Place, change_place, part_at, with_channel}
use Rattle.do_network.specs.{Site.{Handled, enabled_input, passed, site_step}, Spelled.HandsSpelled}
use Rattle.do_network.specs.Step.{NetStepped, advanced, net_moved, net_skipped, place_after}
use Rattle.do_network.{specs.{Step.wire_of, laws.Sites.IsDone}, proofs.EnabledIsDone.enabled_done}
use Rattle.do_machine.proofs.FirstPlace.{found_map, found_passes, none_map}
use Rattle.do_net.specs.Hosts.{Goes, Hosting, Rests, hosting_after, net_handed, net_of, outcome_of}
use Rattle.do_net.specs.Hosts.{HasFetched, HostAdvances, NetAdvances, net_can_take, net_is_open}
use Rattle.do_net.specs.{Hosts.{oldest_to, place_of, was_enabled}, declared.lane.Kept.Kept}
use Rattle.do_net.specs.{Lanes.carried_of, Seen.{Seen, at_rest, site_handled}}
use Rattle.do_net.proofs.FirstFound.{change_map, each_changed, each_found, change_same}

-- a site is of a port
abbrev pub of_port : ℕ → Hosting → Bool
of_port port x = port == x.port

-- the part at a port is that of the site that is found there
pub part_found : (port : ℕ) (xs : List Hosting) (x : Hosting) → find (of_port port) xs ≡ Some x →
    part_at (net_of xs) port ≡ Some x.site.part
part_found port xs x e =
    ap (option_map (λ v. v.part))
    (found_map (of_port port) place_of (λ v. port == v.port) (λ v. refl) xs x e)

pub part_missing : (port : ℕ) (xs : List Hosting) → find (of_port port) xs ≡ None →
    part_at (net_of xs) port ≡ None
part_missing port xs e =
    ap (option_map (λ v. v.part))
    (none_map (of_port port) place_of (λ v. port == v.port) (λ v. refl) xs e)

-- a network of which one site changed
pub net_changed : (port : ℕ) (f : Place → Place) (xs : List Hosting) (x z : Hosting) →
    find (of_port port) xs ≡ Some x → place_of z ≡ f (place_of x) →
    net_of (change_first (of_port port) (λ v. z) xs) ≡ change_place port f (net_of xs)
net_changed port f xs x z e h =
    ap (λ ps. record { places = ps })
    (change_map (of_port port) place_of (λ v. port == v.port) (λ v. refl) f z xs x e h)

-- numbers that are equal by the test
equal : (a b : ℕ) → (a == b) ≡ true → a ≡ b
equal a b h = grind (arith, h)

-- what an input comes to at a site, enabled or not
abbrev pub net_stepped : ℕ → Net → Handled → NetStepped
net_stepped port N h = record {
  net = change_place port (place_after h) N;
  outcome = outcome_of h;
  wires = map (wire_of port) h.sent;
}

-- an input that was done was enabled
done_enabled : (d : Done) → IsDone d → was_enabled d ≡ true
done_enabled dones.Moved h = refl
done_enabled (dones.Closed peer fault) h = refl
done_enabled dones.Skipped h = absurd h

-- a place at which nothing was done stays
same_place : (port : ℕ) (ps : List Place) (p : Part) →
    option_map (λ v. v.part) (find (λ (v : Place). port == v.port) ps) ≡ Some p →
    change_first (λ v. port == v.port) (place_after (passed p)) ps ≡ ps
same_place port [] p e = refl
same_place port (x ∷ ps) p e =
    go (port == x.port) (same_place port ps p) e
  where
    go : (b : Bool) →
        (option_map (λ v. v.part) (find (λ (v : Place). port == v.port) ps) ≡ Some p →
        change_first (λ v. port == v.port) (place_after (passed p)) ps ≡ ps) →
        option_map (λ (v : Place). v.part)
        (cond b (Some x) (find (λ (v : Place). port == v.port) ps)) ≡ Some p →
        cond b (place_after (passed p) x ∷ ps)
        (x ∷ change_first (λ v. port == v.port) (place_after (passed p)) ps) ≡ x ∷ ps
    go true k h = let same : x.part ≡ p = cc in
        ap (λ (q : Part). record x { part = q } ∷ ps) (sym same)
    go false k h = ap (λ qs. x ∷ qs) (k h)

-- an input that is handed to the site of a port, where it has this part
pub handed_is : (table : List Class) (act : Acting) (N : Net) (port : ℕ) (p : Part)
    (input : Input) → part_at N port ≡ Some p →
    net_stepped port N (site_step table act p input) ≡ net_handed table act N port input
handed_is table act N port p input e =
    go (enabled_input table act p input) (enabled_done table act p input)
    ∙ sym (ap (λ (o : Option Part). unwrap_or (elim o [
      | None ↦ None
      | Some q ↦ option_map (net_moved port N) (enabled_input table act q input)
    ]) (net_skipped N)) e)
  where
    go : (found : Option Handled) → ((h : Handled) → found ≡ Some h → IsDone h.done) →
        net_stepped port N (unwrap_or found (passed p))
        ≡ unwrap_or (option_map (net_moved port N) found) (net_skipped N)
    go None done =
        ap (λ ps. record {
          net = record { places = ps };
          outcome = record { enabled = false; shown = [] };
          wires = [];
        }) (same_place port N.places p e)
    go (Some h) done =
        ap (λ b. record {
          net = change_place port (place_after h) N;
          outcome = record { enabled = b; shown = h.shown };
          wires = map (wire_of port) h.sent;
        }) (done_enabled h.done (done h refl))

-- where no site has the port nothing is done
pub handed_none : (table : List Class) (act : Acting) (N : Net) (port : ℕ) (input : Input) →
    part_at N port ≡ None → net_handed table act N port input ≡ net_skipped N
handed_none table act N port input e =
    ap (λ (o : Option Part). unwrap_or (elim o [
      | None ↦ None
      | Some q ↦ option_map (net_moved port N) (enabled_input table act q input)
    ]) (net_skipped N)) e

-- the sites go on where one of them was handed an input
pub hand_goes : (table : List Class) (act : Acting) (xs : List Hosting) (x z : Hosting)
    (ys : List Hosting) (port : ℕ) (input : Input) (before now : List Wire) (outcome : Outcome) →
    AllByRecursion (Rests table act) xs → find (of_port port) xs ≡ Some x →
    z ≡ hosting_after x (site_handled x.site input) →
    ys ≡ change_first (of_port port) (λ v. z) xs →
    now ≡ before ++ map (wire_of x.port) (site_handled x.site input).sent →
    outcome ≡ outcome_of (site_handled x.site input) →
    HandsSpelled table act (net_of xs) port input →
    Goes table act ys before now outcome (net_handed table act (net_of xs) port input)
    (HandsSpelled table act (net_of xs) port input)
hand_goes table act xs x z ys port input before now outcome rest found is_z is_ys is_now is_out
    sent =
    let rests : Rests table act x = each_found (Rests table act) (of_port port) xs x rest found in
    let p = x.site.part in
    let h = site_step table act p input in
    let same : site_handled x.site input ≡ h = ap (λ s. site_handled s input) rests in
    let there : part_at (net_of xs) port ≡ Some p = part_found port xs x found in
    let is_port : port ≡ x.port = equal port x.port (found_passes (of_port port) xs x found) in
    let after : z ≡ hosting_after x h = is_z ∙ ap (hosting_after x) same in
    let resting : z.site ≡ at_rest table act h.part =
    ap (λ (v : Hosting). v.site) after
    ∙ ap (λ (s : Seen). at_rest s.table s.act h.part) rests in
    let Spelled = HandsSpelled table act (net_of xs) port input in
    let goes : Goes table act ys before now outcome (net_stepped port (net_of xs) h) Spelled =
    record {
      rest = subst (AllByRecursion (Rests table act)) (sym is_ys)
          (each_changed (Rests table act) (of_port port) z xs rest
          (resting ∙ ap (at_rest table act) (sym (ap (λ (s : Seen). s.part) resting))));
      net = ap net_of is_ys
          ∙ net_changed port (place_after h) xs x z found (ap place_of after);
      wires = is_now ∙ ap (λ k. before ++ map (wire_of x.port) k.sent) same
          ∙ ap (λ k. before ++ map (wire_of k) h.sent) (sym is_port);
      outcome = is_out ∙ ap outcome_of same;
      spelled = sent;
    } in
    subst (λ s. Goes table act ys before now outcome s Spelled)
    (handed_is table act (net_of xs) port p input there) goes

-- the sites stay where nothing is done
pub skip_goes : {Spelled : Type 0} (table : List Class) (act : Acting) (xs : List Hosting)
    (wires : List Wire) (outcome : Outcome) → AllByRecursion (Rests table act) xs →
    outcome ≡ record { enabled = false; shown = [] } → Spelled →
    Goes table act xs wires wires outcome (net_skipped (net_of xs)) Spelled
skip_goes table act xs wires outcome rest is_out sent = record {
  rest = rest;
  net = refl;
  wires = sym (append-nil wires);
  outcome = is_out;
  spelled = sent;
}

-- and where no site has the port that is handed an input
pub none_goes : (table : List Class) (act : Acting) (xs : List Hosting) (port : ℕ)
    (input : Input) (wires : List Wire) (outcome : Outcome) → AllByRecursion (Rests table act) xs →
    find (of_port port) xs ≡ None → outcome ≡ record { enabled = false; shown = [] } →
    HandsSpelled table act (net_of xs) port input →
    Goes table act xs wires wires outcome (net_handed table act (net_of xs) port input)
    (HandsSpelled table act (net_of xs) port input)
none_goes table act xs port input wires outcome rest none is_out sent =
    subst (λ s. Goes table act xs wires wires outcome s
    (HandsSpelled table act (net_of xs) port input))
    (sym (handed_none table act (net_of xs) port input (part_missing port xs none)))
    (skip_goes table act xs wires outcome rest is_out sent)

-- what a site comes to that was handed an input, where memory did not run out
pub hand_result : {E : Type 0} (table : List Class) (act : Acting) (xs : List Hosting)
    (x z : Hosting) (ys : List Hosting) (port : ℕ) (input : Input) (before now : List Wire)
    (r : Result Outcome E) → AllByRecursion (Rests table act) xs → find (of_port port) xs ≡ Some x →
    ys ≡ change_first (of_port port) (λ v. z) xs →
    IfOk r (λ o. o ≡ outcome_of (site_handled x.site input)) →
    OnOk r (z ≡ hosting_after x (site_handled x.site input)) →
    OnOk r (now ≡ before ++ map (wire_of x.port) (site_handled x.site input).sent) →
    OnOk r (HandsSpelled table act (net_of xs) port input) →
    IfOk r (λ o. Goes table act ys before now o (net_handed table act (net_of xs) port input)
    (HandsSpelled table act (net_of xs) port input))
hand_result table act xs x z ys port input before now (Ok o) rest found is_ys is_o is_z is_now
    sent =
    hand_goes table act xs x z ys port input before now o rest found is_z is_ys is_now is_o sent
hand_result table act xs x z ys port input before now (Err e) rest found is_ys is_o is_z is_now
    sent =
    tt

-- whether a site can take is whether its node can
pub can_take_found : (xs : List Hosting) (x : Hosting) (port from : ℕ) →
    find (of_port port) xs ≡ Some x →
    can_take from x.site.part.own.node ≡ net_can_take (net_of xs) port from
can_take_found xs x port from e =
    sym (ap (λ (o : Option Part). elim o [
      | None ↦ false
      | Some p ↦ can_take from p.own.node
    ]) (part_found port xs x e))

pub can_take_none : (xs : List Hosting) (port from : ℕ) → find (of_port port) xs ≡ None →
    false ≡ net_can_take (net_of xs) port from
can_take_none xs port from e =
    sym (ap (λ (o : Option Part). elim o [
      | None ↦ false
      | Some p ↦ can_take from p.own.node
    ]) (part_missing port xs e))

-- and whether its end is open
pub is_open_found : (xs : List Hosting) (x : Hosting) (port peer : ℕ) →
    find (of_port port) xs ≡ Some x →
    is_open x.site.part.own.node peer ≡ net_is_open (net_of xs) port peer
is_open_found xs x port peer e =
    sym (ap (λ (o : Option Part). elim o [
      | None ↦ false
      | Some p ↦ is_open p.own.node peer
    ]) (part_found port xs x e))

pub is_open_none : (xs : List Hosting) (port peer : ℕ) → find (of_port port) xs ≡ None →
    false ≡ net_is_open (net_of xs) port peer
is_open_none xs port peer e =
    sym (ap (λ (o : Option Part). elim o [
      | None ↦ false
      | Some p ↦ is_open p.own.node peer
    ]) (part_missing port xs e))

-- the sites go on as one of them does of which the oldest is taken out of a lane
pub net_advances : (table : List Class) (act : Acting) (xs ys : List Hosting) (x z : Hosting)
    (from to : ℕ) (o : Option Kept) → AllByRecursion (Rests table act) xs →
    find (of_port from) xs ≡ Some x → HostAdvances x z to o →
    ys ≡ change_first (of_port from) (λ v. z) xs → NetAdvances table act xs ys from to o
net_advances table act xs ys x z from to None rest found a is_ys = (
  ap (option_and_then (oldest_to to))
      (found_map (of_port from) place_of (λ v. from == v.port) (λ v. refl) xs x found) ∙ a.0,
  is_ys ∙ ap (λ w. change_first (of_port from) (λ v. w) xs) a.1
      ∙ change_same (of_port from) xs x found,
)
net_advances table act xs ys x z from to (Some k) rest found a is_ys =
    let site : z.site ≡ x.site = ap (λ (v : Hosting). v.site) a.1 in
    let rests : Rests table act x = each_found (Rests table act) (of_port from) xs x rest found in (
      ap (option_and_then (oldest_to to))
          (found_map (of_port from) place_of (λ v. from == v.port) (λ v. refl) xs x found) ∙ a.0,
      (
        subst (AllByRecursion (Rests table act)) (sym is_ys)
            (each_changed (Rests table act) (of_port from) z xs rest
            (subst (λ (s : Seen). s ≡ at_rest table act s.part) (sym site) rests)),
        ap net_of is_ys
            ∙ net_changed from (with_channel to (advanced (carried_of k))) xs x z found
            (ap place_of a.1),
      ),
    )

-- where no site has the port nothing is taken out
pub net_missing : (table : List Class) (act : Acting) (xs : List Hosting) (from to : ℕ) →
    find (of_port from) xs ≡ None → NetAdvances table act xs xs from to None
net_missing table act xs from to none = (
  ap (option_and_then (oldest_to to))
      (none_map (of_port from) place_of (λ v. from == v.port) (λ v. refl) xs none),
  refl,
)

-- a site of which the oldest is taken out of a lane has nothing to fetch if it had nothing
pub advance_fetched : (xs ys : List Hosting) (x z : Hosting) (from to : ℕ) (o : Option Kept) →
    find (of_port from) xs ≡ Some x → HostAdvances x z to o →
    ys ≡ change_first (of_port from) (λ v. z) xs → AllByRecursion HasFetched xs →
    AllByRecursion HasFetched ys
advance_fetched xs ys x z from to o found a is_ys fetched =
    subst (AllByRecursion HasFetched) (sym is_ys)
    (each_changed HasFetched (of_port from) z xs fetched
    (subst (λ (s : Seen). (s.frames ≡ []) × (s.shown ≡ [])) (sym (same o a))
    (each_found HasFetched (of_port from) xs x fetched found)))
  where
    same : (o : Option Kept) → HostAdvances x z to o → z.site ≡ x.site
    same None b = ap (λ (v : Hosting). v.site) b.1
    same (Some k) b = ap (λ (v : Hosting). v.site) b.1
