-- What is sent in an event has a spelling, where what the sites sent has.
use Rattle.std.proofs.Common.{◌≡◌, ℕ, false, List, Option, Some, None, Result, Ok, Err, [], ap, sym}
use Rattle.std.{proofs.Common.{subst, ◌∙◌}, specs.Prelude.{OnOk, if◌then◌else◌, not}}
use Rattle.std.specs.{Prelude.{option_and_then, slice_get, unwrap_or}, List.{find, AllByRecursion}}
use Rattle.do_base.specs.declared.events.event.Event.TheVariants.{Take}
use Rattle.do_class.specs.Class.{Class}
use Rattle.do_machine.specs.{declared.item.Item.TheVariants.End, run.Run.Acting}
use Rattle.do_machine.specs.take.Take.{can_take, take_effect}
use Rattle.do_network.specs.{declared.input.Input.Input, Frames.read_frame}
use Rattle.do_network.specs.{Links.{Part, names_read}, Own.site_context, Net.{Carried, Lost, Net}}
use Rattle.do_network.specs.Net.{Whole, change_place, part_at, place_at, with_channel}
use Rattle.do_network.specs.Site.{enabled_input, moves, passed, site_step, takes}
use Rattle.do_network.specs.Spelled.{HandsSpelled, SendsSpelled, SentSpelled}
use Rattle.do_network.specs.Step.{advanced, input_of}
use Rattle.do_net.specs.{Hosts.{Hosting, Rests, net_can_take, net_of, oldest}, Seen.Seen}
use Rattle.do_net.{specs.Seen.site_handled, proofs.{FirstFound.each_found, HandIsStep.of_port}}
use Rattle.do_net.proofs.{HandIsStep.{part_found, part_missing}, TakeIsStep.{by_place, part_stays}}

-- what the site of a port sent for an input is what it sends where that is enabled
hands_spelled : (table : List Class) (act : Acting) (xs : List Hosting) (x : Hosting) (port : ℕ)
    (input : Input) → AllByRecursion (Rests table act) xs → find (of_port port) xs ≡ Some x →
    SentSpelled x.site.table (site_handled x.site input) →
    HandsSpelled table act (net_of xs) port input
hands_spelled table act xs x port input rest found sent p there h is =
    let rests : Rests table act x = each_found (Rests table act) (of_port port) xs x rest found in
    let place : part_at (net_of xs) port ≡ Some x.site.part = part_found port xs x found in
    let same : x.site.part ≡ p = cc in
    let done : site_handled x.site input ≡ h =
    ap (λ (s : Seen). site_handled s input) rests
    ∙ ap (λ q. site_step table act q input) same
    ∙ ap (λ o. unwrap_or o (passed p)) is in
    subst (λ classes. SentSpelled classes h) (ap (λ (s : Seen). s.table) rests)
    (subst (SentSpelled x.site.table) done sent)

-- so it is where memory did not run out
pub hand_spelled : {O E : Type 0} (table : List Class) (act : Acting) (xs : List Hosting)
    (x : Hosting) (port : ℕ) (input : Input) (r : Result O E) →
    AllByRecursion (Rests table act) xs → find (of_port port) xs ≡ Some x →
    OnOk r (SentSpelled x.site.table (site_handled x.site input)) →
    OnOk r (HandsSpelled table act (net_of xs) port input)
hand_spelled table act xs x port input (Ok o) rest found sent =
    hands_spelled table act xs x port input rest found sent
hand_spelled table act xs x port input (Err e) rest found sent = tt

-- where no site has the port none sends anything
pub none_spelled : (table : List Class) (act : Acting) (xs : List Hosting) (port : ℕ)
    (input : Input) → find (of_port port) xs ≡ None → HandsSpelled table act (net_of xs) port input
none_spelled table act xs port input none p there h is =
    let missing : part_at (net_of xs) port ≡ None = part_missing port xs none in
    absurd (cc)

-- what a take is handed is the oldest
pub taken_spelled : (table : List Class) (act : Acting) (N M : Net) (port from : ℕ) (x : Carried) →
    oldest N from port ≡ Some x → M ≡ change_place from (with_channel port (advanced x)) N →
    HandsSpelled table act M port (input_of from x) → SendsSpelled table act N (Take port from)
taken_spelled table act N M port from x old is_m sent c at y first =
    let place : slice_get c.waiting 0 ≡ oldest N from port =
    sym (ap (option_and_then (λ c. slice_get c.waiting 0)) at) ∙ by_place port (place_at N from) in
    let same : x ≡ y = cc in
    subst (λ z. HandsSpelled table act (change_place from (with_channel port (advanced z)) N) port
    (input_of from z)) same
    (subst (λ K. HandsSpelled table act K port (input_of from x)) is_m sent)

-- where nothing waits nothing is sent
pub empty_spelled : (table : List Class) (act : Acting) (N : Net) (port from : ℕ) →
    oldest N from port ≡ None → SendsSpelled table act N (Take port from)
empty_spelled table act N port from old c at y first =
    let place : slice_get c.waiting 0 ≡ oldest N from port =
    sym (ap (option_and_then (λ c. slice_get c.waiting 0)) at) ∙ by_place port (place_at N from) in
    absurd (cc)

-- no input that takes what stands in a channel is enabled where the node cannot take
none_taking : (table : List Class) (act : Acting) (p : Part) (from : ℕ) (x : Carried) →
    can_take from p.own.node ≡ false → enabled_input table act p (input_of from x) ≡ None
none_taking table act p from (Whole f) cannot =
    ap (λ b. if not b then None else Some (takes table p from
    (read_frame table from p.own.node.port (names_read p from) f))) cannot
none_taking table act p from Lost cannot =
    ap (λ b. if not b then None
    else Some (moves p (take_effect (site_context table p.own) from (End [])))) cannot

-- so nothing is sent there
pub cannot_spelled : (table : List Class) (act : Acting) (N : Net) (port from : ℕ) →
    net_can_take N port from ≡ false → SendsSpelled table act N (Take port from)
cannot_spelled table act N port from cannot c at x first p there h is =
    let place : part_at N port ≡ Some p =
    sym (part_stays from port port (advanced x) N.places) ∙ there in
    let not_can : can_take from p.own.node ≡ false =
    sym (ap (λ (o : Option Part). elim o [
      | None ↦ false
      | Some q ↦ can_take from q.own.node
    ]) place) ∙ cannot in
    let none : enabled_input table act p (input_of from x) ≡ None =
    none_taking table act p from x not_can in
    absurd (cc)
