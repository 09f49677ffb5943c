-- One run of a node more.
use Rattle.do_base.specs.declared.events.event.Event.TheVariants as events
use Rattle.std.proofs.Common.{◌≡◌, ℕ, zero, suc, ◌+◌, ◌||◌, ◌++◌, List, [], false, ap, refl, ◌∙◌}
use Rattle.std.proofs.{Common.{sym, subst, arith, append_assoc}, lemmas.List.append-nil}
use Rattle.std.specs.Prelude.{replicate}
use Rattle.do_base.specs.declared.events.event.Event.{Event}
use Rattle.do_class.specs.Class.{Class}
use Rattle.do_machine.specs.run.Run.{Acting}
use Rattle.do_network.specs.{declared.wire.Wire.Wire, Net.Net}
use Rattle.do_network.specs.Step.{NetStepped, net_skipped, net_step}
use Rattle.do_trace.specs.declared.outcome.Outcome.{Outcome}
use Rattle.do_network.specs.{Spelled.SendsSpelled, Wired.{net_followed, net_steps}}
use Rattle.do_agreement.specs.Along.{EventsSendSpelled}

-- one run of a node, behind what was done before
abbrev pub and_a_run : List Class → Acting → ℕ → NetStepped → NetStepped
and_a_run table act port s = net_followed s (net_step table act s.net (events.Run port))

-- so many runs of a node, behind what was done before
abbrev pub runs : List Class → Acting → ℕ → ℕ → NetStepped → NetStepped
runs table act port count s = net_steps table act (replicate count (events.Run port)) s

-- one run more stands behind the others
one_more : (table : List Class) (act : Acting) (port count : ℕ) (s : NetStepped) →
    runs table act port (suc count) s ≡ and_a_run table act port (runs table act port count s)
one_more table act port zero s = refl
one_more table act port (suc count) s = one_more table act port count (and_a_run table act port s)

-- so many runs of a node one after another send frames with a spelling
abbrev pub RunsSendSpelled : List Class → Acting → ℕ → ℕ → Net → Type 0
RunsSendSpelled table act port count N =
    EventsSendSpelled table act N (replicate count (events.Run port))

-- and so does one run more
spelled_more : (table : List Class) (act : Acting) (port count : ℕ) (s : NetStepped) →
    RunsSendSpelled table act port count s.net →
    SendsSpelled table act (runs table act port count s).net (events.Run port) →
    RunsSendSpelled table act port (suc count) s.net
spelled_more table act port zero s before last = (last, tt)
spelled_more table act port (suc count) s before last =
    (before.0, spelled_more table act port count (and_a_run table act port s) before.1 last)

-- a network that so many runs of a node led to, with what they came to and what was sent since
pub record HasRun (table : List Class) (act : Acting) (port done : ℕ) (N : Net)
    (before : List Wire) (M : Net) (all : Outcome) (now : List Wire) : Type 0 where
  pub net : M ≡ (runs table act port done (net_skipped N)).net
  pub told : all ≡ (runs table act port done (net_skipped N)).outcome
  pub wires : now ≡ before ++ (runs table act port done (net_skipped N)).wires
  pub spelled : RunsSendSpelled table act port done N

-- before the first run
pub run_first : (table : List Class) (act : Acting) (port : ℕ) (N : Net) (wires : List Wire) →
    HasRun table act port 0 N wires N (record { enabled = false; shown = [] }) wires
run_first table act port N wires =
    record { net = refl; told = refl; wires = sym (append-nil wires); spelled = tt }

-- and after one run more
pub run_more : (table t : List Class) (act a : Acting) (port done : ℕ) (N M K : Net)
    (event : Event) (all came joined : Outcome) (first before now : List Wire) →
    t ≡ table → a ≡ act → event ≡ events.Run port →
    HasRun table act port done N first M all before →
    came ≡ (net_step t a M event).outcome → K ≡ (net_step t a M event).net →
    now ≡ before ++ (net_step t a M event).wires → SendsSpelled t a M event →
    joined ≡ record { enabled = all.enabled || came.enabled; shown = all.shown ++ came.shown } →
    HasRun table act port (done + 1) N first K joined now
run_more table t act a port done N M K event all came joined first before now is_t is_a is_run
    so_far came_is K_is now_is sends joined_is =
    let s = runs table act port done (net_skipped N) in
    let d = net_step table act s.net (events.Run port) in
    let after : done + 1 ≡ suc done = omega arith in
    let here : SendsSpelled table act s.net (events.Run port) =
    subst (λ N. SendsSpelled table act N (events.Run port)) so_far.net
    (subst (λ e. SendsSpelled table act M e) is_run
    (subst (λ v. SendsSpelled table v M event) is_a
    (subst (λ v. SendsSpelled v a M event) is_t sends))) in
    let stepped : net_step t a M event ≡ d =
    ap (λ v. net_step v a M event) is_t ∙ ap (λ v. net_step table v M event) is_a
    ∙ ap (λ v. net_step table act M v) is_run
    ∙ ap (λ v. net_step table act v (events.Run port)) so_far.net in
    let next : runs table act port (done + 1) (net_skipped N) ≡ net_followed s d =
    ap (λ n. runs table act port n (net_skipped N)) after
    ∙ one_more table act port done (net_skipped N) in
    record {
      net = K_is ∙ ap (λ (x : NetStepped). x.net) stepped
          ∙ sym (ap (λ (x : NetStepped). x.net) next);
      told = joined_is
          ∙ ap (λ (o : Outcome). record {
            enabled = o.enabled || came.enabled;
            shown = o.shown ++ came.shown;
          }) so_far.told
          ∙ ap (λ (o : Outcome). record {
            enabled = s.outcome.enabled || o.enabled;
            shown = s.outcome.shown ++ o.shown;
          }) (came_is ∙ ap (λ (x : NetStepped). x.outcome) stepped)
          ∙ sym (ap (λ (x : NetStepped). x.outcome) next);
      wires = now_is ∙ ap (λ ws. ws ++ (net_step t a M event).wires) so_far.wires
          ∙ ap (λ (x : NetStepped). (first ++ s.wires) ++ x.wires) stepped
          ∙ append_assoc first s.wires d.wires
          ∙ sym (ap (λ (x : NetStepped). first ++ x.wires) next);
      spelled = subst (λ n. RunsSendSpelled table act port n N) (sym after)
          (spelled_more table act port done (net_skipped N) so_far.spelled here);
    }

pub ruleset run_steps = (run_first)
