-- What a plan keeps of its node.
use Rattle.do_machine.specs.declared.verdict.Request.TheVariants as requests
use Rattle.do_rules.specs.declared.run.delivery.Delivery.TheVariants as deliveries
use Rattle.std.proofs.Common.{◌≡◌, ◌≤◌, false, List, [], ◌∷◌, refl, ap, length, arith, sym, ◌∙◌}
use Rattle.std.specs.Prelude.{Err, IfOk, Ok, OnOk, Result, Some, slice_get, vec_capacity}
use Rattle.do_class.specs.Class.{Class}
use Rattle.do_behave.specs.declared.invocation.Invocation.{Invocation}
use Rattle.do_machine.specs.{declared.node.Node.Node, Context.{Context, RunContext}, State.is_open}
use Rattle.do_network.specs.Own.{Own, site_context}
use Rattle.do_effects.specs.{Bounded.IsBounded, Plans.{IsRun, IsRunning, plan_effect}}
use Rattle.do_effects.specs.{Room.{HasRoom, Needs as Wants}, declared.changing.Core.Core}
use Rattle.do_effects.specs.declared.plan.Plan.{Plan, TheVariants.{Asks, Begins, Delivers, Goes}}
use Rattle.do_effects.specs.declared.plan.Plan.TheVariants.{Makes, Says, Tells, Uses, Vends}
use Rattle.do_site.specs.Plans.{IsEnough, IsTurnOf}
use Rattle.do_site.specs.{Room.{HasPlaceFor, HasPlaceToLeave, HasPlace, needed}, Running.IsRunOf}
use Rattle.do_site.specs.declared.{needs.Needs.Needs, told.Told.Told}

-- a node keeps the ends and the port of another
pub record KeepsEnds (n m : Node) : Type 0 where
  pub ends : m.open_to ≡ n.open_to
  pub port : m.port ≡ n.port

-- so does a plan
plan_keeps : (r : RunContext) (plan : Plan) → KeepsEnds r.context.node (plan_effect r plan).node
plan_keeps r (Goes into value pc) = record { ends = refl; port = refl }
plan_keeps r (Uses value outs) = record { ends = refl; port = refl }
plan_keeps r (Makes class slots into pc) = record { ends = refl; port = refl }
plan_keeps r (Vends root pc) = record { ends = refl; port = refl }
plan_keeps r (Says value pc) = record { ends = refl; port = refl }
plan_keeps r (Asks peer requests.Root into outs pc) = record { ends = refl; port = refl }
plan_keeps r (Asks peer (requests.Call method m) into outs pc) = record { ends = refl; port = refl }
plan_keeps r (Begins i into outs pc) = record { ends = refl; port = refl }
plan_keeps r (Tells peer m into pc) = record { ends = refl; port = refl }
plan_keeps r (Delivers (deliveries.Shows line)) = record { ends = refl; port = refl }
plan_keeps r (Delivers (deliveries.Answers a)) = record { ends = refl; port = refl }
plan_keeps r (Delivers (deliveries.Replies peer number packet)) =
    record { ends = refl; port = refl }
plan_keeps r (Delivers (deliveries.Raises peer number e)) = record { ends = refl; port = refl }
plan_keeps r (Delivers deliveries.Drops) = record { ends = refl; port = refl }

-- a node with no end towards itself has none then
pub plan_apart : (r : RunContext) (plan : Plan) (n : Node) → r.context.node ≡ n →
    is_open n n.port ≡ false →
    is_open (plan_effect r plan).node (plan_effect r plan).node.port ≡ false
plan_apart r plan n is apart =
    let k = plan_keeps r plan in
    (λ j. is_open (record (plan_effect r plan).node { open_to = k.ends j }) (k.port j))
    ∙ (λ j. is_open (is j) (is j).port)
    ∙ apart

-- there is a run of a top invocation that runs
pub run_of : (table : List Class) (p : Own) → IsRunning p.node.stack →
    (r : RunContext) × IsRunOf table p r
run_of table p runs = go p.node.stack refl runs
  where
    go : (stack : List Invocation) → p.node.stack ≡ stack → IsRunning stack →
        (r : RunContext) × IsRunOf table p r
    go [] e h = absurd h
    go (top ∷ below) e h = (
      record { context = site_context table p; top = top; below = below },
      record { context = refl; stack = e },
    )

-- it is a run of what the node is, whose own state is the same
pub is_run : (table : List Class) (p q : Own) (r : RunContext) → q ≡ p → IsRunOf table p r →
    IsRun q.node r
is_run table p q r same run = record {
  node = ap (λ (c : Context). c.node) run.context ∙ ap (λ (x : Own). x.node) (sym same);
  stack = ap (λ (x : Own). x.node.stack) same ∙ run.stack;
}

-- there is room where there is more
pub enough_room : (wants : Wants) (needs : Needs) (c : Core) → IsEnough wants needs →
    HasRoom (needed needs) c → HasRoom wants c
enough_room wants needs c e r = record {
  part = record {
    objects = (let a = e.objects in let b = r.part.objects in omega (arith, a, b));
    invocations = (let a = e.invocations in let b = r.part.invocations in omega (arith, a, b));
    names = (let a = e.names in let b = r.part.names in omega (arith, a, b));
    entries = (let a = e.entries in let b = r.part.entries in omega (arith, a, b));
  };
  waiting = (let a = e.waiting in let b = r.waiting in omega (arith, a, b));
}

-- so there is a place for as much
pub enough_place : (wants : Wants) (needs : Needs) (c : Core) (t : Told) →
    IsEnough wants needs → HasPlace needs c t → HasPlaceFor wants c t
enough_place wants needs c t e p =
    let eo = e.objects in
    let ee = e.entries in
    let ew = e.waiting in
    let pf = p.freed in
    let pl = p.left in
    let ps = p.settled in
    let pw = p.waiting in
    record {
      room = enough_room wants needs c e p.room;
      freed = omega (arith, eo, pf);
      left = omega (arith, ee, pl);
      settled = omega (arith, ee, ps);
      waiting = omega (arith, eo, ee, ew, pw);
    }

-- where a place was made, there is one to leave what is then stored and held
pub place_left : (wants : Wants) (before after : Core) (t u : Told) →
    HasPlaceFor wants before t → IsBounded wants before after →
    vec_capacity u.freed ≡ vec_capacity t.freed → vec_capacity u.left ≡ vec_capacity t.left →
    vec_capacity u.settled ≡ vec_capacity t.settled →
    length after.part.own.node.open_to ≤ 64 → after.streams.room ≤ after.streams.bare →
    HasPlaceToLeave after u
place_left wants before after t u p b freed left settled few most =
    let bs = b.stored in
    let bh = b.held in
    let ba = b.asked in
    let bw = b.waiting in
    let pf = p.freed in
    let pl = p.left in
    let ps = p.settled in
    let pw = p.waiting in
    record {
      places = record {
        freed = omega (arith, bs, pf, freed);
        left = omega (arith, bh, pl, left);
        settled = omega (arith, ba, ps, settled);
        places = omega (arith, bs, bh, ba, bw, pw, few, most);
      };
      waiting = omega (arith, bs, bh, bw, pw);
    }

-- it is the turn of the top invocation
pub turn_of : (table tables : List Class) (p q : Own) (top : Invocation) (r : RunContext) →
    tables ≡ table → q ≡ p → slice_get p.node.stack 0 ≡ Some top → IsRunOf table p r →
    IsTurnOf r (site_context tables q) top
turn_of table tables p q top r same also first run =
    let one : Some r.top ≡ Some top
    = sym (ap (λ (stack : List Invocation). slice_get stack 0) run.stack) ∙ first in
    record {
      context = run.context ∙ (λ j. site_context (sym same j) (sym also j));
      acts = cc;
    }

-- what follows of a value holds where a call gave one
pub if_ok : {A E : Type 0} {P Q : A → Type 0} (r : Result A E) → ((x : A) → P x → Q x) →
    IfOk r P → IfOk r Q
if_ok (Ok x) f p = f x p
if_ok (Err e) f p = tt

-- so of what a call did
pub on_ok : {A E : Type 0} {P Q : Type 0} (r : Result A E) → (P → Q) → OnOk r P → OnOk r Q
on_ok (Ok x) f p = f p
on_ok (Err e) f p = tt
