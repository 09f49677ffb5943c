-- What a run, a start and a time-out send and show tells of selectors of the table alone.
use Rattle.do_base.specs.declared.events.shown.Shown.TheVariants as shown
use Rattle.do_base.specs.declared.events.shown.Took.TheVariants as took
use Rattle.do_behave.specs.declared.act.Act.TheVariants as acts
use Rattle.do_machine.specs.declared.item.Item.TheVariants as items
use Rattle.do_machine.specs.declared.verdict.Request.TheVariants as requests
use Rattle.std.proofs.Common.{◌==◌, ℕ, Bool, not, List, [], ◌∷◌, filter, map}
use Rattle.std.specs.Prelude.{IsTrue, None, Option, Some, option_map}
use Rattle.std.specs.List.{AllByRecursion, list_any}
use Rattle.do_base.specs.{declared.events.shown.{Shown.Shown, Took.Took}, names.Names.ObjectName}
use Rattle.do_behave.specs.declared.{act.Act.Act, invocation.Answer.Answer}
use Rattle.do_behave.specs.declared.invocation.Answer.TheVariants.{Given, Raised}
use Rattle.do_behave.specs.declared.invocation.InvState.{InvState, TheVariants.{Answered, Running}}
use Rattle.do_behave.specs.declared.invocation.Invocation.{Invocation}
use Rattle.do_class.specs.Table.{IsTable}
use Rattle.do_grammar.specs.Names.{is_selector}
use Rattle.do_packet.specs.Met.{has_object}
use Rattle.do_machine.specs.declared.{item.Item.Item, node.{Node.Node, Stored.Stored}}
use Rattle.do_machine.specs.declared.{state.Effect.Effect, verdict.Request.Request}
use Rattle.do_machine.specs.declared.verdict.{SendAct.SendAct, Verdict.Verdict}
use Rattle.do_machine.specs.declared.verdict.Verdict.TheVariants.{Asks, Begins, Fails, Goes, Makes}
use Rattle.do_machine.specs.declared.verdict.Verdict.TheVariants.{Returns, Says, Steps, Tells, Uses}
use Rattle.do_machine.specs.declared.verdict.Verdict.TheVariants.{Vends}
use Rattle.do_machine.specs.Context.{Context, RunContext, class_seen}
use Rattle.do_machine.specs.{Effect.{each, only, queueing, showing, ◌>>=◌}, State.own}
use Rattle.do_machine.specs.held.{Kept.kept, Leaving.{dropping, freeing, leaving, left}}
use Rattle.do_machine.specs.{held.Refers.node_objects, run.{Acts.act_rule, Answers.answer_line}}
use Rattle.do_machine.specs.run.Run.{Acting, next_act, run_effect, run_on, state_rule}
use Rattle.do_machine.specs.run.Verdicts.{effect_of, requesting}
use Rattle.do_facts.proofs.{Deliveries.{Delivers, by_delivery, by_failing}, EachOfLists.each_joined}
use Rattle.do_facts.proofs.RulesOfActs.{by_return, by_root, by_send, by_vend}
use Rattle.do_plain.proofs.Selectors.{selected}

-- a message on its way is to a selector
abbrev pub ItemSelects : Item → Type 0
ItemSelects (items.Call number m) = IsTrue (is_selector m.selector)
ItemSelects (items.Oneway m) = IsTrue (is_selector m.selector)
ItemSelects _ = Unit {0}

-- so is one that was taken
abbrev pub TookSelects : Took → Type 0
TookSelects (took.Call selector) = IsTrue (is_selector selector)
TookSelects (took.Oneway selector) = IsTrue (is_selector selector)
TookSelects _ = Unit {0}

-- what is shown tells of such messages alone
abbrev pub ShownSelects : Shown → Type 0
ShownSelects (shown.Took t) = TookSelects t
ShownSelects _ = Unit {0}

-- What an effect shows and sends does
pub record Selects (e : Effect) : Type 0 where
  pub shown : AllByRecursion ShownSelects e.shown
  pub sent : AllByRecursion (λ p. ItemSelects p.item) e.sent

-- ---- small effects

-- the node alone changes
pub alone : (n : Node) → Selects (only n)
alone n = record { shown = tt; sent = tt }

-- an item is queued
pub queues : (to : ℕ) (item : Item) (n : Node) → ItemSelects item → Selects (queueing to item n)
queues to item n h = record { shown = tt; sent = (h, tt) }

-- something is shown
pub shows : (s : Shown) (n : Node) → ShownSelects s → Selects (showing s n)
shows s n h = record { shown = (h, tt); sent = tt }

-- one effect after another
pub then_selects : (e : Effect) (next : Node → Effect) → Selects e →
    ((n : Node) → Selects (next n)) → Selects (e >>= next)
then_selects e next h k =
    let d = k e.node in
    record {
      shown = each_joined ShownSelects e.shown (next e.node).shown h.shown d.shown;
      sent = each_joined (λ p. ItemSelects p.item) e.sent (next e.node).sent h.sent d.sent;
    }

-- an effect for each element of a list
pub each_selects : {X : Type 0} (f : X → Node → Effect) → ((x : X) (n : Node) → Selects (f x n)) →
    (xs : List X) (n : Node) → Selects (each f xs n)
each_selects f k [] n = alone n
each_selects f k (x ∷ xs) n =
    then_selects (f x n) (each f xs) (k x n) (λ m. each_selects f k xs m)

-- ---- what follows each step

-- what a node frees and leaves
pub leaving_selects : (entry : ℕ → ℕ → Bool) (n : Node) → Selects (leaving entry n)
leaving_selects entry n =
    then_selects (freeing (kept entry n) n) (λ m. dropping (node_objects m) m)
    (record {
      shown = frees (λ x. own n x.serial)
          (filter (λ x. not (list_any (λ y. y.serial == x.serial) (kept entry n))) n.heap);
      sent = tt;
    })
    (λ m. record {
      shown = tt;
      sent = lefts (filter (λ o. not (has_object (node_objects m) o)) m.held);
    })
  where
    frees : (name : Stored → ObjectName) (xs : List Stored) →
        AllByRecursion ShownSelects (map (λ x. shown.Free (name x)) xs)
    frees name [] = tt
    frees name (x ∷ xs) = (tt, frees name xs)

    lefts : (os : List ObjectName) →
        AllByRecursion (λ p. ItemSelects p.item) (map left os)
    lefts [] = tt
    lefts (o ∷ os) = (tt, lefts os)

-- ---- runs

-- a request to a peer has such a message, or none
abbrev RequestSelects : Request → Type 0
RequestSelects requests.Root = Unit {0}
RequestSelects (requests.Call method m) = IsTrue (is_selector m.selector)

-- so has a verdict
abbrev VerdictSelects : Verdict → Type 0
VerdictSelects (Asks peer request into outs pc) = RequestSelects request
VerdictSelects (Tells peer m into pc) = IsTrue (is_selector m.selector)
VerdictSelects _ = Unit {0}

module _ (r : RunContext) where
  -- what a request sends
  requests_select : (peer number : ℕ) (request : Request) (n : Node) → RequestSelects request →
      Selects (requesting peer number request n)
  requests_select peer number requests.Root n h = record { shown = tt; sent = (tt, tt) }
  requests_select peer number (requests.Call method m) n h =
      record { shown = tt; sent = (h, tt) }

  -- an answer is shown as what it is
  line_selects : (a : Answer) → ShownSelects (answer_line a)
  line_selects (Given v outs) = tt
  line_selects (Raised e) = tt

  -- whatever may come of an answer
  delivers : Delivers (λ reason e. Selects e) r
  delivers = record {
    shown = λ a. shows (answer_line a) _ (line_selects a);
    below = λ a. alone _;
    unheard = λ peer. alone _;
    told = λ peer e. shows (shown.Raise e) _ tt;
    dropped = λ peer number closed. alone _;
    raised = λ peer number e ends. queues peer (items.Raised number e) _ tt;
    replied = λ peer number v outs packet ends packed. record { shown = tt; sent = (tt, tt) };
    caught = λ e h. alone _;
  }

  -- the effect of each verdict
  effects : (v : Verdict) → VerdictSelects v → Selects (effect_of r v)
  effects (Goes into value pc) h = alone _
  effects (Uses result outs) h = alone _
  effects (Steps pc locals handler writes) h = alone _
  effects (Makes class into pc) h = alone _
  effects (Vends root pc) h = alone _
  effects (Says value pc) h = shows (shown.Say value) _ tt
  effects (Asks peer request into outs pc) h =
      requests_select peer r.context.node.next_call request _ h
  effects (Begins o method values into outs pc) h = alone _
  effects (Tells peer m into pc) h = record { shown = tt; sent = (h, tt) }
  effects (Returns result outs) h =
      by_delivery (λ reason e. Selects e) r delivers (Given result outs) r.top.reason
  effects (Fails e) h = by_failing (λ reason e. Selects e) r delivers e r.top.handler

  module _ (ok : IsTable r.context.table) where
    -- what becomes of each act
    act_selects : (a : Act) → VerdictSelects (act_rule r a)
    act_selects (acts.Step pc locals handler writes) = tt
    act_selects (acts.New class into pc) = tt
    act_selects (acts.Send target selector args into from pc) =
        let x : SendAct = record {
          target = target;
          selector = selector;
          args = args;
          into = into;
          from = from;
          pc = pc;
        } in
        by_send VerdictSelects r (λ e q. tt) x (record {
          goes = tt;
          begins = λ o m is own. tt;
          tells = λ o m packet to.
              selected r.context.table ok (class_seen r.context o) selector m to.sent.method;
          asks = λ o m packet to.
              selected r.context.table ok (class_seen r.context o) selector m to.sent.method;
        })
    act_selects (acts.Root port into pc) =
        by_root VerdictSelects r (λ e q. tt) port into pc tt (λ p ends. tt)
    act_selects (acts.Vend value pc) = by_vend VerdictSelects r (λ e q. tt) value pc (λ root. tt)
    act_selects (acts.Say value pc) = tt
    act_selects (acts.Return value) =
        by_return VerdictSelects r (λ e q. tt) value (λ s. tt) (λ s. tt)
    act_selects (acts.Raise e) = tt

-- an effect, where there is one
abbrev pub IfSelects : Option Effect → Type 0
IfSelects None = Unit {0}
IfSelects (Some e) = Selects e

-- a run
pub run_selects : (act : Acting) (c : Context) → IsTable c.table → IfSelects (run_effect act c)
run_selects act c ok = on c.node.stack
  where
    by : (r : RunContext) → IsTable r.context.table → (state : InvState) →
        IfSelects (option_map (effect_of r) (state_rule act r state))
    by r ok Running = effects r (act_rule r (next_act act r)) (act_selects r ok (next_act act r))
    by r ok (Answered (Given v outs)) = effects r (Uses v outs) tt
    by r ok (Answered (Raised e)) = effects r (Fails e) tt
    by r ok _ = tt

    on : (stack : List Invocation) → IfSelects (run_on act c stack)
    on [] = tt
    on (i ∷ is) = by (record { context = c; top = i; below = is }) ok i.state
