-- A node with one change has only what a message can carry.
use Rattle.std.{proofs.Common.{◌≤◌, ◌∙◌, ℕ, List, ◌∷◌, subst}, specs.List.AllByRecursion}
use Rattle.do_base.specs.declared.values.value.Value.{Value}
use Rattle.do_behave.specs.declared.invocation.{Invocation.Invocation, InvState.InvState}
use Rattle.do_machine.specs.declared.{node.Node.Node, verdict.Verdict.Verdict}
use Rattle.do_machine.specs.{Objects.{joined, object_at}, run.Changes.{goes_on, goes_to, stands}}
use Rattle.do_facts.specs.nodes.{After.{closed, with_held, turned}, Judged.{Judge, Judged}}
use Rattle.do_facts.specs.nodes.Moves.{Top}
use Rattle.do_limits.specs.Sendable.{IsSendable}
use Rattle.do_limits.specs.SendableStates.{HasSendableAnswer, InvocationIsSendable, NodeIsSendable}
use Rattle.do_limits.proofs.{Effects.{holding_more, joins}, runs.Invocations.went_on}
use Rattle.do_limits.proofs.takes.Ends.{parts}

module _ (j : Judge) where
  -- a node has such values
  abbrev pub Keeps : Node → Type 0
  Keeps n = NodeIsSendable j.table j.first.port n

  module _ (n : Node) (h : Keeps n) where
    -- a node with other invocations
    pub restacked : (stack : List Invocation) → AllByRecursion InvocationIsSendable stack →
        Keeps (record n { stack = stack })
    restacked stack k = record { heap = h.heap; stack = k; numbers = h.numbers }

    -- the invocations, where a verdict was given
    pub stack_ok : {v : Verdict} {t : Top} → Judged j v t n →
        AllByRecursion InvocationIsSendable (t.top ∷ t.below)
    stack_ok d = subst (AllByRecursion InvocationIsSendable) (d.since.stack ∙ d.stack) h.stack

    -- the top one goes on with a value in a local
    pub goes : {v : Verdict} {t : Top} → Judged j v t n → (into : ℕ) (value : Value) (pc : ℕ) →
        IsSendable value → Keeps (turned t (goes_on into value pc t.top) n)
    goes {v} {t} d into value pc k =
        let was = stack_ok d in
        restacked (goes_on into value pc t.top ∷ t.below)
        (went_on into value pc t.top k was.0, was.1)

    -- it waits
    pub stands_so : {v : Verdict} {t : Top} → Judged j v t n → (pc into : ℕ) (outs : List ℕ)
        (state : InvState) → HasSendableAnswer state →
        Keeps (turned t (stands pc into outs state t.top) n)
    stands_so {v} {t} d pc into outs state k =
        let was = stack_ok d in
        restacked (stands pc into outs state t.top ∷ t.below)
        (record { locals = was.0.locals; sixteen = was.0.sixteen; answer = k }, was.1)

    -- it goes on as it is
    pub goes_on_so : {v : Verdict} {t : Top} → Judged j v t n → (pc : ℕ) →
        Keeps (turned t (goes_to pc t.top) n)
    goes_on_so {v} {t} d pc =
        let was = stack_ok d in
        restacked (goes_to pc t.top ∷ t.below)
        (record { locals = was.0.locals; sixteen = was.0.sixteen; answer = was.0.answer }, was.1)

    -- a node without the end of a peer
    pub closes_so : (peer : ℕ) → Keeps (closed peer n)
    closes_so peer =
        let k = parts peer n h in record {
          heap = k.heap;
          stack = k.stack;
          numbers = (
            k.numbers.0,
            (
              k.numbers.1.0,
              (k.numbers.1.1.0, (k.numbers.1.1.1.0, h.numbers.1.1.1.1)),
            ),
          );
        }

    -- a node that holds one object more
    pub holds_so : (from serial : ℕ) → 1 ≤ serial → Keeps (with_held (object_at from serial) n)
    holds_so from serial one = record {
      heap = h.heap;
      stack = h.stack;
      numbers = holding_more j.first.port n h.numbers (joined n.held (object_at from serial))
          (joins (object_at from serial) n.held one h.numbers.1.1.1.0);
    }
