-- A node and its invocations, for examples.
use Rattle.do_behave.specs.declared.invocation.Reason.TheVariants as reasons
use Rattle.do_behave.specs.declared.invocation.Waited.TheVariants as waiteds
use Rattle.std.{proofs.Common.{ℕ, List, [], ◌∷◌}, specs.Prelude.{None, Some, false, replicate}}
use Rattle.do_base.specs.declared.values.value.Value.TheVariants.{Nil}
use Rattle.do_class.specs.declared.ids.MethodId.{MethodId}
use Rattle.do_behave.specs.declared.invocation.{Invocation.Invocation, InvState.InvState}
use Rattle.do_behave.specs.declared.invocation.InvState.TheVariants.{Waits}
use Rattle.do_machine.specs.{declared.node.{LateCall.LateCall, Node.Node}, Context.Context}

-- the second method of the first class
abbrev pub method : MethodId
method = record { class = record { 0 = 0 }; index = 1 }

-- an invocation in a state, whose result goes to local 5 and whose out values go to these locals
abbrev pub invocation : List ℕ → InvState → Invocation
invocation outs state = record {
  object = record { node = 7001; serial = 1 };
  method = method;
  pc = 3;
  locals = replicate 16 Nil;
  handler = None;
  reason = reasons.Start;
  into = 5;
  outs = outs;
  state = state;
}

-- one that waits for a call of this number to 7002
abbrev pub waiting : ℕ → Invocation
waiting number =
    invocation [] (Waits (record { node = 7001; number = number }) 7002 (waiteds.Method method))

-- a call of a method to 7002 that was given up
abbrev pub late_call : ℕ → LateCall
late_call number = record { number = number; peer = 7002; what = waiteds.Method method }

-- a node with these invocations and late calls
abbrev pub node_with : List Invocation → List LateCall → Node
node_with stack late = record {
  port = 7001;
  heap = [];
  root = Some 1;
  stack = stack;
  next_serial = 2;
  next_call = 9;
  next_token = 1;
  open_to = 7002 ∷ 7003 ∷ [];
  held = [];
  lent = [];
  asked = [];
  late = late;
}

-- a step of such a node, by an empty table, where no peer has an entry
abbrev pub judged : Node → Context
judged n = record {
  table = [];
  around = record { class_of = λ o. None; entry = λ peer serial. false };
  node = n;
}
