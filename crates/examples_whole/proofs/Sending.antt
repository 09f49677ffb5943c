-- What becomes of a message that is sent, and of a root that is asked for.
use Rattle.std.proofs.Common.{◌≡◌, ℕ, List, [], ◌∷◌, pos, negsuc, Some, None, refl}
use Rattle.std.specs.Prelude.{codes}
use Rattle.do_base.specs.declared.values.value.Value.{Value, TheVariants.{Nil, Num, Obj}}
use Rattle.do_base.specs.declared.events.exception.Exc.TheVariants.{ConnectionDied, NotUnderstood}
use Rattle.do_base.specs.declared.events.exception.Exc.TheVariants.{NotVended, TypeFault}
use Rattle.do_machine.specs.declared.{node.Node.Node, verdict.SendAct.SendAct}
use Rattle.do_machine.specs.{declared.verdict.Verdict.TheVariants.{Fails, Goes}, Context.RunContext}
use Rattle.do_machine.specs.{Context.context, run.{Acts.{port_of, root_rule}, Send.send_rule}}
use Rattle.do_world.specs.Counter.{counter_classes}
use Rattle.examples_whole.proofs.Counters.{a_text, at_first, client, client_object, closed}
use Rattle.examples_whole.proofs.Counters.{counter_object, five, going, holder, rootless}

-- a run of the client's method at a node
abbrev run_at : Node → RunContext
run_at n = record { context = context counter_classes at_first n; top = going five; below = [] }

-- a message of one argument, whose result goes to local 3
abbrev message : Value → List ℕ → Value → SendAct
message target selector value = record {
  target = target;
  selector = selector;
  args = value ∷ [];
  into = 3;
  from = 0 ∷ [];
  pc = 3;
}

-- a node sends to no foreign object that it does not hold
an_object_not_held_gets_no_message :
    send_rule (run_at client) (message (Obj counter_object) (codes "add:") five) ≡ Fails NotVended
unfolding Rattle.do_base.specs.declared.values.value.Value.out-Value denote.Hole.Carrier.out
an_object_not_held_gets_no_message = refl

-- nor over a closed end
no_message_goes_over_a_closed_end :
    send_rule (run_at (closed holder)) (message (Obj counter_object) (codes "add:") five)
    ≡ Fails ConnectionDied
unfolding Rattle.do_base.specs.declared.values.value.Value.out-Value denote.Hole.Carrier.out
no_message_goes_over_a_closed_end = refl

-- which is what it is told also of an object that it does not hold
a_closed_end_goes_before_an_object_not_held :
    send_rule (run_at (closed client)) (message (Obj counter_object) (codes "add:") five)
    ≡ Fails ConnectionDied
unfolding Rattle.do_base.specs.declared.values.value.Value.out-Value denote.Hole.Carrier.out
a_closed_end_goes_before_an_object_not_held = refl

-- a number understands no message
a_number_understands_no_message :
    send_rule (run_at client) (message five (codes "add:") five) ≡ Fails TypeFault
unfolding Rattle.do_base.specs.declared.values.value.Value.out-Value denote.Hole.Carrier.out
a_number_understands_no_message = refl

-- a message to nil gives nil at once
nil_gives_nil_at_once :
    send_rule (run_at client) (message Nil (codes "add:") five) ≡ Goes 3 Nil 3
unfolding Rattle.do_base.specs.declared.values.value.Value.out-Value denote.Hole.Carrier.out
nil_gives_nil_at_once = refl

-- a counter has no such method, whether or not the value would fit
a_counter_does_not_understand_go :
    send_rule (run_at holder) (message (Obj counter_object) (codes "go:") a_text)
    ≡ Fails NotUnderstood
unfolding Rattle.do_base.specs.declared.values.value.Value.out-Value denote.Hole.Carrier.out
a_counter_does_not_understand_go = refl

-- a port that is no node has no root
a_port_without_a_node_has_no_root :
    root_rule (run_at client) (Num (pos 7003)) 2 2 ≡ Fails ConnectionDied
unfolding Rattle.do_base.specs.declared.values.value.Value.out-Value denote.Hole.Carrier.out
a_port_without_a_node_has_no_root = refl

-- a number below 0 is no port
a_negative_number_is_no_port :
    root_rule (run_at client) (Num (negsuc 7001)) 2 2 ≡ Fails ConnectionDied
unfolding Rattle.do_base.specs.declared.values.value.Value.out-Value denote.Hole.Carrier.out
a_negative_number_is_no_port = refl

-- 0 is no port, and neither is 65,536; 65,535 is one
ports_are_1_to_65535 :
    (port_of (pos 0) ≡ None) × (port_of (pos 1) ≡ Some 1) × (port_of (pos 65535) ≡ Some 65535)
    × (port_of (pos 65536) ≡ None)
ports_are_1_to_65535 = (refl, refl, refl, refl)

-- a text names no port
a_text_names_no_port : root_rule (run_at client) a_text 2 2 ≡ Fails TypeFault
unfolding Rattle.do_base.specs.declared.values.value.Value.out-Value denote.Hole.Carrier.out
a_text_names_no_port = refl

-- the own root is there at once
the_own_root_is_there_at_once :
    root_rule (run_at client) (Num (pos 7001)) 2 2 ≡ Goes 2 (Obj client_object) 2
unfolding Rattle.do_base.specs.declared.values.value.Value.out-Value denote.Hole.Carrier.out
the_own_root_is_there_at_once = refl

-- and nil where the node has no root
an_own_root_that_is_not_there_is_nil :
    root_rule (run_at (rootless client)) (Num (pos 7001)) 2 2 ≡ Goes 2 Nil 2
unfolding Rattle.do_base.specs.declared.values.value.Value.out-Value denote.Hole.Carrier.out
an_own_root_that_is_not_there_is_nil = refl
