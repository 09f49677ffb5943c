-- Where nothing is late, the rules are those of version 1.
use Rattle.std.proofs.Common.{◌≡◌, ℕ, []}
use Rattle.do_behave.specs.declared.invocation.{Answer.Answer, Waited.Waited}
use Rattle.do_machine.specs.{declared.node.Node.Node, ends.Closing.closing}
use Rattle.do_facts.specs.laws.Version1.{answering_1, closing_1}
use Rattle.do_machine.specs.take.Awaiting.{AnsweredCall, answering}

-- where nothing is late, an answer goes as in version 1
pub same_answering : (k : AnsweredCall) (answer : Waited → Answer) (n : Node) → n.late ≡ [] →
    answering k answer n ≡ answering_1 k answer n
same_answering k answer n h = rw h

-- where nothing is late, an end closes as in version 1
pub same_closing : (peer : ℕ) (n : Node) → n.late ≡ [] → closing peer n ≡ closing_1 peer n
same_closing peer n h = rw h
