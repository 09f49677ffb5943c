-- What doing what a ruling says keeps of a node: no end leads to the node itself, and what it
-- stores can be counted.
use Rattle.do_behave.specs.declared.invocation.Reason.TheVariants as reasons
use Rattle.std.proofs.Common.{◌≡◌, ℕ, Bool, true, false, cond, List, [], ◌∷◌, Option, None, Some}
use Rattle.std.{proofs.Common.{refl, ap, sym, subst, ◌∙◌}, specs.{Prelude.not, List.list_any}}
use Rattle.do_base.specs.declared.events.exception.Exc.{Exc}
use Rattle.do_class.specs.declared.packet.Name.{Name, TheVariants.{Lent, Mine, Yours}}
use Rattle.do_packet.specs.declared.receipt.Made.{Made}
use Rattle.do_behave.specs.declared.invocation.{Answer.Answer, Reason.Reason}
use Rattle.do_machine.specs.declared.{item.Item.Item, node.{Node.Node, Wanted.Wanted}}
use Rattle.do_machine.specs.{declared.state.Effect.Effect, Effect.{each, only}, State.is_open}
use Rattle.do_machine.specs.lend.Asking.{same_wanted, settling, without_wanted}
use Rattle.do_machine.specs.{run.Fresh.with_objects, take.Awaiting.AnsweredCall}
use Rattle.do_machine.specs.take.{Receipt.receiving_name, Requests.refusing}
use Rattle.do_rules.specs.{Answering.call_of, Ruling.{answering_with, gaining, names_in, ruled}}
use Rattle.do_rules.specs.declared.take.ruling.Ruling.{Ruling, TheVariants.{Answers, Begins}}
use Rattle.do_rules.specs.declared.take.ruling.Ruling.TheVariants.{Closes, EndsAsk, EndsLend}
use Rattle.do_rules.specs.declared.take.ruling.Ruling.TheVariants.{Raises, Refuses, Replies, Stays}
use Rattle.do_site.proofs.KeptSteps.{closing_apart, either_node}

-- ---- ends

-- the node has no end towards itself
abbrev IsApart : Node → Type 0
IsApart n = is_open n n.port ≡ false

-- a node and another that differs in what it asks for alone
abbrev AsksBut : Node → Node → Type 0
AsksBut n m = m ≡ record n { asked = m.asked }

-- whichever of two effects comes, it changes what the node asks for alone
either_asks : (n : Node) (b : Bool) (e d : Effect) → AsksBut n e.node → AsksBut n d.node →
    AsksBut n (cond b e d).node
either_asks n true e d x y = x
either_asks n false e d x y = y

-- an end of a lend that is told leaves the node
settling_node : (w : Wanted) (n : Node) → (settling w n).node ≡ n
settling_node w n = either_node n (not (is_open n w.token.lender)) (only n) _ refl refl

-- a node that is left differs in nothing
same_asks : (n m : Node) → m ≡ n → AsksBut n m
same_asks n m e = subst (AsksBut n) (sym e) refl

-- a name that is received changes what the node asks for alone
name_asks : (from : ℕ) (name : Name) (n : Node) → AsksBut n (receiving_name from name n).node
name_asks from (Mine serial class) n = refl
name_asks from (Yours serial) n = refl
name_asks from (Lent o class token) n =
    let w : Wanted = record { object = o; token = record { lender = from; number = token } } in
    either_asks n (not (is_open n o.node)) (settling w n) _
    (same_asks n (settling w n).node (settling_node w n))
    (either_asks n (list_any (same_wanted w) n.asked) (only n) _ refl refl)

-- so do names
names_ask : (from : ℕ) (names : List Name) (n : Node) →
    AsksBut n (each (receiving_name from) names n).node
names_ask from [] n = refl
names_ask from (name ∷ names) n =
    let m = (receiving_name from name n).node in
    let last = (each (receiving_name from) names m).node in
    names_ask from names m
    ∙ ap (λ (x : Node). record x { asked = last.asked }) (name_asks from name n)

-- a message that is received leaves the ends
gaining_apart : (from : ℕ) (item : Item) (copies : List Made) (n : Node) → IsApart n →
    IsApart (gaining from item copies n).node
gaining_apart from item copies n h =
    subst IsApart (sym (names_ask from (names_in item) (with_objects copies n))) h

-- so does a refusal
refusing_node : (e : Exc) (reason : Reason) (n : Node) → (refusing e reason n).node ≡ n
refusing_node e reasons.Start n = refl
refusing_node e reasons.Local n = refl
refusing_node e (reasons.Call peer number) n = refl
refusing_node e (reasons.Oneway peer) n = refl

-- and an answer
answering_apart : (k : AnsweredCall) (a : Option Answer) (n : Node) → IsApart n →
    IsApart (answering_with k a n).node
answering_apart k None n h = h
answering_apart k (Some a) n h = h

-- what a ruling does leads no end to the node itself
pub ruled_apart : (from : ℕ) (item : Item) (r : Ruling) (n : Node) → is_open n n.port ≡ false →
    is_open (ruled from item r n).node (ruled from item r n).node.port ≡ false
ruled_apart from item (Begins copies i) n h = gaining_apart from item copies n h
ruled_apart from item (Refuses copies reason e) n h =
    subst IsApart (sym (refusing_node e reason (gaining from item copies n).node))
    (gaining_apart from item copies n h)
ruled_apart from item (Answers copies k a) n h =
    answering_apart (call_of k) a (gaining from item copies n).node
    (gaining_apart from item copies n h)
ruled_apart from item (Raises k e) n h = h
ruled_apart from item (Replies answer) n h = h
ruled_apart from item (EndsAsk w) n h =
    subst IsApart (sym (settling_node w (without_wanted w n))) h
ruled_apart from item (EndsLend number) n h = h
ruled_apart from item Closes n h = closing_apart from n h
ruled_apart from item Stays n h = h
