-- What each move makes of the node, takes, posts, shows and writes.
use Rattle.do_facts.specs.nodes.Moves as moves
use Rattle.do_base.specs.declared.events.shown.Shown.TheVariants as shows
use Rattle.do_behave.specs.declared.invocation.Reason.TheVariants as reasons
use Rattle.do_class.specs.declared.packet.Name.TheVariants as names
use Rattle.do_machine.specs.declared.item.Item.TheVariants as items
use Rattle.do_machine.specs.declared.verdict.Request.TheVariants as requests
use Rattle.std.specs.Prelude.{Bool, List, [], filter, if◌then◌else◌, not, suc, ℕ, ◌++◌, ◌∷◌}
use Rattle.do_base.specs.names.Names.{ObjectName, TokenName}
use Rattle.do_base.specs.declared.events.{exception.Exc.TheVariants.TimedOut, shown.Shown.Shown}
use Rattle.do_base.specs.declared.values.value.Value.TheVariants.{Nil, Obj, Text}
use Rattle.do_behave.specs.declared.invocation.{Answer.TheVariants.Raised, Invocation.Invocation}
use Rattle.do_behave.specs.declared.invocation.InvState.TheVariants.{Below}
use Rattle.do_packet.specs.Met.{same_object}
use Rattle.do_machine.specs.{declared.node.{Lend.Lend, Node.Node}, Objects.{joined, object_at}}
use Rattle.do_machine.specs.{State.own, ends.{Closing.{parted, serials_of}, TimeOut.with_late}}
use Rattle.do_machine.specs.lend.Asking.{wanted, with_wanted, without_wanted}
use Rattle.do_machine.specs.{lend.Lending.with_settled, run.Answers.exc_name}
use Rattle.do_machine.specs.run.Changes.{answered, goes_on, goes_to, stands, steps_to, uses}
use Rattle.do_machine.specs.run.{Changes.{uses_number, with_slots}, Delivery.below_answered}
use Rattle.do_machine.specs.run.Fresh.{fresh, pushed, with_objects, with_stack}
use Rattle.do_machine.specs.{run.Verdicts.waits_for, take.Awaiting.{late_answered, stack_answered}}
use Rattle.do_facts.specs.{Net.Note, nodes.Atoms.{Atom, Body, Named, Target, Whole}}
use Rattle.do_facts.specs.nodes.Moves.{Move, Top, Wrote}

-- the node with another invocation on top
abbrev pub turned : Top → Invocation → Node → Node
turned t i n = with_stack (i ∷ t.below) n

-- the node without its end towards a peer and what it had over it, but for the asks
abbrev pub closed : ℕ → Node → Node
closed peer n = record (parted peer n) { asked = n.asked }

-- the node with an object more that it holds
abbrev pub with_held : ObjectName → Node → Node
with_held o n = record n { held = joined n.held o }

-- the lend of an object to a peer, under the next token
abbrev pub next_lend : Node → ℕ → ObjectName → Lend
next_lend n to o = record { number = n.next_token; object = o; borrower = to }

-- the node with a lend more
abbrev pub with_lend : ℕ → ObjectName → Node → Node
with_lend to o n =
    record n { lent = n.lent ++ next_lend n to o ∷ []; next_token = suc n.next_token }

-- what a move makes of the node
abbrev pub after : Node → Move → Node
after n (moves.Goes t into value pc) = turned t (goes_on into value pc t.top) n
after n (moves.Uses t result outs) = turned t (uses result outs t.top) n
after n (moves.Steps t pc locals handler writes) =
    with_slots t.top.object.serial writes (turned t (steps_to pc locals handler t.top) n)
after n (moves.Makes t made into pc) =
    with_objects (made ∷ [])
    (turned t (goes_on into (Obj (own n n.next_serial)) pc t.top) n)
after n (moves.Vends t root pc) = record (turned t (goes_to pc t.top) n) { root = root }
after n (moves.Says t value pc) = turned t (goes_to pc t.top) n
after n (moves.Begins t o method values into outs pc) =
    pushed (fresh o method reasons.Local values) (turned t (stands pc into outs Below t.top) n)
after n (moves.AsksRoot t to into outs pc) =
    uses_number (turned t (stands pc into outs (waits_for n to requests.Root) t.top) n)
after n (moves.Calls t to method m into outs pc) =
    let state = waits_for n to (requests.Call method m) in
    uses_number (turned t (stands pc into outs state t.top) n)
after n (moves.Tells t to m into pc) = turned t (goes_on into Nil pc t.top) n
after n (moves.Catches t e h) = turned t (goes_on h.into (Text (exc_name e)) h.pc t.top) n
after n (moves.Finishes t a shown) = with_stack t.below n
after n (moves.Answers t a) = with_stack (below_answered a t.below) n
after n (moves.Replies t to number v outs packet) = with_stack t.below n
after n (moves.Raises t to number e) = with_stack t.below n
after n (moves.Lends to o class) = with_lend to o n
after n (moves.Starts i) = pushed i n
after n (moves.TimesOut t call peer what) =
    with_late (record { number = call.number; peer = peer; what = what })
    (turned t (answered (Raised TimedOut) t.top) n)
after n (moves.Closes peer) = closed peer n
after n (moves.GivesUp w told) = without_wanted w n
after n (moves.Unpacks from packet copies) = with_objects copies n
after n (moves.Holds from serial class) = with_held (object_at from serial) n
after n (moves.Asks from o class token) = with_wanted (wanted o from token) n
after n (moves.Serves from number m i) = pushed i n
after n (moves.Obeys from m i) = pushed i n
after n (moves.Receives k item answer) =
    record n { stack = stack_answered k answer n.stack; late = late_answered k n.late }
after n (moves.Gains from serial token told) =
    without_wanted (wanted (object_at from serial) token.lender token.number)
    (with_held (object_at from serial) n)
after n (moves.Misses from serial token told) =
    without_wanted (wanted (object_at from serial) token.lender token.number) n
after n (moves.Settles from number) = with_settled from number n
after n (moves.Parts from serials) = closed from n
after n (moves.Strikes heap shown) = record n { heap = heap }
after n (moves.Leaves o) = record n { held = filter (λ x. not (same_object o x)) n.held }
after n _ = n

-- an atom that goes to a peer, or comes from it
abbrev pub note : ℕ → Atom → List (Note Atom)
note peer x = record { peer = peer; atom = x } ∷ []

-- the lender is told that a lend is over, or not
abbrev pub telling : Bool → TokenName → List (Note Atom)
telling told token =
    if told then note token.lender (Whole (items.Settled token.number)) else []

-- what a move takes
abbrev pub takes : Move → List (Note Atom)
takes (moves.Hears from serial) = note from (Target serial)
takes (moves.Unpacks from packet copies) = note from (Body packet)
takes (moves.Holds from serial class) = note from (Named (names.Mine serial class))
takes (moves.IsNamed from serial) = note from (Named (names.Yours serial))
takes (moves.Asks from o class token) = note from (Named (names.Lent o class token))
takes (moves.AsksOnce from o class token) = note from (Named (names.Lent o class token))
takes (moves.Returns from o class token) = note from (Named (names.Lent o class token))
takes (moves.Serves from number m i) = note from (Whole (items.Call number m))
takes (moves.Obeys from m i) = note from (Whole (items.Oneway m))
takes (moves.Refuses from number m e) = note from (Whole (items.Call number m))
takes (moves.Ignores from m e) = note from (Whole (items.Oneway m))
takes (moves.Receives k item answer) = note k.peer (Whole item)
takes (moves.Gives from number packet) = note from (Whole (items.RootAsk number))
takes (moves.Grants from serial token) = note from (Whole (items.Ask serial token))
takes (moves.Lacks from serial token) = note from (Whole (items.Ask serial token))
takes (moves.Gains from serial token told) = note from (Whole (items.Granted serial token))
takes (moves.Misses from serial token told) = note from (Whole (items.Gone serial token))
takes (moves.Frees from serial) = note from (Whole (items.Left serial))
takes (moves.Settles from number) = note from (Whole (items.Settled number))
takes (moves.Parts from serials) = note from (Whole (items.End serials))
takes _ = []

-- what a move posts
abbrev pub posts : Node → Move → List (Note Atom)
posts n (moves.AsksRoot t to into outs pc) = note to (Whole (items.RootAsk n.next_call))
posts n (moves.Calls t to method m into outs pc) = note to (Whole (items.Call n.next_call m))
posts n (moves.Tells t to m into pc) = note to (Whole (items.Oneway m))
posts n (moves.Replies t to number v outs packet) = note to (Whole (items.Reply number packet))
posts n (moves.Raises t to number e) = note to (Whole (items.Raised number e))
posts n (moves.Speaks to serial) = note to (Target serial)
posts n (moves.Packs to packet) = note to (Body packet)
posts n (moves.Names to serial class) = note to (Named (names.Mine serial class))
posts n (moves.Mentions to serial) = note to (Named (names.Yours serial))
posts n (moves.Lends to o class) = note to (Named (names.Lent o class n.next_token))
posts n (moves.Closes peer) = note peer (Whole (items.End (serials_of peer n.held)))
posts n (moves.GivesUp w told) = telling told w.token
posts n (moves.Asks from o class token) =
    note o.node (Whole (items.Ask o.serial (record { lender = from; number = token })))
posts n (moves.Returns from o class token) = note from (Whole (items.Settled token))
posts n (moves.Refuses from number m e) = note from (Whole (items.Raised number e))
posts n (moves.Gives from number packet) = note from (Whole (items.RootAnswer number packet))
posts n (moves.Grants from serial token) = note from (Whole (items.Granted serial token))
posts n (moves.Lacks from serial token) = note from (Whole (items.Gone serial token))
posts n (moves.Gains from serial token told) = telling told token
posts n (moves.Misses from serial token told) = telling told token
posts n (moves.Parts from serials) = note from (Whole (items.End (serials_of from n.held)))
posts n (moves.Leaves o) = note o.node (Whole (items.Left o.serial))
posts n _ = []

-- what a move shows
abbrev pub shown_by : Move → List Shown
shown_by (moves.Says t value pc) = shows.Say value ∷ []
shown_by (moves.Finishes t a shown) = shown
shown_by (moves.Takes from item shown) = shown ∷ []
shown_by (moves.Ignores from m e) = shows.Raise e ∷ []
shown_by (moves.Strikes heap shown) = shown
shown_by _ = []

-- what a move writes
abbrev pub wrote_by : Move → List Wrote
wrote_by (moves.Steps t pc locals handler writes) =
    record { serial = t.top.object.serial; writes = writes } ∷ []
wrote_by _ = []
