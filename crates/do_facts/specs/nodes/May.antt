-- When a move may be made: what its rule says, and of which node it was judged.
use Rattle.do_base.specs.declared.events.shown.Shown.TheVariants as shows
use Rattle.do_behave.specs.declared.invocation.Reason.TheVariants as reasons
use Rattle.do_class.specs.declared.packet.Name.TheVariants as names
use Rattle.do_machine.specs.declared.item.Item.TheVariants as items
use Rattle.do_machine.specs.declared.verdict.Request.TheVariants as requests
use Rattle.do_machine.specs.declared.verdict.Verdict.TheVariants as verdicts
use Rattle.do_behave.specs.declared.act.Act.TheVariants as acts
use Rattle.do_facts.specs.nodes.Moves as moves
use Rattle.do_facts.specs.nodes.Cause as cause
use Rattle.std.specs.{Prelude.{Some, [], false, is_some, true, ◌+◌, ◌<◌, ◌∷◌, ◌≡◌}, List.list_any}
use Rattle.do_behave.specs.declared.invocation.Answer.{Answer, TheVariants.Given}
use Rattle.do_behave.specs.declared.invocation.InvState.TheVariants.{Running, Waits}
use Rattle.do_class.specs.declared.ids.ClassId.{ClassId}
use Rattle.do_packet.specs.{Limits.most_names, Met.has_object}
use Rattle.do_machine.specs.{declared.{item.Message.Message, node.Node.Node}, Objects.object_at}
use Rattle.do_machine.specs.{State.{is_known, is_open, stored}, held.{Kept.kept, Leaving.freeing}}
use Rattle.do_machine.specs.{held.Refers.node_objects, lend.Asking.{same_wanted, wanted}}
use Rattle.do_machine.specs.{run.{Fresh.blank, Run.next_act}, take.Lines.item_line}
use Rattle.do_machine.specs.take.Receipt.{arrived}
use Rattle.do_facts.specs.{Moves.Rules, StandOnce.StandOnce, links.{Links.links_of, Sound.IsSound}}
use Rattle.do_facts.specs.nodes.{Atoms.{Atom, Whole}, Moves.Move, After.{after, posts, takes}}
use Rattle.do_facts.specs.nodes.Judged.{Delivered, IsAdmitted, IsAnswer, IsBegun, IsNamed, IsPacked}
use Rattle.do_facts.specs.nodes.Judged.{IsSaid, IsStarted, IsUnheard, Judge, Judged, Since}
use Rattle.do_facts.specs.nodes.Judged.{context_of, ending, is_denial, raised_of, run_of}

module _ (j : Judge) where
  -- when a move may be made
  abbrev pub may : Node → Move → Type 0
  may n (moves.Goes t into value pc) = Judged j (verdicts.Goes into value pc) t n
  may n (moves.Uses t result outs) = Judged j (verdicts.Uses result outs) t n
  may n (moves.Steps t pc locals handler writes) =
      Judged j (verdicts.Steps pc locals handler writes) t n × (t.top.state ≡ Running)
      × (next_act j.act (run_of j t) ≡ acts.Step pc locals handler writes)
  may n (moves.Makes t made into pc) =
      (class : ClassId) × Judged j (verdicts.Makes class into pc) t n
      × (made ≡ blank j.table class) × (n.next_serial ≡ j.first.next_serial)
  may n (moves.Vends t root pc) = Judged j (verdicts.Vends root pc) t n
  may n (moves.Says t value pc) = Judged j (verdicts.Says value pc) t n
  may n (moves.Begins t o method values into outs pc) =
      Judged j (verdicts.Begins o method values into outs pc) t n × IsBegun j o method values
  may n (moves.AsksRoot t to into outs pc) =
      (is_open n to ≡ true) × Judged j (verdicts.Asks to requests.Root into outs pc) t n
  may n (moves.Calls t to method m into outs pc) =
      (is_open n to ≡ true)
      × Judged j (verdicts.Asks to (requests.Call method m) into outs pc) t n
  may n (moves.Tells t to m into pc) =
      (is_open n to ≡ true) × Judged j (verdicts.Tells to m into pc) t n
  may n (moves.Catches t e h) = (t.top.handler ≡ Some h) × Judged j (verdicts.Fails e) t n
  may n (moves.Finishes t a shown) =
      (shown ≡ ending t.top.reason a) × IsUnheard n t.top.reason × Delivered j a t n
  may n (moves.Answers t a) = (t.top.reason ≡ reasons.Local) × Delivered j a t n
  may n (moves.Replies t to number v outs packet) =
      (is_open n to ≡ true) × (t.top.reason ≡ reasons.Call to number)
      × Delivered j (Given v outs) t n × IsPacked j to packet
  may n (moves.Raises t to number e) =
      (a : Answer) × (is_open n to ≡ true) × (t.top.reason ≡ reasons.Call to number)
      × (e ≡ raised_of a) × Delivered j a t n
  may n (moves.Speaks to serial) =
      (m : Message) × (is_open n to ≡ true) × (serial ≡ m.target)
      × (is_known n (object_at to serial) ≡ true) × IsSaid j to m n
  may n (moves.Packs to packet) = (is_open n to ≡ true) × Since j.first n × IsPacked j to packet
  may n (moves.Names to serial class) =
      (is_open n to ≡ true) × IsNamed j to (names.Mine serial class) n
  may n (moves.Mentions to serial) =
      (is_open n to ≡ true) × (is_known n (object_at to serial) ≡ true)
      × IsNamed j to (names.Yours serial) n
  may n (moves.Lends to o class) =
      (is_open n to ≡ true) × IsNamed j to (names.Lent o class n.next_token) n
      × (n.next_token < j.first.next_token + most_names)
  may n (moves.Starts i) = IsStarted j i n
  may n (moves.TimesOut t call peer what) =
      (n.stack ≡ t.top ∷ t.below) × (t.top.state ≡ Waits call peer what)
      × (j.cause ≡ cause.TimeOut)
  may n (moves.Closes peer) = (is_open n peer ≡ true) × (j.cause ≡ cause.Close peer)
  may n (moves.GivesUp w told) =
      (is_open n w.object.node ≡ false) × (is_open n w.token.lender ≡ told)
      × (StandOnce same_wanted j.first.asked → list_any (same_wanted w) n.asked ≡ true)
  may n (moves.Takes from item shown) =
      (is_open n from ≡ true) × (shown ≡ shows.Took (item_line from n.port item))
      × (j.cause ≡ cause.Take from item)
  may n (moves.Unpacks from packet copies) =
      (is_open n from ≡ true) × Since j.first n
      × (copies ≡ (arrived (context_of j) from packet).copies)
      × (n.next_serial ≡ j.first.next_serial)
  may n (moves.Asks from o class token) =
      (is_open n from ≡ true) × (is_open n o.node ≡ true)
      × (list_any (same_wanted (wanted o from token)) n.asked ≡ false)
  may n (moves.AsksOnce from o class token) =
      (is_open n from ≡ true) × (is_open n o.node ≡ true)
      × (list_any (same_wanted (wanted o from token)) n.asked ≡ true)
  may n (moves.Returns from o class token) =
      (is_open n from ≡ true) × (is_open n o.node ≡ false)
  may n (moves.Serves from number m i) =
      (is_open n from ≡ true) × IsAdmitted j from m (reasons.Call from number) i n
  may n (moves.Obeys from m i) =
      (is_open n from ≡ true) × IsAdmitted j from m (reasons.Oneway from) i n
  may n (moves.Refuses from number m e) = (is_open n from ≡ true) × (is_denial e ≡ true)
  may n (moves.Ignores from m e) = (is_open n from ≡ true) × (is_denial e ≡ true)
  may n (moves.Receives k item answer) = (is_open n k.peer ≡ true) × IsAnswer j k item answer
  may n (moves.Gives from number packet) =
      (is_open n from ≡ true) × Since j.first n × IsPacked j from packet
  may n (moves.Grants from serial token) =
      (is_open n from ≡ true) × (is_some (stored serial n.heap) ≡ true)
  may n (moves.Lacks from serial token) =
      (is_open n from ≡ true) × (is_some (stored serial n.heap) ≡ false)
  may n (moves.Gains from serial token told) =
      (is_open n from ≡ true) × (is_open n token.lender ≡ told)
  may n (moves.Misses from serial token told) =
      (is_open n from ≡ true) × (is_open n token.lender ≡ told)
  may n (moves.Hears from serial) = is_open n from ≡ true
  may n (moves.Holds from serial class) = is_open n from ≡ true
  may n (moves.IsNamed from serial) = is_open n from ≡ true
  may n (moves.Frees from serial) = is_open n from ≡ true
  may n (moves.Settles from number) = is_open n from ≡ true
  may n (moves.Parts from serials) =
      (is_open n from ≡ true) × (j.cause ≡ cause.Take from (items.End serials))
  may n (moves.Strikes heap shown) =
      (cause.frees j.cause ≡ true) × (heap ≡ kept j.sees.entry n)
      × (shown ≡ (freeing (kept j.sees.entry n) n).shown)
  may n (moves.Leaves o) =
      (cause.leaves j.cause ≡ true) × (has_object (node_objects n) o ≡ false)
      × (IsSound (links_of j.first) →
      (is_open n o.node ≡ true) × (has_object n.held o ≡ true))

  -- the rules by which nodes move
  abbrev pub rules : Rules Node Atom Move
  rules = record {
    opens = is_open;
    may = may;
    after = after;
    takes = takes;
    posts = posts;
    loss = Whole (items.End []) ∷ [];
  }
