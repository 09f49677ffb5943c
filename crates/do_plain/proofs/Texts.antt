-- No line of a transcript says what was sent.
use Rattle.do_base.specs.declared.events.shown.Shown.TheVariants as shown
use Rattle.do_base.specs.declared.events.shown.Took.TheVariants as took
use Rattle.std.proofs.Common.{◌≡◌, ◌++◌, ℕ, Bool, true, false, cond, List, [], ◌∷◌, map, refl}
use Rattle.std.{proofs.Common.arith, specs.Prelude.{None, Option, Some, codes, decimal, option_map}}
use Rattle.std.specs.List.{AllByRecursion, flat_map}
use Rattle.do_base.specs.declared.events.exception.Exc.{Exc, TheVariants.{ConnectionDied, Deep}}
use Rattle.do_base.specs.declared.events.exception.Exc.TheVariants.{NotUnderstood, NotVended, Range}
use Rattle.do_base.specs.declared.events.exception.Exc.TheVariants.{TimedOut, TooLarge, TypeFault}
use Rattle.do_base.specs.declared.events.{exception.Exc.TheVariants.User, shown.Shown.Shown}
use Rattle.do_base.specs.declared.{events.shown.Took.Took, values.value.Value.Value}
use Rattle.do_base.specs.names.Names.{ObjectName}
use Rattle.do_class.specs.{Class.Class, Table.{IsTable, class_at, name_of, slots_of}}
use Rattle.do_class.specs.declared.ids.{ClassId.ClassId, Slot.Slot}
use Rattle.do_grammar.{specs.{Quoted.quoted, Words.Without}, proofs.texts.NameBytes.Without-name}
use Rattle.do_grammar.proofs.texts.{NameBytes.Without-selector, WordBytes.Without-append}
use Rattle.do_lines.specs.Block.{shown_by, shown_lines, stepped_node}
use Rattle.do_lines.specs.Check.{class_words, closed_line, entry_line, node_text, object_text}
use Rattle.do_lines.specs.{Check.{root_line, root_word, slot_words}, Lines.joined}
use Rattle.do_lines.specs.Shown.{exception_text, shown_text, took_text}
use Rattle.do_lines.specs.Transcript.{block_lines, listed_lines, transcript}
use Rattle.do_machine.specs.{declared.state.{Seat.Seat, State.State}, Commit.skipped, World.opening}
use Rattle.do_machine.specs.{check.Blocks.{block, blocks, events_of, line_step}, run.Run.Acting}
use Rattle.do_sched.specs.{Good.IsLine, Spelling.line_spelling}
use Rattle.do_sched.specs.{Value.{object_name, spaced, value_text}, declared.line.Line.Line}
use Rattle.do_sched.specs.declared.version.Version.TheVariants.{Second}
use Rattle.do_sched.proofs.LineWithoutFeed.{no_feed}
use Rattle.do_trace.specs.{Block.Block, declared.outcome.{Entry.Entry, NodeLine.NodeLine}}
use Rattle.do_trace.specs.declared.outcome.{ObjLine.ObjLine, Outcome.Outcome, Snapshot.Snapshot}
use Rattle.do_facts.proofs.EachOfLists.{each_mapped, each_of, each_weaker}
use Rattle.do_agreement.specs.WithoutWires.{without_wires}
use Rattle.do_plain.specs.Named.{AreNamed, IsNamed, IsNamedSlot}
use Rattle.do_plain.proofs.{Effects.{ShownSelects, TookSelects}, Feeds.{decimal_free, literal}}
use Rattle.do_plain.proofs.Feeds.{numbered, object_free, quoted_free, value_free, worded}
use Rattle.do_plain.proofs.Lines.{IsPlain, IsPlainLine, behind, in_a_row, one_line, plain_stays}
use Rattle.do_plain.proofs.{Selectors.one_at, States.{StateSelects, opening_selects, steps_select}}

-- ---- what is shown

-- an exception
exception_free : (e : Exc) → Without 10 (exception_text e)
exception_free TypeFault = literal (codes "Type") refl
exception_free Range = literal (codes "Range") refl
exception_free Deep = literal (codes "Deep") refl
exception_free NotUnderstood = literal (codes "NotUnderstood") refl
exception_free ConnectionDied = literal (codes "ConnectionDied") refl
exception_free NotVended = literal (codes "NotVended") refl
exception_free TimedOut = literal (codes "TimedOut") refl
exception_free TooLarge = literal (codes "TooLarge") refl
exception_free (User text) = worded (codes "User ") (quoted text) refl (quoted_free text)

-- what was taken
took_free : (t : Took) → TookSelects t → Without 10 (took_text t)
took_free (took.Call selector) h =
    worded (codes "call ") selector refl (Without-selector 10 selector refl h)
took_free (took.Oneway selector) h =
    worded (codes "oneway ") selector refl (Without-selector 10 selector refl h)
took_free took.Reply h = literal (codes "reply") refl
took_free (took.Raised e) h = worded (codes "raised ") (exception_text e) refl (exception_free e)
took_free took.RootAsk h = literal (codes "rootask") refl
took_free took.RootAnswer h = literal (codes "rootanswer") refl
took_free (took.Ask o) h = worded (codes "ask ") (object_name o) refl (object_free o)
took_free (took.Granted o) h = worded (codes "granted ") (object_name o) refl (object_free o)
took_free (took.Gone o) h = worded (codes "gone ") (object_name o) refl (object_free o)
took_free (took.Left o) h = worded (codes "left ") (object_name o) refl (object_free o)
took_free took.Settled h = literal (codes "settled") refl
took_free took.End h = literal (codes "end") refl

-- what a node shows
shown_plain : (port : ℕ) (s : Shown) → ShownSelects s → IsPlainLine (shown_text port s)
shown_plain port (shown.Took t) h =
    record { free = worded (codes "took ") (took_text t) refl (took_free t h); other = refl }
shown_plain port (shown.Say v) h =
    record {
      free = worded (codes "say ") (decimal port ++ 32 ∷ value_text v) refl
          (numbered port (value_text v) (value_free v));
      other = refl;
    }
shown_plain port (shown.Return v) h = record {
  free = worded (codes "return ") (decimal port ++ 32 ∷ value_text v) refl
      (numbered port (value_text v) (value_free v));
  other = refl;
}
shown_plain port (shown.Raise e) h = record {
  free = worded (codes "raise ") (decimal port ++ 32 ∷ exception_text e) refl
      (numbered port (exception_text e) (exception_free e));
  other = refl;
}
shown_plain port (shown.Free o) h =
    record { free = worded (codes "free ") (object_name o) refl (object_free o); other = refl }

-- all that it shows, or that nothing was enabled
outcome_plain : (node : Option ℕ) (outcome : Outcome) →
    AllByRecursion ShownSelects outcome.shown → IsPlain (shown_lines node outcome)
outcome_plain node outcome h = go outcome.enabled node
  where
    go : (b : Bool) (port : Option ℕ) →
        IsPlain (cond b (shown_by port outcome.shown) (joined (codes "skip" ∷ [])))
    go true None = in_a_row [] tt
    go true (Some port) =
        in_a_row (map (shown_text port) outcome.shown)
        (each_mapped IsPlainLine (shown_text port) outcome.shown
        (each_weaker ShownSelects (λ s. IsPlainLine (shown_text port s)) (shown_plain port)
        outcome.shown h))
    go false port =
        one_line (codes "skip") (record { free = literal (codes "skip") refl; other = refl })

-- ---- what a check lists

-- slots with their values
slots_free : (slots : List Slot) (values : List Value) → AllByRecursion IsNamedSlot slots →
    Without 10 (spaced (slot_words slots values))
slots_free [] values h = tt
slots_free (slot ∷ slots) [] h = tt
slots_free (slot ∷ slots) (value ∷ values) h = (
  λ (e : ◌≡◌ {A = ℕ} 32 10). omega arith,
  Without-append 10 (slot.name ++ 61 ∷ value_text value) (spaced (slot_words slots values))
      (Without-append 10 slot.name (61 ∷ value_text value)
      (Without-name 10 slot.name refl h.0)
      (λ (e : ◌≡◌ {A = ℕ} 61 10). omega arith, value_free value))
      (slots_free slots values h.1),
)

-- the class of an object
class_free : (table : List Class) → AreNamed table → (class : ClassId) (values : List Value) →
    Without 10 (class_words (name_of table class) (slots_of table class) values)
class_free table named class values = go (class_at table class) refl
  where
    go : (found : Option Class) → class_at table class ≡ found →
        Without 10 (class_words (option_map (λ c. c.name) found)
        (option_map (λ c. c.slots) found) values)
    go None e = tt
    go (Some c) e =
        let is = one_at IsNamed table class.0 c named e in (
          λ (e : ◌≡◌ {A = ℕ} 32 10). omega arith,
          Without-append 10 c.name (spaced (slot_words c.slots values))
              (Without-name 10 c.name refl is.name) (slots_free c.slots values is.slots),
        )

-- an object
object_plain : (table : List Class) → AreNamed table → (o : ObjLine) →
    IsPlainLine (object_text table o)
object_plain table named o = record {
  free = worded (codes "object ") (object_name o.oid
      ++ class_words (name_of table o.class) (slots_of table o.class) o.slots) refl
      (Without-append 10 (object_name o.oid)
      (class_words (name_of table o.class) (slots_of table o.class) o.slots) (object_free o.oid)
      (class_free table named o.class o.slots));
  other = refl;
}

-- an entry
entry_plain : (e : Entry) → IsPlainLine (entry_line e)
entry_plain e = record {
  free = worded (codes "entry ") (decimal e.peer ++ 32 ∷ object_name e.object) refl
      (numbered e.peer (object_name e.object) (object_free e.object));
  other = refl;
}

-- a closed end
closed_plain : (peer : ℕ) → IsPlainLine (closed_line peer)
closed_plain peer = record {
  free = worded (codes "closed ") (decimal peer) refl (decimal_free peer);
  other = refl;
}

-- a root
root_free : (root : Option ObjectName) → Without 10 (root_word root)
root_free None = literal (codes "nil") refl
root_free (Some o) = object_free o

-- a node and its root
root_plain : (n : NodeLine) → IsPlainLine (root_line n)
root_plain n = record {
  free = worded (codes "node ") (decimal n.node ++ codes " root " ++ root_word n.root) refl
      (Without-append 10 (decimal n.node ++ codes " root ") (root_word n.root)
      (Without-append 10 (decimal n.node) (codes " root ") (decimal_free n.node)
      (literal (codes " root ") refl)) (root_free n.root));
  other = refl;
}

-- lines that are made of the elements of a list
rowed : {X : Type 0} (f : X → List ℕ) → ((x : X) → IsPlainLine (f x)) → (xs : List X) →
    IsPlain (joined (map f xs))
rowed f h xs =
    in_a_row (map f xs)
    (each_mapped IsPlainLine f xs (each_of (λ x. IsPlainLine (f x)) h xs))

-- the nodes
nodes_plain : (table : List Class) → AreNamed table → (nodes : List NodeLine) →
    IsPlain (flat_map (node_text table) nodes)
nodes_plain table named [] = in_a_row [] tt
nodes_plain table named (n ∷ nodes) =
    behind
    (behind (behind (behind (one_line (root_line n) (root_plain n))
    (rowed closed_line closed_plain n.closed))
    (rowed (object_text table) (object_plain table named) n.objects))
    (rowed entry_line entry_plain n.entries))
    (nodes_plain table named nodes)

-- what a line lists
listed_plain : (table : List Class) → AreNamed table → (listed : Option Snapshot) →
    IsPlain (listed_lines table listed)
listed_plain table named None = in_a_row [] tt
listed_plain table named (Some snapshot) = nodes_plain table named snapshot.nodes

-- ---- transcripts

module _ (table : List Class) (ok : IsTable table) (named : AreNamed table) (act : Acting) where
  -- a block
  block_plain : (b : Block Line) → IsLine b.line → AllByRecursion ShownSelects b.outcome.shown →
      IsPlain (block_lines table b)
  block_plain b good h =
      behind
      (behind
      (one_line (codes "> " ++ line_spelling b.line) (record {
        free = worded (codes "> ") (line_spelling b.line) refl (no_feed Second b.line good);
        other = refl;
      }))
      (outcome_plain (stepped_node b.line) b.outcome h))
      (listed_plain table named b.listed)

  -- blocks
  blocks_plain : (lines : List Line) → AllByRecursion IsLine lines → (S : State) →
      StateSelects S → IsPlain (flat_map (block_lines table) (blocks table act S lines))
  blocks_plain [] good S h = in_a_row [] tt
  blocks_plain (l ∷ ls) good S h =
      let s = line_step table act S l in
      let k = steps_select table ok act (events_of l) (skipped S) (record {
        shown = tt;
        state = h;
      }) in
      behind (block_plain (block l s) good.0 k.shown) (blocks_plain ls good.1 s.state k.state)

  -- a whole transcript
  pub transcript_stays : (seats : List Seat) (lines : List Line) → AllByRecursion IsLine lines →
      without_wires (transcript table (blocks table act (opening table seats) lines))
      ≡ transcript table (blocks table act (opening table seats) lines)
  transcript_stays seats lines good =
      plain_stays _
      (behind (one_line (codes "transcript 1")
      (record { free = literal (codes "transcript 1") refl; other = refl }))
      (behind (blocks_plain lines good (opening table seats) (opening_selects table seats))
      (one_line (codes "> end") (record { free = literal (codes "> end") refl; other = refl }))))
