-- What the ruling on an item does, behind what comes in the item.
use Rattle.do_behave.specs.declared.invocation.Reason.TheVariants as reasons
use Rattle.do_frames.specs.declared.frame.Frame.TheVariants as frames
use Rattle.do_machine.specs.declared.item.Item.TheVariants as items
use Rattle.do_rules.specs.declared.take.ruling.Ruling.TheVariants as rulings
use Rattle.std.proofs.Common.{◌≡◌, ℕ, List, [], ◌∷◌, ◌++◌, Option, Some, None, refl, ap, sym, ◌∙◌}
use Rattle.std.proofs.{Common.{◌≤◌, ◌==◌, not, length}, lemmas.List.append-nil}
use Rattle.do_base.specs.declared.events.{exception.Exc.Exc, shown.Shown.{Shown, TheVariants.Raise}}
use Rattle.do_behave.specs.declared.invocation.{Answer.Answer, Invocation.Invocation, Reason.Reason}
use Rattle.do_machine.specs.declared.{item.Item.Item, node.Node.Node, state.Effect.Effect}
use Rattle.do_machine.specs.{Effect.{only, queueing, showing, ◌>>=◌}, Items.exported}
use Rattle.do_machine.specs.{ends.Closing.{closing, parted}, run.Fresh.pushed}
use Rattle.do_machine.specs.take.{Awaiting.AnsweredCall, Take.holding}
use Rattle.do_network.specs.{Counting.{got, packet_of}, Links.sending}
use Rattle.do_packet.specs.declared.receipt.Made.{Made}
use Rattle.do_part.specs.Answers.{answered_with}
use Rattle.do_rules.specs.{Answering.call_of, Ruling.{answering_with, gaining, ruled}}
use Rattle.do_rules.specs.declared.take.{awaiting.Answered.Answered, ruling.Ruling.Ruling}
use Rattle.do_effects.specs.{Doing.{Doing, does, effected, moved}, Sends.sends}
use Rattle.do_effects.{specs.{Taking.{gained, lent_by, takes}, Tidy.IsTidy}, proofs.Alone.IsPlain}
use Rattle.do_effects.proofs.Alone.{KeepsCounts, does_tells, lends_none, then_node, then_sends}
use Rattle.do_effects.proofs.{Did.does_only, Judged.{IsQuiet, quiet_takes}, ObjectsLeft.few_pass}

-- an exception that goes back names nothing
pub raised_plain : (to number : ℕ) (e : Exc) → IsPlain to (items.Raised number e)
raised_plain to number e = record { exports = λ port. refl; gives = λ r. refl }

-- a line that is shown before all else
abbrev pub told : Shown → Doing → Doing
told line d = record d { shown = d.shown ++ line ∷ [] }

-- to be answered is to be so
answering_is : (k : AnsweredCall) (a : Option Answer) (n : Node) →
    only (answered_with k a n) ≡ answering_with k a n
answering_is k None n = refl
answering_is k (Some a) n = refl

-- an answer keeps counts
pub answered_keeps : (k : AnsweredCall) (a : Option Answer) (n : Node) →
    KeepsCounts n (answered_with k a n)
answered_keeps k None n = record { ends = refl; held = refl; asked = refl }
answered_keeps k (Some a) n = record { ends = refl; held = refl; asked = refl }

-- ---- on messages

module _ (d a b : Doing) (from : ℕ) (item : Item) (line : Shown) (copies : List Made)
    (is : a ≡ gained from item line copies d) where
  -- what comes in the message of the item
  abbrev coming : Effect
  coming = showing line d.own.node
      >>= (λ m. gaining from item copies (holding (exported from d.own.node.port item) m))

  -- then its method begins
  pub begins_done : (i : Invocation) → b.own ≡ record a.own { node = pushed i a.own.node } →
      b.out ≡ a.out → b.shown ≡ a.shown → b ≡ takes from item line (rulings.Begins copies i) d
  begins_done i own out shown =
      then_node d (got from item d.own) coming a b (pushed i) []
      (λ n. record { ends = refl; held = refl; asked = refl }) is own out
      (shown ∙ sym (append-nil a.shown))

  -- then the one that waits has its answer
  pub answers_done : (k : Answered) (answer : Option Answer) →
      b.own ≡ record a.own { node = answered_with (call_of k) answer a.own.node } →
      b.out ≡ a.out → b.shown ≡ a.shown →
      b ≡ takes from item line (rulings.Answers copies k answer) d
  answers_done k answer own out shown =
      then_node d (got from item d.own) coming a b (answered_with (call_of k) answer) []
      (answered_keeps (call_of k) answer) is own out (shown ∙ sym (append-nil a.shown))
      ∙ ap (λ (x : Effect). moved d (effected (got from item d.own)
      (coming >>= (λ (_ : Node). x)))) (answering_is (call_of k) answer coming.node)

  -- then what is refused is shown
  pub shown_done : (reason : Reason) (e : Exc) →
      ((peer number : ℕ) → reason ≡ reasons.Call peer number → ⊥) → b.own ≡ a.own →
      b.out ≡ a.out → b.shown ≡ a.shown ++ Raise e ∷ [] →
      b ≡ takes from item line (rulings.Refuses copies reason e) d
  shown_done reasons.Start e other own out shown = all
    where
      -- the line is shown behind what comes
      all : b ≡ takes from item line (rulings.Refuses copies reasons.Start e) d
      all = then_node d (got from item d.own) coming a b (λ n. n) (Raise e ∷ [])
          (λ n. record { ends = refl; held = refl; asked = refl }) is own out shown
  shown_done reasons.Local e other own out shown =
      then_node d (got from item d.own) coming a b (λ n. n) (Raise e ∷ [])
      (λ n. record { ends = refl; held = refl; asked = refl }) is own out shown
  shown_done (reasons.Oneway peer) e other own out shown =
      then_node d (got from item d.own) coming a b (λ n. n) (Raise e ∷ [])
      (λ n. record { ends = refl; held = refl; asked = refl }) is own out shown
  shown_done (reasons.Call peer number) e other own out shown = absurd (other peer number refl)

  -- or goes back
  pub back_done : (peer number : ℕ) (e : Exc) → IsTidy a.own → b.own ≡ a.own →
      b.out ≡ sending a.out (record { to = peer; frame = frames.Raised number e }) →
      b.shown ≡ a.shown →
      b ≡ takes from item line (rulings.Refuses copies (reasons.Call peer number) e) d
  back_done peer number e tidy own out shown =
      (λ j. record { own = own j; out = out j; shown = shown j })
      ∙ sym (does_tells a peer (items.Raised number e) tidy (raised_plain peer number e))
      ∙ ap (λ (x : Doing). does x (queueing peer (items.Raised number e) x.own.node)) is
      ∙ sym (then_sends d (got from item d.own) coming peer (items.Raised number e)
      (raised_plain peer number e))

-- ---- on items that name nothing

module _ (d b : Doing) (from : ℕ) (item : Item) (line : Shown) (quiet : IsQuiet from item) where
  -- a ruling that only changes a tidy node
  pub node_done : (r : Ruling) (m : Node) → IsTidy d.own → KeepsCounts d.own.node m →
      only m ≡ ruled from item r d.own.node → b.own ≡ record d.own { node = m } →
      b.out ≡ d.out → b.shown ≡ d.shown ++ line ∷ [] → b ≡ takes from item line r d
  node_done r m tidy kept by own out shown =
      does_only b (told line d) m m tidy kept refl own out shown
      ∙ ap (does (told line d)) by
      ∙ sym (quiet_takes d from item line r quiet)

  -- an item that goes back
  pub replies_done : (a : Doing) (answer : Item) → lent_by from (packet_of answer) ≡ [] →
      a ≡ told line d → b ≡ does a (sends from answer a.own.node) →
      b ≡ takes from item line (rulings.Replies answer) d
  replies_done a answer none is done =
      done
      ∙ ap (λ (x : Doing). does x (sends from answer x.own.node)) is
      ∙ ap (does (told line d)) (lends_none from answer d.own.node none)
      ∙ sym (quiet_takes d from item line (rulings.Replies answer) quiet)

  -- an end that closes
  pub closes_done : (a : Doing) → a ≡ told line d → b ≡ does a (closing from a.own.node) →
      b ≡ takes from item line rulings.Closes d
  closes_done a is done =
      done
      ∙ ap (λ (x : Doing). does x (closing from x.own.node)) is
      ∙ sym (quiet_takes d from item line rulings.Closes quiet)

-- an answer keeps what is stored
pub same_heap : (k : AnsweredCall) (a : Option Answer) (n : Node) →
    (answered_with k a n).heap ≡ n.heap
same_heap k None n = refl
same_heap k (Some a) n = refl

-- no more is held once an end closed
pub parted_held : (peer : ℕ) (n : Node) → length (parted peer n).held ≤ length n.held
parted_held peer n = few_pass (λ o. not (o.node == peer)) n.held

-- and no more is asked for
pub parted_asked : (peer : ℕ) (n : Node) → length (parted peer n).asked ≤ length n.asked
parted_asked peer n = few_pass (λ w. not (w.object.node == peer)) n.asked
