-- What a node takes from one peer leaves what it has for another.
use Rattle.do_behave.specs.declared.invocation.Reason.TheVariants as reasons
use Rattle.do_machine.specs.declared.item.Item.TheVariants as items
use Rattle.std.proofs.Common.{◌≡◌, ◌==◌, ℕ, Bool, true, false, cond, List, [], ◌∷◌, Result, Ok, Err}
use Rattle.std.proofs.Common.{refl, inl, inr, arith}
use Rattle.std.specs.{Prelude.{filter, is_some, map, not, ◌&&◌}, List.{AllByRecursion, list_any}}
use Rattle.std.proofs.lemmas.{Bool.Decides.nat_tests, Map.Views.any-filter_same}
use Rattle.do_base.specs.declared.{events.exception.Exc.Exc, values.value.Value.Value}
use Rattle.do_base.specs.names.Names.{ObjectName, TokenName}
use Rattle.do_behave.specs.declared.invocation.{Answer.Answer, Waited.Waited}
use Rattle.do_class.specs.declared.{ids.MethodId.MethodId, packet.Name.Name}
use Rattle.do_class.specs.declared.packet.{Name.TheVariants.{Lent, Mine, Yours}, Packet.Packet}
use Rattle.do_machine.specs.{Context.Context, Effect.{each, only, queueing}, Items.exported}
use Rattle.do_machine.specs.Objects.{object_at}
use Rattle.do_packet.specs.Met.{has_object}
use Rattle.do_machine.specs.{State.{is_open, own, stored}, declared.item.Item.Item}
use Rattle.do_machine.specs.declared.{item.Message.Message, node.{Lend.Lend, Node.Node}}
use Rattle.do_machine.specs.declared.{node.Wanted.Wanted, state.Effect.Effect}
use Rattle.do_machine.specs.{ends.Closing.{asked_of, closing, parted, serials_of}, held.Kept.kept}
use Rattle.do_machine.specs.held.{Leaving.{freeing, left, leaving}, Refers.node_objects}
use Rattle.do_machine.specs.lend.Asking.{ask_over, asking, granting, same_wanted, settling, wanted}
use Rattle.do_machine.specs.lend.{Asking.{with_wanted, without_wanted}, Lending.is_lend}
use Rattle.do_machine.specs.{lend.Lending.with_settled, run.Fresh.{fresh, pushed, with_objects}}
use Rattle.do_machine.specs.take.Awaiting.{AnsweredCall, answering}
use Rattle.do_machine.specs.take.Receipt.{arrived, received, receiving, receiving_name}
use Rattle.do_machine.specs.take.{Requests.{admission, refusing, request}, Take.{arrival, holding}}
use Rattle.do_machine.specs.take.Take.{method_call, root_call, take_effect, values_arrival}
use Rattle.do_peers.proofs.Keeping.{Keeps, NamesNothing, filter_in, keeps_each, keeps_ends}
use Rattle.do_peers.proofs.Keeping.{keeps_then}

module _ (q : ℕ) where
  -- ---- asks and lends

  -- a lend that is over is told, which names nothing
  pub keeps_settling : (w : Wanted) (n : Node) → Keeps q n (settling w n)
  keeps_settling w n = go (not (is_open n w.token.lender))
    where
      go : (shut : Bool) →
          Keeps q n (cond shut (only n) (queueing w.token.lender (items.Settled w.token.number) n))
      go true = keeps_ends q n (only n) refl refl tt
      go false = keeps_ends q n (queueing w.token.lender (items.Settled w.token.number) n) refl refl
          (inr (λ port. refl), tt)

  -- so is an ask, or it is sent
  keeps_asking : (w : Wanted) (n : Node) → Keeps q n (asking w n)
  keeps_asking w n = go (not (is_open n w.object.node)) (list_any (same_wanted w) n.asked)
    where
      go : (shut twice : Bool) → Keeps q n (cond shut (settling w n) (cond twice (only n)
          (queueing w.object.node (items.Ask w.object.serial w.token) (with_wanted w n))))
      go true twice = keeps_settling w n
      go false true = keeps_ends q n (only n) refl refl tt
      go false false = keeps_ends q n
          (queueing w.object.node (items.Ask w.object.serial w.token) (with_wanted w n)) refl refl
          (inr (λ port. refl), tt)

  -- an ask that is over settles
  keeps_ask_over : (w : Wanted) (n : Node) → Keeps q n (ask_over w n)
  keeps_ask_over w n = let k = keeps_settling w (without_wanted w n) in
      record { end = k.end; lends = k.lends; sent = k.sent }

  -- ---- what comes in a message

  -- each name that comes is asked for, or nothing is done
  keeps_name : (from : ℕ) (name : Name) (n : Node) → Keeps q n (receiving_name from name n)
  keeps_name from (Mine serial class) n = keeps_ends q n (only n) refl refl tt
  keeps_name from (Yours serial) n = keeps_ends q n (only n) refl refl tt
  keeps_name from (Lent o class token) n = keeps_asking (wanted o from token) n

  -- a message is received, and then something is done that keeps all
  keeps_received : (c : Context) (from : ℕ) (packet : Packet) (next : List Value → Node → Effect) →
      ((values : List Value) (n : Node) → Keeps q n (next values n)) → (n : Node) →
      Keeps q n (received c from packet next n)
  keeps_received c from packet next rest n =
      keeps_then q n (receiving c from packet n) (next (arrived c from packet).values) names
      (rest (arrived c from packet).values (receiving c from packet n).node)
    where
      made : Node
      made = with_objects (arrived c from packet).copies n

      names : Keeps q n (receiving c from packet n)
      names = let k = keeps_each q (receiving_name from) (keeps_name from) packet.names made in
          record { end = k.end; lends = k.lends; sent = k.sent }

  -- an answer goes to an invocation, or ends a late call
  keeps_answering : (k : AnsweredCall) (answer : Waited → Answer) (n : Node) →
      Keeps q n (answering k answer n)
  keeps_answering k answer n = keeps_ends q n (answering k answer n) refl refl tt

module _ (from q : ℕ) (apart : (from == q) ≡ false) where
  -- ---- what is sent back

  -- what is queued to the peer itself names nothing to another
  keeps_back : (item : Item) (n m : Node) → m.open_to ≡ n.open_to → m.lent ≡ n.lent →
      Keeps q n (queueing from item m)
  keeps_back item n m ends lent = keeps_ends q n (queueing from item m) ends lent (inl apart, tt)

  -- a refusal goes back, or is shown
  keeps_refusing : (e : Exc) (n : Node) (number : ℕ) →
      Keeps q n (refusing e (reasons.Call from number) n)
  keeps_refusing e n number = keeps_back (items.Raised number e) n n refl refl

  -- a call is refused, or invokes its method
  keeps_call : (c : Context) (number : ℕ) (m : Message) (values : List Value) (n : Node) →
      Keeps q n (request c from (reasons.Call from number) m values n)
  keeps_call c number m values n = go (admission c from m values)
    where
      go : (a : Result MethodId Exc) → Keeps q n (elim a [
        | Err e ↦ refusing e (reasons.Call from number) n
        | Ok method ↦ only
            (pushed (fresh (own c.node m.target) method (reasons.Call from number) values) n)
      ])
      go (Err e) = keeps_refusing e n number
      go (Ok method) = keeps_ends q n (only
          (pushed (fresh (own c.node m.target) method (reasons.Call from number) values) n))
          refl refl tt

  -- so is a oneway message
  keeps_oneway : (c : Context) (m : Message) (values : List Value) (n : Node) →
      Keeps q n (request c from (reasons.Oneway from) m values n)
  keeps_oneway c m values n = go (admission c from m values)
    where
      go : (a : Result MethodId Exc) → Keeps q n (elim a [
        | Err e ↦ refusing e (reasons.Oneway from) n
        | Ok method ↦ only
            (pushed (fresh (own c.node m.target) method (reasons.Oneway from) values) n)
      ])
      go (Err e) = keeps_ends q n (refusing e (reasons.Oneway from) n) refl refl tt
      go (Ok method) = keeps_ends q n (only
          (pushed (fresh (own c.node m.target) method (reasons.Oneway from) values) n))
          refl refl tt

  -- an ask is granted, or there is nothing to grant
  keeps_granting : (serial : ℕ) (token : TokenName) (n : Node) →
      Keeps q n (granting from serial token n)
  keeps_granting serial token n = go (is_some (stored serial n.heap))
    where
      go : (there : Bool) → Keeps q n (cond there (queueing from (items.Granted serial token) n)
          (queueing from (items.Gone serial token) n))
      go true = keeps_back (items.Granted serial token) n n refl refl
      go false = keeps_back (items.Gone serial token) n n refl refl

  -- ---- what ends

  -- a port that passes one test passes the other
  other_port : (p : ℕ) → (p == q) ≡ true → not (p == from) ≡ true
  other_port p same = grind (arith, nat_tests, apart, same)

  -- where one of two tests fails, both do not pass
  one_fails : (a b : Bool) → not b ≡ true → not (a && b) ≡ true
  one_fails true b fails = fails
  one_fails false b fails = refl

  -- a lend to the peer is over
  keeps_settled : (number : ℕ) (n : Node) → Keeps q n (only (with_settled from number n))
  keeps_settled number n = record {
    end = refl;
    lends = filter_in (λ (l : Lend). l.borrower == q) (λ l. not (is_lend from number l))
        (λ l same. one_fails (l.number == number) (l.borrower == from)
        (other_port l.borrower same)) n.lent;
    sent = tt;
  }

  -- the end towards the peer closes
  pub keeps_closing : (n : Node) → Keeps q n (closing from n)
  keeps_closing n =
      keeps_then q n (queueing from (items.End (serials_of from n.held)) (parted from n))
      (each settling (asked_of from n)) first
      (keeps_each q settling (keeps_settling q) (asked_of from n) (parted from n))
    where
      first : Keeps q n (queueing from (items.End (serials_of from n.held)) (parted from n))
      first = record {
        end = any-filter_same (λ p. p == q) (λ p. not (p == from)) true other_port n.open_to;
        lends = filter_in (λ (l : Lend). l.borrower == q) (λ l. not (l.borrower == from))
            (λ l same. other_port l.borrower same) n.lent;
        sent = (inl apart, tt);
      }

  -- ---- all that a peer may send

  -- whatever an item comes to
  keeps_arrival : (c : Context) (item : Item) (n : Node) → Keeps q n (arrival c from item n)
  keeps_arrival c (items.Call number m) n =
      keeps_received q c from m.packet (request c from (reasons.Call from number) m)
      (keeps_call c number m) n
  keeps_arrival c (items.Oneway m) n =
      keeps_received q c from m.packet (request c from (reasons.Oneway from) m)
      (keeps_oneway c m) n
  keeps_arrival c (items.Reply number packet) n =
      keeps_received q c from packet (values_arrival c (method_call from number))
      (λ values m. keeps_answering q _ _ m) n
  keeps_arrival c (items.Raised number e) n = keeps_answering q _ _ n
  keeps_arrival c (items.RootAsk number) n = keeps_back _ n n refl refl
  keeps_arrival c (items.RootAnswer number packet) n =
      keeps_received q c from packet (values_arrival c (root_call from number))
      (λ values m. keeps_answering q _ _ m) n
  keeps_arrival c (items.Ask serial token) n = keeps_granting serial token n
  keeps_arrival c (items.Granted serial token) n =
      keeps_ask_over q (wanted (object_at from serial) token.lender token.number) n
  keeps_arrival c (items.Gone serial token) n =
      keeps_ask_over q (wanted (object_at from serial) token.lender token.number) n
  keeps_arrival c (items.Left serial) n = keeps_ends q n (only n) refl refl tt
  keeps_arrival c (items.Settled number) n = keeps_settled number n
  keeps_arrival c (items.End serials) n = keeps_closing n

  -- so a take leaves what the node has for another peer
  pub keeps_take : (c : Context) (item : Item) → Keeps q c.node (take_effect c from item)
  keeps_take c item =
      let k = keeps_arrival c item (holding (exported from c.node.port item) c.node) in
      record { end = k.end; lends = k.lends; sent = k.sent }

-- what follows each step leaves it too
pub keeps_leaving : (q : ℕ) (entry : ℕ → ℕ → Bool) (n : Node) → Keeps q n (leaving entry n)
keeps_leaving q entry n =
    keeps_ends q n (leaving entry n) refl refl (all_left (filter (λ o. not (has_object
    (node_objects freed) o)) freed.held))
  where
    freed : Node
    freed = (freeing (kept entry n) n).node

    all_left : (os : List ObjectName) → AllByRecursion (NamesNothing q) (map left os)
    all_left [] = tt
    all_left (o ∷ os) = (inr (λ port. refl), all_left os)
