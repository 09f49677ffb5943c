-- Whatever happens, each call stays in one place.
use Rattle.do_facts.proofs.calls.CallMoves as Call
use Rattle.do_facts.proofs.calls.CallsEnd as Ended
use Rattle.do_facts.proofs.calls.TopMoves
use Rattle.std.proofs.Common.{◌≡◌, ◌==◌, ◌++◌, ◌≤◌, ℕ, Bool, true, false, List, [], refl, arith}
use Rattle.std.{specs.Prelude.if◌then◌else◌, proofs.lemmas.Bool.Decides.nat_tests}
use Rattle.do_machine.specs.take.Awaiting.{AnsweredCall}
use Rattle.do_facts.specs.{Net.{Net, StandFirst}, Moves.{Happening, Happens, Keeps, Lost, Moved}}
use Rattle.do_facts.specs.{Moves.{net_then, with_wire}, calls.Calls.{Answer, Atom, Called, Calls}}
use Rattle.do_facts.specs.calls.{Calls.{RootAnswer, RootAsk}, Facts.{CallsHold, OneCall, waits}}
use Rattle.do_facts.specs.calls.Moves.{Asks, Begins, Closes, Drops, Finishes, Gives, GivesUp, Move}
use Rattle.do_facts.specs.calls.Moves.{Receives, Refuses, Replies, Returns, Serves, Starts}
use Rattle.do_facts.specs.calls.Moves.{answered_call, call_rules, may, moved, note, opens, takes}
use Rattle.do_facts.proofs.{FirstOnWire.first_of, Notes.total-append, calls.CallsEnd.numbers_stay}
use Rattle.do_facts.proofs.calls.CallCounts.{changed_numbers, changed_serves, others_wait}
use Rattle.do_facts.proofs.calls.CallCounts.{parted_numbers, parted_serves, parted_waits}
use Rattle.do_facts.proofs.{calls.CallCounts.waits_at_most, links.ListsChanged.open_less}
use Rattle.do_facts.proofs.calls.TopMoves.{After, now, other, shaped_now}

module _ (net : Net Calls Atom) (a : ℕ) (hold : CallsHold net) where
  -- the calls of the node
  abbrev p : Calls
  p = net.part a

  -- a call begins an invocation
  serves : (from k : ℕ) → opens p from ≡ true → StandFirst a (note from (Called k)) net →
      CallsHold (After net a hold (Serves from k))
  serves from k o first =
      let e = first_of net a from (Called k) (other net a hold from o) first in
      let q = moved p (Serves from k) in
      now net a hold (Serves from k) o refl
      (Call.serves_one net a hold.calls q refl (λ j. omega arith) from k e.0 e.1 (λ n j. refl))
      (numbers_stay net a hold.numbers q (note from (Called k)) [] refl (λ j. omega arith))

  -- or is refused
  refuses : (from k : ℕ) → opens p from ≡ true → StandFirst a (note from (Called k)) net →
      CallsHold (After net a hold (Refuses from k))
  refuses from k o first =
      let e = first_of net a from (Called k) (other net a hold from o) first in
      now net a hold (Refuses from k) o refl (Call.refuses net a hold.calls from k e.0 e.1)
      (numbers_stay net a hold.numbers p (note from (Called k)) (note from (Answer k)) refl
      (λ j. omega arith))

  -- a root is given
  gives : (from k : ℕ) → opens p from ≡ true → StandFirst a (note from (RootAsk k)) net →
      CallsHold (After net a hold (Gives from k))
  gives from k o first =
      let e = first_of net a from (RootAsk k) (other net a hold from o) first in
      now net a hold (Gives from k) o refl (Call.gives net a hold.calls from k e.0 e.1)
      (numbers_stay net a hold.numbers p (note from (RootAsk k)) (note from (RootAnswer k)) refl
      (λ j. omega arith))

  -- ---- answers

  -- a call is waited for once at most
  waits_once : (j : AnsweredCall) → waits p j ≤ 1
  waits_once j = omega (arith, waits_at_most p j, (hold.numbers a j.number).once)

  -- what is for a root is no method
  other_kind : (b c : Bool) → (if b then (if c then false else false) else false) ≡ false
  other_kind true true = refl
  other_kind true false = refl
  other_kind false c = refl

  -- a call of a method is answered, or one for a root
  receives : (from k : ℕ) (root : Bool) → opens p from ≡ true →
      StandFirst a (takes (Receives from k root)) net → CallsHold (After net a hold (Receives from
      k root))
  receives from k false o first =
      let e = first_of net a from (Answer k) (other net a hold from o) first in
      let key = answered_call from k false in
      let q = moved p (Receives from k false) in
      now net a hold (Receives from k false) o refl
      (Ended.method_answered net a hold.calls q (λ n j. changed_serves key n j p.stack) refl from k
      e.0 o e.1 (waits_once key)
      (λ y z h. others_wait key (answered_call y z false) h p)
      (λ y z. others_wait key (answered_call y z true) (other_kind (y == from) (z == k)) p))
      (numbers_stay net a hold.numbers q (note from (Answer k)) [] refl (changed_numbers key p))
  receives from k true o first =
      let e = first_of net a from (RootAnswer k) (other net a hold from o) first in
      let key = answered_call from k true in
      let q = moved p (Receives from k true) in
      now net a hold (Receives from k true) o refl
      (Ended.root_answered net a hold.calls q (λ n j. changed_serves key n j p.stack) refl from k
      e.0 o e.1 (waits_once key)
      (λ y z h. others_wait key (answered_call y z true) h p)
      (λ y z. others_wait key (answered_call y z false) (other_kind (y == from) (z == k)) p))
      (numbers_stay net a hold.numbers q (note from (RootAnswer k)) [] refl
      (changed_numbers key p))

  -- an end is closed
  closes : (peer : ℕ) (m : may p (Closes peer)) → CallsHold (After net a hold (Closes peer))
  closes peer m =
      let q = moved p (Closes peer) in
      record {
        apart = λ n.
            grind (arith, nat_tests, hold.apart n, open_less n peer p.open_to);
        shaped = shaped_now net a hold (Closes peer) m;
        calls = Ended.closes net a hold.calls q (λ n k. parted_serves peer n k p.stack) peer
            (λ x. open_less x peer p.open_to)
            (λ y z b h. parted_waits peer p (answered_call y z b) h);
        numbers = numbers_stay net a hold.numbers q [] [] refl (parted_numbers peer p);
      }

  -- any move
  pub moves : (v : Move) → may p v → StandFirst a (takes v) net → CallsHold (After net a hold v)
  moves Begins m first = TopMoves.begins net a hold m
  moves (Starts reason) m first = TopMoves.starts net a hold reason m
  moves (Asks to root) m first = TopMoves.asks net a hold to root m
  moves (Serves from k) m first = serves from k m first
  moves (Refuses from k) m first = refuses from k m first
  moves (Gives from k) m first = gives from k m first
  moves (Replies to k) m first = TopMoves.replies net a hold to k m
  moves (Drops to k) m first = TopMoves.drops net a hold to k m
  moves Returns m first = TopMoves.returns net a hold m
  moves (Finishes reason) m first = TopMoves.finishes net a hold reason m
  moves (Receives from k root) m first = receives from k root m first
  moves (GivesUp c) m first = TopMoves.gives_up net a hold c m
  moves (Closes peer) m first = closes peer m

-- a loss says nothing of calls
lost_call : (net : Net Calls Atom) (from to : ℕ) (first rest : List Atom) →
    net.wire from to ≡ first ++ rest → (x y z : ℕ) → OneCall net x y z →
    OneCall (record net { wire = with_wire from to (first ++ rest) net.wire }) x y z
lost_call net from to first rest e x y z one = grind (arith, nat_tests, total-append, one, e)

-- whatever happens
pub calls_keep : Keeps call_rules CallsHold
calls_keep = record { by = by_happening }
  where
    by_happening : (net : Net Calls Atom) (h : Happening Atom Move) → CallsHold net →
        Happens call_rules net h → CallsHold (net_then call_rules net h)
    by_happening net (Moved port v) hold m = moves net port hold v m.0 m.1
    by_happening net (Lost from to first rest) hold m = record {
      apart = hold.apart;
      shaped = hold.shaped;
      calls = λ x y z. lost_call net from to first rest m.0 x y z (hold.calls x y z);
      numbers = λ n k. record { once = (hold.numbers n k).once; fresh = (hold.numbers n k).fresh };
    }
