-- Each ask stays in one place, whatever moves.
use Rattle.std.{specs.{Prelude.if◌then◌else◌, List.list_any}, proofs.Common.{◌≡◌, ◌≢◌, ℕ, true}}
use Rattle.std.proofs.{Common.{false, List, [], ◌∷◌, arith}, lemmas.Bool.Decides.nat_tests}
use Rattle.do_base.specs.names.Names.{ObjectName, TokenName}
use Rattle.do_machine.specs.{declared.node.Wanted.Wanted, lend.Asking.{same_wanted, wanted}}
use Rattle.do_machine.specs.Objects.{object_at}
use Rattle.do_facts.specs.Net.{Net, Note, net_after}
use Rattle.do_facts.specs.links.Links.{Ask, Atom, End, Gone, Granted, Lent, Links, Settled}
use Rattle.do_facts.specs.links.Moves.{Lends, Settles, closed, moved, note, opens, without_ask}
use Rattle.do_facts.specs.links.Facts.{EachAsk, answer_of, ask_of, asked_in, same3}
use Rattle.do_facts.proofs.{Notes.total-append, links.ListsChanged.{asked_less, is_ask, open_less}}

ruleset steps = (nat_tests, total-append)

module _ (net : Net Links Atom) (a : ℕ) (asks : EachAsk net) where
  -- the net once the node has this part, and took and posted these notes
  abbrev after : Links → List (Note Atom) → List (Note Atom) → Net Links Atom
  after q taken sent = net_after a q taken sent net

  -- an ask is granted
  pub grants : (from s : ℕ) (k : TokenName) (rest : List Atom) → net.wire from a ≡ Ask s k ∷ rest →
      EachAsk (after (net.part a) (note from (Ask s k)) (note from (Granted s k)))
  grants from s k rest e x z u w v = grind (arith, steps, asks x z u w v, e)

  -- an ask is refused
  pub refuses : (from s : ℕ) (k : TokenName) (rest : List Atom) → net.wire from a ≡ Ask s k ∷ rest →
      EachAsk (after (net.part a) (note from (Ask s k)) (note from (Gone s k)))
  refuses from s k rest e x z u w v = grind (arith, steps, asks x z u w v, e)

  -- a third node's object is lent
  pub lends : (to : ℕ) (o : ObjectName) → EachAsk (after (moved (net.part a) (Lends to o)) []
      (note to (Lent o (net.part a).token)))
  lends to o x z u w v = grind (arith, steps, asks x z u w v)

  -- an end is closed
  pub closes : (peer : ℕ) (names : List ℕ) →
      EachAsk (after (closed peer (net.part a)) [] (note peer (End names)))
  closes peer names x z u w v =
      let ends = open_less z peer (net.part a).open_to in
      grind (arith, steps, asks x z u w v, ends)

  -- an ask of which the home's end is closed is over, and the lender is told
  pub tells : (h s l t : ℕ) → opens (net.part a) h ≡ false →
      EachAsk (after (without_ask (wanted (object_at h s) l t) (net.part a)) []
      (note l (Settled t)))
  tells h s l t c x z u w v =
      let less = asked_less z u w v (wanted (object_at h s) l t) (net.part a).asked in
      grind (arith, steps, asks x z u w v, c, less)

  -- and where the lender can't be told
  pub keeps_quiet : (h s l t : ℕ) → opens (net.part a) h ≡ false →
      EachAsk (after (without_ask (wanted (object_at h s) l t) (net.part a)) [] [])
  keeps_quiet h s l t c x z u w v =
      let less = asked_less z u w v (wanted (object_at h s) l t) (net.part a).asked in
      grind (arith, steps, asks x z u w v, c, less)

  -- an object that was lent is asked for
  pub asks_home : (from h s t : ℕ) (rest : List Atom) (asked : List Wanted) → h ≢ a →
      net.wire from a ≡ Lent (object_at h s) t ∷ rest → asked_in net a h s from t ≡ false →
      ((z u x v : ℕ) → list_any (same_wanted (wanted (object_at z u) x v)) asked
      ≡ (if is_ask (wanted (object_at h s) from t) z u x v then true
      else asked_in net a z u x v)) →
      EachAsk (after (record (net.part a) { asked = asked })
      (note from (Lent (object_at h s) t))
      (note h (Ask s (record { lender = from; number = t }))))
  asks_home from h s t rest asked apart e none more x z u w v =
      grind (arith, steps, asks x z u w v, apart, e, none, more z u w v)

  -- a lend is over, since nothing can be asked for
  pub returns : (from h s t : ℕ) (rest : List Atom) →
      net.wire from a ≡ Lent (object_at h s) t ∷ rest →
      EachAsk (after (net.part a) (note from (Lent (object_at h s) t)) (note from (Settled t)))
  returns from h s t rest e x z u w v =
      grind (arith, steps, asks x z u w v, e)

  -- a lend is known to be over
  pub settles : (from number : ℕ) (rest : List Atom) → net.wire from a ≡ Settled number ∷ rest →
      EachAsk (after (moved (net.part a) (Settles from number)) (note from (Settled number)) [])
  settles from number rest e x z u w v =
      grind (arith, steps, asks x z u w v, e)

  module _ (from s l t : ℕ) (x : Atom) (no_ask : (u w v : ℕ) → ask_of u w v x ≡ 0)
      (answers : (u w v : ℕ) → answer_of u w v x ≡ same3 u w v s l t) (rest : List Atom)
      (apart : from ≢ a) (o : opens (net.part a) from ≡ true)
      (e : net.wire from a ≡ x ∷ rest) where
    -- an ask that is answered was sent
    pub answer_known : asked_in net a from s l t ≡ true
    answer_known = grind (arith, steps, asks a from s l t, apart, o, e, no_ask s l t, answers s l t)

    -- an ask was answered, and the lender is told
    pub answered_told : (held : List ObjectName) →
        EachAsk (after (without_ask (wanted (object_at from s) l t)
        (record (net.part a) { held = held })) (note from x) (note l (Settled t)))
    answered_told held z h u w v =
        let less = asked_less h u w v (wanted (object_at from s) l t) (net.part a).asked in
        grind (arith, steps, asks z h u w v, apart, o, e, less, no_ask u w v, answers u w v)

    -- and where the lender can't be told
    pub answered_quiet : (held : List ObjectName) →
        EachAsk (after (without_ask (wanted (object_at from s) l t)
        (record (net.part a) { held = held })) (note from x) [])
    answered_quiet held z h u w v =
        let less = asked_less h u w v (wanted (object_at from s) l t) (net.part a).asked in
        grind (arith, steps, asks z h u w v, apart, o, e, less, no_ask u w v, answers u w v)
