-- A token that was not given stays nowhere, whatever moves.
use Rattle.std.specs.{Prelude.if◌then◌else◌, List.list_any}
use Rattle.std.proofs.{Common.{◌≡◌, ℕ, true, List, [], ◌∷◌, arith}, lemmas.Bool.Decides.nat_tests}
use Rattle.do_base.specs.names.Names.{ObjectName}
use Rattle.do_machine.specs.{declared.node.Wanted.Wanted, lend.Asking.{same_wanted, wanted}}
use Rattle.do_machine.specs.Objects.{object_at}
use Rattle.do_facts.specs.Net.{Net, Note, net_after}
use Rattle.do_facts.specs.links.Links.{Ask, Atom, End, Lent, Links, Settled}
use Rattle.do_facts.specs.links.Moves.{Lends, Settles, closed, moved, next_lend, note, without_ask}
use Rattle.do_facts.{specs.links.Facts.{EachFresh, asked_in}, proofs.Notes.total-append}
use Rattle.do_facts.proofs.links.ListsChanged.{asked_less, is_ask, lends_apart, lends_less}
use Rattle.do_facts.proofs.links.ListsChanged.{lends_more, lent_apart, lent_less, lent_more}

ruleset steps = (nat_tests, total-append)

module _ (net : Net Links Atom) (a : ℕ) (fresh : EachFresh net) where
  -- the net once the node has this part, and took and posted these notes
  abbrev after : Links → List (Note Atom) → List (Note Atom) → Net Links Atom
  after q taken sent = net_after a q taken sent net

  -- a third node's object is lent
  pub lends : (to : ℕ) (o : ObjectName) → EachFresh (after (moved (net.part a) (Lends to o)) []
      (note to (Lent o (net.part a).token)))
  lends to o x y z u v =
      let p = net.part a in
      let l = next_lend p to o in
      grind (arith, steps, fresh x y z u v, lent_more y v z u l p.lent, lends_more y v l p.lent)

  -- an end is closed
  pub closes : (peer : ℕ) (names : List ℕ) →
      EachFresh (after (closed peer (net.part a)) [] (note peer (End names)))
  closes peer names x y z u v =
      let lent = (net.part a).lent in
      grind (arith, steps, fresh x y z u v, lent_apart y v z u peer lent, lends_apart y v peer lent)

  -- an ask is over, and the lender is told
  pub tells : (w : Wanted) → EachFresh (after (without_ask w (net.part a)) []
      (note w.token.lender (Settled w.token.number)))
  tells w x y z u v =
      let less = asked_less z u x v w (net.part a).asked in
      grind (arith, steps, fresh x y z u v, less)

  -- an ask is over, and the lender can't be told
  pub keeps_quiet : (w : Wanted) → EachFresh (after (without_ask w (net.part a)) [] [])
  keeps_quiet w x y z u v =
      let less = asked_less z u x v w (net.part a).asked in
      grind (arith, steps, fresh x y z u v, less)

  -- an object that was lent is asked for
  pub asks : (from h s t : ℕ) (rest : List Atom) (asked : List Wanted) →
      net.wire from a ≡ Lent (object_at h s) t ∷ rest →
      ((z u x v : ℕ) → list_any (same_wanted (wanted (object_at z u) x v)) asked
      ≡ (if is_ask (wanted (object_at h s) from t) z u x v then true
      else asked_in net a z u x v)) →
      EachFresh (after (record (net.part a) { asked = asked })
      (note from (Lent (object_at h s) t))
      (note h (Ask s (record { lender = from; number = t }))))
  asks from h s t rest asked e more x y z u v =
      let sent = fresh from a h s t in
      grind (arith, steps, fresh x y z u v, e, sent, more z u x v)

  -- a lend is over, since nothing can be asked for, or it is asked for already
  pub returns : (from h s t : ℕ) (rest : List Atom) →
      net.wire from a ≡ Lent (object_at h s) t ∷ rest →
      EachFresh (after (net.part a) (note from (Lent (object_at h s) t)) (note from (Settled t)))
  returns from h s t rest e x y z u v = grind (arith, steps, fresh x y z u v, e)

  -- a lend is known to be over
  pub settles : (from number : ℕ) (rest : List Atom) → net.wire from a ≡ Settled number ∷ rest →
      EachFresh (after (moved (net.part a) (Settles from number)) (note from (Settled number)) [])
  settles from number rest e x y z u v =
      let lent = (net.part a).lent in
      let less = lent_less y v z u from number lent in
      grind (arith, steps, fresh x y z u v, e, less, lends_less y v from number lent)
