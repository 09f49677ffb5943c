-- Each lend stays in one place, as objects are lent and asked for, and ends closed.
use Rattle.std.proofs.Common.{◌≡◌, ◌≢◌, ℕ, true, false, List, [], ◌∷◌, arith}
use Rattle.std.{specs.{Prelude.if◌then◌else◌, List.list_any}, proofs.lemmas.Bool.Decides.nat_tests}
use Rattle.do_base.specs.names.Names.{ObjectName}
use Rattle.do_machine.specs.{declared.node.Wanted.Wanted, lend.Asking.{same_wanted, wanted}}
use Rattle.do_machine.specs.Objects.{object_at}
use Rattle.do_facts.{specs.Net.{Net, Note, net_after}, proofs.Notes.total-append}
use Rattle.do_facts.specs.links.{Links.{Ask, Atom, End, Lent, Links, Settled}, Moves.Lends}
use Rattle.do_facts.specs.links.Moves.{Settles, closed, moved, next_lend, note, opens, without_ask}
use Rattle.do_facts.specs.links.Facts.{EachFresh, EachLend, EachToken, asked_in, lent_in}
use Rattle.do_facts.proofs.links.ListsChanged.{asked_less, lends_apart, lends_less, lends_more}
use Rattle.do_facts.proofs.links.ListsChanged.{is_ask, lent_lends, lent_apart, lent_less, lent_more}
use Rattle.do_facts.proofs.links.ListsChanged.{open_less}

ruleset steps = (nat_tests, total-append)

-- the net once a node has this part, and took and posted these notes
abbrev after : Net Links Atom → ℕ → Links → List (Note Atom) → List (Note Atom) → Net Links Atom
after net a q taken sent = net_after a q taken sent net

module _ (net : Net Links Atom) (a : ℕ) (one : EachLend net)
    (tokens : EachToken net)
    (fresh : EachFresh net) where
  -- a third node's object is lent
  pub lends : (to : ℕ) (o : ObjectName) →
      EachLend (after net a (moved (net.part a) (Lends to o)) []
      (note to (Lent o (net.part a).token)))
  lends to o x y z u v =
      let p = net.part a in
      let l = next_lend p to o in
      let lent = lent_more y v z u l p.lent in
      grind (arith, steps, one x y z u v, fresh x y z u v, lent, lends_more y v l p.lent)

  -- an end is closed
  pub closes : (peer : ℕ) (names : List ℕ) →
      EachLend (after net a (closed peer (net.part a)) [] (note peer (End names)))
  closes peer names x y z u v =
      let p = net.part a in
      let lent = lent_apart y v z u peer p.lent in
      let other = lends_apart y v peer p.lent in
      let mine = open_less y peer p.open_to in
      let theirs = open_less x peer p.open_to in
      grind (arith, steps, one x y z u v, lent, mine, theirs, other)

  module _ (h s l t : ℕ) (asked : asked_in net a h s l t ≡ true) where
    -- the ask that is answered
    abbrev ask : Wanted
    ask = wanted (object_at h s) l t

    -- an ask is over, and the lender is told
    pub tells : opens (net.part a) l ≡ true →
        EachLend (after net a (without_ask ask (net.part a)) [] (note l (Settled t)))
    tells o x y z u v =
        let p = net.part a in
        let less = asked_less z u x v ask p.asked in
        let same = tokens x v z u y h s y in
        let lent = lent_lends y v h s (net.part x).lent in
        grind (arith, steps, one x y z u v, less, one x y h s v, same, o, asked, lent)

    -- an ask is over, and the lender can't be told
    pub keeps_quiet : opens (net.part a) l ≡ false →
        EachLend (after net a (without_ask ask (net.part a)) [] [])
    keeps_quiet o x y z u v =
        let p = net.part a in
        let less = asked_less z u x v ask p.asked in
        grind (arith, steps, one x y z u v, less, o)

  -- an object that was lent is asked for
  pub asks : (from h s t : ℕ) (rest : List Atom) (asked : List Wanted) →
      net.wire from a ≡ Lent (object_at h s) t ∷ rest → asked_in net a h s from t ≡ false →
      ((z u x v : ℕ) → list_any (same_wanted (wanted (object_at z u) x v)) asked
      ≡ (if is_ask (wanted (object_at h s) from t) z u x v then true
      else asked_in net a z u x v)) →
      EachLend (after net a (record (net.part a) { asked = asked })
      (note from (Lent (object_at h s) t))
      (note h (Ask s (record { lender = from; number = t }))))
  asks from h s t rest asked e none more x y z u v =
      record {
        once = λ d. grind (arith, steps, one x y z u v, e, none, more z u x v);
        most = λ d. grind (arith, steps, one x y z u v, e, none, more z u x v);
        least = λ d. grind (arith, steps, one x y z u v, e, none, more z u x v);
        known = λ d. grind (arith, steps, one x y z u v, e, none, more z u x v);
        told = λ d. grind (arith, steps, one x y z u v, e);
      }

  -- no object that was lent was asked for already
  pub not_twice : (from h s t : ℕ) (rest : List Atom) → from ≢ a →
      net.wire from a ≡ Lent (object_at h s) t ∷ rest → asked_in net a h s from t ≡ true → ⊥
  not_twice from h s t rest apart e there =
      let most = (one from a h s t).once apart in
      grind (arith, steps, most, e, there)

  -- a lend is over, since nothing can be asked for
  pub returns : (from h s t : ℕ) (rest : List Atom) →
      net.wire from a ≡ Lent (object_at h s) t ∷ rest →
      EachLend (after net a (net.part a) (note from (Lent (object_at h s) t))
      (note from (Settled t)))
  returns from h s t rest e x y z u v =
      let same = tokens x v z u y h s y in
      let lent = lent_lends y v h s (net.part x).lent in
      grind (arith, steps, one x y z u v, e, one x y h s v, same, lent)

  -- a lend is known to be over
  pub settles : (from number h s : ℕ) (rest : List Atom) →
      net.wire from a ≡ Settled number ∷ rest → opens (net.part a) from ≡ true →
      lent_in net a number h s from ≡ true →
      EachLend (after net a (moved (net.part a) (Settles from number))
      (note from (Settled number)) [])
  settles from number h s rest e o there x y z u v =
      let p = net.part a in
      let less = lent_less y v z u from number p.lent in
      let other = lends_less y v from number p.lent in
      grind (arith, steps, one x y z u v, e, less, o, one a from h s number, there, other)
