-- Where what a node takes and posts counts for no lend and for no ask, each is where it was.
use Rattle.std.proofs.Common.{◌≡◌, ◌+◌, ◌∙◌, ℕ, Bool, List, [], refl, ap, subst, arith}
use Rattle.std.specs.List.{list_any}
use Rattle.do_base.specs.names.Names.{ObjectName}
use Rattle.do_machine.specs.{Objects.object_at, lend.{Asking.wanted, Lending.is_lend}}
use Rattle.do_facts.specs.Net.{Net, Note, StandFirst, atoms_of, net_after, total}
use Rattle.do_facts.specs.links.Facts.{EachAsk, EachFresh, EachLend, answer_of, ask_of, asked_in}
use Rattle.do_facts.specs.links.{Facts.{back_of, is_lent_to, lend_out, way_of}, Links.{Atom, Links}}
use Rattle.do_facts.specs.links.Moves.{has_wanted, note, opens}
use Rattle.do_facts.proofs.{SumsOfLists.number_if, Nets.{net_twice, part_here, total_stays}}
use Rattle.std.proofs.lemmas.Bool.Decides.{nat_tests}

-- notes that count for no lend: none is on its way, and none over
pub record NoLends (xs : List (Note Atom)) : Type 0 where
  pub way : (y h s t : ℕ) → total (way_of h s t) (atoms_of y xs) ≡ 0
  pub back : (y t : ℕ) → total (back_of t) (atoms_of y xs) ≡ 0

-- notes that count for no ask: none is on its way, and no answer
pub record NoAsks (xs : List (Note Atom)) : Type 0 where
  pub asks : (y s l t : ℕ) → total (ask_of s l t) (atoms_of y xs) ≡ 0
  pub answers : (y s l t : ℕ) → total (answer_of s l t) (atoms_of y xs) ≡ 0

-- an atom that counts for nothing counts for nothing as a note
pub weightless : (f : Atom → ℕ) (peer y : ℕ) (x : Atom) → f x ≡ 0 →
    total f (atoms_of y (note peer x)) ≡ 0
weightless f peer y x none = grind (arith, nat_tests, none)

-- an atom that counts for no lend
pub no_lend : (peer : ℕ) (x : Atom) → ((h s t : ℕ) → way_of h s t x ≡ 0) →
    ((t : ℕ) → back_of t x ≡ 0) → NoLends (note peer x)
no_lend peer x way back = record {
  way = λ y h s t. weightless (way_of h s t) peer y x (way h s t);
  back = λ y t. weightless (back_of t) peer y x (back t);
}

-- an atom that counts for no ask
pub no_ask : (peer : ℕ) (x : Atom) → ((s l t : ℕ) → ask_of s l t x ≡ 0) →
    ((s l t : ℕ) → answer_of s l t x ≡ 0) → NoAsks (note peer x)
no_ask peer x asks answers = record {
  asks = λ y s l t. weightless (ask_of s l t) peer y x (asks s l t);
  answers = λ y s l t. weightless (answer_of s l t) peer y x (answers s l t);
}

-- no note at all
pub nothing_lent : NoLends []
nothing_lent = record { way = λ y h s t. refl; back = λ y t. refl }

pub nothing_asked : NoAsks []
nothing_asked = record { asks = λ y s l t. refl; answers = λ y s l t. refl }

module _ (net : Net Links Atom) (a : ℕ) (held : List ObjectName) (taken sent : List (Note Atom))
    (first : StandFirst a taken net) where
  -- the part of the node, once it holds other objects
  abbrev q : Links
  q = record (net.part a) { held = held }

  -- the net then
  abbrev pub now : Net Links Atom
  now = net_after a q taken sent net

  -- what is read of a part beside what is held is as it was
  pub as_was : {X : Type 0} → (read : Links → X) → read q ≡ read (net.part a) → (x : ℕ) →
      read (now.part x) ≡ read (net.part x)
  as_was {X} read same x = grind (arith, nat_tests, same)

  -- a sum along a wire is as it was
  abbrev Stays : (Atom → ℕ) → ℕ → ℕ → Type 0
  Stays f x y = total f (now.wire x y) ≡ total f (net.wire x y)

  module _ (no : NoLends taken) (none : NoLends sent) where
    -- what is on its way
    way_stays : (z u v x y : ℕ) → Stays (way_of z u v) x y
    way_stays z u v x y =
        total_stays a net taken sent first (way_of z u v) (λ k. no.way k z u v)
        (λ k. none.way k z u v) x y

    -- what is over
    back_stays : (v x y : ℕ) → Stays (back_of v) x y
    back_stays v x y =
        total_stays a net taken sent first (back_of v) (λ k. no.back k v) (λ k. none.back k v) x y

    -- where a lend is out
    out_stays : (x y z u v : ℕ) → lend_out now x y z u v ≡ lend_out net x y z u v
    out_stays x y z u v =
        ap (λ (k : ℕ). k + number_if (asked_in now y z u x v)) (way_stays z u v x y)
        ∙ ap (λ (b : Bool). total (way_of z u v) (net.wire x y) + number_if b)
        (as_was (λ r. has_wanted r (wanted (object_at z u) x v)) refl y)

    -- each lend is where it was
    pub lends_stay : EachLend net → EachLend now
    lends_stay one x y z u v =
        let was = one x y z u v in
        let out = out_stays x y z u v in
        let back = back_stays v y x in
        let mine = as_was (λ r. opens r y) refl x in
        let theirs = as_was (λ r. opens r x) refl y in
        let lent = as_was (λ r. list_any (is_lent_to y v z u) r.lent) refl x in
        let lends = as_was (λ r. list_any (is_lend y v) r.lent) refl x in
        grind (arith, was, out, back, mine, theirs, lent, lends)

    -- each token that was not given is nowhere still
    pub fresh_stay : EachFresh net → EachFresh now
    fresh_stay fresh x y z u v =
        let was = fresh x y z u v in
        let token = as_was (λ r. r.token) refl x in
        let lent = as_was (λ r. list_any (is_lent_to y v z u) r.lent) refl x in
        let lends = as_was (λ r. list_any (is_lend y v) r.lent) refl x in
        grind (arith, was, token, lent, lends, out_stays x y z u v)

  -- each ask is where it was
  pub asks_stay : NoAsks taken → NoAsks sent → EachAsk net → EachAsk now
  asks_stay taken_none sent_none asks x z u w v =
      let ask : Stays (ask_of u w v) x z =
      total_stays a net taken sent first (ask_of u w v) (λ k. taken_none.asks k u w v)
      (λ k. sent_none.asks k u w v) x z
      in
      let answer : Stays (answer_of u w v) z x =
      total_stays a net taken sent first (answer_of u w v) (λ k. taken_none.answers k u w v)
      (λ k. sent_none.answers k u w v) z x
      in
      let mine = as_was (λ r. opens r z) refl x in
      let asked = as_was (λ r. has_wanted r (wanted (object_at z u) w v)) refl x in
      grind (arith, asks x z u w v, ask, answer, mine, asked)

-- what holds once an atom is taken, and then the links change and more is posted, holds where this
-- comes at once
pub at_once : (Fact : Net Links Atom → Type 0) (net : Net Links Atom) (a from : ℕ)
    (held : List ObjectName) (x : Atom) (change : Links → Links) (sent : List (Note Atom)) →
    let mid = net_after a (record (net.part a) { held = held }) (note from x) [] net in
    Fact (net_after a (change (mid.part a)) [] sent mid) →
    Fact (net_after a (change (record (net.part a) { held = held })) (note from x) sent net)
at_once Fact net a from held x change sent fact =
    let q = record (net.part a) { held = held } in
    let mid = net_after a q (note from x) [] net in
    subst Fact (net_twice a net q (change q) (note from x) [] [] sent)
    (subst (λ r. Fact (net_after a (change r) [] sent mid)) (part_here a net.part q) fact)
