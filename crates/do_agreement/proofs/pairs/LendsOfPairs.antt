-- Where lends and asks stand between two nodes, as the facts of a state say.
use Rattle.do_facts.specs.Net as nets
use Rattle.do_facts.specs.links.Facts as facts
use Rattle.std.proofs.Common.{◌≡◌, ◌==◌, ◌&&◌, ◌||◌, ◌+◌, ◌≤◌, ℕ, Bool, true, false, List, [], ◌∷◌}
use Rattle.std.proofs.Common.{refl, sym, ap, ◌∙◌, subst, arith}
use Rattle.std.{specs.{Prelude.Some, List.list_any}, proofs.lemmas.Bool.Decides.nat_tests}
use Rattle.do_base.specs.names.Names.{ObjectName, TokenName}
use Rattle.do_machine.specs.declared.{node.{Lend.Lend, Node.Node}, state.State.State}
use Rattle.do_machine.specs.{Objects.object_at, State.is_open, lend.Asking.wanted}
use Rattle.do_machine.specs.lend.Lending.{is_lend}
use Rattle.do_network.specs.fits.Lends.{OneAsk, OneLend, is_kept, is_lend_of, lend_out, answers_of}
use Rattle.do_network.specs.fits.{Lends.settles_of, Notes.{Note, once, tells_of, total}}
use Rattle.do_facts.specs.{Net.Net, View.{net_of, part_seen}}
use Rattle.do_facts.specs.links.{Facts.{ask_of, is_lent_to, way_of}, LinksAreKept.LinksAreKept}
use Rattle.do_facts.specs.links.{Links.{Atom, Links, links}, Moves.{has_wanted, opens}}
use Rattle.do_agreement.{specs.StandBetween.StandBetween, proofs.pairs.NotesAsAtoms.back_sum}
use Rattle.do_agreement.proofs.pairs.{NotesAsAtoms.there_sum, LinksOfNotes.answers_alike}
use Rattle.do_agreement.proofs.pairs.LinksOfNotes.{asks_alike, lends_alike, settles_alike}
use Rattle.do_agreement.proofs.{pairs.LinksOfNotes.tells_alike, places.Numbers.same_number}

-- tests that are alike pass alike
any_alike : {X : Type 0} (f g : X → Bool) → ((x : X) → f x ≡ g x) → (xs : List X) →
    list_any f xs ≡ list_any g xs
any_alike f g alike [] = refl
any_alike f g alike (x ∷ xs) =
    ap (λ b. b || list_any f xs) (alike x) ∙ ap (λ b. g x || b) (any_alike f g alike xs)

-- a lend to a peer, tested in either order
lent_alike : (peer number : ℕ) (o : ObjectName) (l : Lend) →
    is_lent_to peer number o.node o.serial l ≡ (is_lend_of o number l && (l.borrower == peer))
lent_alike peer number o l = grind (arith, nat_tests)

-- what is lent to no one under a number is not given
none_given : (number : ℕ) (ls : List Lend) →
    ((peer : ℕ) → list_any (is_lend peer number) ls ≡ false) →
    list_any (λ l. l.number == number) ls ≡ false
none_given number [] none = refl
none_given number (l ∷ ls) none =
    go (l.number == number) (list_any (is_lend l.borrower number) ls) refl (none l.borrower)
    (none_given number ls (λ peer. rest (is_lend peer number l) _ (none peer)))
  where
    rest : (a b : Bool) → (a || b) ≡ false → b ≡ false
    rest true b h = absurd cc
    rest false b h = h

    go : (b c : Bool) → (l.number == number) ≡ b →
        (((l.number == number) && (l.borrower == l.borrower)) || c) ≡ false →
        list_any (λ x. x.number == number) ls ≡ false →
        (b || list_any (λ x. x.number == number) ls) ≡ false
    go false c e h k = k
    go true c e h k =
        let same = same_number l.borrower in
        absurd (cc)

module _ (S : State) (kept : LinksAreKept S) (n m : Node) (there back : List Note)
    (stand : StandBetween S n m there back) where
  -- the state, seen by links
  abbrev net : Net Links Atom
  net = net_of links S

  -- the node's end towards the peer
  opens_there : opens (net.part n.port) m.port ≡ is_open n m.port
  opens_there = ap (λ found. opens (part_seen links found) m.port) stand.here

  -- the peer's end towards the node
  opens_back : opens (net.part m.port) n.port ≡ is_open m n.port
  opens_back = ap (λ found. opens (part_seen links found) n.port) stand.peer

  -- a lend that is kept
  kept_alike : (o : ObjectName) (number : ℕ) →
      facts.lent_in net n.port number o.node o.serial m.port ≡ is_kept n m.port o number
  kept_alike o number =
      ap (λ found. list_any (is_lent_to m.port number o.node o.serial) (part_seen links found).lent)
      stand.here
      ∙ any_alike _ _ (lent_alike m.port number o) n.lent

  -- a lend to the peer
  lends_to_alike : (borrower number : ℕ) →
      facts.lends_to net n.port number borrower ≡ list_any (is_lend borrower number) n.lent
  lends_to_alike borrower number =
      ap (λ found. list_any (is_lend borrower number) (part_seen links found).lent) stand.here

  -- how often a lend is out
  out_alike : (o : ObjectName) (number : ℕ) →
      facts.lend_out net n.port m.port o.node o.serial number ≡ lend_out n m there o number
  out_alike o number =
      ap (λ found. nets.total (way_of o.node o.serial number) (net.wire n.port m.port)
      + once (has_wanted (part_seen links found) (wanted o n.port number))) stand.peer
      ∙ ap (λ k. k + once (has_wanted (part_seen links (Some m)) (wanted o n.port number)))
      (sym (there_sum links stand _ _ (lends_alike m.port o number)))

  -- how often the end of a lend is on its way back
  settled_alike : (number : ℕ) →
      facts.settled net n.port m.port number ≡ total (settles_of number) back
  settled_alike number = sym (back_sum links stand _ _ (settles_alike number))

  -- each lend to the peer is in one place
  pub one_lend : (o : ObjectName) (number : ℕ) → OneLend n m there back o number
  one_lend o number =
      let fact = kept.hold.lends n.port m.port o.node o.serial number in
      let fresh = kept.hold.fresh n.port m.port o.node o.serial number in
      let out = out_alike o number in
      let both = ap (λ k. k + facts.settled net n.port m.port number) out
      ∙ ap (λ k. lend_out n m there o number + k) (settled_alike number) in
      record {
        alone = subst (λ k. k ≤ 1) out (fact.once stand.apart);
        kept = λ o' k'. subst (λ k. k ≤ 1) both
            (fact.most stand.apart (opens_there ∙ o') (kept_alike o number ∙ k'));
        whole = λ o' p' k'. sym both
            ∙ fact.least stand.apart (opens_there ∙ o') (opens_back ∙ p')
            (kept_alike o number ∙ k');
        unknown = λ o' k'. sym out
            ∙ fact.known stand.apart (opens_there ∙ o') (kept_alike o number ∙ k');
        settled = λ o' k'. sym (settled_alike number)
            ∙ fact.told stand.apart (opens_there ∙ o') (lends_to_alike m.port number ∙ k');
        fresh = λ low.
            let low' = subst (λ k. k ≤ number)
            (sym (ap (λ found. (part_seen links found).token) stand.here)) low in (
              none_given number n.lent (λ borrower. sym (lends_to_alike borrower number)
                  ∙ (kept.hold.fresh n.port borrower o.node o.serial number).untold low'),
              sym out ∙ fresh.unsent low',
            );
      }

  -- each ask of the peer is in one place
  pub one_ask : (serial : ℕ) (token : TokenName) → OneAsk n m there back serial token
  one_ask serial token o' =
      ap (λ k. k + total (answers_of serial token) back)
      (there_sum links stand _ _ (asks_alike serial token))
      ∙ ap (λ k. nets.total (ask_of serial token.lender token.number) (net.wire n.port m.port) + k)
      (back_sum links stand _ _ (answers_alike serial token))
      ∙ (kept.hold.asks n.port m.port serial token.lender token.number).once stand.apart
      (opens_there ∙ o')
      ∙ ap (λ found. once (has_wanted (part_seen links found)
      (wanted (object_at m.port serial) token.lender token.number))) stand.here

  -- over an open end no end was told that names an object
  pub silent : (serial : ℕ) → is_open n m.port ≡ true → total (tells_of serial) there ≡ 0
  silent serial o' =
      there_sum links stand _ _ (tells_alike serial)
      ∙ kept.silent n.port m.port serial (opens_there ∙ o')
