-- Whatever happens, each lend and each ask stays in one place.
use Rattle.do_facts.specs.links.Links as Atoms
use Rattle.do_facts.proofs.links.AskMoves as Ask
use Rattle.do_facts.proofs.links.FreshMoves as Fresh
use Rattle.do_facts.proofs.links.LendAsks as LendAsk
use Rattle.do_facts.proofs.links.PlainMoves
use Rattle.std.proofs.Common.{◌≡◌, ℕ, Bool, true, false, List, [], ◌∷◌, refl, sym, arith, ◌∙◌}
use Rattle.std.proofs.lemmas.Bool.Decides.{nat_tests}
use Rattle.do_base.specs.names.Names.{ObjectName, TokenName}
use Rattle.do_machine.specs.{Objects.object_at, declared.node.Wanted.Wanted}
use Rattle.do_machine.specs.{ends.Closing.serials_of, lend.Asking.wanted}
use Rattle.do_facts.specs.{Net.{Net, Note, StandFirst, net_after}, Moves.{Happening, Happens}}
use Rattle.do_facts.specs.{Moves.{Keeps, Lost, Moved, net_then}, links.Links.{Atom, Links}}
use Rattle.do_facts.specs.links.Moves.{Asks, AsksOnce, Closes, Ends, Frees, GivesUp, Grants, Holds}
use Rattle.do_facts.specs.links.Moves.{Hears, Leaves, Lends, Mentions, Misses, Move, Names}
use Rattle.do_facts.specs.links.Moves.{Receives, Refuses, Returns, Settles, Stores, Strikes}
use Rattle.do_facts.specs.links.Moves.{link_rules, may, moved, note, has_wanted, opens, posts}
use Rattle.do_facts.specs.links.{Moves.{takes, telling, without_ask}, Facts.{EachAsk, EachFresh}}
use Rattle.do_facts.specs.links.Facts.{EachLend, EachToken, LinksHold, answer_of, ask_of, asked_in}
use Rattle.do_facts.{specs.links.Facts.{lends_to, same3}, proofs.links.LinksStay.{NoLends, as_was}}
use Rattle.do_facts.proofs.links.LinksStay.{at_once, fresh_stay, lends_stay, no_lend, nothing_lent}
use Rattle.do_facts.proofs.links.{LinksStay.now, ListsChanged.{asked_more, lend_there}}
use Rattle.do_facts.proofs.links.{StoredMoves.stored_hold, TokenMoves.{apart_same, asks_lost}}
use Rattle.do_facts.proofs.links.TokenMoves.{fresh_lost, lends_lost, tokens_same, tokens_settled}
use Rattle.do_facts.proofs.{FirstOnWire.first_of, links.PlainMoves.{Now, closes, other}}

module _ (net : Net Links Atom) (a : ℕ) (hold : LinksHold net) where
  -- the links of the node
  abbrev p : Links
  p = net.part a

  -- an ask of which the home's end is closed is over
  gives_up : (w : Wanted) (told : Bool) → may p (GivesUp w told) → Now net a hold (GivesUp w told)
  gives_up w true m =
      let h = w.object.node in
      let s = w.object.serial in
      let l = w.token.lender in
      let t = w.token.number in
      let q = moved p (GivesUp w true) in
      record {
        apart = apart_same net a q [] (note l (Atoms.Settled t)) hold.apart refl;
        lends = LendAsk.tells net a hold.lends hold.tokens hold.fresh h s l t m.1 m.2;
        tokens = tokens_same net a q [] (note l (Atoms.Settled t)) hold.tokens refl;
        fresh = Fresh.tells net a hold.fresh w;
        asks = Ask.tells net a hold.asks h s l t m.0;
      }
  gives_up w false m =
      let h = w.object.node in
      let s = w.object.serial in
      let l = w.token.lender in
      let t = w.token.number in
      let q = moved p (GivesUp w false) in
      record {
        apart = apart_same net a q [] [] hold.apart refl;
        lends = LendAsk.keeps_quiet net a hold.lends hold.tokens hold.fresh h s l t m.1 m.2;
        tokens = tokens_same net a q [] [] hold.tokens refl;
        fresh = Fresh.keeps_quiet net a hold.fresh w;
        asks = Ask.keeps_quiet net a hold.asks h s l t m.0;
      }

  -- an object that was lent is asked for
  asks : (from : ℕ) (o : ObjectName) (t : ℕ) → may p (Asks from o t) →
      StandFirst a (note from (Atoms.Lent o t)) net → Now net a hold (Asks from o t)
  asks from o t m first =
      let e = first_of net a from (Atoms.Lent o t) (other net a hold from m.0) first in
      let q = moved p (Asks from o t) in
      let taken = note from (Atoms.Lent o t) in
      let sent = posts p (Asks from o t) in
      let more = λ (z u x v : ℕ). asked_more z u x v (wanted o from t) p.asked in
      record {
        apart = apart_same net a q taken sent hold.apart refl;
        lends = LendAsk.asks net a hold.lends hold.tokens hold.fresh from o.node o.serial t e.0
            q.asked e.1 m.2 more;
        tokens = tokens_same net a q taken sent hold.tokens refl;
        fresh = Fresh.asks net a hold.fresh from o.node o.serial t e.0 q.asked e.1 more;
        asks = Ask.asks_home net a hold.asks from o.node o.serial t e.0 q.asked
            (other net a hold o.node m.1) e.1 m.2 more;
      }

  -- it was not asked for already
  asks_once : (from : ℕ) (o : ObjectName) (t : ℕ) → may p (AsksOnce from o t) →
      StandFirst a (note from (Atoms.Lent o t)) net → Now net a hold (AsksOnce from o t)
  asks_once from o t m first =
      let apart = other net a hold from m.0 in
      let e = first_of net a from (Atoms.Lent o t) apart first in
      absurd (LendAsk.not_twice net a hold.lends hold.tokens hold.fresh from o.node o.serial t e.0
      apart e.1 m.2)

  -- a lend is over, since nothing can be asked for
  returns : (from : ℕ) (o : ObjectName) (t : ℕ) → may p (Returns from o t) →
      StandFirst a (note from (Atoms.Lent o t)) net → Now net a hold (Returns from o t)
  returns from o t m first =
      let e = first_of net a from (Atoms.Lent o t) (other net a hold from m.0) first in
      let taken = note from (Atoms.Lent o t) in
      let sent = note from (Atoms.Settled t) in
      record {
        apart = apart_same net a p taken sent hold.apart refl;
        lends = LendAsk.returns net a hold.lends hold.tokens hold.fresh from o.node o.serial t e.0
            e.1;
        tokens = tokens_same net a p taken sent hold.tokens refl;
        fresh = Fresh.returns net a hold.fresh from o.node o.serial t e.0 e.1;
        asks = Ask.returns net a hold.asks from o.node o.serial t e.0 e.1;
      }

  module _ (from s : ℕ) (k : TokenName) (x : Atom) (held : List ObjectName)
      (no : NoLends (note from x)) (unasked : (u w v : ℕ) → ask_of u w v x ≡ 0)
      (answers : (u w v : ℕ) → answer_of u w v x ≡ same3 u w v s k.lender k.number)
      (o : opens p from ≡ true) (first : StandFirst a (note from x) net) where
    -- the ask that is answered
    abbrev ask : Wanted
    ask = wanted (object_at from s) k.lender k.number

    -- the links without it
    abbrev without : Links
    without = without_ask ask (record p { held = held })

    -- the net once the answer was taken, and nothing done
    abbrev mid : Net Links Atom
    mid = now net a held (note from x) [] first

    -- what stands first
    there : (rest : List Atom) × (net.wire from a ≡ x ∷ rest)
    there = first_of net a from x (other net a hold from o) first

    -- the ask was sent
    asked : asked_in net a from s k.lender k.number ≡ true
    asked =
        Ask.answer_known net a hold.asks from s k.lender k.number x unasked answers there.0
        (other net a hold from o) o there.1

    -- and is still there
    asked_still : asked_in mid a from s k.lender k.number ≡ true
    asked_still =
        as_was net a held (note from x) [] first (λ r. has_wanted r ask) refl a ∙ asked

    -- the lender's end is as it was
    told_still : (told : Bool) → opens p k.lender ≡ told → opens (mid.part a) k.lender ≡ told
    told_still told t =
        as_was net a held (note from x) [] first (λ r. opens r k.lender) refl a ∙ t

    -- all of it, where the lends, the fresh tokens and the asks are kept
    answered : (sent : List (Note Atom)) →
        EachLend (net_after a (without_ask ask (mid.part a)) [] sent mid) →
        EachFresh (net_after a (without_ask ask (mid.part a)) [] sent mid) →
        EachAsk (net_after a without (note from x) sent net) →
        LinksHold (net_after a without (note from x) sent net)
    answered sent lends fresh asks = record {
      apart = apart_same net a without (note from x) sent hold.apart refl;
      lends = at_once EachLend net a from held x (without_ask ask) sent lends;
      tokens = tokens_same net a without (note from x) sent hold.tokens refl;
      fresh = at_once EachFresh net a from held x (without_ask ask) sent fresh;
      asks = asks;
    }

    -- an ask that was answered is over, and the lender is told or not
    over : (told : Bool) → opens p k.lender ≡ told →
        LinksHold (net_after a without (note from x) (telling told k) net)
    over told t =
        let lends = lends_stay net a held (note from x) [] first no nothing_lent hold.lends in
        let fresh = fresh_stay net a held (note from x) [] first no nothing_lent hold.fresh in
        let tokens = tokens_same net a (record p { held = held }) (note from x) [] hold.tokens refl
        in
        go told t lends fresh tokens
      where
        go : (told : Bool) → opens p k.lender ≡ told → EachLend mid → EachFresh mid →
            EachToken mid → LinksHold (net_after a without (note from x) (telling told k) net)
        go true t lends fresh tokens =
            answered (note k.lender (Atoms.Settled k.number))
            (LendAsk.tells mid a lends tokens fresh from s k.lender k.number asked_still
            (told_still true t))
            (Fresh.tells mid a fresh ask)
            (Ask.answered_told net a hold.asks from s k.lender k.number x unasked answers there.0
            (other net a hold from o) o there.1 held)
        go false t lends fresh tokens =
            answered []
            (LendAsk.keeps_quiet mid a lends tokens fresh from s k.lender k.number asked_still
            (told_still false t))
            (Fresh.keeps_quiet mid a fresh ask)
            (Ask.answered_quiet net a hold.asks from s k.lender k.number x unasked answers there.0
            (other net a hold from o) o there.1 held)

  -- a lend of which the end is told is lent
  lend_known : (from number : ℕ) (rest : List Atom) → opens p from ≡ true →
      net.wire from a ≡ Atoms.Settled number ∷ rest → lends_to net a number from ≡ true
  lend_known from number rest o e =
      let told = (hold.lends a from 0 0 number).told (λ x. other net a hold from o (sym x)) o in
      grind (arith, nat_tests, told, e)

  -- a lend is known to be over
  settles : (from number : ℕ) → opens p from ≡ true →
      StandFirst a (note from (Atoms.Settled number)) net → Now net a hold (Settles from number)
  settles from number o first =
      let e = first_of net a from (Atoms.Settled number) (other net a hold from o) first in
      let there = lend_there from number p.lent (lend_known from number e.0 o e.1) in
      let q = moved p (Settles from number) in
      let taken = note from (Atoms.Settled number) in
      record {
        apart = apart_same net a q taken [] hold.apart refl;
        lends = LendAsk.settles net a hold.lends hold.tokens hold.fresh from number there.0 there.1
            e.0 e.1 o there.2;
        tokens = tokens_settled net a taken [] from number hold.tokens;
        fresh = Fresh.settles net a hold.fresh from number e.0 e.1;
        asks = Ask.settles net a hold.asks from number e.0 e.1;
      }

  -- any move
  pub moves : (v : Move) → may p v → StandFirst a (takes v) net → Now net a hold v
  moves (Names to s) m first = PlainMoves.names net a hold to s
  moves (Lends to o) m first = PlainMoves.lends net a hold to o
  moves (Leaves o) m first = PlainMoves.leaves net a hold o
  moves (Closes peer) m first = closes net a hold peer (serials_of peer p.held)
  moves (GivesUp w told) m first = gives_up w told m
  moves (Holds from s) m first = PlainMoves.holds net a hold from s first
  moves (Asks from o t) m first = asks from o t m first
  moves (AsksOnce from o t) m first = asks_once from o t m first
  moves (Returns from o t) m first = returns from o t m first
  moves (Grants from s k) m first = PlainMoves.grants net a hold from s k m.0 first
  moves (Refuses from s k) m first = PlainMoves.refuses net a hold from s k m.0 first
  moves (Receives from s k told) m first =
      over from s k (Atoms.Granted s k) (moved p (Receives from s k told)).held
      (no_lend from (Atoms.Granted s k) (λ h s t. refl) (λ t. refl)) (λ u w v. refl)
      (λ u w v. refl) m.0 first told m.1
  moves (Misses from s k told) m first =
      over from s k (Atoms.Gone s k) p.held
      (no_lend from (Atoms.Gone s k) (λ h s t. refl) (λ t. refl)) (λ u w v. refl)
      (λ u w v. refl) m.0 first told m.1
  moves (Settles from number) m first = settles from number m first
  moves (Frees from s) m first = PlainMoves.frees net a hold from s first
  moves (Ends from serials) m first = PlainMoves.ends net a hold from serials first
  moves (Mentions to s) m first = PlainMoves.mentions net a hold to s
  moves (Hears from s) m first = PlainMoves.hears net a hold from s first
  moves (Stores heap serial) m first = stored_hold net a heap serial hold
  moves (Strikes heap) m first = stored_hold net a heap p.serial hold

-- whatever happens
pub links_keep : Keeps link_rules LinksHold
links_keep = record { by = by_happening }
  where
    by_happening : (net : Net Links Atom) (h : Happening Atom Move) → LinksHold net →
        Happens link_rules net h → LinksHold (net_then link_rules net h)
    by_happening net (Moved port v) hold m = moves net port hold v m.0 m.1
    by_happening net (Lost from to first rest) hold m = record {
      apart = hold.apart;
      lends = lends_lost net from to first rest m.0 hold.lends;
      tokens = λ n t h s b i r c. record { same = (hold.tokens n t h s b i r c).same };
      fresh = fresh_lost net from to first rest m.0 hold.fresh;
      asks = asks_lost net from to first rest m.0 hold.asks;
    }
