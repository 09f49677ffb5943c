-- Moves that touch no ask keep each lend and each ask in one place.
use Rattle.do_facts.specs.links.Links as Atoms
use Rattle.do_facts.proofs.links.AskMoves as Ask
use Rattle.do_facts.proofs.links.FreshMoves as Fresh
use Rattle.do_facts.proofs.links.LendAsks as LendAsk
use Rattle.std.proofs.Common.{◌≡◌, ◌≢◌, ℕ, true, false, List, [], refl, sym, ap, ◌∙◌}
use Rattle.do_base.specs.names.Names.{ObjectName, TokenName}
use Rattle.do_machine.specs.ends.Closing.{serials_of}
use Rattle.do_facts.specs.{Net.{Net, Note, StandFirst, net_after}, links.Links.{Atom, Links}}
use Rattle.do_facts.specs.links.Moves.{Ends, Frees, Grants, Hears, Holds, Leaves, Lends, Mentions}
use Rattle.do_facts.specs.links.Moves.{Move, Names, Refuses, closed, moved, note, opens, posts}
use Rattle.do_facts.specs.links.{Moves.takes, Facts.{EachAsk, LinksHold}}
use Rattle.do_facts.proofs.links.LinksStay.{NoAsks, NoLends, asks_stay, at_once, fresh_stay}
use Rattle.do_facts.proofs.links.LinksStay.{lends_stay, no_ask, no_lend, nothing_asked}
use Rattle.do_facts.proofs.links.{LinksStay.{nothing_lent, now}, TokenMoves.apart_closed}
use Rattle.do_facts.proofs.links.TokenMoves.{apart_same, tokens_closed, tokens_lent, tokens_same}
use Rattle.do_facts.proofs.FirstOnWire.{first_of}

-- an end is closed, and these objects are named by it
pub closes : (net : Net Links Atom) (a : ℕ) → LinksHold net → (peer : ℕ) (names : List ℕ) →
    LinksHold (net_after a (closed peer (net.part a)) [] (note peer (Atoms.End names)) net)
closes net a hold peer names = record {
  apart = apart_closed net a [] (note peer (Atoms.End names)) peer hold.apart;
  lends = LendAsk.closes net a hold.lends hold.tokens hold.fresh peer names;
  tokens = tokens_closed net a [] (note peer (Atoms.End names)) peer hold.tokens;
  fresh = Fresh.closes net a hold.fresh peer names;
  asks = Ask.closes net a hold.asks peer names;
}

module _ (net : Net Links Atom) (a : ℕ) (hold : LinksHold net) where
  -- the part of the node
  abbrev pub p : Links
  p = net.part a

  -- the net once the node moved
  abbrev pub Now : Move → Type 0
  Now v = LinksHold (net_after a (moved p v) (takes v) (posts p v) net)

  -- a peer over an open end is another node
  pub other : (peer : ℕ) → opens p peer ≡ true → peer ≢ a
  other peer o e = no (ap (opens p) (sym e) ∙ o) (hold.apart a)
    where
      no : opens p a ≡ true → opens p a ≡ false → ⊥
      no x y = cc

  -- nothing stands first, where nothing is taken
  nothing_first : StandFirst a [] net
  nothing_first x h = (net.wire x a, refl)

  module _ (held : List ObjectName) (taken sent : List (Note Atom))
      (first : StandFirst a taken net) (no : NoLends taken) (none : NoLends sent) where
    -- what counts for no lend keeps all, if it keeps the asks
    pub no_lend_moves : EachAsk (now net a held taken sent first) →
        LinksHold (now net a held taken sent first)
    no_lend_moves asks =
        let q = record p { held = held } in
        record {
          apart = apart_same net a q taken sent hold.apart refl;
          lends = lends_stay net a held taken sent first no none hold.lends;
          tokens = tokens_same net a q taken sent hold.tokens refl;
          fresh = fresh_stay net a held taken sent first no none hold.fresh;
          asks = asks;
        }

    -- and what counts for no ask either keeps these
    plain : NoAsks taken → NoAsks sent → LinksHold (now net a held taken sent first)
    plain unasked unanswered =
        no_lend_moves (asks_stay net a held taken sent first unasked unanswered hold.asks)

  -- an own object is named
  pub names : (to s : ℕ) → Now (Names to s)
  names to s =
      let x = Atoms.Mine s in
      plain p.held [] (note to x) nothing_first nothing_lent
      (no_lend to x (λ h s t. refl) (λ t. refl)) nothing_asked
      (no_ask to x (λ s l t. refl) (λ s l t. refl))

  -- an object of a peer is named to it
  pub mentions : (to s : ℕ) → Now (Mentions to s)
  mentions to s =
      let x = Atoms.Yours s in
      plain p.held [] (note to x) nothing_first nothing_lent
      (no_lend to x (λ h s t. refl) (λ t. refl)) nothing_asked
      (no_ask to x (λ s l t. refl) (λ s l t. refl))

  -- an object is left
  pub leaves : (o : ObjectName) → Now (Leaves o)
  leaves o =
      let x = Atoms.Left o.serial in
      plain (moved p (Leaves o)).held [] (note o.node x) nothing_first nothing_lent
      (no_lend o.node x (λ h s t. refl) (λ t. refl)) nothing_asked
      (no_ask o.node x (λ s l t. refl) (λ s l t. refl))

  -- an object is held
  pub holds : (from s : ℕ) → StandFirst a (note from (Atoms.Mine s)) net → Now (Holds from s)
  holds from s first =
      let x = Atoms.Mine s in
      plain (moved p (Holds from s)).held (note from x) [] first
      (no_lend from x (λ h s t. refl) (λ t. refl)) nothing_lent
      (no_ask from x (λ s l t. refl) (λ s l t. refl)) nothing_asked

  -- a peer named an own object
  pub hears : (from s : ℕ) → StandFirst a (note from (Atoms.Yours s)) net → Now (Hears from s)
  hears from s first =
      let x = Atoms.Yours s in
      plain p.held (note from x) [] first (no_lend from x (λ h s t. refl) (λ t. refl))
      nothing_lent (no_ask from x (λ s l t. refl) (λ s l t. refl)) nothing_asked

  -- an own object was left
  pub frees : (from s : ℕ) → StandFirst a (note from (Atoms.Left s)) net → Now (Frees from s)
  frees from s first =
      let x = Atoms.Left s in
      plain p.held (note from x) [] first (no_lend from x (λ h s t. refl) (λ t. refl))
      nothing_lent (no_ask from x (λ s l t. refl) (λ s l t. refl)) nothing_asked

  -- an ask is granted
  pub grants : (from s : ℕ) (k : TokenName) → opens p from ≡ true →
      StandFirst a (note from (Atoms.Ask s k)) net → Now (Grants from s k)
  grants from s k o first =
      let x = Atoms.Ask s k in
      let e = first_of net a from x (other from o) first in
      no_lend_moves p.held (note from x) (note from (Atoms.Granted s k)) first
      (no_lend from x (λ h s t. refl) (λ t. refl))
      (no_lend from (Atoms.Granted s k) (λ h s t. refl) (λ t. refl))
      (Ask.grants net a hold.asks from s k e.0 e.1)

  -- an ask is refused
  pub refuses : (from s : ℕ) (k : TokenName) → opens p from ≡ true →
      StandFirst a (note from (Atoms.Ask s k)) net → Now (Refuses from s k)
  refuses from s k o first =
      let x = Atoms.Ask s k in
      let e = first_of net a from x (other from o) first in
      no_lend_moves p.held (note from x) (note from (Atoms.Gone s k)) first
      (no_lend from x (λ h s t. refl) (λ t. refl))
      (no_lend from (Atoms.Gone s k) (λ h s t. refl) (λ t. refl))
      (Ask.refuses net a hold.asks from s k e.0 e.1)

  -- a third node's object is lent
  pub lends : (to : ℕ) (o : ObjectName) → Now (Lends to o)
  lends to o = record {
    apart = apart_same net a (moved p (Lends to o)) [] (note to (Atoms.Lent o p.token)) hold.apart
        refl;
    lends = LendAsk.lends net a hold.lends hold.tokens hold.fresh to o;
    tokens = tokens_lent net a to o hold.tokens hold.fresh [] (note to (Atoms.Lent o p.token));
    fresh = Fresh.lends net a hold.fresh to o;
    asks = Ask.lends net a hold.asks to o;
  }

  -- an end is closed, as the peer's was
  pub ends : (from : ℕ) (serials : List ℕ) →
      StandFirst a (note from (Atoms.End serials)) net → Now (Ends from serials)
  ends from serials first =
      let x = Atoms.End serials in
      let names = serials_of from p.held in
      at_once LinksHold net a from p.held x (closed from) (note from (Atoms.End names))
      (closes (now net a p.held (note from x) [] first) a
      (plain p.held (note from x) [] first (no_lend from x (λ h s t. refl) (λ t. refl))
      nothing_lent (no_ask from x (λ s l t. refl) (λ s l t. refl)) nothing_asked) from names)
