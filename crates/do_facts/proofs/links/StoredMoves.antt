-- Whatever a node stores, each lend and each ask is where it was.
use Rattle.std.proofs.{Common.{ℕ, List, [], refl, arith}, lemmas.Bool.Decides.nat_tests}
use Rattle.do_machine.specs.declared.node.Stored.{Stored}
use Rattle.do_facts.specs.{Net.{Net, net_after}, links.Facts.{EachAsk, EachFresh, EachLend}}
use Rattle.do_facts.specs.links.{Facts.LinksHold, Links.{Atom, Links}}
use Rattle.do_facts.proofs.{Notes.total-append, links.TokenMoves.{apart_same, tokens_same}}

ruleset steps = (nat_tests, total-append)

module _ (net : Net Links Atom) (a : ℕ) (heap : List Stored) (serial : ℕ) where
  -- the part of the node, once it stores other objects
  abbrev q : Links
  q = record (net.part a) { heap = heap; serial = serial }

  -- the net then
  abbrev after : Net Links Atom
  after = net_after a q [] [] net

  -- each lend is where it was
  lends_stored : EachLend net → EachLend after
  lends_stored one x y z u v = grind (arith, steps, one x y z u v)

  -- each token that was not given is nowhere still
  fresh_stored : EachFresh net → EachFresh after
  fresh_stored fresh x y z u v = grind (arith, steps, fresh x y z u v)

  -- each ask is where it was
  asks_stored : EachAsk net → EachAsk after
  asks_stored asks x z u w v = grind (arith, steps, asks x z u w v)

  -- all of it
  pub stored_hold : LinksHold net → LinksHold after
  stored_hold hold = record {
    apart = apart_same net a q [] [] hold.apart refl;
    lends = lends_stored hold.lends;
    tokens = tokens_same net a q [] [] hold.tokens refl;
    fresh = fresh_stored hold.fresh;
    asks = asks_stored hold.asks;
  }
