-- Moves of lends give tokens one after another, and tell those alone that were given.
use Rattle.do_facts.specs.links.Links as Atoms
use Rattle.std.proofs.Common.{◌≡◌, ◌<◌, ◌≤◌, ℕ, true, not, arith, filter}
use Rattle.std.specs.List.{AllByRecursion}
use Rattle.do_machine.specs.declared.node.Wanted.{Wanted}
use Rattle.do_machine.specs.{lend.Asking.{same_wanted, wanted, wanted_lt}, Objects.object_at}
use Rattle.do_facts.specs.{Net.{Net, Note, StandFirst}, links.Facts.LinksHold}
use Rattle.do_facts.specs.links.{Links.{Atom, Links}, Moves.{Asks, AsksOnce, Closes, Ends, Frees}}
use Rattle.do_facts.specs.links.Moves.{GivesUp, Grants, Hears, Holds, Leaves, Lends, Mentions}
use Rattle.do_facts.specs.links.Moves.{Misses, Move, Names, Receives, Refuses, Returns, Settles}
use Rattle.do_facts.specs.links.Moves.{may, moved, note, opens, posts, takes, link_rules}
use Rattle.do_facts.proofs.links.{ListsChanged.was_open, PlainMoves.other}
use Rattle.do_facts.proofs.EachOfLists.{each_filtered, each_weaker}
use Rattle.do_limits.proofs.Lists.{each_placed}
use Rattle.do_limits.proofs.spelled.LentTokens.{AskGiven, TokenGiven, ask_among, told_given}
use Rattle.do_facts.{specs.Moves.Keeps, proofs.links.LinksKept.links_keep}
use Rattle.do_limits.proofs.spelled.Given.{AllGiven, GiveNumbers, IsGiven, given_keeps, one_taken}
use Rattle.do_limits.proofs.spelled.Wires.{OfNotes}

-- what a node takes tells of such tokens
abbrev Takes : (ℕ → ℕ → Type 0) → ℕ → Move → Type 0
Takes G a v = AllByRecursion (λ (x : Note Atom). TokenGiven G x.peer a x.atom) (takes v)

-- the tokens that a node asks by
abbrev pub AsksGiven : (ℕ → ℕ → Type 0) → Links → Type 0
AsksGiven G p = AllByRecursion (AskGiven G) p.asked

-- the tokens of a net were given
abbrev pub TokensGiven : Net Links Atom → Type 0
TokensGiven net = AllGiven link_rules (λ p. p.token) AsksGiven TokenGiven net

-- no move takes a token back
token_grows : (p : Links) (v : Move) → p.token ≤ (moved p v).token
token_grows p (Names to s) = omega arith
token_grows p _ = omega arith

-- no move opens an end
opens_less : (p : Links) (v : Move) (peer : ℕ) → opens (moved p v) peer ≡ true → opens p peer ≡ true
opens_less p (Closes shut) peer o = was_open p shut peer o
opens_less p (Ends from names) peer o = was_open p from peer o
opens_less p _ peer o = o

module _ (G : ℕ → ℕ → Type 0) (a : ℕ) (p : Links) (all : AsksGiven G p) where
  -- the asks without one
  fewer : (w : Wanted) → AllByRecursion (AskGiven G) (filter (λ v. not (same_wanted w v)) p.asked)
  fewer w = each_filtered (AskGiven G) (λ v. not (same_wanted w v)) p.asked all

  -- what the node asks for then
  asks_then : (v : Move) → may p v → Takes G a v → AsksGiven G (moved p v)
  asks_then (GivesUp w told) m took = fewer w
  asks_then (Asks from o t) m took =
      each_placed (AskGiven G) wanted_lt (wanted o from t) p.asked
      took.0 all
  asks_then (Receives from s t told) m took = fewer (wanted (object_at from s) t.lender t.number)
  asks_then (Misses from s t told) m took = fewer (wanted (object_at from s) t.lender t.number)
  asks_then _ m took = all

  -- what it posts
  posted : (v : Move) → may p v → Takes G a v →
      ((peer : ℕ) → opens p peer ≡ true → p.token < (moved p v).token → G a p.token) →
      OfNotes (TokenGiven G) a (posts p v)
  posted (Names to s) m took new = (tt, tt)
  posted (Mentions to s) m took new = (tt, tt)
  posted (Lends to o) m took new = (new to m.0 (omega arith), tt)
  posted (Leaves o) m took new = (tt, tt)
  posted (Closes peer) m took new = (tt, tt)
  posted (GivesUp w told) m took new =
      told_given G a told w.token (ask_among G w p.asked all m.1)
  posted (Asks from o t) m took new = took
  posted (Returns from o t) m took new = took
  posted (Grants from s t) m took new = took
  posted (Refuses from s t) m took new = took
  posted (Receives from s t told) m took new = told_given G a told t took.0
  posted (Misses from s t told) m took new = told_given G a told t took.0
  posted (Ends from names) m took new = (tt, tt)
  posted _ m took new = tt

-- an atom
atom_still : (G H : ℕ → ℕ → Type 0) → ((n k : ℕ) → G n k → H n k) → (x y : ℕ) (at : Atom) →
    TokenGiven G x y at → TokenGiven H x y at
atom_still G H more x y (Atoms.Lent o k) h = more x k h
atom_still G H more x y (Atoms.Ask s t) h = more t.lender t.number h
atom_still G H more x y (Atoms.Granted s t) h = more t.lender t.number h
atom_still G H more x y (Atoms.Gone s t) h = more t.lender t.number h
atom_still G H more x y (Atoms.Settled k) h = more y k h
atom_still G H more x y _ h = tt

-- lends give tokens one after another
give_tokens : GiveNumbers link_rules (λ p. p.token) AsksGiven TokenGiven
give_tokens = record {
  grows = token_grows;
  opens = opens_less;
  kept_still = λ G H more p h.
      each_weaker (AskGiven G) (AskGiven H) (λ w k. more w.token.lender w.token.number k) p.asked h;
  told_still = atom_still;
  keeps = λ G a p v m h took. asks_then G a p h v m took;
  posts = λ G a p v m h took new. posted G a p h v m took new;
  loss = λ G x y. (tt, tt);
}

-- an atom that a node takes was given
one : (net : Net Links Atom) (a from : ℕ) (x : Atom) → LinksHold net → TokensGiven net →
    opens (net.part a) from ≡ true → StandFirst a (note from x) net →
    AllByRecursion (λ (k : Note Atom). TokenGiven
    (IsGiven link_rules (λ p. p.token) AsksGiven TokenGiven net) k.peer a k.atom) (note from x)
one net a from x hold all o first =
    one_taken link_rules (λ p. p.token) AsksGiven TokenGiven net a from x all
    (other net a hold from o) first

-- what a node takes was given
taken : (net : Net Links Atom) (a : ℕ) (v : Move) → LinksHold net → TokensGiven net →
    may (net.part a) v → StandFirst a (takes v) net →
    Takes (IsGiven link_rules (λ p. p.token) AsksGiven TokenGiven net) a v
taken net a (Holds from s) hold all m f = one net a from (Atoms.Mine s) hold all m f
taken net a (Asks from o t) hold all m f = one net a from (Atoms.Lent o t) hold all m.0 f
taken net a (AsksOnce from o t) hold all m f = one net a from (Atoms.Lent o t) hold all m.0 f
taken net a (Returns from o t) hold all m f = one net a from (Atoms.Lent o t) hold all m.0 f
taken net a (Grants from s t) hold all m f = one net a from (Atoms.Ask s t) hold all m.0 f
taken net a (Refuses from s t) hold all m f = one net a from (Atoms.Ask s t) hold all m.0 f
taken net a (Receives from s t told) hold all m f =
    one net a from (Atoms.Granted s t) hold all m.0 f
taken net a (Misses from s t told) hold all m f = one net a from (Atoms.Gone s t) hold all m.0 f
taken net a (Settles from k) hold all m f = one net a from (Atoms.Settled k) hold all m f
taken net a (Frees from s) hold all m f = one net a from (Atoms.Left s) hold all m f
taken net a (Ends from names) hold all m f = one net a from (Atoms.End names) hold all m f
taken net a (Hears from s) hold all m f = one net a from (Atoms.Yours s) hold all m f
taken net a _ hold all m f = tt

-- whatever happens
pub tokens_given_keep : Keeps link_rules (λ net. LinksHold net × TokensGiven net)
tokens_given_keep =
    given_keeps link_rules (λ p. p.token) AsksGiven TokenGiven give_tokens LinksHold links_keep
    taken
