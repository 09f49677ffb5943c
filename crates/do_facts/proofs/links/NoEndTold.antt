-- Over an end that is open no end was told that names an object, whatever happens.
use Rattle.std.proofs.Common.{◌≡◌, ◌≤◌, ℕ, zero, suc, Bool, true, false, List, [], ◌∷◌, drop}
use Rattle.std.proofs.{Common.{length, refl, arith}, lemmas.Bool.Decides.nat_tests}
use Rattle.do_base.specs.names.Names.{TokenName}
use Rattle.do_machine.specs.ends.Closing.{serials_of}
use Rattle.do_facts.specs.Net.{Net, Note, atoms_of, net_after, total}
use Rattle.do_facts.specs.Moves.{Happening, Happens, Keeps, Lost, Moved, net_then}
use Rattle.do_facts.specs.links.{Facts.{EachSilent, told_of}, Links.{Ask, Atom, End, Gone, Granted}}
use Rattle.do_facts.specs.links.Links.{Left, Lent, Links, Mine, Settled, Yours}
use Rattle.do_facts.specs.links.Moves.{Asks, Closes, Ends, GivesUp, Grants, Leaves, Lends, Mentions}
use Rattle.do_facts.specs.links.Moves.{Misses, Move, Names, Receives, Refuses, Returns, closed}
use Rattle.do_facts.specs.links.Moves.{link_rules, moved, note, opens, posts, takes, telling}
use Rattle.do_facts.proofs.{Notes.total-append, links.ListsChanged.{open_less, was_open}}

-- what is left of a wire counts for no more
pub total_dropped : (f : Atom → ℕ) (n : ℕ) (xs : List Atom) → total f (drop n xs) ≤ total f xs
total_dropped f zero xs = omega arith
total_dropped f (suc n) [] = omega arith
total_dropped f (suc n) (x ∷ xs) = omega (arith, total_dropped f n xs)

-- what is posted names nothing by an end, but over an end that is closed now
abbrev IsSilent : Links → List (Note Atom) → Type 0
IsSilent q sent = (z s : ℕ) → opens q z ≡ true → total (told_of s) (atoms_of z sent) ≡ 0

-- an atom that is no end
silent_note : (q : Links) (to : ℕ) (x : Atom) → ((s : ℕ) → told_of s x ≡ 0) →
    IsSilent q (note to x)
silent_note q to x none z s o = grind (arith, nat_tests, none s)

-- a lender that is told, or not
silent_telling : (q : Links) (told : Bool) (token : TokenName) → IsSilent q (telling told token)
silent_telling q true token = silent_note q token.lender (Settled token.number) (λ s. refl)
silent_telling q false token = λ z s o. refl

-- an end that goes over the end that is closed
silent_end : (p : Links) (peer : ℕ) (names : List ℕ) →
    IsSilent (closed peer p) (note peer (End names))
silent_end p peer names z s o = grind (arith, nat_tests, o, open_less z peer p.open_to)

module _ (net : Net Links Atom) (a : ℕ) (silent : EachSilent net) where
  -- the part of the node
  abbrev p : Links
  p = net.part a

  -- a node that opens no end, and posts so
  silent_after : (q : Links) (taken sent : List (Note Atom)) →
      ((z : ℕ) → opens q z ≡ true → opens p z ≡ true) → IsSilent q sent →
      EachSilent (net_after a q taken sent net)
  silent_after q taken sent open_still quiet x z s o =
      let more = total-append (told_of s) (net.wire x z) (atoms_of z sent) in
      let less = total_dropped (told_of s) (length (atoms_of x taken)) (net.wire x z) in
      grind (arith, nat_tests, o, more, less, quiet z s, silent x z s, open_still z)

  -- any move
  silent_moved : (v : Move) → EachSilent (net_after a (moved p v) (takes v) (posts p v) net)
  silent_moved v = silent_after (moved p v) (takes v) (posts p v) (opened v) (quiet v)
    where
      opened : (v : Move) (z : ℕ) → opens (moved p v) z ≡ true → opens p z ≡ true
      opened (Closes peer) z o = was_open p peer z o
      opened (Ends from serials) z o = was_open p from z o
      opened v z o = o

      quiet : (v : Move) → IsSilent (moved p v) (posts p v)
      quiet (Closes peer) = silent_end p peer (serials_of peer p.held)
      quiet (Ends from serials) = silent_end p from (serials_of from p.held)
      quiet (Names to s) = silent_note p to (Mine s) (λ s. refl)
      quiet (Lends to o) = silent_note (moved p (Lends to o)) to (Lent o p.token) (λ s. refl)
      quiet (Leaves o) = silent_note (moved p (Leaves o)) o.node (Left o.serial) (λ s. refl)
      quiet (GivesUp w told) = silent_telling (moved p (GivesUp w told)) told w.token
      quiet (Asks from o t) =
          silent_note (moved p (Asks from o t)) o.node
          (Ask o.serial (record { lender = from; number = t })) (λ s. refl)
      quiet (Returns from o t) = silent_note p from (Settled t) (λ s. refl)
      quiet (Grants from s k) = silent_note p from (Granted s k) (λ s. refl)
      quiet (Refuses from s k) = silent_note p from (Gone s k) (λ s. refl)
      quiet (Receives from s k told) = silent_telling (moved p (Receives from s k told)) told k
      quiet (Misses from s k told) = silent_telling (moved p (Misses from s k told)) told k
      quiet (Mentions to s) = silent_note p to (Yours s) (λ s. refl)
      quiet _ = λ z s o. refl

-- whatever happens
pub silent_keeps : Keeps link_rules EachSilent
silent_keeps = record { by = by_happening }
  where
    by_happening : (net : Net Links Atom) (h : Happening Atom Move) → EachSilent net →
        Happens link_rules net h → EachSilent (net_then link_rules net h)
    by_happening net (Moved port v) silent m = silent_moved net port silent v
    by_happening net (Lost from to first rest) silent m = λ x z s o.
        grind (arith, nat_tests, total-append, silent x z s o, m.0)
