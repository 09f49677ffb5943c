-- How what a node has of foreign objects moves.
use Rattle.std.specs.Prelude.{Bool, List, [], false, filter, if◌then◌else◌, is_some, not, suc, true}
use Rattle.std.specs.{Prelude.{ℕ, ◌&&◌, ◌++◌, ◌<◌, ◌==◌, ◌||◌, ◌∷◌, ◌≡◌, ◌≤◌}, List.list_any}
use Rattle.do_base.specs.names.Names.{ObjectName, TokenName}
use Rattle.do_packet.specs.Met.{has_object, same_object}
use Rattle.do_machine.specs.declared.node.{Lend.Lend, Stored.Stored, Wanted.Wanted}
use Rattle.do_machine.specs.{Lists.inserted, Objects.{joined, object_at}, State.stored}
use Rattle.do_machine.specs.{ends.Closing.serials_of, lend.Asking.{same_wanted, wanted, wanted_lt}}
use Rattle.do_machine.specs.lend.Lending.{is_lend}
use Rattle.do_facts.specs.{Net.Note, Moves.Rules, links.Links.{Atom, Ask, End, Gone, Granted, Left}}
use Rattle.do_facts.specs.links.Links.{Lent, Links, Mine, Settled, Yours}

-- a move of a node; where a lend is over, the last argument says whether the lender is told
pub data Move : Type 0 where
  -- an own object is named to a peer
  Names : (to : ℕ) → (serial : ℕ) → Move
  -- an object of a peer is named to it
  Mentions : (to : ℕ) → (serial : ℕ) → Move
  -- a third node's object is named to a peer, under the next token
  Lends : (to : ℕ) → (object : ObjectName) → Move
  -- an object that is held is left
  Leaves : (object : ObjectName) → Move
  -- the end towards a peer is closed
  Closes : (peer : ℕ) → Move
  -- an ask of which the end towards the home is closed is over
  GivesUp : (w : Wanted) → (told : Bool) → Move
  -- an object of the sender is held
  Holds : (from : ℕ) → (serial : ℕ) → Move
  -- an object that was lent is asked for
  Asks : (from : ℕ) → (object : ObjectName) → (token : ℕ) → Move
  -- it was asked for already
  AsksOnce : (from : ℕ) → (object : ObjectName) → (token : ℕ) → Move
  -- it can't be asked for, so the lend is over
  Returns : (from : ℕ) → (object : ObjectName) → (token : ℕ) → Move
  -- an ask is granted
  Grants : (from : ℕ) → (serial : ℕ) → (token : TokenName) → Move
  -- an ask is refused
  Refuses : (from : ℕ) → (serial : ℕ) → (token : TokenName) → Move
  -- an object that was asked for is held
  Receives : (from : ℕ) → (serial : ℕ) → (token : TokenName) → (told : Bool) → Move
  -- an object that was asked for is no more
  Misses : (from : ℕ) → (serial : ℕ) → (token : TokenName) → (told : Bool) → Move
  -- a lend is over
  Settles : (from : ℕ) → (number : ℕ) → Move
  -- an own object was left
  Frees : (from : ℕ) → (serial : ℕ) → Move
  -- the peer closed its end
  Ends : (from : ℕ) → (serials : List ℕ) → Move
  -- a peer named an own object
  Hears : (from : ℕ) → (serial : ℕ) → Move
  -- objects are made or written to, so that these are stored and this is the next serial
  Stores : (heap : List Stored) → (serial : ℕ) → Move
  -- objects are freed, and these are left
  Strikes : (heap : List Stored) → Move

-- the end towards a peer is open
abbrev pub opens : Links → ℕ → Bool
opens p peer = list_any (λ x. x == peer) p.open_to

-- the ask was sent and is not over
abbrev pub has_wanted : Links → Wanted → Bool
has_wanted p w = list_any (same_wanted w) p.asked

-- an object of another node may be named: it is held or asked for, and its home's end is open
abbrev pub may_name : Links → ObjectName → Bool
may_name p o =
    (has_object p.held o || list_any (λ w. same_object o w.object) p.asked) && opens p o.node

-- an object is lent, or asked for
abbrev pub is_in_use : Links → ObjectName → Bool
is_in_use p o =
    list_any (λ l. same_object o l.object) p.lent
    || list_any (λ w. same_object o w.object) p.asked

-- an object of a serial is among these
abbrev pub is_there : List Stored → ℕ → Bool
is_there heap serial = is_some (stored serial heap)

-- an own object is stored
abbrev pub stores : Links → ℕ → Bool
stores p serial = is_there p.heap serial

-- these are what is stored, perhaps written to, and new objects below this serial
pub record IsGrown (p : Links) (heap : List Stored) (serial : ℕ) : Type 0 where
  pub kept : (s : ℕ) → stores p s ≡ true → is_there heap s ≡ true
  pub given : (s : ℕ) → is_there heap s ≡ true → s < serial
  pub next : p.serial ≤ serial

-- an object joins those held
abbrev pub with_held : ObjectName → Links → Links
with_held o p = record p { held = joined p.held o }

-- an ask is over
abbrev pub without_ask : Wanted → Links → Links
without_ask w p = record p { asked = filter (λ v. not (same_wanted w v)) p.asked }

-- the ends without one, and what was had over it but the asks
abbrev pub closed : ℕ → Links → Links
closed peer p = record p {
  open_to = filter (λ x. not (x == peer)) p.open_to;
  held = filter (λ o. not (o.node == peer)) p.held;
  lent = filter (λ l. not (l.borrower == peer)) p.lent;
}

-- the lend of an object to a peer, under the next token
abbrev pub next_lend : Links → ℕ → ObjectName → Lend
next_lend p to o = record { number = p.token; object = o; borrower = to }

-- what a move makes of the links
abbrev pub moved : Links → Move → Links
moved p (Lends to o) =
    record p { lent = p.lent ++ next_lend p to o ∷ []; token = suc p.token }
moved p (Leaves o) = record p { held = filter (λ x. not (same_object o x)) p.held }
moved p (Closes peer) = closed peer p
moved p (GivesUp w told) = without_ask w p
moved p (Holds from serial) = with_held (object_at from serial) p
moved p (Asks from o token) =
    record p { asked = inserted wanted_lt (wanted o from token) p.asked }
moved p (Receives from serial token told) =
    without_ask (wanted (object_at from serial) token.lender token.number)
    (with_held (object_at from serial) p)
moved p (Misses from serial token told) =
    without_ask (wanted (object_at from serial) token.lender token.number) p
moved p (Settles from number) =
    record p { lent = filter (λ l. not (is_lend from number l)) p.lent }
moved p (Ends from serials) = closed from p
moved p (Stores heap serial) = record p { heap = heap; serial = serial }
moved p (Strikes heap) = record p { heap = heap }
moved p _ = p

-- an atom that goes to a peer, or comes from it
abbrev pub note : ℕ → Atom → List (Note Atom)
note peer x = record { peer = peer; atom = x } ∷ []

-- the lender is told that a lend is over, or not
abbrev pub telling : Bool → TokenName → List (Note Atom)
telling told token = if told then note token.lender (Settled token.number) else []

-- what a move takes
abbrev pub takes : Move → List (Note Atom)
takes (Holds from serial) = note from (Mine serial)
takes (Asks from o token) = note from (Lent o token)
takes (AsksOnce from o token) = note from (Lent o token)
takes (Returns from o token) = note from (Lent o token)
takes (Grants from serial token) = note from (Ask serial token)
takes (Refuses from serial token) = note from (Ask serial token)
takes (Receives from serial token told) = note from (Granted serial token)
takes (Misses from serial token told) = note from (Gone serial token)
takes (Settles from number) = note from (Settled number)
takes (Frees from serial) = note from (Left serial)
takes (Ends from serials) = note from (End serials)
takes (Hears from serial) = note from (Yours serial)
takes _ = []

-- what a move posts
abbrev pub posts : Links → Move → List (Note Atom)
posts p (Names to serial) = note to (Mine serial)
posts p (Mentions to serial) = note to (Yours serial)
posts p (Lends to o) = note to (Lent o p.token)
posts p (Leaves o) = note o.node (Left o.serial)
posts p (Closes peer) = note peer (End (serials_of peer p.held))
posts p (GivesUp w told) = telling told w.token
posts p (Asks from o token) =
    note o.node (Ask o.serial (record { lender = from; number = token }))
posts p (Returns from o token) = note from (Settled token)
posts p (Grants from serial token) = note from (Granted serial token)
posts p (Refuses from serial token) = note from (Gone serial token)
posts p (Receives from serial token told) = telling told token
posts p (Misses from serial token told) = telling told token
posts p (Ends from serials) = note from (End (serials_of from p.held))
posts p _ = []

-- when a move may be made: what it posts goes over an open end, and what it takes comes over one.
-- A node names what it stores, holds or asks for, leaves what it neither lends nor asks for, and
-- grants what it stores
abbrev pub may : Links → Move → Type 0
may p (Names to serial) = (opens p to ≡ true) × (stores p serial ≡ true)
may p (Mentions to serial) =
    (opens p to ≡ true) × (may_name p (object_at to serial) ≡ true)
may p (Lends to o) = (opens p to ≡ true) × (may_name p o ≡ true)
may p (Leaves o) =
    (opens p o.node ≡ true) × (has_object p.held o ≡ true) × (is_in_use p o ≡ false)
may p (Closes peer) = opens p peer ≡ true
may p (GivesUp w told) =
    (opens p w.object.node ≡ false) × (has_wanted p w ≡ true) × (opens p w.token.lender ≡ told)
may p (Holds from serial) = opens p from ≡ true
may p (Asks from o token) = (opens p from ≡ true) × (opens p o.node ≡ true)
    × (has_wanted p (wanted o from token) ≡ false)
may p (AsksOnce from o token) = (opens p from ≡ true) × (opens p o.node ≡ true)
    × (has_wanted p (wanted o from token) ≡ true)
may p (Returns from o token) = (opens p from ≡ true) × (opens p o.node ≡ false)
may p (Grants from serial token) = (opens p from ≡ true) × (stores p serial ≡ true)
may p (Refuses from serial token) = (opens p from ≡ true) × (stores p serial ≡ false)
may p (Receives from serial token told) =
    (opens p from ≡ true) × (opens p token.lender ≡ told)
may p (Misses from serial token told) = (opens p from ≡ true) × (opens p token.lender ≡ told)
may p (Settles from number) = opens p from ≡ true
may p (Frees from serial) = opens p from ≡ true
may p (Ends from serials) = opens p from ≡ true
may p (Hears from serial) = opens p from ≡ true
may p (Stores heap serial) = IsGrown p heap serial
may p (Strikes heap) = (s : ℕ) → is_there heap s ≡ true → stores p s ≡ true

-- the rules by which links move
abbrev pub link_rules : Rules Links Atom Move
link_rules = record {
  opens = opens;
  may = may;
  after = moved;
  takes = takes;
  posts = posts;
  loss = End [] ∷ [];
}
