-- How a node accounts for what it held by what it posts.
use Rattle.std.specs.Prelude.{false, if◌then◌else◌, true, ℕ, ◌+◌, ◌<◌, ◌==◌, ◌≡◌, List}
use Rattle.do_packet.specs.Met.{has_object}
use Rattle.do_machine.specs.{Objects.object_at, declared.{node.Node.Node, state.Effect.Effect}}
use Rattle.do_facts.specs.{Net.{Note, atoms_of, total}, View.posted, links.Facts.told_of}
use Rattle.do_facts.specs.links.{Links.{Atom, Left, Links, links, links_of}, Moves.opens}

module _ (home serial often : ℕ) where
  -- what an atom gives back of an object that was received so often
  abbrev pub worth_of : Atom → ℕ
  worth_of (Left s) = if s == serial then often else 0
  worth_of _ = 0

  -- how often the object was received, where it is held
  abbrev pub worth : Links → ℕ
  worth p = if has_object p.held (object_at home serial) then often else 0

  -- what notes give back to the home
  abbrev pub given : List (Note Atom) → ℕ
  given sent = total worth_of (atoms_of home sent)

  -- how many ends among notes tell the home of the object
  abbrev pub told : List (Note Atom) → ℕ
  told sent = total (told_of serial) (atoms_of home sent)

  -- A node comes from one part to another, and posts these notes: what was received is still held,
  -- or given back, or told by the end that closes
  pub record Accounted (p q : Links) (sent : List (Note Atom)) : Type 0 where
    pub still : opens q home ≡ true → worth q + given sent ≡ worth p
    -- over an end that stays open no end is told
    pub quiet : opens q home ≡ true → told sent ≡ 0
    -- an end that closes and tells nothing leaves all to be given back
    pub untold : opens p home ≡ true → opens q home ≡ false → told sent ≡ 0 →
        given sent ≡ worth p
    -- what an end tells is given back by nothing else
    pub ended : opens p home ≡ true → opens q home ≡ false → 0 < told sent →
        given sent + often ≡ worth p
    -- an end that was closed stays so, and nothing goes over it
    pub shut : opens p home ≡ false →
        (opens q home ≡ false) × (given sent ≡ 0) × (told sent ≡ 0)

-- an effect of a node accounts for each object of a home, however often it was received
abbrev pub AccountsFor : ℕ → Node → Effect → Type 0
AccountsFor home n e =
    (serial often : ℕ) →
    Accounted home serial often (links_of n) (links_of e.node) (posted links e.sent)
