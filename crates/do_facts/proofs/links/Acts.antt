-- The moves of an effect of a node free nothing: that follows it.
use Rattle.std.proofs.Common.{◌≡◌, Bool, false, List, [], ◌∷◌}
use Rattle.do_facts.specs.{Net.Note, Moves.{Mays, Rules, Runs}, links.Links.{Atom, Links}}
use Rattle.do_facts.specs.links.Moves.{Move, Strikes, link_rules, may, moved}

-- the move frees no object
abbrev pub IsAct : Move → Type 0
IsAct (Strikes heap) = ⊥
IsAct _ = Unit {0}

-- the rules by which links move, where a move may be made by other premises
abbrev pub ruled_by : (Links → Move → Type 0) → Rules Links Atom Move
ruled_by allows = record link_rules { may = allows }

-- the rules by which links move, while nothing is freed
abbrev pub act_rules : Rules Links Atom Move
act_rules = ruled_by (λ p v. may p v × IsAct v)

-- those of an effect that frees objects, or frees none
abbrev pub effect_rules : Bool → Rules Links Atom Move
effect_rules frees = ruled_by (λ p v. may p v × (frees ≡ false → IsAct v))

module _ (allows less : Links → Move → Type 0)
    (weaker : (p : Links) (v : Move) → allows p v → less p v) where
  -- moves that may be made by some premises may be made by weaker ones
  mays_by : (p : Links) (vs : List Move) → Mays (ruled_by allows) p vs → Mays (ruled_by less) p vs
  mays_by p [] m = tt
  mays_by p (v ∷ vs) m = (weaker p v m.0, mays_by (moved p v) vs m.1)

  -- so they are moves by these
  pub runs_by : {p q : Links} {taken sent : List (Note Atom)} →
      Runs (ruled_by allows) p taken q sent → Runs (ruled_by less) p taken q sent
  runs_by {p} r = record {
    moves = r.moves;
    may = mays_by p r.moves r.may;
    reaches = r.reaches;
    takes = r.takes;
    posts = r.posts;
  }

-- moves that free nothing are moves
pub runs_moves : {p q : Links} {taken sent : List (Note Atom)} → Runs act_rules p taken q sent →
    Runs link_rules p taken q sent
runs_moves r = runs_by (λ p v. may p v × IsAct v) may (λ p v m. m.0) r

-- so are those of an effect
pub runs_freely : (frees : Bool) {p q : Links} {taken sent : List (Note Atom)} →
    Runs (effect_rules frees) p taken q sent → Runs link_rules p taken q sent
runs_freely frees r =
    runs_by (λ p v. may p v × (frees ≡ false → IsAct v)) may (λ p v m. m.0) r

-- and those of an effect that frees none free nothing
pub runs_acts : (frees : Bool) → frees ≡ false → {p q : Links} {taken sent : List (Note Atom)} →
    Runs (effect_rules frees) p taken q sent → Runs act_rules p taken q sent
runs_acts frees h r =
    runs_by (λ p v. may p v × (frees ≡ false → IsAct v)) (λ p v. may p v × IsAct v)
    (λ p v m. (m.0, m.1 h)) r
