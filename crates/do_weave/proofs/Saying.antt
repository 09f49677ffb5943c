-- What the lines of an input say of its node and of others.
use Rattle.do_base.specs.declared.events.event.Event.TheVariants as events
use Rattle.std.proofs.Common.{◌≡◌, ◌≢◌, Bool, true, false, ℕ, List, [], ◌∷◌, ◌++◌, Option, Some}
use Rattle.std.proofs.Common.{None, refl, sym, ap, ◌∙◌, cond, eq-eqb, ne_eqb}
use Rattle.std.specs.Prelude.{option_map, unwrap_or, ◌==◌}
use Rattle.std.proofs.lemmas.Bool.{cond-false, cond-true}
use Rattle.do_machine.specs.{Commit.{showed, skipped}, Step.step, check.Blocks.blocks}
use Rattle.do_machine.specs.{declared.state.{State.State, Stepped.Stepped}, ends.Losing.lost}
use Rattle.do_record.specs.declared.parts.RecordLine.{RecordLine}
use Rattle.do_record.specs.declared.parts.RecordLine.TheVariants.{Close, Ended, Run, Start, Take}
use Rattle.do_sched.specs.declared.line.Line.{Line}
use Rattle.do_weave.specs.{Inputs.{ending, lines_of, shown_at, takes, tried}, Rules.Rules}
use Rattle.do_weave.specs.Said.{Said, said, said_at, said_if, taking}

-- what is chosen where it is there is itself
pub chosen_is : (b : Bool) (x s : Stepped) → cond b (Some x) None ≡ Some s → x ≡ s
chosen_is true x s e = cc
chosen_is false x s e = absurd (cc)

-- what is said of the node itself
own_said : (port : ℕ) (s : Said) (rest : List Said) → said_if (port == port) s rest ≡ s ∷ rest
own_said port s rest = cond-true (port == port) (s ∷ rest) rest (eq-eqb port port refl)

-- nothing is said of another
other_said : (node port : ℕ) (s : Said) (rest : List Said) → node ≢ port →
    said_if (node == port) s rest ≡ rest
other_said node port s rest apart =
    cond-false (node == port) (s ∷ rest) rest (ne_eqb node port apart)

-- a loss shows nothing
loss_shows : (R : Rules) (S : State) (from to after : ℕ) →
    (step R.table R.act S (events.Lose from to after)).outcome.shown ≡ []
loss_shows R S from to after = go (lost S from to after)
  where
    go : (o : Option State) →
        (unwrap_or (option_map (showed []) o) (skipped S)).outcome.shown ≡ []
    go None = refl
    go (Some T) = refl

module _ (R : Rules) (S : State) (port : ℕ) (more : List Line) where
  -- what the rest says
  abbrev rest_said : ℕ → Stepped → List Said
  rest_said node s = said_at node None (blocks R.table R.act s.state more)

  -- the lines of an input say it of its node
  pub own_lines : (input : RecordLine) (s : Stepped) → tried R S port input ≡ Some s →
      said_at port None (blocks R.table R.act S (lines_of port input ++ more))
      ≡ said port input s.outcome ∷ rest_said port s
  own_lines (Start selector values) s e =
      let x = step R.table R.act S (events.Start port selector values) in
      own_said port (said port (Start selector values) x.outcome) (rest_said port x)
      ∙ ap (λ y. said port (Start selector values) y.outcome ∷ rest_said port y)
      (chosen_is x.outcome.enabled x s e)
  own_lines Run s e =
      let x = step R.table R.act S (events.Run port) in
      own_said port (said port Run x.outcome) (rest_said port x)
      ∙ ap (λ y. said port Run y.outcome ∷ rest_said port y) (chosen_is x.outcome.enabled x s e)
  own_lines (Take from) s e =
      let x = step R.table R.act S (events.Take port from) in
      own_said port (said port (Take from) x.outcome) (rest_said port x)
      ∙ ap (λ y. said port (Take from) y.outcome ∷ rest_said port y)
      (chosen_is x.outcome.enabled x s e)
  own_lines (Close peer) s e =
      let x = step R.table R.act S (events.Close port peer) in
      own_said port (said port (Close peer) x.outcome) (rest_said port x)
      ∙ ap (λ y. said port (Close peer) y.outcome ∷ rest_said port y)
      (chosen_is x.outcome.enabled x s e)
  own_lines (Ended peer) s e =
      let first = step R.table R.act S (events.Lose peer port 0) in
      let x = step R.table R.act first.state (events.Take port peer) in
      let both = ending R S port peer in
      ap (λ o. said_if (port == port) (said port (taking o peer) x.outcome) (rest_said port both))
      (cond-true (port == port) (Some peer) None (eq-eqb port port refl))
      ∙ own_said port (said port (taking (Some peer) peer) x.outcome) (rest_said port both)
      ∙ ap (λ i. said port i x.outcome ∷ rest_said port both)
      (cond-true (peer == peer) (Ended peer) (Take peer) (eq-eqb peer peer refl))
      ∙ ap (λ before. record {
        input = Ended peer;
        shown = shown_at port (before ++ x.outcome.shown);
      } ∷ rest_said port both) (sym (loss_shows R S peer port 0))
      ∙ ap (λ y. said port (Ended peer) y.outcome ∷ rest_said port y)
      (chosen_is (takes S port peer) both s e)

  -- and nothing of another node
  pub other_lines : (input : RecordLine) (s : Stepped) (node : ℕ) → port ≢ node →
      tried R S port input ≡ Some s →
      said_at node None (blocks R.table R.act S (lines_of port input ++ more)) ≡ rest_said node s
  other_lines (Start selector values) s node apart e =
      let x = step R.table R.act S (events.Start port selector values) in
      other_said port node (said node (Start selector values) x.outcome) (rest_said node x) apart
      ∙ ap (rest_said node) (chosen_is x.outcome.enabled x s e)
  other_lines Run s node apart e =
      let x = step R.table R.act S (events.Run port) in
      other_said port node (said node Run x.outcome) (rest_said node x) apart
      ∙ ap (rest_said node) (chosen_is x.outcome.enabled x s e)
  other_lines (Take from) s node apart e =
      let x = step R.table R.act S (events.Take port from) in
      other_said port node (said node (Take from) x.outcome) (rest_said node x) apart
      ∙ ap (rest_said node) (chosen_is x.outcome.enabled x s e)
  other_lines (Close peer) s node apart e =
      let x = step R.table R.act S (events.Close port peer) in
      other_said port node (said node (Close peer) x.outcome) (rest_said node x) apart
      ∙ ap (rest_said node) (chosen_is x.outcome.enabled x s e)
  other_lines (Ended peer) s node apart e =
      let first = step R.table R.act S (events.Lose peer port 0) in
      let x = step R.table R.act first.state (events.Take port peer) in
      let both = ending R S port peer in
      let l = cond (port == node) (Some peer) None in
      other_said port node (said node (taking l peer) x.outcome) (rest_said node both) apart
      ∙ ap (rest_said node) (chosen_is (takes S port peer) both s e)
