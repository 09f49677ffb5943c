-- While all ends are open a lend lasts until its notice is taken, and its object is kept so long.
use Rattle.std.proofs.Common.{◌≡◌, ◌∙◌, ◌++◌, ℕ, true, false, List, [], ◌∷◌, ap, inl, inr, refl}
use Rattle.std.{proofs.Common.{subst, sym}, specs.{Prelude.{All, Some}, List.AllByRecursion}}
use Rattle.std.proofs.lemmas.List.Elements.{recursion_from_All}
use Rattle.do_base.specs.declared.events.event.Event.{Event}
use Rattle.do_class.specs.Class.{Class}
use Rattle.do_machine.specs.declared.{node.{Lend.Lend, Node.Node}, state.{Seat.Seat, State.State}}
use Rattle.do_machine.specs.{declared.state.Stepped.Stepped, Commit.skipped, Lists.IsIn}
use Rattle.do_machine.specs.{State.{is_known, is_open, node}, Step.step, World.opening}
use Rattle.do_machine.specs.{check.Blocks.{followed, steps}, run.Run.Acting}
use Rattle.do_facts.{proofs.machine.follows.Every.grow_steps, specs.Reached.reached}
use Rattle.do_facts.specs.{View.part_seen, links.Lasting.{Ends, Lasts, Parts, Stays, TakesNotice}}
use Rattle.do_facts.{specs.links.{Links.links, Moves.opens}, proofs.links.ReachedLinks.lends_last}
use Rattle.do_quiet.specs.{Lasting.{IsKeptWhileLent, IsLent, NoNotice}, Quiet.AllEndsOpen}
use Rattle.do_quiet.proofs.LendsKept.{first_ends, reached_lent, reached_stands}
use Rattle.do_quiet.proofs.{QuietStates.{is_there, reach}, ReachedWithin.{Stands, step_stands}}

-- what holds of each element holds of one that is there
of_each : {X : Type 0} (P : X → Type 0) (xs : List X) (x : X) → AllByRecursion P xs → IsIn xs x →
    P x
of_each P [] x h i = absurd i
of_each P (y ∷ ys) x h (inl e) = subst P e h.0
of_each P (y ∷ ys) x h (inr i) = of_each P ys x h.1 i

module _ (table : List Class) (seats : List Seat) (act : Acting) where
  -- the state after events, one after another
  abbrev after : List Event → Stepped → State
  after events s = (steps table act events s).state

  -- ends that are open behind a step were open before it
  open_before : (S : State) (event : Event) → AllEndsOpen (step table act S event).state →
      AllEndsOpen S
  open_before S event h = record {
    reach = λ port peer n m here there apart.
        let grown = grow_steps table act S event in
        let a = grown.stands port n here in
        let b = grown.stands peer m there in
        a.2.ends peer (h.reach port peer a.0 b.0 a.1 b.1 apart);
  }

  -- or before many
  open_since : (events : List Event) (s : Stepped) → AllEndsOpen (after events s) →
      AllEndsOpen s.state
  open_since [] s h = h
  open_since (e ∷ es) s h =
      open_before s.state e (open_since es (followed s (step table act s.state e)) h)

  module _ (port : ℕ) (l : Lend) where
    -- a step
    by_step : (S : State) (event : Event) →
        Stands (first_ends table seats) (is_there table seats) S →
        IsLent S port l → AllEndsOpen (step table act S event).state →
        (TakesNotice S event port l → ⊥) → IsLent (step table act S event).state port l
    by_step S event stands is all not_taken =
        go (lends_last table act S event port is.lender grown.0 l stands.kept is.here grown.1
        is.lent)
      where
        grown : (m : Node) × (node (step table act S event).state port ≡ Some m)
        grown =
            let g = (grow_steps table act S event).stands port is.lender is.here in (g.0, g.1)

        still_open : is_open is.lender l.borrower ≡ true → is_open grown.0 l.borrower ≡ true
        still_open o =
            ap (λ found. opens (part_seen links found) l.borrower) (sym grown.1)
            ∙ (reach table seats (step table act S event).state
            (step_stands (first_ends table seats) (is_there table seats) table act S event stands)
            all port l.borrower
            ((stands.within port).reached l.borrower
            (ap (λ found. opens (part_seen links found) l.borrower) is.here ∙ o))).0

        no : is_open grown.0 l.borrower ≡ true → is_open grown.0 l.borrower ≡ false → ⊥
        no a b = cc

        go : Lasts S event port is.lender grown.0 l → IsLent (step table act S event).state port l
        go (Stays h) = record { lender = grown.0; here = grown.1; lent = h }
        go (Parts was now) = absurd (no (still_open was) now)
        go (Ends taken) = absurd (not_taken taken)

    -- events, one after another
    by_steps : (events : List Event) (s : Stepped) →
        Stands (first_ends table seats) (is_there table seats) s.state → IsLent s.state port l →
        AllEndsOpen (after events s) → NoNotice table act s.state port l events →
        IsLent (after events s) port l
    by_steps [] s stands is all none = is
    by_steps (e ∷ es) s stands is all none =
        let next = followed s (step table act s.state e) in
        by_steps es next
        (step_stands (first_ends table seats) (is_there table seats) table act s.state e stands)
        (by_step s.state e stands is (open_since es next all) none.0) all none.1

  -- events behind others
  behind : (events more : List Event) (s : Stepped) →
      steps table act (events ++ more) s ≡ steps table act more (steps table act events s)
  behind [] more s = refl
  behind (e ∷ es) more s = behind es more (followed s (step table act s.state e))

  -- the object of a lend is held or asked for
  kept_while : (S : State) (port : ℕ) (l : Lend) → IsLent S port l →
      ((p : ℕ) (n : Node) → node S p ≡ Some n → All (λ k. is_known n k.object ≡ true) n.lent) →
      IsKeptWhileLent S port l
  kept_while S port l is each = record {
    lender = is.lender;
    here = is.here;
    lent = is.lent;
    known = of_each (λ k. is_known is.lender k.object ≡ true) is.lender.lent l
        (recursion_from_All (λ k. is_known is.lender k.object ≡ true) is.lender.lent
        (each port is.lender is.here)) is.lent;
  }

  -- over a run
  pub lasts_until_taken : (events more : List Event) (port : ℕ) (l : Lend) →
      IsLent (reached table act seats events) port l →
      AllEndsOpen (reached table act seats (events ++ more)) →
      NoNotice table act (reached table act seats events) port l more →
      IsKeptWhileLent (reached table act seats (events ++ more)) port l
  lasts_until_taken events more port l is all none =
      let start = steps table act events (skipped (opening table seats)) in
      let same = ap (λ s. s.state) (behind events more (skipped (opening table seats))) in
      kept_while (reached table act seats (events ++ more)) port l
      (subst (λ T. IsLent T port l) (sym same)
      (by_steps port l more start (reached_stands table seats act events).stands is
      (subst AllEndsOpen same all) none))
      (reached_lent table seats act (events ++ more) all).each
