-- Steps of two nodes change a state to one state in either order.
use Rattle.std.proofs.Common.{◌≡◌, ◌==◌, ℕ, Bool, true, false, cond, List, [], ◌∷◌, ◌++◌, refl, sym}
use Rattle.std.proofs.Common.{ap, ◌∙◌, arith, subst}
use Rattle.std.specs.{Prelude.{Option, Some, drop, option_and_then}, List.find}
use Rattle.std.proofs.lemmas.{Bool.eqb-true, Grind.common_steps}
use Rattle.do_facts.proofs.machine.{Frame.elsewhere, Queues.{grows_behind, queue_among}}
use Rattle.do_facts.proofs.machine.passing.Lookups.{other_stays}
use Rattle.do_machine.specs.Commit.{commit, committed, items_to}
use Rattle.do_machine.specs.{State.{change, queue, queue_to, with_queue}, declared.item.Item.Item}
use Rattle.do_machine.specs.declared.state.{Effect.Effect, State.State, Station.Station}
use Rattle.do_orders.specs.Moves.{Source, Stands, taken_off, without_first}
use Rattle.do_orders.specs.Moves.Source.{First, Still, There}
use Rattle.do_orders.proofs.Stations.{at_port, queues_apart, sent_and_shortened, shortened_is}
use Rattle.do_orders.proofs.Stations.{stations_apart, stations_twice}

-- numbers differ in either order
pub turned_round : (p q : ℕ) → (p == q) ≡ false → (q == p) ≡ false
turned_round p q h = grind (arith, common_steps, h)

-- a state by its stations
abbrev by : List Station → State
by ss = record { stations = ss }

-- effects of two nodes
pub effects_apart : (p q : ℕ) (e d : Effect) (S : State) → (p == q) ≡ false →
    commit p e (commit q d S) ≡ commit q d (commit p e S)
effects_apart p q e d S h =
    ap by (stations_apart p q h (committed e) (committed d) (λ s. refl) (λ s. refl) S.stations)

-- a queue that is found is one of the station that is found
queue_of : (from to : ℕ) (s : Station) (w : List Item) (found : Option Station) →
    found ≡ Some s → option_and_then (λ x. queue_to to x) found ≡ Some w → queue_to to s ≡ Some w
queue_of from to s w found e h = cc

-- what a node takes off, and the effect of another
pub off_and_effect : (p q : ℕ) (source : Source) (e : Effect) (S : State) → (p == q) ≡ false →
    Stands p source S →
    taken_off p source (commit q e S) ≡ commit q e (taken_off p source S)
off_and_effect p q (First from item) e S h there = go (from == q) refl
  where
    go : (b : Bool) → (from == q) ≡ b →
        change from (without_first p) (commit q e S)
        ≡ commit q e (change from (without_first p) S)
    go false k =
        ap by (stations_apart from q k (without_first p) (committed e) (λ s. refl) (λ s. refl)
        S.stations)
    go true k =
        let same : from ≡ q = eqb-true from q k in
        subst (λ x. change from (without_first p) (commit x e S)
        ≡ commit x e (change from (without_first p) S)) same
        (ap by (stations_twice from (without_first p) (committed e) (λ s. refl) (λ s. refl)
        S.stations
        (λ s found. ap (λ qs. record (committed e s) { queues = qs })
        (sent_and_shortened p e.sent s.queues item there.0
        (queue_of from p s (item ∷ there.0) (find (λ x. from == x.port) S.stations) found
        there.1)))))
off_and_effect p q _ e S h there = refl

-- what two nodes take off
pub both_off : (p q : ℕ) (a b : Source) (S : State) → (p == q) ≡ false →
    taken_off p a (taken_off q b S) ≡ taken_off q b (taken_off p a S)
both_off p q Still b S h = refl
both_off p q (There from) b S h = refl
both_off p q (First from item) Still S h = refl
both_off p q (First from item) (There other) S h = refl
both_off p q (First from item) (First other more) S h = go (from == other) refl
  where
    go : (b : Bool) → (from == other) ≡ b →
        change from (without_first p) (change other (without_first q) S)
        ≡ change other (without_first q) (change from (without_first p) S)
    go false k =
        ap by (stations_apart from other k (without_first p) (without_first q) (λ s. refl)
        (λ s. refl) S.stations)
    go true k =
        subst (λ x. change from (without_first p) (change x (without_first q) S)
        ≡ change x (without_first q) (change from (without_first p) S)) (eqb-true from other k)
        (ap by (stations_twice from (without_first p) (without_first q) (λ s. refl) (λ s. refl)
        S.stations (λ s found. ap (λ qs. record s { queues = qs })
        (queues_apart p q s.queues h))))

-- ---- what stands stays

-- a queue is longer after an effect of any node
longer : (q from p : ℕ) (e : Effect) (S : State) (w : List Item) → queue S from p ≡ Some w →
    (more : List Item) × (queue (commit q e S) from p ≡ Some (w ++ more))
longer q from p e S w h = go (from == q) refl
  where
    go : (b : Bool) → (from == q) ≡ b →
        (more : List Item) × (queue (commit q e S) from p ≡ Some (w ++ more))
    go false k = (
      [],
      ap (λ x. option_and_then (λ s. queue_to p s) x) (elsewhere q from e S.stations k)
          ∙ h ∙ ap Some (nothing_more w),
    )
      where
        nothing_more : (w : List Item) → w ≡ w ++ []
        nothing_more [] = refl
        nothing_more (x ∷ w) = ap (λ r. x ∷ r) (nothing_more w)
    go true k =
        let same : from ≡ q = eqb-true from q k in (
          items_to p e.sent,
          subst (λ x. queue (commit x e S) from p ≡ Some (w ++ items_to p e.sent)) same
              (grows_behind from p e S.stations w h),
        )

-- after an effect of another node
pub stands_behind : (p q : ℕ) (source : Source) (e : Effect) (S : State) → Stands p source S →
    Stands p source (commit q e S)
stands_behind p q Still e S h = tt
stands_behind p q (There from) e S h =
    let r = longer q from p e S h.0 h.1 in (h.0 ++ r.0, r.1)
stands_behind p q (First from item) e S h =
    let r = longer q from p e S (item ∷ h.0) h.1 in (h.0 ++ r.0, r.1)

-- taking off the first item is having the others in the queue
pub off_is : (port from : ℕ) (w : List Item) (S : State) → queue S from port ≡ Some w →
    change from (with_queue port (drop 1 w)) S ≡ change from (without_first port) S
off_is port from w S h = ap by (go S.stations h)
  where
    go : (ss : List Station) → queue_among from port ss ≡ Some w →
        at_port from (with_queue port (drop 1 w)) ss ≡ at_port from (without_first port) ss
    go [] h = refl
    go (s ∷ ss) h = at (from == s.port) (go ss) h
      where
        at : (b : Bool) → (queue_among from port ss ≡ Some w →
            at_port from (with_queue port (drop 1 w)) ss
            ≡ at_port from (without_first port) ss) →
            option_and_then (λ x. queue_to port x)
            (cond b (Some s) (find (λ x. from == x.port) ss)) ≡ Some w →
            cond b (with_queue port (drop 1 w) s ∷ ss)
            (s ∷ at_port from (with_queue port (drop 1 w)) ss)
            ≡ cond b (without_first port s ∷ ss)
            (s ∷ at_port from (without_first port) ss)
        at true r k =
            ap (λ qs. record s { queues = qs } ∷ ss) (shortened_is port w s.queues k)
        at false r k = ap (λ x. s ∷ x) (r k)

-- the queue stands as it was, where another node takes off
same_queue : (q from p : ℕ) (b : Source) (S : State) → (p == q) ≡ false → Stands q b S →
    queue (taken_off q b S) from p ≡ queue S from p
same_queue q from p (First other item) S h there =
    ap (λ T. queue T from p) (sym (off_is q other (item ∷ there.0) S there.1))
    ∙ other_stays other q there.0 S.stations from p h
same_queue q from p _ S h there = refl

-- what a node has of queues stays where another takes off
pub stands_off : (p q : ℕ) (a b : Source) (S : State) → (p == q) ≡ false → Stands q b S →
    Stands p a S → Stands p a (taken_off q b S)
stands_off p q Still b S h there own = tt
stands_off p q (There from) b S h there own = (own.0, same_queue q from p b S h there ∙ own.1)
stands_off p q (First from item) b S h there own =
    (own.0, same_queue q from p b S h there ∙ own.1)
