-- A station of a state that a machine comes to is the one of its port, or as it opened.
use Rattle.std.proofs.Common.{◌≡◌, ◌==◌, ◌∙◌, ◌||◌, ◌⊎◌, ℕ, Bool, true, false, cond, List, [], ◌∷◌}
use Rattle.std.proofs.Common.{map, Some, refl, sym, ap, subst, inl, inr, arith}
use Rattle.std.specs.{Prelude.option_map, List.{find, list_any}}
use Rattle.std.proofs.lemmas.Bool.{eqb-true, Decides.nat_tests}
use Rattle.do_base.specs.declared.events.event.Event.{Event}
use Rattle.do_class.specs.Class.{Class}
use Rattle.do_machine.specs.declared.{node.{Node.Node, Stored.Stored}, state.Seat.Seat}
use Rattle.do_machine.specs.{declared.state.{State.State, Station.Station}, Commit.committed}
use Rattle.do_machine.specs.{Lists.{IsIn, change_first}, State.{node, with_queue}, Step.step}
use Rattle.do_machine.specs.World.{by_port, opening, opening_node, opening_station}
use Rattle.do_machine.specs.{held.Kept.is_root, run.Run.Acting}
use Rattle.do_facts.{proofs.machine.follows.{Moves.Moves, Steps.by_any_step}, specs.Reached.reached}
use Rattle.do_facts.proofs.ReachedStates.{holds_of_reached}

-- a port is among these
abbrev is_seen : List ℕ → ℕ → Bool
is_seen seen port = list_any (λ p. p == port) seen

-- the stations that stand behind another of their port, or whose port was seen
abbrev hidden : List ℕ → List Station → List Station
hidden seen [] = []
hidden seen (s ∷ ss) =
    cond (is_seen seen s.port) (s ∷ hidden seen ss) (hidden (s.port ∷ seen) ss)

-- ---- no event changes them

-- the first station of a port that was not seen is none of them
hidden_stay : (port : ℕ) (f : Station → Station) → ((s : Station) → (f s).port ≡ s.port) →
    (ss : List Station) (seen : List ℕ) → is_seen seen port ≡ false →
    hidden seen (change_first (λ s. port == s.port) f ss) ≡ hidden seen ss
hidden_stay port f h [] seen apart = refl
hidden_stay port f h (s ∷ ss) seen apart =
    go (port == s.port) refl (hidden_stay port f h ss)
  where
    go : (b : Bool) → (port == s.port) ≡ b →
        ((more : List ℕ) → is_seen more port ≡ false →
        hidden more (change_first (λ x. port == x.port) f ss) ≡ hidden more ss) →
        hidden seen (cond b (f s ∷ ss) (s ∷ change_first (λ x. port == x.port) f ss))
        ≡ hidden seen (s ∷ ss)
    go true e k =
        let new : is_seen seen s.port ≡ false =
        ap (is_seen seen) (sym (eqb-true port s.port e)) ∙ apart in
        let moved : is_seen seen (f s).port ≡ false = ap (is_seen seen) (h s) ∙ new in
        ap (λ b. cond b (f s ∷ hidden seen ss) (hidden ((f s).port ∷ seen) ss)) moved
        ∙ ap (λ p. hidden (p ∷ seen) ss) (h s)
        ∙ sym (ap (λ b. cond b (s ∷ hidden seen ss) (hidden (s.port ∷ seen) ss)) new)
    go false e k =
        let other : is_seen (s.port ∷ seen) port ≡ false =
        ap (λ b. b || is_seen seen port) (flipped e) ∙ apart in
        let one = k seen apart in
        let two = k (s.port ∷ seen) other in
        λ j. cond (is_seen seen s.port) (s ∷ one j) (two j)
      where
        flipped : (port == s.port) ≡ false → (s.port == port) ≡ false
        flipped d = grind (arith, nat_tests, d)

-- the hidden stations are the same
abbrev SameHidden : State → State → Type 0
SameHidden S T = hidden [] T.stations ≡ hidden [] S.stations

-- nothing is asked of a node
abbrev Any : Node → Node → Type 0
Any n m = Unit {0}

-- each move keeps them
hidden_moves : Moves Any SameHidden
hidden_moves = record {
  same = λ S. refl;
  after = λ S T U a b. b ∙ a;
  commits = λ port e S n h g. hidden_stay port (committed e) (λ s. refl) S.stations [] refl;
  requeues = λ from to items S.
      hidden_stay from (with_queue to items) (λ s. refl) S.stations [] refl;
}

-- and so does each event
step_hidden : (table : List Class) (act : Acting) (S : State) (event : Event) →
    SameHidden S (step table act S event).state
step_hidden table act S event =
    by_any_step Any SameHidden hidden_moves (λ n m f. tt) table act S (λ n m g. tt) event

-- ---- as they open

-- a node that stores its root alone, and lends and asks for nothing
pub record StoresItsRoot (n : Node) : Type 0 where
  pub alone : (x : Stored) → IsIn n.heap x → is_root n x.serial ≡ true
  pub lent : n.lent ≡ []
  pub asked : n.asked ≡ []

-- so does a node as it opens
opening_root : (table : List Class) (all : List ℕ) (s : Seat) →
    StoresItsRoot (opening_node table all s)
opening_root table all s = record { alone = alone; lent = refl; asked = refl }
  where
    alone : (x : Stored) → IsIn (opening_node table all s).heap x →
        is_root (opening_node table all s) x.serial ≡ true
    alone x (inl e) = subst (λ y. is_root (opening_node table all s) y.serial ≡ true) e refl
    alone x (inr i) = absurd i

-- and each hidden station as a machine opens
opening_hidden : (table : List Class) (all : List ℕ) (seats : List Seat) (seen : List ℕ)
    (s : Station) → IsIn (hidden seen (map (opening_station table all) seats)) s →
    StoresItsRoot s.node
opening_hidden table all [] seen s i = absurd i
opening_hidden table all (t ∷ seats) seen s i =
    go (is_seen seen t.node) (opening_hidden table all seats) i
  where
    go : (b : Bool) →
        ((more : List ℕ) (x : Station) → IsIn (hidden more (map (opening_station table all) seats))
        x → StoresItsRoot x.node) →
        IsIn (cond b
        (opening_station table all t ∷ hidden seen (map (opening_station table all) seats))
        (hidden (t.node ∷ seen) (map (opening_station table all) seats))) s → StoresItsRoot s.node
    go true k (inl e) =
        subst (λ (x : Station). StoresItsRoot x.node) e (opening_root table all t)
    go true k (inr j) = k seen s j
    go false k j = k (t.node ∷ seen) s j

-- ---- each station

-- a station is the first of its port, or hidden; where its port was seen, it is hidden
abbrev Stands : List ℕ → List Station → Station → Type 0
Stands seen ss s = (is_seen seen s.port ≡ true → IsIn (hidden seen ss) s)
    × (is_seen seen s.port ≡ false →
    (find (λ t. s.port == t.port) ss ≡ Some s) ⊎ IsIn (hidden seen ss) s)

-- so each of stations stands
each_stands : (ss : List Station) (s : Station) → IsIn ss s → (seen : List ℕ) → Stands seen ss s
each_stands [] s i seen = absurd i
each_stands (t ∷ ts) s (inl e) seen = go (is_seen seen t.port) refl
  where
    go : (b : Bool) → is_seen seen t.port ≡ b →
        (is_seen seen s.port ≡ true →
        IsIn (cond b (t ∷ hidden seen ts) (hidden (t.port ∷ seen) ts)) s)
        × (is_seen seen s.port ≡ false →
        (find (λ u. s.port == u.port) (t ∷ ts) ≡ Some s)
        ⊎ IsIn (cond b (t ∷ hidden seen ts) (hidden (t.port ∷ seen) ts)) s)
    go true q = (λ h. inl e, λ h. inr (inl e))
    go false q = (
      λ h. absurd (no (ap (λ (x : Station). is_seen seen x.port) e ∙ h) q),
      λ h. inl (ap (λ b. cond b (Some t) (find (λ (u : Station). s.port == u.port) ts))
          (ap (λ (x : Station). s.port == x.port) e ∙ self s.port) ∙ ap (λ x. Some x) e),
    )
      where
        no : is_seen seen t.port ≡ true → is_seen seen t.port ≡ false → ⊥
        no x y = cc

        self : (p : ℕ) → (p == p) ≡ true
        self p = grind (arith, nat_tests)
each_stands (t ∷ ts) s (inr i) seen =
    go (is_seen seen t.port) refl (s.port == t.port) refl (each_stands ts s i)
  where
    go : (b : Bool) → is_seen seen t.port ≡ b → (c : Bool) → (s.port == t.port) ≡ c →
        ((more : List ℕ) → Stands more ts s) →
        (is_seen seen s.port ≡ true →
        IsIn (cond b (t ∷ hidden seen ts) (hidden (t.port ∷ seen) ts)) s)
        × (is_seen seen s.port ≡ false →
        (cond c (Some t) (find (λ u. s.port == u.port) ts) ≡ Some s)
        ⊎ IsIn (cond b (t ∷ hidden seen ts) (hidden (t.port ∷ seen) ts)) s)
    go true q true r k = (
      λ h. inr ((k seen).0 h),
      λ h. absurd (no (ap (is_seen seen) (eqb-true s.port t.port r) ∙ q) h),
    )
      where
        no : is_seen seen s.port ≡ true → is_seen seen s.port ≡ false → ⊥
        no x y = cc
    go true q false r k = (
      λ h. inr ((k seen).0 h),
      λ h. elim ((k seen).1 h) [
        | inl f ↦ inl f
        | inr j ↦ inr (inr j)
      ],
    )
    go false q true r k =
        let there : is_seen (t.port ∷ seen) s.port ≡ true =
        ap (λ b. b || is_seen seen s.port) (flipped r) in
        (λ h. (k (t.port ∷ seen)).0 there, λ h. inr ((k (t.port ∷ seen)).0 there))
      where
        flipped : (s.port == t.port) ≡ true → (t.port == s.port) ≡ true
        flipped d = grind (arith, nat_tests, d)
    go false q false r k =
        let same : is_seen (t.port ∷ seen) s.port ≡ is_seen seen s.port =
        ap (λ b. b || is_seen seen s.port) (flipped r) in (
          λ h. (k (t.port ∷ seen)).0 (same ∙ h),
          λ h. (k (t.port ∷ seen)).1 (same ∙ h),
        )
      where
        flipped : (s.port == t.port) ≡ false → (t.port == s.port) ≡ false
        flipped d = grind (arith, nat_tests, d)

-- a station is found at its port, or stores its root alone
abbrev pub IsFoundOrOpens : State → Station → Type 0
IsFoundOrOpens S s = (node S s.port ≡ Some s.node) ⊎ StoresItsRoot s.node

-- in every state that a machine comes to each station is so
pub reached_stations : (table : List Class) (act : Acting) (seats : List Seat)
    (events : List Event) (s : Station) → IsIn (reached table act seats events).stations s →
    IsFoundOrOpens (reached table act seats events) s
reached_stations table act seats events s i =
    let S = reached table act seats events in
    let stay = holds_of_reached table act (SameHidden (opening table seats))
    (λ T event h. step_hidden table act T event ∙ h) seats events refl in
    elim ((each_stands S.stations s i []).1 refl) [
      | inl f ↦ inl (ap (option_map (λ (x : Station). x.node)) f)
      | inr j ↦ inr (opening_hidden table (map (λ x. x.node) (by_port seats)) (by_port seats) [] s
          (subst (λ ss. IsIn ss s) stay j))
    ]
