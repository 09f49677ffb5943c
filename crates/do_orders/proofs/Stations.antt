-- Changes of two stations, or of one at two queues, commute.
use Rattle.std.proofs.Common.{◌≡◌, ◌==◌, ℕ, Bool, true, false, cond, List, [], ◌∷◌, ◌++◌, map, refl}
use Rattle.std.proofs.Common.{sym, ap, ◌∙◌, arith}
use Rattle.std.specs.{Prelude.{Some, drop, option_map}, List.find}
use Rattle.do_facts.proofs.machine.Queues.{waiting_for}
use Rattle.do_machine.specs.{Commit.{items_to, with_sent}, Lists.change_first, State.with_items}
use Rattle.do_machine.specs.declared.{item.Item.Item, state.{Parcel.Parcel, Queue.Queue}}
use Rattle.do_machine.specs.declared.state.Station.{Station}
use Rattle.do_orders.specs.Moves.{shortened}

-- the stations with that of a port changed
abbrev pub at_port : ℕ → (Station → Station) → List Station → List Station
at_port port f ss = change_first (λ s. port == s.port) f ss

module _ (p q : ℕ) (apart : (p == q) ≡ false) (f g : Station → Station)
    (keeps_f : (s : Station) → (f s).port ≡ s.port)
    (keeps_g : (s : Station) → (g s).port ≡ s.port) where
  -- two stations are changed in either order
  pub stations_apart : (ss : List Station) →
      at_port p f (at_port q g ss) ≡ at_port q g (at_port p f ss)
  stations_apart [] = refl
  stations_apart (s ∷ ss) =
      grind (arith, apart, keeps_f s, keeps_g s, stations_apart ss)

-- a change that keeps the port of the station that is changed
pub changed_again : (port : ℕ) (f g : Station → Station) (s : Station) (ss : List Station) →
    (g s).port ≡ s.port → (port == s.port) ≡ true →
    at_port port f (g s ∷ ss) ≡ f (g s) ∷ ss
changed_again port f g s ss k h =
    ap (λ b. cond b (f (g s) ∷ ss) (g s ∷ at_port port f ss)) (ap (λ n. port == n) k ∙ h)

-- the first station of a port is found
found_first : (port : ℕ) (s : Station) (ss : List Station) → (port == s.port) ≡ true →
    find (λ x. port == x.port) (s ∷ ss) ≡ Some s
found_first port s ss h = ap (λ b. cond b (Some s) (find (λ x. port == x.port) ss)) h

-- another station before it does not matter
found_later : (port : ℕ) (s : Station) (ss : List Station) → (port == s.port) ≡ false →
    find (λ x. port == x.port) (s ∷ ss) ≡ find (λ x. port == x.port) ss
found_later port s ss h = ap (λ b. cond b (Some s) (find (λ x. port == x.port) ss)) h

-- where a station is of the port, it changes
pub changes_it : (port : ℕ) (f : Station → Station) (s : Station) (ss : List Station) (b : Bool) →
    (port == s.port) ≡ b → at_port port f (s ∷ ss) ≡ cond b (f s ∷ ss) (s ∷ at_port port f ss)
changes_it port f s ss b h = ap (λ t. cond t (f s ∷ ss) (s ∷ at_port port f ss)) h

-- changes of one station that commute at it do so among all
pub stations_twice : (port : ℕ) (f g : Station → Station) →
    ((s : Station) → (f s).port ≡ s.port) → ((s : Station) → (g s).port ≡ s.port) →
    (ss : List Station) → ((s : Station) → find (λ x. port == x.port) ss ≡ Some s →
    f (g s) ≡ g (f s)) →
    at_port port f (at_port port g ss) ≡ at_port port g (at_port port f ss)
stations_twice port f g kf kg [] h = refl
stations_twice port f g kf kg (s ∷ ss) h =
    go (port == s.port) refl (stations_twice port f g kf kg ss)
  where
    go : (b : Bool) → (port == s.port) ≡ b →
        (((x : Station) → find (λ y. port == y.port) ss ≡ Some x → f (g x) ≡ g (f x)) →
        at_port port f (at_port port g ss) ≡ at_port port g (at_port port f ss)) →
        at_port port f (at_port port g (s ∷ ss)) ≡ at_port port g (at_port port f (s ∷ ss))
    go true k r =
        ap (at_port port f) (changes_it port g s ss true k)
        ∙ changed_again port f g s ss (kg s) k
        ∙ ap (λ x. x ∷ ss) (h s (found_first port s ss k))
        ∙ sym (ap (at_port port g) (changes_it port f s ss true k)
        ∙ changed_again port g f s ss (kf s) k)
    go false k r =
        ap (at_port port f) (changes_it port g s ss false k)
        ∙ changes_it port f s (at_port port g ss) false k
        ∙ ap (λ x. s ∷ x) (r (λ x q. h x (found_later port s ss k ∙ q)))
        ∙ sym (ap (at_port port g) (changes_it port f s ss false k)
        ∙ changes_it port g s (at_port port f ss) false k)

-- ---- queues

-- the queues with that to a peer changed
abbrev pub at_peer : ℕ → (Queue → Queue) → List Queue → List Queue
at_peer to f qs = change_first (λ q. to == q.to) f qs

-- two queues lose their first items in either order
pub queues_apart : (p q : ℕ) (qs : List Queue) → (p == q) ≡ false →
    at_peer p shortened (at_peer q shortened qs) ≡ at_peer q shortened (at_peer p shortened qs)
queues_apart p q [] h = refl
queues_apart p q (x ∷ qs) h = grind (arith, h, queues_apart p q qs h)

-- what is sent stands behind a first item, so this may be taken off before or after
pub sent_and_shortened : (to : ℕ) (sent : List Parcel) (qs : List Queue) (item : Item)
    (w : List Item) → waiting_for to qs ≡ Some (item ∷ w) →
    at_peer to shortened (map (with_sent sent) qs)
    ≡ map (with_sent sent) (at_peer to shortened qs)
sent_and_shortened to sent [] item w h = cc
sent_and_shortened to sent (q ∷ qs) item w h =
    go (to == q.to) (sent_and_shortened to sent qs item w) h
  where
    go : (b : Bool) → (waiting_for to qs ≡ Some (item ∷ w) →
        at_peer to shortened (map (with_sent sent) qs)
        ≡ map (with_sent sent) (at_peer to shortened qs)) →
        option_map (λ x. x.items) (cond b (Some q) (find (λ x. to == x.to) qs))
        ≡ Some (item ∷ w) →
        cond b (shortened (with_sent sent q) ∷ map (with_sent sent) qs)
        (with_sent sent q ∷ at_peer to shortened (map (with_sent sent) qs))
        ≡ map (with_sent sent) (cond b (shortened q ∷ qs) (q ∷ at_peer to shortened qs))
    go true r k =
        let same : q.items ≡ item ∷ w = cc in
        ap (λ items. with_items (drop 1 (items ++ items_to q.to sent)) q
        ∷ map (with_sent sent) qs) same
        ∙ sym (ap (λ items. with_items (drop 1 items ++ items_to q.to sent) q
        ∷ map (with_sent sent) qs) same)
    go false r k = ap (λ x. with_sent sent q ∷ x) (r k)

-- taking off the first item is having the others
pub shortened_is : (to : ℕ) (w : List Item) (qs : List Queue) → waiting_for to qs ≡ Some w →
    at_peer to (with_items (drop 1 w)) qs ≡ at_peer to shortened qs
shortened_is to w [] h = cc
shortened_is to w (q ∷ qs) h = go (to == q.to) (shortened_is to w qs) h
  where
    go : (b : Bool) → (waiting_for to qs ≡ Some w →
        at_peer to (with_items (drop 1 w)) qs ≡ at_peer to shortened qs) →
        option_map (λ x. x.items) (cond b (Some q) (find (λ x. to == x.to) qs)) ≡ Some w →
        cond b (with_items (drop 1 w) q ∷ qs) (q ∷ at_peer to (with_items (drop 1 w)) qs)
        ≡ cond b (shortened q ∷ qs) (q ∷ at_peer to shortened qs)
    go true r k =
        let same : q.items ≡ w = cc in
        ap (λ items. with_items (drop 1 items) q ∷ qs) (sym same)
    go false r k = ap (λ x. q ∷ x) (r k)
