-- What effects of a node leave of what it has for a peer.
use Rattle.std.proofs.Common.{◌≡◌, ◌==◌, ◌++◌, ◌⊎◌, ℕ, Bool, true, false, cond, List, [], ◌∷◌, refl}
use Rattle.std.proofs.Common.{ap, sym, ◌∙◌}
use Rattle.std.specs.{Prelude.filter, List.{AllByRecursion, list_any}}
use Rattle.do_machine.specs.{Effect.{each, only, ◌>>=◌}, Items.exported, State.is_open}
use Rattle.do_machine.specs.declared.{node.{Lend.Lend, Node.Node}, state.Effect.Effect}
use Rattle.do_machine.specs.declared.state.Parcel.{Parcel}
use Rattle.do_peers.specs.Peers.{lends_to}

-- ---- lists

-- a filter that keeps what passes a test changes nothing of what passes
pub filter_in : {X : Type 0} (f g : X → Bool) → ((x : X) → f x ≡ true → g x ≡ true) →
    (xs : List X) → filter f (filter g xs) ≡ filter f xs
filter_in f g keeps [] = refl
filter_in f g keeps (x ∷ xs) = go (g x) refl (f x) refl (filter_in f g keeps xs)
  where
    go : (b : Bool) → g x ≡ b → (c : Bool) → f x ≡ c → filter f (filter g xs) ≡ filter f xs →
        filter f (cond b (x ∷ filter g xs) (filter g xs))
        ≡ cond (f x) (x ∷ filter f xs) (filter f xs)
    go true p c q rest = ap (λ ys. cond (f x) (x ∷ ys) ys) rest
    go false p true q rest = let both = keeps x q in cc
    go false p false q rest =
        rest ∙ ap (λ t. cond t (x ∷ filter f xs) (filter f xs)) (sym q)

-- what holds of two lists holds of both in a row
pub all_behind : {X : Type 0} (P : X → Type 0) (xs ys : List X) → AllByRecursion P xs →
    AllByRecursion P ys → AllByRecursion P (xs ++ ys)
all_behind P [] ys all more = more
all_behind P (x ∷ xs) ys all more = (all.0, all_behind P xs ys all.1 more)

-- ---- what is kept

-- an item that is sent names nothing to a peer
abbrev pub NamesNothing : ℕ → Parcel → Type 0
NamesNothing q x = ((x.to == q) ≡ false) ⊎ ((port : ℕ) → exported port x.to x.item ≡ [])

-- an effect leaves what a node has for a peer
pub record Keeps (q : ℕ) (n : Node) (e : Effect) : Type 0 where
  pub end : is_open e.node q ≡ is_open n q
  pub lends : lends_to q e.node ≡ lends_to q n
  pub sent : AllByRecursion (NamesNothing q) e.sent

module _ (q : ℕ) where
  -- one that changes neither ends nor lends does, if what it sends names nothing
  pub keeps_ends : (n : Node) (e : Effect) → e.node.open_to ≡ n.open_to → e.node.lent ≡ n.lent →
      AllByRecursion (NamesNothing q) e.sent → Keeps q n e
  keeps_ends n e ends lent sent = record {
    end = ap (λ ps. list_any (λ p. p == q) ps) ends;
    lends = ap (λ ls. filter (λ (l : Lend). l.borrower == q) ls) lent;
    sent = sent;
  }

  -- so do two in a row
  pub keeps_then : (n : Node) (e : Effect) (next : Node → Effect) → Keeps q n e →
      Keeps q e.node (next e.node) → Keeps q n (e >>= next)
  keeps_then n e next first second = record {
    end = second.end ∙ first.end;
    lends = second.lends ∙ first.lends;
    sent = all_behind (NamesNothing q) e.sent (next e.node).sent first.sent second.sent;
  }

  -- and one for each element of a list
  pub keeps_each : {X : Type 0} (f : X → Node → Effect) → ((x : X) (n : Node) → Keeps q n (f x n)) →
      (xs : List X) (n : Node) → Keeps q n (each f xs n)
  keeps_each f one [] n = keeps_ends n (only n) refl refl tt
  keeps_each f one (x ∷ xs) n =
      keeps_then n (f x n) (each f xs) (one x n) (keeps_each f one xs (f x n).node)
