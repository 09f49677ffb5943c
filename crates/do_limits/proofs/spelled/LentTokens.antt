-- Tokens that were given to lends, in asks and on their way.
use Rattle.do_class.specs.declared.packet.Name.TheVariants as named
use Rattle.std.proofs.Common.{◌≡◌, ◌||◌, ℕ, Bool, true, false, List, [], ◌∷◌, refl, subst, sym}
use Rattle.std.specs.List.{AllByRecursion, flat_map, list_any}
use Rattle.do_base.specs.names.Names.{TokenName}
use Rattle.do_class.specs.declared.packet.Name.{Name}
use Rattle.do_machine.specs.{declared.node.Wanted.Wanted, lend.Asking.same_wanted}
use Rattle.do_facts.specs.Net.{Note}
use Rattle.do_facts.specs.links.Links.{Ask, Atom, Gone, Granted, Lent, Settled, name_atoms}
use Rattle.do_facts.{specs.links.Moves.telling, proofs.links.SameIsEqual.wanted_is}

-- the token of an atom on its way from one node to another
abbrev pub TokenGiven : (ℕ → ℕ → Type 0) → ℕ → ℕ → Atom → Type 0
TokenGiven G x y (Lent o k) = G x k
TokenGiven G x y (Ask serial t) = G t.lender t.number
TokenGiven G x y (Granted serial t) = G t.lender t.number
TokenGiven G x y (Gone serial t) = G t.lender t.number
TokenGiven G x y (Settled k) = G y k
TokenGiven G x y _ = Unit {0}

-- the token of an ask
abbrev pub AskGiven : (ℕ → ℕ → Type 0) → Wanted → Type 0
AskGiven G w = G w.token.lender w.token.number

-- an ask among others that were given
pub ask_among : (G : ℕ → ℕ → Type 0) (w : Wanted) (ws : List Wanted) →
    AllByRecursion (AskGiven G) ws → list_any (same_wanted w) ws ≡ true → AskGiven G w
ask_among G w [] h e = absurd (cc (e))
ask_among G w (v ∷ ws) h e = go (same_wanted w v) refl e (λ k. ask_among G w ws h.1 k)
  where
    go : (b : Bool) → same_wanted w v ≡ b → (b || list_any (same_wanted w) ws) ≡ true →
        (list_any (same_wanted w) ws ≡ true → AskGiven G w) → AskGiven G w
    go true q e later = subst (AskGiven G) (sym (wanted_is w v q)) h.0
    go false q e later = later e

-- the lender is told, or not
pub told_given : (G : ℕ → ℕ → Type 0) (a : ℕ) (told : Bool) (t : TokenName) →
    G t.lender t.number →
    AllByRecursion (λ (x : Note Atom). TokenGiven G a x.peer x.atom) (telling told t)
told_given G a true t h = (h, tt)
told_given G a false t h = tt

-- the token of what a name lends
abbrev pub NameGiven : (ℕ → ℕ → Type 0) → ℕ → Name → Type 0
NameGiven G from (named.Lent o class token) = G from token
NameGiven G from _ = Unit {0}

-- those of names
pub names_given : (G : ℕ → ℕ → Type 0) (from to : ℕ) (xs : List Name) →
    AllByRecursion (TokenGiven G from to) (flat_map name_atoms xs) →
    AllByRecursion (NameGiven G from) xs
names_given G from to [] h = tt
names_given G from to (named.Mine serial class ∷ xs) h = (tt, names_given G from to xs h.1)
names_given G from to (named.Yours serial ∷ xs) h = (tt, names_given G from to xs h.1)
names_given G from to (named.Lent o class token ∷ xs) h = (h.0, names_given G from to xs h.1)
