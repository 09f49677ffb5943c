-- What is left once dead pairs are dropped.
use Rattle.std.proofs.Common.{◌≡◌, ℕ, ◌+◌, ◌≤◌, Bool, true, false, cond, List, [], ◌∷◌, ◌++◌}
use Rattle.std.proofs.Common.{filter, Option, Some, None, refl, ap, ◌∙◌, sym, arith, eqb-true, map}
use Rattle.std.proofs.Common.{take, get_or, length, ◌<◌, append-nil}
use Rattle.std.proofs.lemmas.List.{take_more, map-append}
use Rattle.do_base.specs.names.Names.{ObjectName}
use Rattle.do_store.specs.{Objects.name_of, Listing.{Rising, live, live_in, listed, is_live}}
use Rattle.do_store.specs.{Listing.is_live_in, declared.object.{Object.Object, Pair.Pair}}
use Rattle.do_store.proofs.Listed.{rising-lower, flat_map-append}

-- the items that pass a test rise with one item more
rising-step : {X : Type 0} (key : X → ℕ) (test : X → Bool) (low top : ℕ) (x : X) (xs : List X)
    (b : Bool) → test x ≡ b → low ≤ key x → Rising key (key x + 1) (filter test xs) top
    → Rising key low (filter test (x ∷ xs)) top
rising-step key test low top x xs true kept above rest = rw kept (above, rest)
rising-step key test low top x xs false gone above rest =
    rw gone (rising-lower key (key x + 1) low top (filter test xs) (omega arith) rest)

-- the items of a rising list that pass a test rise
pub rising-filter : {X : Type 0} (key : X → ℕ) (test : X → Bool) (low top : ℕ) (xs : List X)
    → Rising key low xs top → Rising key low (filter test xs) top
rising-filter key test low top [] rising = rising
rising-filter key test low top (x ∷ xs) rising =
    rising-step key test low top x xs (test x) refl rising.0
    (rising-filter key test (key x + 1) top xs rising.1)

-- a pair that does not lead to its object leads to nothing
dead : (n : ℕ) (o : Option Object) → is_live_in n o ≡ false → live_in n o ≡ []
dead n None gone = refl
dead n (Some o) gone = ap (λ b. cond b (o ∷ []) []) gone

-- to drop dead pairs keeps what is listed, with one pair more
listed-step : (at : ℕ → Option Object) (p : Pair) (ps : List Pair) (b : Bool) → is_live at p ≡ b
    → listed at (filter (is_live at) ps) ≡ listed at ps
    → listed at (filter (is_live at) (p ∷ ps)) ≡ listed at (p ∷ ps)
listed-step at p ps true kept rest = rw kept (ap (λ l. live at p ++ l) rest)
listed-step at p ps false gone rest =
    rw gone (rest ∙ ap (λ l. l ++ listed at ps) (sym (dead p.serial (at p.key) gone)))

-- to drop dead pairs keeps the objects that are listed
pub listed-filter : (at : ℕ → Option Object) (pairs : List Pair)
    → listed at (filter (is_live at) pairs) ≡ listed at pairs
listed-filter at [] = refl
listed-filter at (p ∷ ps) = listed-step at p ps (is_live at p) refl (listed-filter at ps)

-- a pair that leads to its object gives that object's name
live_names : (node n : ℕ) (o : Option Object) → is_live_in n o ≡ true
    → map (name_of node) (live_in n o) ≡ record { node = node; serial = n } ∷ []
live_names node n None kept = absurd (cc)
live_names node n (Some o) kept =
    let named : ℕ → ObjectName = λ k. record { node = node; serial = k } in
    ap (λ b. map (name_of node) (cond b (o ∷ []) [])) kept
    ∙ ap (λ k. named k ∷ []) (eqb-true o.serial n kept)

-- one pair more lists what it leads to besides
listed_more : (at : ℕ → Option Object) (ps : List Pair) (i : ℕ) (p : Pair) → i < length ps
    → p ≡ get_or ps i p → listed at (take (i + 1) ps) ≡ listed at (take i ps) ++ live at p
listed_more at ps i p within is =
    ap (listed at) (take_more ps i p within)
    ∙ flat_map-append (live at) (take i ps) (get_or ps i p ∷ [])
    ∙ ap (λ l. listed at (take i ps) ++ l) (append-nil (live at (get_or ps i p))
    ∙ ap (live at) (sym is))

-- one live pair more lists one name more
pub more-live : (node : ℕ) (at : ℕ → Option Object) (ps : List Pair) (i : ℕ) (p : Pair)
    → i < length ps → p ≡ get_or ps i p → is_live at p ≡ true
    → map (name_of node) (listed at (take (i + 1) ps)) ≡ map (name_of node) (listed at (take i ps))
    ++ record { node = node; serial = p.serial } ∷ []
more-live node at ps i p within is kept =
    ap (map (name_of node)) (listed_more at ps i p within is)
    ∙ map-append (name_of node) (listed at (take i ps)) (live at p)
    ∙ ap (λ l. map (name_of node) (listed at (take i ps)) ++ l)
    (live_names node p.serial (at p.key) kept)

-- one dead pair more lists no name more
pub more-dead : (node : ℕ) (at : ℕ → Option Object) (ps : List Pair) (i : ℕ) (p : Pair)
    → i < length ps → p ≡ get_or ps i p → is_live at p ≡ false
    → map (name_of node) (listed at (take (i + 1) ps)) ≡ map (name_of node) (listed at (take i ps))
more-dead node at ps i p within is gone =
    ap (map (name_of node))
    (listed_more at ps i p within is
    ∙ ap (λ l. listed at (take i ps) ++ l) (dead p.serial (at p.key) gone)
    ∙ append-nil (listed at (take i ps)))
