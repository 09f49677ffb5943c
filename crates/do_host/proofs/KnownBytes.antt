-- Known bytes that calls keep, append to or read.
use Rattle.std.proofs.Common.{◌≡◌, ℕ, ◌+◌, ◌≤◌, List, [], ◌∷◌, length, take, ◌++◌, Option, Some}
use Rattle.std.proofs.Common.{None, refl, sym, ap, ◌∙◌, append-nil, arith}
use Rattle.std.proofs.lemmas.List.{length-take, take_all, Elements.All-push}
use Rattle.std.specs.{List.All, Io.KnownBytes.{Keeps, Appends}}

-- an output that was not touched keeps its bytes
pub keeps_refl : (a : Option (List ℕ)) → Keeps a a
keeps_refl None = tt
keeps_refl (Some xs) = refl

-- what is kept twice is kept
pub keeps_then : (a b c : Option (List ℕ)) → Keeps a b → Keeps b c → Keeps a c
keeps_then None b c p q = tt
keeps_then (Some xs) None c p q = absurd p
keeps_then (Some xs) (Some ys) None p q = absurd q
keeps_then (Some xs) (Some ys) (Some zs) p q = q ∙ p

-- what is appended to kept bytes is appended to the first
pub appends_after : (a b c : Option (List ℕ)) (bs : List ℕ) → Keeps a b → Appends b c bs
    → Appends a c bs
appends_after None b c bs p q = tt
appends_after (Some xs) None c bs p q = absurd p
appends_after (Some xs) (Some ys) None bs p q = absurd q
appends_after (Some xs) (Some ys) (Some zs) bs p q = q ∙ ap (λ l. l ++ bs) p

-- appending nothing keeps the bytes
pub appends_none : (a b : Option (List ℕ)) → Appends a b [] → Keeps a b
appends_none None b p = tt
appends_none (Some xs) None p = absurd p
appends_none (Some xs) (Some ys) p = p ∙ append-nil xs

-- what was cut behind the limit and is within it was not cut
pub within_is_all : (known bytes : List ℕ) (limit : ℕ) → bytes ≡ take (limit + 1) known
    → length bytes ≤ limit → bytes ≡ known
within_is_all known bytes limit cut within =
    let len = sym (length-take (limit + 1) known) ∙ sym (ap length cut) in
    cut ∙ take_all (limit + 1) known (omega arith)

-- words within a limit, and one more
pub short_push : (most : ℕ) (words : List (List ℕ)) (word : List ℕ)
    → All (λ w. length w ≤ most) words → length word ≤ most
    → All (λ w. length w ≤ most) (words ++ word ∷ [])
short_push most words word = All-push (λ w. length w ≤ most) words word

-- what a write that is tried again needs
pub ruleset known_facts = (keeps_refl, keeps_then, appends_after, appends_none)
