-- The steps of a writer up to where memory ran out.
use Rattle.std.proofs.Common.{◌≡◌, ℕ, zero, suc, ◌<◌, List, [], ◌∷◌, ◌++◌, length, take, get_or}
use Rattle.std.proofs.Common.{Result, Ok, Err, refl, sym, ap, ◌∙◌, append_assoc, arith}
use Rattle.std.{specs.{Prelude.OnErr, List.flat_map}, proofs.lemmas.List.append-nil}
use Rattle.do_grammar.specs.PartlyAdded.{AddedPartly}

-- nothing was added
pub added_none : (old added new : List ℕ) → new ≡ old → AddedPartly old added new
added_none old added new e = record {
  front = [];
  more = added;
  parts = refl;
  now = e ∙ sym (append-nil old);
}

-- a front was added, and then a part of the rest
pub added_later : {X E : Type 0} (r : Result X E) (old mid new front rest added : List ℕ)
    → mid ≡ old ++ front → added ≡ front ++ rest → OnErr r (AddedPartly mid rest new)
    → OnErr r (AddedPartly old added new)
added_later (Ok x) old mid new front rest added m p h = tt
added_later (Err e) old mid new front rest added m p h =
    record {
      front = front ++ h.front;
      more = h.more;
      parts = p ∙ ap (λ (w : List ℕ). front ++ w) h.parts ∙ sym (append_assoc front h.front h.more);
      now = h.now ∙ ap (λ (w : List ℕ). w ++ h.front) m ∙ append_assoc old front h.front;
    }

-- a part of the first was added
pub added_first : {X E : Type 0} (r : Result X E) (old new front rest added : List ℕ)
    → added ≡ front ++ rest → AddedPartly old front new → OnErr r (AddedPartly old added new)
added_first (Ok x) old new front rest added p h = tt
added_first (Err e) old new front rest added p h = record {
  front = h.front;
  more = h.more ++ rest;
  parts = p ∙ ap (λ (w : List ℕ). w ++ rest) h.parts ∙ append_assoc h.front h.more rest;
  now = h.now;
}

-- where memory ran out nothing was added
pub added_nothing : {X E : Type 0} (r : Result X E) (old added new : List ℕ) → OnErr r (new ≡ old)
    → OnErr r (AddedPartly old added new)
added_nothing (Ok x) old added new h = tt
added_nothing (Err e) old added new h = added_none old added new h

-- the pieces before one, this one, and the others
flat_at : {A : Type 0} (f : ℕ → List A) (xs : List ℕ) (i d : ℕ) → i < length xs
    → (rest : List A) × (flat_map f xs ≡ flat_map f (take i xs) ++ (f (get_or xs i d) ++ rest))
flat_at f [] i d lt = absurd (omega arith)
flat_at f (x ∷ xs) zero d lt = (flat_map f xs, refl)
flat_at {A = A} f (x ∷ xs) (suc i) d lt =
    let t = flat_at f xs i d (omega arith) in (
      t.0,
      ap (λ (w : List A). f x ++ w) t.1
          ∙ sym (append_assoc (f x) (flat_map f (take i xs)) (f (get_or xs i d) ++ t.0)),
    )

-- a part of one piece was added behind those before it
pub added_piece : {X E : Type 0} (r : Result X E) (old mid new : List ℕ) (f : ℕ
    → List ℕ) (xs : List ℕ) (i d : ℕ) → i < length xs → mid ≡ old ++ flat_map f (take i xs)
    → AddedPartly mid (f (get_or xs i d)) new → OnErr r (AddedPartly old (flat_map f xs) new)
added_piece r old mid new f xs i d lt m h =
    let t = flat_at f xs i d lt in
    added_later r old mid new (flat_map f (take i xs)) (f (get_or xs i d) ++ t.0)
    (flat_map f xs) m t.1
    (added_first r mid new (f (get_or xs i d)) t.0 (f (get_or xs i d) ++ t.0) refl h)
