-- The words of a line: what stands before a byte and behind it, bytes that stand nowhere, and
-- chains of values that may be missing.
use Rattle.std.specs.Prelude.{◌≡◌, ◌≢◌, ◌==◌, ℕ, List, [], ◌∷◌, Option, Some, None, if◌then◌else◌}
use Rattle.std.specs.Borrow.{Bor}

infixl 10 ◌>>?◌
-- what a value, if there is one, leads to
abbrev pub ◌>>?◌ : {A B : Type 0} → Option A → (A → Option B) → Option B
None >>? f = None
(Some x) >>? f = f x

-- the bytes that two references point to
abbrev pub text_view : Option (Bor (List ℕ) × Bor (List ℕ)) → Option (List ℕ × List ℕ)
text_view None = None
text_view (Some w) = Some (w.0.now, w.1.now)

-- the bytes before the first of a byte, and those after it
abbrev pub word : ℕ → List ℕ → Option (List ℕ × List ℕ)
word end [] = None
word end (b ∷ bytes) =
    if b == end then Some ([], bytes) else (word end bytes >>? λ w. Some (b ∷ w.0, w.1))

-- the bytes before the first of a byte, and those from it on; all of them, where it stands nowhere
abbrev pub part : ℕ → List ℕ → List ℕ × List ℕ
part end [] = ([], [])
part end (b ∷ bytes) =
    if b == end then ([], b ∷ bytes) else (b ∷ (part end bytes).0, (part end bytes).1)

-- the byte stands nowhere in the text
abbrev pub Without : ℕ → List ℕ → Type 0
Without end [] = Unit {0}
Without end (b ∷ bytes) = (b ≢ end) × Without end bytes

-- nothing stands there, or the byte stands first
abbrev pub EndsBefore : ℕ → List ℕ → Type 0
EndsBefore end [] = Unit {0}
EndsBefore end (b ∷ bytes) = b ≡ end
