-- Grammars: which lists of bytes spell which values, and what can be said of bytes by one.
use Rattle.std.specs.Prelude.{◌≡◌, ℕ, ◌+◌, ◌<◌, List, [], ◌∷◌, ◌++◌, length, take}

-- every number is a byte
abbrev pub IsBytes : List ℕ → Type 0
IsBytes [] = Unit {0}
IsBytes (b ∷ bytes) = (b < 256) × IsBytes bytes

-- A grammar says which lists of bytes spell which values. Some spelling begins with these bytes:
pub record Begins {A : Type 0} (G : List ℕ → A → Type 0) (front : List ℕ) : Type 0 where
  pub more : List ℕ
  pub value : A
  pub spelled : G (front ++ more) value

-- a spelling of the value begins the bytes, and the rest stands behind it
pub record Takes {A : Type 0} (G : List ℕ → A
    → Type 0) (bytes : List ℕ) (x : A) (rest : List ℕ) : Type 0 where
  pub text : List ℕ
  pub parts : bytes ≡ text ++ rest
  pub spelled : G text x

-- the bytes are a proper front of a spelling
pub record IsProperFront {A : Type 0} (G : List ℕ → A → Type 0) (bytes : List ℕ) : Type 0 where
  pub next : ℕ
  pub more : List ℕ
  pub value : A
  pub spelled : G (bytes ++ next ∷ more) value

-- the byte at this place is the first with which no spelling goes on
pub record IsFirstBad {A : Type 0} (G : List ℕ → A
    → Type 0) (bytes : List ℕ) (place : ℕ) : Type 0 where
  pub inside : place < length bytes
  pub before : IsProperFront G (take place bytes)
  pub dead : (more : List ℕ) (x : A) → G (take (place + 1) bytes ++ more) x → ⊥

-- the same where all the bytes are read: what stands before it may be a whole spelling
pub record IsFirstBadWhole {A : Type 0} (G : List ℕ → A
    → Type 0) (bytes : List ℕ) (place : ℕ) : Type 0 where
  pub inside : place < length bytes
  pub before : Begins G (take place bytes)
  pub dead : (more : List ℕ) (x : A) → G (take (place + 1) bytes ++ more) x → ⊥
