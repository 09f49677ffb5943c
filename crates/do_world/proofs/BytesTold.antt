-- What reading answers to bytes, by what their document is and says.
use Rattle.std.proofs.Common.{◌≡◌, ℕ, Bool, true, false, List, Some, None, refl, sym, ◌∙◌, ap, cond}
use Rattle.std.{proofs.Common.{◌⊎◌, inl, inr, Result, Ok, Err, IsUtf8}, specs.Prelude.{IfErr, IfOk}}
use Rattle.std.{specs.Str.is_utf8, proofs.lemmas.Str.{IsUtf8-from_is_utf8, is_utf8-from_IsUtf8}}
use Rattle.toml.specs.{Parse.parse_document, Data.Members}
use Rattle.do_document.specs.{Finding.{Finds, OrMemory}, declared.fault.WorldFault.WorldFault}
use Rattle.do_document.specs.declared.fault.WorldFault.TheVariants.{Memory, Toml}
use Rattle.do_document.proofs.InOrder.{Tells}
use Rattle.do_world.specs.{Faults.fault_of, Reading.{IsWorldText, document, first_fault, world_in}}
use Rattle.do_world.specs.{Sound.IsSound, Worlds.world_of, declared.world.World.World}

-- ---- the bytes

-- bytes that are TOML are a document
pub bytes_read : (bytes : List ℕ) (d : Members) → IsUtf8 bytes → parse_document bytes ≡ Some d
    → document bytes ≡ Some d
unfolding document
bytes_read bytes d text parsed = rw (is_utf8-from_IsUtf8 bytes text, parsed) refl

-- bytes that are no TOML are none
pub bytes_refused : (bytes : List ℕ) → (IsUtf8 bytes → parse_document bytes ≡ None)
    → document bytes ≡ None
unfolding document
bytes_refused bytes h = go (is_utf8 bytes) refl
  where
    go : (b : Bool) → is_utf8 bytes ≡ b → cond b (parse_document bytes) None ≡ None
    go true e = h (IsUtf8-from_is_utf8 bytes e)
    go false e = refl

-- the first fault of a document is that of its bytes
pub fault_in : (bytes : List ℕ) (d : Members) → document bytes ≡ Some d
    → first_fault bytes ≡ fault_of d
unfolding first_fault
fault_in bytes d e = rw e refl

-- bytes that are no document have no other fault
pub fault_none : (bytes : List ℕ) → document bytes ≡ None → first_fault bytes ≡ Some Toml
unfolding first_fault
fault_none bytes e = rw e refl

-- the world of a document is that of its bytes
pub says_in : (bytes : List ℕ) (d : Members) → document bytes ≡ Some d
    → world_in bytes ≡ Some (world_of d)
unfolding world_in
says_in bytes d e = rw e refl

-- ---- what reading answers

-- what is told of bytes, by what was told of their document
pub bytes_told : (bytes : List ℕ) (d : Members) (r : Result World WorldFault)
    → document bytes ≡ Some d
    → Finds (fault_of d) (λ w. (w ≡ world_of d) × IsSound w) r
    → Finds (first_fault bytes) (λ w. IsWorldText bytes w × IsSound w) r
bytes_told bytes d (Ok w) e h =
    let none : first_fault bytes ≡ None = fault_in bytes d e ∙ h.0 in (
      none,
      (
        record { good = none; says = says_in bytes d e ∙ ap Some (sym h.1.0) },
        h.1.1,
      ),
    )
bytes_told bytes d (Err f) e (inl m) = inl m
bytes_told bytes d (Err f) e (inr h) = inr (fault_in bytes d e ∙ h)

-- what is told of bytes that are no document
pub no_document : (bytes : List ℕ) (e : WorldFault)
    → (e ≡ Memory) ⊎ ((document bytes ≡ None) × (e ≡ Toml)) → Tells (first_fault bytes) e
no_document bytes e (inl m) = inl m
no_document bytes e (inr h) = inr (fault_none bytes h.0 ∙ ap Some (sym h.1))

-- a world that is told is the one that the text says
pub world_told : (bytes : List ℕ) (r : Result World WorldFault)
    → Finds (first_fault bytes) (λ w. IsWorldText bytes w × IsSound w) r
    → IfOk r (IsWorldText bytes)
world_told bytes (Ok w) h = h.1.0
world_told bytes (Err e) h = tt

-- a fault that is told is the first
pub fault_told : (bytes : List ℕ) (r : Result World WorldFault)
    → Finds (first_fault bytes) (λ w. IsWorldText bytes w × IsSound w) r
    → IfErr r (λ e. (e ≡ Memory) ⊎ (first_fault bytes ≡ Some e))
fault_told bytes (Ok w) h = tt
fault_told bytes (Err e) h = h

-- the world that a text says is told
pub world_accepted : (bytes : List ℕ) (r : Result World WorldFault)
    → Finds (first_fault bytes) (λ w. IsWorldText bytes w × IsSound w) r
    → (world : World) → IsWorldText bytes world → OrMemory (Ok world) r
world_accepted bytes (Ok w) h world s =
    let said = h.1.0.says in
    let wanted = s.says in
    let same : w ≡ world = cc in
    let answer : World → Result World WorldFault = λ x. Ok x in
    inl (ap answer same)
world_accepted bytes (Err e) (inl m) world s =
    let answer : WorldFault → Result World WorldFault = λ x. Err x in inr (ap answer m)
world_accepted bytes (Err e) (inr h) world s = let none = s.good in absurd cc

-- the first fault is told
pub fault_refused : (bytes : List ℕ) (r : Result World WorldFault)
    → Finds (first_fault bytes) (λ w. IsWorldText bytes w × IsSound w) r
    → (fault : WorldFault) → first_fault bytes ≡ Some fault → OrMemory (Err fault) r
fault_refused bytes (Ok w) h fault f = let none = h.0 in absurd cc
fault_refused bytes (Err e) (inl m) fault f =
    let answer : WorldFault → Result World WorldFault = λ x. Err x in inr (ap answer m)
fault_refused bytes (Err e) (inr h) fault f =
    let same : e ≡ fault = cc in
    let answer : WorldFault → Result World WorldFault = λ x. Err x in inl (ap answer same)
