-- What the checks of a method's code come to.
use Rattle.do_script.specs.declared.fault.AsmFault.TheVariants as asm
use Rattle.std.proofs.Common.{◌≡◌, ◌≢◌, ℕ, ◌+◌, List, [], ◌∷◌, ◌++◌, length, map, take, get_or}
use Rattle.std.proofs.Common.{Some, None, sym, ◌∙◌, ap, arith, ◌⊎◌, inl, inr, Result, Ok, Err, Bor}
use Rattle.std.specs.{Prelude.{MatchResult, codes, slice_get}, List.{AllByRecursion, AllZip}}
use Rattle.std.{specs.Option.option_map, proofs.lemmas.{List.map_more, Option.slice_get_cases}}
use Rattle.toml.specs.Data.{Data, Members, as_str, get_member}
use Rattle.do_script.specs.{Assembly.{IsCodeOf, IsFault, scope}, Listing.{IsValid, Listing}}
use Rattle.do_script.specs.{Program.program, declared.fault.AsmFault.AsmFault}
use Rattle.do_behave.specs.Programs.{Suits}
use Rattle.do_document.specs.{Checks.{is_text, misfit}, Finding.Finds, Paths.path}
use Rattle.do_document.specs.declared.{place.Place.Place, fault.WorldFault.WorldFault}
use Rattle.do_document.specs.declared.fault.WorldFault.TheVariants.{Asm, Memory, Wrong}
use Rattle.do_document.proofs.InOrder.{Is, Tells, told, two_first, two_none, two_second}
use Rattle.do_world.specs.{Faults.{code_fault, text_fault}, Worlds.{code_text, method_code}}
use Rattle.do_world.proofs.AssemblyFaults.{code_has_none, code_is, fault_is}

-- no code stands there, which is the empty text
pub code_absent : (place : Place) (t : Members) → get_member (codes "code") t ≡ None
    → (misfit place (codes "code") is_text t ≡ None) × (code_text t ≡ Some [])
unfolding misfit code_text
code_absent place t none = (rw none, rw none)

-- a text stands there
pub code_there : (place : Place) (t : Members) (d : Data) (text : List ℕ)
    → get_member (codes "code") t ≡ Some d → as_str d ≡ Some text
    → (misfit place (codes "code") is_text t ≡ None) × (code_text t ≡ Some text)
unfolding misfit code_text
code_there place t d text there is = (rw (there, is), rw (there, is))

-- something else stands there
pub code_wrong : (place : Place) (t : Members) (d : Data) (e : WorldFault)
    → get_member (codes "code") t ≡ Some d → as_str d ≡ None
    → Is (Wrong (path place (codes "code"))) e → Tells (misfit place (codes "code") is_text t) e
unfolding misfit
code_wrong place t d e there none is =
    let same : misfit place (codes "code") is_text t ≡ Some (Wrong (path place (codes "code"))) =
    rw (there, none) in
    told (misfit place (codes "code") is_text t) (Wrong (path place (codes "code"))) e same is

-- the answer to what stands there
pub code_text_told : (place : Place) (t : Members) (d : Data) (r : Result (Bor (List ℕ)) WorldFault)
    → get_member (codes "code") t ≡ Some d
    → MatchResult r (λ text. as_str d ≡ Some text.now)
    (λ e. (as_str d ≡ None) × Is (Wrong (path place (codes "code"))) e)
    → Finds (misfit place (codes "code") is_text t) (λ text. code_text t ≡ Some text.now) r
code_text_told place t d (Ok text) there is = code_there place t d text.now there is
code_text_told place t d (Err e) there is = code_wrong place t d e there is.0 is.1

-- a method's code is no text
pub code_first : (place : Place) (slots classes : List (List ℕ)) (t : Members) (e : WorldFault)
    → Tells (misfit place (codes "code") is_text t) e → Tells (code_fault place slots classes t) e
unfolding code_fault
code_first place slots classes t e h =
    two_first (misfit place (codes "code") is_text t) (text_fault place slots classes t) e h

-- a method's text is no code
pub code_refused : (place : Place) (slots classes : List (List ℕ)) (t : Members) (text : List ℕ)
    (f : AsmFault) (e : WorldFault) → misfit place (codes "code") is_text t ≡ None
    → code_text t ≡ Some text → IsFault (scope slots classes text) (program text) f
    → (e ≡ Memory) ⊎ ((f ≢ asm.Memory) × (e ≡ Asm (path place (codes "code")) f))
    → Tells (code_fault place slots classes t) e
unfolding code_fault text_fault
code_refused place slots classes t text f e good is fault (inl m) = inl m
code_refused place slots classes t text f e good is fault (inr why) =
    let first = fault_is slots classes text f fault why.0 in
    let same : text_fault place slots classes t ≡ Some (Asm (path place (codes "code")) f) =
    rw (is, first) in
    two_second (misfit place (codes "code") is_text t) (text_fault place slots classes t) e good
    (inr (same ∙ ap Some (sym why.1)))

-- a method's text is code
pub code_read : (place : Place) (slots classes : List (List ℕ)) (t : Members) (text : List ℕ)
    (code : Listing) → misfit place (codes "code") is_text t ≡ None → code_text t ≡ Some text
    → IsCodeOf slots classes text code
    → (code_fault place slots classes t ≡ None) × (method_code slots classes t ≡ Some code)
unfolding code_fault text_fault
code_read place slots classes t text code good is made =
    let first = code_has_none slots classes text code made in
    let none : text_fault place slots classes t ≡ None = rw (is, first) in
    let same = code_is slots classes text code made in
    let said : method_code slots classes t ≡ Some code = rw is (ap Some (sym same)) in (
      two_none (misfit place (codes "code") is_text t) (text_fault place slots classes t) good none,
      said,
    )

-- valid code of a text suits as many slots and classes as it was given
pub suits : (slots classes : List (List ℕ)) (text : List ℕ) (code : Listing)
    → IsCodeOf slots classes text code → IsValid code
    → Suits (length slots) (length classes) code
suits slots classes text code made valid = record {
  valid = valid;
  few_slots = let same = made.slots_given in omega (arith, same);
  few_classes = let same = made.classes_given in omega (arith, same);
}

-- codes that suit a class are its codes, where there are as many as methods
pub zip_suits : {A B : Type 0} (P : A → Type 0) (xs : List A) (ys : List B)
    → length xs ≡ length ys → AllByRecursion P xs → AllZip (λ x y. P x) xs ys
zip_suits P [] [] same all = tt
zip_suits P [] (y ∷ ys) same all = absurd (omega (arith, same))
zip_suits P (x ∷ xs) [] same all = absurd (omega (arith, same))
zip_suits P (x ∷ xs) (y ∷ ys) same all =
    let rest : length xs ≡ length ys = omega (arith, same) in
    (all.0, zip_suits P xs ys rest all.1)

-- what is made of the item at a place joins what is made of those before it
pub made_at : {A B : Type 0} (f : A → B) (xs : List A) (k : ℕ) (made : List B) (y : B)
    → made ≡ map f (take k xs) → option_map f (slice_get xs k) ≡ Some y
    → made ++ y ∷ [] ≡ map f (take (k + 1) xs)
made_at f xs k made y so is =
    elim (slice_get_cases xs k).1 [
      | inl h ↦
          let more = map_more f xs k h.0 h.1 in
          let some = rw h.2 at is in
          let here : f h.0 ≡ y = cc in
          let there : f (get_or xs k h.0) ≡ y = ap f h.3 ∙ here in
          rw (more, there, so)
      | inr h ↦ let none = rw h.1 at is in cc
    ]
