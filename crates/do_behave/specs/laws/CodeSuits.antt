-- The code that a program made for a table has for a method suits its class and the table.
use Rattle.std.proofs.Common.{◌≡◌, ℕ, zero, suc, ◌<◌, ◌≤◌, ◌==◌, true, ◌&&◌, List, [], ◌∷◌, ◌++◌}
use Rattle.std.proofs.Common.{length, Option, Some, None, refl, sym, ◌∙◌, ap, subst, arith}
use Rattle.std.specs.{Prelude.{nat_le, option_and_then, slice_get}, Option.option_map}
use Rattle.std.{specs.List.{All, AllZip}, proofs.Math.Seq.{take-append_seam, drop-append_seam}}
use Rattle.std.proofs.lemmas.List.Elements.{All-head, All-tail, All-take, All-drop}
use Rattle.do_base.specs.declared.values.value.Value.{Value}
use Rattle.do_class.specs.{Class.Class, Table.slots_of, declared.ids.MethodId.MethodId}
use Rattle.do_script.specs.Listing.{Listing, IsWithin}
use Rattle.do_script.specs.declared.instruction.Instruction.{Instruction, TheVariants.{Get, Set}}
use Rattle.do_script.specs.declared.instruction.Instruction.TheVariants.{Jump, IfNot, New, Catch}
use Rattle.do_behave.specs.Programs.{HasCodes, IsMadeFor, Suits}
use Rattle.std.proofs.lemmas.Bool.{and_parts, eqb-true, leb-true}
use Rattle.do_behave.specs.{Script.{code_of, is_ready}, declared.invocation.Invocation.Invocation}

-- where there is more, an instruction is within it
pub within-weaker : (slots classes len slots' classes' len' : ℕ) → slots ≤ slots'
    → classes ≤ classes' → len ≤ len' → (i : Instruction)
    → IsWithin slots classes len i → IsWithin slots' classes' len' i
within-weaker s c l s' c' l' more_slots more_classes longer (Get d k) w = (w.0, omega (arith, w.1))
within-weaker s c l s' c' l' more_slots more_classes longer (Set k d) w = (omega (arith, w.0), w.1)
within-weaker s c l s' c' l' more_slots more_classes longer (Jump to) w = omega (arith, w)
within-weaker s c l s' c' l' more_slots more_classes longer (IfNot a to) w =
    (w.0, omega (arith, w.1))
within-weaker s c l s' c' l' more_slots more_classes longer (New d k) w = (w.0, omega (arith, w.1))
within-weaker s c l s' c' l' more_slots more_classes longer (Catch d to) w =
    (w.0, omega (arith, w.1))
within-weaker s c l s' c' l' more_slots more_classes longer _ w = w

some-same : {A : Type 0} {x y : A} → Some x ≡ Some y → x ≡ y
some-same e = cc

and_then-Some : {A B : Type 0} (f : A → Option B) (o : Option A) (b : B)
    → option_and_then f o ≡ Some b → (a : A) × (o ≡ Some a) × (f a ≡ Some b)
and_then-Some f None b e = cc
and_then-Some f (Some a) b e = (a, refl, e)

zip-at : {A B : Type 0} (R : A → B → Type 0) (xs : List A) (ys : List B) (i : ℕ) (x : A)
    → AllZip R xs ys → slice_get xs i ≡ Some x
    → (y : B) × (slice_get ys i ≡ Some y) × R x y
zip-at R [] [] i x zip found = cc
zip-at R [] (z ∷ zs) i x zip found = absurd zip
zip-at R (w ∷ ws) [] i x zip found = absurd zip
zip-at R (w ∷ ws) (z ∷ zs) zero x zip found = (z, refl, subst (λ v. R v z) (some-same found) zip.0)
zip-at R (w ∷ ws) (z ∷ zs) (suc i) x zip found = zip-at R ws zs i x zip.1 found

-- the code of a method names only slots of its class and classes of the table
pub code-suits : (codes : List (List Listing)) (table : List Class) (m : MethodId) (code : Listing)
    (slots : List Value) → IsMadeFor codes table → code_of codes m ≡ Some code
    → option_map length (slots_of table m.class) ≡ Some (length slots)
    → Suits (length slots) (length table) code
code-suits codes table m code slots made found counted =
    let of_class =
    and_then-Some (λ (cs : List Listing). slice_get cs m.index)
    (slice_get codes m.class.0) code found in
    let class =
    zip-at
    (HasCodes (length table))
    codes table m.class.0 of_class.0 made of_class.1 in
    let method =
    zip-at (λ code method. Suits (length class.0.slots) (length table) code)
    of_class.0 class.0.methods m.index code class.2 of_class.2 in
    let same : length class.0.slots ≡ length slots =
    some-same
    (sym (ap (λ o. option_map length (option_map (λ (c : Class). c.slots) o)) class.1) ∙ counted) in
    subst (λ n. Suits n (length table) code) same method.2

-- what holds of each item holds of the one at a place
pub at-place : {A : Type 0} (P : A → Type 0) (xs : List A) (k : ℕ) (x : A) → All P xs
    → slice_get xs k ≡ Some x → P x × (k < length xs)
at-place P [] k x all found = cc
at-place P (y ∷ ys) zero x all found =
    (subst P (some-same found) (All-head P y ys all), omega arith)
at-place P (y ∷ ys) (suc k) x all found =
    let rest = at-place P ys k x (All-tail P y ys all) found in (rest.0, omega (arith, rest.1))

-- an instruction of suitable code, and its place
pub instruction-suits : (slots classes : ℕ) (code : Listing) (place : ℕ) (i : Instruction)
    → Suits slots classes code → slice_get code.instructions place ≡ Some i
    → IsWithin slots classes 4096 i × (place < 4096)
instruction-suits slots classes code place i suits found =
    let there =
    at-place (IsWithin code.slots code.classes (length code.instructions))
    code.instructions place i suits.valid.within found in (
      within-weaker code.slots code.classes
          (length code.instructions) slots classes 4096
          suits.few_slots suits.few_classes suits.valid.short i there.0,
      omega (arith, there.1, suits.valid.short),
    )

-- what holds of all of a joined list holds of its first part
pub All-first : {A : Type 0} (P : A → Type 0) (xs ys : List A) → All P (xs ++ ys) → All P xs
All-first P xs ys all =
    subst (All P) (take-append_seam xs ys) (All-take P (length xs) (xs ++ ys) all)

-- and of its second
pub All-second : {A : Type 0} (P : A → Type 0) (xs ys : List A) → All P (xs ++ ys) → All P ys
All-second P xs ys all =
    subst (All P) (drop-append_seam xs ys) (All-drop P (length xs) (xs ++ ys) all)

-- an invocation that is ready for code has sixteen locals, the slots and the classes
pub ready-parts : (table : List Class) (inv : Invocation) (slots : List Value) (code : Listing)
    → is_ready table inv slots code ≡ true
    → (length inv.locals ≡ 16) × (code.slots ≤ length slots) × (code.classes ≤ length table)
ready-parts table inv slots code ready =
    let few = nat_le code.slots (length slots) in
    let known = nat_le code.classes (length table) in
    let parts = and_parts (length inv.locals == 16) (few && known) ready in
    let others = and_parts few known parts.1 in (
      eqb-true (length inv.locals) 16 parts.0,
      leb-true code.slots (length slots) others.0,
      leb-true code.classes (length table) others.1,
    )
