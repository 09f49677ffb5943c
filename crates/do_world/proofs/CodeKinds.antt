-- The codes of a class by its kind, and how they suit the class.
use Rattle.do_class_kinds.specs.declared.kind.Kind.TheVariants as kinds
use Rattle.std.proofs.Common.{◌≡◌, ◌≢◌, ◌∙◌, ◌+◌, ℕ, List, [], ◌∷◌, ◌++◌, length, map, take, Option}
use Rattle.std.proofs.Common.{Some, None, refl, sym, ap, arith, subst, Result, Ok, Err}
use Rattle.std.specs.{Prelude.{IfSome, IsSome, codes, option_and_then, slice_get}, List.All}
use Rattle.std.{specs.{List.AllZip, Option.option_map}, proofs.lemmas.List.{length-map, map-append}}
use Rattle.std.proofs.lemmas.List.{take_all, Elements.{All-from_recursion, recursion_from_All}}
use Rattle.toml.specs.Data.{Members}
use Rattle.do_behave.specs.Programs.{HasCodes, Suits}
use Rattle.do_class.specs.{Class.Class, declared.{ids.Slot.Slot, method.Method.Method}}
use Rattle.do_script.specs.Listing.{IsWithin, Listing}
use Rattle.do_class_kinds.specs.declared.kind.Kind.{Kind}
use Rattle.do_document.specs.Classes.{class_by, class_of, kind_of, methods_by, slots_by, slots_in}
use Rattle.do_document.specs.{Document.{tables_at, text_at}, Finding.Finds, Sound.IsClassOf}
use Rattle.do_document.{specs.declared.fault.WorldFault.WorldFault, proofs.InOrder.Tells}
use Rattle.do_world.specs.Faults.{class_codes_fault, kind_codes_fault}
use Rattle.do_world.specs.Worlds.{class_codes, codes_by, no_code, slot_names}
use Rattle.do_world.proofs.{CodeLoops.{past_end, take_one}, CodeSteps.zip_suits}

-- a class of a table has the slots and the methods of its kind
parts_by : (t : Members) (kind : Kind) (c : Class) (name : Option (List ℕ))
    → option_map (λ (n : List ℕ).
    record { name = n; slots = slots_by kind t; methods = methods_by kind t }) name ≡ Some c
    → (c.slots ≡ slots_by kind t) × (c.methods ≡ methods_by kind t)
parts_by t kind c None e = cc
parts_by t kind c (Some name) e = (cc, cc)

parts_said : (t : Members) (kind : Kind) (c : Class) → kind_of t ≡ Some kind
    → class_of t ≡ Some c → (c.slots ≡ slots_by kind t) × (c.methods ≡ methods_by kind t)
parts_said t kind c is said =
    parts_by t kind c (text_at (codes "name") t) (sym (ap (option_and_then (class_by t)) is) ∙ said)

-- ---- scripts

-- the names of a class's slots are those that its table says
names_by : (t : Members) (slots : List Slot) (o : Option Class) → kind_of t ≡ Some kinds.Script
    → IfSome o (IsClassOf t) → option_map (λ (c : Class). c.slots) o ≡ Some slots
    → slots ≡ slots_in t
names_by t slots None is of at = cc
names_by t slots (Some c) is of at =
    let here : slots ≡ c.slots = cc in here ∙ (parts_said t kinds.Script c is of.said).0

-- codes that suit a class are one for each of its methods
codes_suit : (t : Members) (slots : List Slot) (n : ℕ) (made : List Listing) (o : Option Class)
    → kind_of t ≡ Some kinds.Script → IfSome o (IsClassOf t)
    → option_map (λ (c : Class). c.slots) o ≡ Some slots
    → length made ≡ length (tables_at (codes "method") t) → All (Suits (length slots) n) made
    → IfSome o (HasCodes n made)
codes_suit t slots n made None is of at count suit = tt
codes_suit t slots n made (Some c) is of at count suit =
    let here : slots ≡ c.slots = cc in
    zip_suits (Suits (length c.slots) n) made c.methods (count ∙ sym (of.all is))
    (recursion_from_All (Suits (length c.slots) n) made
    (subst (λ (ss : List Slot). All (Suits (length ss) n) made) here suit))

-- the codes of a class of scripts are read by the names of its slots
pub script_codes : (t : Members) (cs : List Class) (k : ℕ) (slots : List Slot)
    (names classes : List (List ℕ)) (result : Result (List Listing) WorldFault)
    → kind_of t ≡ Some kinds.Script → IfSome (slice_get cs k) (IsClassOf t)
    → option_map (λ (c : Class). c.slots) (slice_get cs k) ≡ Some slots → names ≡ slot_names slots
    → length classes ≡ length cs
    → Finds (class_codes_fault k names classes t)
    (λ made. (made ≡ class_codes names classes t)
    × (length made ≡ length (tables_at (codes "method") t))
    × All (Suits (length names) (length classes)) made) result
    → Finds (kind_codes_fault k classes t kinds.Script)
    (λ made. (made ≡ codes_by classes t kinds.Script)
    × IfSome (slice_get cs k) (HasCodes (length cs) made)) result
script_codes t cs k slots names classes (Ok made) is of at named many h =
    let said : names ≡ slot_names (slots_in t) =
    named ∙ ap slot_names (names_by t slots (slice_get cs k) is of at) in
    let few : length names ≡ length slots =
    ap length named ∙ length-map slots (λ (s : Slot). s.name) in
    let suit : All (Suits (length slots) (length cs)) made =
    subst (λ n. All (Suits n (length cs)) made) few
    (subst (λ n. All (Suits (length names) n) made) many h.1.2) in (
      subst (λ ns. class_codes_fault k ns classes t ≡ None) said h.0,
      (
        h.1.0 ∙ ap (λ ns. class_codes ns classes t) said,
        codes_suit t slots (length cs) made (slice_get cs k) is of at h.1.1 suit,
      ),
    )
script_codes t cs k slots names classes (Err e) is of at named many h =
    let said : names ≡ slot_names (slots_in t) =
    named ∙ ap slot_names (names_by t slots (slice_get cs k) is of at) in
    subst (λ ns. Tells (class_codes_fault k ns classes t) e) said h

-- ---- native classes

-- an empty code suits every class
no_code_suits : (slots n : ℕ) → Suits slots n no_code
no_code_suits slots n = record {
  valid = record {
    short = omega arith;
    within = All-from_recursion (IsWithin 0 0 0) [] tt;
  };
  few_slots = omega arith;
  few_classes = omega arith;
}

-- and so does one for each method
empty_suit : (slots n : ℕ) (methods : List Method)
    → AllZip (λ code (m : Method). Suits slots n code) (map (λ (m : Method). no_code) methods)
    methods
empty_suit slots n [] = tt
empty_suit slots n (m ∷ ms) = (no_code_suits slots n, empty_suit slots n ms)

-- the empty codes of a class, where it is there
codes_empty : (t : Members) (kind : Kind) (n : ℕ) (made : List Listing) (o : Option Class)
    → kind_of t ≡ Some kind → IfSome o (IsClassOf t)
    → option_map (λ (c : Class). map (λ (m : Method). no_code) c.methods) o ≡ Some made
    → (made ≡ map (λ (m : Method). no_code) (methods_by kind t)) × IfSome o (HasCodes n made)
codes_empty t kind n made None is of at = cc
codes_empty t kind n made (Some c) is of at =
    let here : made ≡ map (λ (m : Method). no_code) c.methods = cc in (
      here ∙ ap (map (λ (m : Method). no_code)) (parts_said t kind c is of.said).1,
      subst (λ (ls : List Listing). HasCodes n ls c) (sym here)
          (empty_suit (length c.slots) n c.methods),
    )

-- a native class has an empty code for each of its methods
pub native_codes : (t : Members) (kind : Kind) (cs : List Class) (k n : ℕ)
    (classes : List (List ℕ)) (made : List Listing) → kind ≢ kinds.Script → kind_of t ≡ Some kind
    → IfSome (slice_get cs k) (IsClassOf t)
    → option_map (λ (c : Class). map (λ (m : Method). no_code) c.methods) (slice_get cs k)
    ≡ Some made
    → (kind_codes_fault k classes t kind ≡ None)
    × ((made ≡ codes_by classes t kind) × IfSome (slice_get cs k) (HasCodes n made))
native_codes t kinds.Script cs k n classes made other is of at = absurd (other refl)
native_codes t kinds.Names cs k n classes made other is of at =
    (refl, codes_empty t kinds.Names n made (slice_get cs k) is of at)
native_codes t kinds.Pasteboard cs k n classes made other is of at =
    (refl, codes_empty t kinds.Pasteboard n made (slice_get cs k) is of at)
native_codes t kinds.Services cs k n classes made other is of at =
    (refl, codes_empty t kinds.Services n made (slice_get cs k) is of at)
native_codes t kinds.Center cs k n classes made other is of at =
    (refl, codes_empty t kinds.Center n made (slice_get cs k) is of at)
native_codes t kinds.Checker cs k n classes made other is of at =
    (refl, codes_empty t kinds.Checker n made (slice_get cs k) is of at)

-- ---- one empty code more

-- one more, where the class has a method more
pub no_code_more : (o : Option Class) (index : ℕ) (made more : List Listing)
    → option_map (λ (c : Class). map (λ (m : Method). no_code) (take index c.methods)) o ≡ Some made
    → IsSome (option_and_then (λ (c : Class). slice_get c.methods index) o)
    → more ≡ made ++ no_code ∷ []
    → option_map (λ (c : Class). map (λ (m : Method). no_code) (take (index + 1) c.methods)) o
    ≡ Some more
no_code_more None index made more so there grown = cc
no_code_more (Some c) index made more so there grown =
    by (slice_get c.methods index) refl there
  where
    by : (item : Option Method) → slice_get c.methods index ≡ item → IsSome item
        → Some (map (λ (m : Method). no_code) (take (index + 1) c.methods)) ≡ Some more
    by None at some = cc
    by (Some m) at some =
        let here : map (λ (n : Method). no_code) (take index c.methods) ≡ made = cc in
        ap Some (ap (map (λ (n : Method). no_code)) (take_one c.methods index m at)
        ∙ map-append (λ (n : Method). no_code) (take index c.methods) (m ∷ [])
        ∙ ap (λ ls. ls ++ no_code ∷ []) here ∙ sym grown)

-- no more, where it has none
pub no_code_same : (o : Option Class) (index : ℕ) (made : List Listing)
    → option_map (λ (c : Class). map (λ (m : Method). no_code) (take index c.methods)) o ≡ Some made
    → (IsSome (option_and_then (λ (c : Class). slice_get c.methods index) o) → ⊥)
    → option_map (λ (c : Class). map (λ (m : Method). no_code) (take (index + 1) c.methods)) o
    ≡ Some made
no_code_same None index made so none = so
no_code_same (Some c) index made so none = by (slice_get c.methods index) refl none
  where
    by : (item : Option Method) → slice_get c.methods index ≡ item → (IsSome item → ⊥)
        → Some (map (λ (m : Method). no_code) (take (index + 1) c.methods)) ≡ Some made
    by (Some m) at never = absurd (never refl)
    by None at never =
        let past = past_end c.methods index at in
        let now = take_all index c.methods past in
        let then = take_all (index + 1) c.methods (omega (arith, past)) in
        ap (λ (ms : List Method). Some (map (λ (m : Method). no_code) ms)) (then ∙ sym now) ∙ so
