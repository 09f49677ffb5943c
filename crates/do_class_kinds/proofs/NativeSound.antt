-- The slots and methods of each kind are those of a class.
use Rattle.do_class_kinds.specs.declared.kind.Kind.TheVariants as kinds
use Rattle.std.proofs.Common.{◌≡◌, ◌≤◌, ◌∙◌, ℕ, List, [], ◌∷◌, length, map, take, refl, sym, ap}
use Rattle.std.proofs.Common.{subst, arith, false, Bor, ◌++◌, ◌<◌, ◌+◌, get_or}
use Rattle.std.specs.{List.{AllByRecursion, IsDistinct}, Option.option_to_list, Str.bytes_eq}
use Rattle.std.proofs.lemmas.{Cmp.nat_list_eq_equiv, List.take_all, Map.Made.IsDistinct-from_count}
use Rattle.do_grammar.specs.Names.{is_selector}
use Rattle.do_sig.specs.reading.Outermost.{encoding_at, outermost_at}
use Rattle.do_sig.specs.reading.{Signatures.{args_at, bare_at, signature_at}, Types.type_at}
use Rattle.do_class.specs.{Class.AreMethods, declared.{ids.Slot.Slot, method.Method.Method}}
use Rattle.do_class_kinds.specs.Methods.{method_said}
use Rattle.do_class_kinds.specs.Native.{native_methods, native_slots, slot_names, spellings}
use Rattle.do_class_kinds.{specs.declared.kind.Kind.Kind, proofs.Growing.maybe_more}
use Rattle.do_class_kinds.proofs.Said.{IsSaid, all_said, are_methods, none_lost}

-- ---- the slots

-- no two have one name
pub slots_distinct : (kind : Kind) → IsDistinct bytes_eq (slot_names kind)
slots_distinct kinds.Script = IsDistinct-from_count nat_list_eq_equiv _ refl
slots_distinct kinds.Names = IsDistinct-from_count nat_list_eq_equiv _ refl
slots_distinct kinds.Pasteboard = IsDistinct-from_count nat_list_eq_equiv _ refl
slots_distinct kinds.Services = IsDistinct-from_count nat_list_eq_equiv _ refl
slots_distinct kinds.Center = IsDistinct-from_count nat_list_eq_equiv _ refl
slots_distinct kinds.Checker = IsDistinct-from_count nat_list_eq_equiv _ refl

-- ---- the methods

-- the methods of the server of names are said
names_said : AllByRecursion IsSaid (spellings kinds.Names)
unfolding is_selector signature_at args_at bare_at encoding_at outermost_at type_at
names_said = ((refl, refl), ((refl, refl), ((refl, refl), tt)))

-- those of a pasteboard
pasteboard_said : AllByRecursion IsSaid (spellings kinds.Pasteboard)
unfolding is_selector signature_at args_at bare_at encoding_at outermost_at type_at
pasteboard_said = (
  (refl, refl),
  (
    (refl, refl),
    (
      (refl, refl),
      (
        (refl, refl),
        (
          (refl, refl),
          ((refl, refl), ((refl, refl), ((refl, refl), tt))),
        ),
      ),
    ),
  ),
)

-- those of the server of services
services_said : AllByRecursion IsSaid (spellings kinds.Services)
unfolding is_selector signature_at args_at bare_at encoding_at outermost_at type_at
services_said = ((refl, refl), ((refl, refl), ((refl, refl), ((refl, refl), ((refl, refl), tt)))))

-- those of a center
center_said : AllByRecursion IsSaid (spellings kinds.Center)
unfolding is_selector signature_at args_at bare_at encoding_at outermost_at type_at
center_said = ((refl, refl), ((refl, refl), ((refl, refl), ((refl, refl), tt))))

-- that of a checker
checker_said : AllByRecursion IsSaid (spellings kinds.Checker)
unfolding is_selector signature_at args_at bare_at encoding_at outermost_at type_at
checker_said = ((refl, refl), tt)

-- the methods of each kind are said
kind_said : (kind : Kind) → AllByRecursion IsSaid (spellings kind)
kind_said kinds.Script = tt
kind_said kinds.Names = names_said
kind_said kinds.Pasteboard = pasteboard_said
kind_said kinds.Services = services_said
kind_said kinds.Center = center_said
kind_said kinds.Checker = checker_said

-- there are at most 64
methods_few : (kind : Kind) → length (spellings kind) ≤ 64
methods_few kinds.Script = omega arith
methods_few kinds.Names = omega arith
methods_few kinds.Pasteboard = omega arith
methods_few kinds.Services = omega arith
methods_few kinds.Center = omega arith
methods_few kinds.Checker = omega arith

-- no two have one selector
selectors_distinct : (kind : Kind) → IsDistinct bytes_eq (map (λ m. m.0) (spellings kind))
selectors_distinct kinds.Script = IsDistinct-from_count nat_list_eq_equiv _ refl
selectors_distinct kinds.Names = IsDistinct-from_count nat_list_eq_equiv _ refl
selectors_distinct kinds.Pasteboard = IsDistinct-from_count nat_list_eq_equiv _ refl
selectors_distinct kinds.Services = IsDistinct-from_count nat_list_eq_equiv _ refl
selectors_distinct kinds.Center = IsDistinct-from_count nat_list_eq_equiv _ refl
selectors_distinct kinds.Checker = IsDistinct-from_count nat_list_eq_equiv _ refl

-- a class can have the methods of each kind
pub native_are_methods : (kind : Kind) → AreMethods (native_methods kind)
unfolding native_methods
native_are_methods kind =
    are_methods (spellings kind) (kind_said kind) (methods_few kind) (selectors_distinct kind)

-- each kind has a method for each of its selectors
pub native_none_lost : (kind : Kind) → length (native_methods kind) ≡ length (spellings kind)
unfolding native_methods
native_none_lost kind = none_lost (spellings kind) (kind_said kind)

-- what one more spelling says joins what those before it said
pub spelled_more : (xs : List (Bor (List ℕ) × Bor (List ℕ))) (k : ℕ)
    (d : Bor (List ℕ) × Bor (List ℕ)) (old new : List Method) → k < length xs
    → old ≡ all_said (map (λ (m : Bor (List ℕ) × Bor (List ℕ)). (m.0.now, m.1.now)) (take k xs))
    → new ≡ old ++ option_to_list (method_said (get_or xs k d).0.now (get_or xs k d).1.now)
    → new
    ≡ all_said (map (λ (m : Bor (List ℕ) × Bor (List ℕ)). (m.0.now, m.1.now)) (take (k + 1) xs))
spelled_more xs k d old new within made grown =
    maybe_more (λ (m : Bor (List ℕ) × Bor (List ℕ)). (m.0.now, m.1.now)) xs k (get_or xs k d) d
    within refl old new (λ (m : List ℕ × List ℕ). method_said m.0 m.1) made grown

-- what was said of all spellings of a kind are its methods
pub native_found : (kind : Kind) (xs : List (Bor (List ℕ) × Bor (List ℕ))) (k : ℕ)
    (methods : List Method) → length xs ≤ k
    → methods ≡ all_said (map (λ (m : Bor (List ℕ) × Bor (List ℕ)). (m.0.now, m.1.now)) (take k xs))
    → map (λ (m : Bor (List ℕ) × Bor (List ℕ)). (m.0.now, m.1.now)) xs ≡ spellings kind
    → methods ≡ native_methods kind
unfolding native_methods
native_found kind xs k methods past made same =
    made
    ∙ ap (λ (ms : List (Bor (List ℕ) × Bor (List ℕ))). all_said (map (λ (m : Bor (List ℕ)
    × Bor (List ℕ)). (m.0.now, m.1.now)) ms)) (take_all k xs past)
    ∙ ap all_said same

-- a slot has the name that it was made with
names_kept : (names : List (List ℕ))
    → map (λ (s : Slot). s.name)
    (map (λ (name : List ℕ). record { name = name; copy = false }) names) ≡ names
names_kept [] = refl
names_kept (name ∷ names) = ap (λ ns. name ∷ ns) (names_kept names)

-- no two slots of a kind have one name
pub native_distinct : (kind : Kind) → IsDistinct bytes_eq (map (λ (s : Slot). s.name) (native_slots
    kind))
native_distinct kind =
    subst (IsDistinct bytes_eq) (sym (names_kept (slot_names kind))) (slots_distinct kind)
