-- The message to a provider is a selector of three colons.
use Rattle.std.proofs.Common.{◌≡◌, ℕ, ◌+◌, ◌-◌, ◌==◌, Bool, true, false, ◌&&◌, ◌||◌, nat_le, nat_lt}
use Rattle.std.proofs.Common.{List as Listed, [], ◌∷◌, ◌++◌, length, length-append, refl, sym}
use Rattle.std.proofs.Common.{get_or-append-add, ◌∙◌, ap, subst, arith, true≢false}
use Rattle.std.specs.{Prelude.{codes, cond, slice_index, IsTrue}, List.list_all}
use Rattle.std.specs.Io.BufRead.{ends_with_byte}
use Rattle.std.proofs.lemmas.Bool.{and_parts, and_from, eqb-true, leb-true, le-leb, lt-ltb}
use Rattle.std.proofs.lemmas.List.{Folds.list_all-append, Sums.sum_by-cons}
use Rattle.do_grammar.specs.Names.{begins_name, colons, goes_in_name, goes_in_selector, is_name}
use Rattle.do_grammar.specs.Names.{is_selector}
use Rattle.do_services.specs.{Acts.provider_message, Core.{is_message, is_service}}
use Rattle.do_services.specs.{declared.service.Service.Service, laws.SlotsExact.service_is}

-- what is behind a name in the message to a provider
abbrev behind : Listed ℕ
behind = codes ":userData:error:"

-- a test that passes passes with another or
or_first : (a b : Bool) → a ≡ true → (a || b) ≡ true
or_first true b e = refl
or_first false b e = absurd (true≢false (sym e))

-- a name goes into a selector
name_goes : (m : Listed ℕ) → list_all goes_in_name m ≡ true → list_all goes_in_selector m ≡ true
name_goes [] all = refl
name_goes (b ∷ m) all =
    let parts = and_parts (goes_in_name b) (list_all goes_in_name m) all in
    and_from (goes_in_selector b) (list_all goes_in_selector m)
    (or_first (goes_in_name b) (b == 58) parts.0) (name_goes m parts.1)

-- a message of a name begins as the name
begins_so : (m more : Listed ℕ) → begins_name m ≡ true → begins_name (m ++ more) ≡ true
begins_so [] more begins = absurd (true≢false (sym begins))
begins_so (b ∷ m) more begins = begins

-- a colon does not go into a name
colon_alone : (b : ℕ) → goes_in_name b ≡ true → (b == 58) ≡ false
colon_alone b goes = by (b == 58) refl
  where
    by : (t : Bool) → (b == 58) ≡ t → t ≡ false
    by true is =
        let colon : goes_in_name 58 ≡ true =
        subst (λ k. goes_in_name k ≡ true) (eqb-true b 58 is) goes in
        absurd (true≢false (sym colon))
    by false is = refl

-- a name has no colon, and so what is behind it alone
colons_behind : (m : Listed ℕ) → list_all goes_in_name m ≡ true → colons (m ++ behind) ≡ 3
colons_behind [] all = refl
colons_behind (b ∷ m) all =
    let parts = and_parts (goes_in_name b) (list_all goes_in_name m) all in
    sum_by-cons (λ x. cond (x == 58) 1 0) b (m ++ behind)
    ∙ ap (λ t. cond t 1 0 + colons (m ++ behind)) (colon_alone b parts.0)
    ∙ omega (arith, colons_behind m parts.1)

-- the parts of a name
name_parts : (m : Listed ℕ) → is_name m ≡ true
    → (begins_name m ≡ true) × (list_all goes_in_name m ≡ true)
unfolding is_name
name_parts m is =
    let first =
    and_parts (begins_name m && list_all goes_in_name m) (nat_le (length m) 64) is in
    and_parts (begins_name m) (list_all goes_in_name m) first.0

-- the last byte of the message to a provider is a colon
last_byte : (m : Listed ℕ) → slice_index (m ++ behind) (length m + 15) ≡ 58
last_byte m = get_or-append-add m behind 15 0

-- a message that ends with a colon ends so
ends_behind : (m : Listed ℕ) → ends_with_byte 58 (m ++ behind) ≡ true
ends_behind m =
    let xs = m ++ behind in
    and_from (nat_lt 0 (length xs)) (slice_index xs (length xs - 1) == 58)
    (lt-ltb 0 (length xs) (omega (arith, length-append m behind)))
    (ap (λ k. slice_index xs k == 58) last_place ∙ ap (λ b. b == 58) (last_byte m))
  where
    last_place : length (m ++ behind) - 1 ≡ length m + 15
    last_place = omega (arith, length-append m behind)

-- the message of a service is one
message_of : (s : Service) → is_service s ≡ true → is_message s.message ≡ true
message_of s is = (service_is s is).message

-- the message to a provider has three colons
pub provider_colons : (s : Service) → is_service s ≡ true → colons (provider_message s) ≡ 3
provider_colons s is =
    let parts = and_parts (is_name s.message) (nat_le (length s.message) 40) (message_of s is) in
    colons_behind s.message (name_parts s.message parts.0).1

-- and is a selector
pub provider_selects : (s : Service) → is_service s ≡ true
    → IsTrue (is_selector (provider_message s))
unfolding is_selector
provider_selects s is =
    let m = s.message in
    let xs = m ++ behind in
    let parts = and_parts (is_name m) (nat_le (length m) 40) (message_of s is) in
    let name = name_parts m parts.0 in
    let begins = begins_so m behind name.0 in
    let goes : list_all goes_in_selector xs ≡ true =
    list_all-append goes_in_selector m behind
    ∙ and_from (list_all goes_in_selector m) (list_all goes_in_selector behind)
    (name_goes m name.1) refl in
    let short : nat_le (length xs) 255 ≡ true =
    le-leb (length xs) 255
    (omega (arith, length-append m behind, leb-true (length m) 40 parts.1)) in
    let few : nat_le (colons xs) 8 ≡ true = ap (λ n. nat_le n 8) (provider_colons s is) in
    let ends : (colons xs == 0 || ends_with_byte 58 xs) ≡ true =
    ap (λ n. n == 0 || ends_with_byte 58 xs) (provider_colons s is) ∙ ends_behind m in
    and_from (begins_name xs && list_all goes_in_selector xs && nat_le (length xs) 255
    && nat_le (colons xs) 8) (colons xs == 0 || ends_with_byte 58 xs)
    (and_from (begins_name xs && list_all goes_in_selector xs && nat_le (length xs) 255)
    (nat_le (colons xs) 8)
    (and_from (begins_name xs && list_all goes_in_selector xs) (nat_le (length xs) 255)
    (and_from (begins_name xs) (list_all goes_in_selector xs) begins goes) short) few) ends
