-- The values of packets, kind by kind.
use Rattle.std.proofs.Common.{◌≡◌, ℕ, ℤ, ◌-◌, ◌<◌, ◌≤◌, ◌^◌, Bool, true, false, List as Listed, []}
use Rattle.std.proofs.Common.{◌∷◌, ◌++◌, length, map, refl, sym, ap, subst, ◌∙◌, arith, rules}
use Rattle.std.specs.{Prelude.{◌&&◌, nat_lt, nat_le}, List.{flat_map, list_all, AllByRecursion}}
use Rattle.std.proofs.lemmas.{List.length-map, Bool.Decides.nat_tests}
use Rattle.do_class.specs.declared.packet.Part.{Part, List, ind-Part, map-Part, roll-Part}
use Rattle.do_class.specs.declared.packet.Part.{the_lemmas, TheVariants.{Nil, Num, Text, Copy}}
use Rattle.do_class.specs.declared.packet.Part.{TheVariants.Named, TheOpen.Part-F}
use Rattle.do_grammar.specs.{Num.{num, counted, zigzag}, Grammar.IsBytes, OneSpelling.list_spelling}
use Rattle.do_coder.specs.Parts.{part_spelling, is_bytes, part_fits, IsPart}

-- ---- cases

-- what holds of each kind of value holds of each value
pub part_cases : (P : Part → Type 0) → P Nil → ((z : ℤ) → P (Num z)) → ((t : Listed ℕ) → P (Text t))
    → ((k : ℕ) → P (Copy k)) → ((k : ℕ) → P (Named k)) → ((xs : Listed Part) → P (List xs))
    → (x : Part) → P x
unfolding roll-Part denote.Hole.Carrier.roll
part_cases P nil number text copy named list x =
    ind-Part P (λ x y e. subst (λ (x : Part-F Part). P (roll-Part x)) e (level (λ s. s.0) y)) x
  where
    level : {S : Type 0} (f : S → Part) → (y : Part-F S) → P (roll-Part (map-Part S Part f y))
    level f Part-F.Nil = nil
    level f (Part-F.Num z) = number z
    level f (Part-F.Text t) = text t
    level f (Part-F.Copy k) = copy k
    level f (Part-F.Named k) = named k
    level f (Part-F.List ss) = list (map f ss)

-- ---- spellings

-- how nil is spelled
pub spelling-Nil : part_spelling Nil ≡ 0 ∷ []
spelling-Nil = search (rules, the_lemmas)

-- how a number is spelled
pub spelling-Num : (z : ℤ) → part_spelling (Num z) ≡ 1 ∷ num (zigzag z)
spelling-Num z = search (rules, the_lemmas)

-- how a text is spelled
pub spelling-Text : (t : Listed ℕ) → part_spelling (Text t) ≡ 2 ∷ counted t
spelling-Text t = search (rules, the_lemmas)

-- how a copy is spelled, by its place
pub spelling-Copy : (k : ℕ) → part_spelling (Copy k) ≡ 3 ∷ num k
spelling-Copy k = search (rules, the_lemmas)

-- how a name is spelled, by its place
pub spelling-Named : (k : ℕ) → part_spelling (Named k) ≡ 4 ∷ num k
spelling-Named k = search (rules, the_lemmas)

-- spellings joined are those of the items, joined
flat_map-map : (xs : Listed Part)
    → flat_map (λ (text : Listed ℕ). text) (map part_spelling xs) ≡ flat_map part_spelling xs
flat_map-map [] = refl
flat_map-map (x ∷ xs) = ap (λ (w : Listed ℕ). part_spelling x ++ w) (flat_map-map xs)

-- a list is spelled by the spellings of its items
spelling-items : (xs : Listed Part)
    → part_spelling (List xs) ≡ 5 ∷ num (length (map part_spelling xs))
    ++ flat_map (λ (text : Listed ℕ). text) (map part_spelling xs)
spelling-items xs = search (rules, the_lemmas)

-- how a list is spelled: its length, and its items in a row
pub spelling-List : (xs : Listed Part)
    → part_spelling (List xs) ≡ 5 ∷ list_spelling (flat_map part_spelling) xs
spelling-List xs = spelling-items xs ∙ rw (flat_map-map xs, length-map xs part_spelling) refl

pub ruleset spellings =
    (spelling-Nil, spelling-Num, spelling-Text, spelling-Copy, spelling-Named, spelling-List)

-- ---- what fits

module _ (copies names depth : ℕ) where
  -- nil fits
  pub fits-Nil : part_fits copies names Nil depth ≡ true
  fits-Nil = search (rules, the_lemmas)

  -- a number fits in 64 bits
  pub fits-Num : (z : ℤ) → part_fits copies names (Num z) depth ≡ nat_lt (zigzag z) (2 ^ 64)
  fits-Num z = search (rules, the_lemmas)

  -- a text fits that is not too long
  pub fits-Text : (t : Listed ℕ)
      → part_fits copies names (Text t) depth ≡ (nat_le (length t) 1048575 && is_bytes t)
  fits-Text t = search (rules, the_lemmas)

  -- a place of a copy fits that is there
  pub fits-Copy : (k : ℕ) → part_fits copies names (Copy k) depth ≡ nat_lt k copies
  fits-Copy k = search (rules, the_lemmas)

  -- a place of a name fits that is there
  pub fits-Named : (k : ℕ) → part_fits copies names (Named k) depth ≡ nat_lt k names
  fits-Named k = search (rules, the_lemmas)

  -- a list fits by its items
  fits-items : (xs : Listed Part) → part_fits copies names (List xs) depth
      ≡ (nat_lt 0 depth && (nat_le (length (map (part_fits copies names) xs)) 1024 && list_all
      (λ (f : ℕ → Bool). f (depth - 1)) (map (part_fits copies names) xs)))
  fits-items xs = search (rules, the_lemmas)

  -- where the test of all items holds each fits
  all_fit : (d : ℕ) (xs : Listed Part)
      → list_all (λ (f : ℕ → Bool). f d) (map (part_fits copies names) xs) ≡ true
      → AllByRecursion (IsPart copies names d) xs
  all_fit d [] e = tt
  all_fit d (x ∷ xs) e =
      (front (part_fits copies names x d) _ e, all_fit d xs (back (part_fits copies names x d) _ e))
    where
      front : (a b : Bool) → (a && b) ≡ true → a ≡ true
      front true b e = refl
      front false b e = absurd cc

      back : (a b : Bool) → (a && b) ≡ true → b ≡ true
      back true b e = e
      back false b e = absurd cc

  -- where each item fits the test of all holds
  fit_all : (d : ℕ) (xs : Listed Part) → AllByRecursion (IsPart copies names d) xs
      → list_all (λ (f : ℕ → Bool). f d) (map (part_fits copies names) xs) ≡ true
  fit_all d [] h = refl
  fit_all d (x ∷ xs) h = rw (h.0, fit_all d xs h.1) refl

  -- a list fits just where it isn't too deep or too long and its items fit
  pub list_fits : (xs : Listed Part) → IsPart copies names depth (List xs)
      → (0 < depth) × ((length xs ≤ 1024) × AllByRecursion (IsPart copies names (depth - 1)) xs)
  list_fits xs h =
      let e = sym (fits-items xs) ∙ h in
      let one : Bool = nat_lt 0 depth in
      let two : Bool = nat_le (length (map (part_fits copies names) xs)) 1024 in
      let three : Bool =
      list_all (λ (f : ℕ → Bool). f (depth - 1)) (map (part_fits copies names) xs) in
      let items = third one two three e in
      let few = second one two three e in
      let deep = first one two three e in
      let len = length-map xs (part_fits copies names) in (
        lt_of deep,
        (
          le_of (length (map (part_fits copies names) xs)) (length xs) len few,
          all_fit (depth - 1) xs items,
        ),
      )
    where
      first : (a b c : Bool) → (a && (b && c)) ≡ true → a ≡ true
      first true b c e = refl
      first false b c e = absurd cc

      second : (a b c : Bool) → (a && (b && c)) ≡ true → b ≡ true
      second true true c e = refl
      second true false c e = absurd cc
      second false b c e = absurd cc

      third : (a b c : Bool) → (a && (b && c)) ≡ true → c ≡ true
      third true true c e = e
      third true false c e = absurd cc
      third false b c e = absurd cc

      lt_of : nat_lt 0 depth ≡ true → 0 < depth
      lt_of e = grind (arith, nat_tests)

      le_of : (m n : ℕ) → m ≡ n → nat_le m 1024 ≡ true → n ≤ 1024
      le_of m n same e = grind (arith, nat_tests)

  -- a list fits whose items do, one level deeper
  pub fits_list : (xs : Listed Part) → 0 < depth → length xs ≤ 1024
      → AllByRecursion (IsPart copies names (depth - 1)) xs → IsPart copies names depth (List xs)
  fits_list xs deep few all =
      let a : nat_lt 0 depth ≡ true = grind (arith, nat_tests) in
      let b : nat_le (length (map (part_fits copies names) xs)) 1024 ≡ true =
      rw (length-map xs (part_fits copies names)) (grind (arith, nat_tests)) in
      fits-items xs ∙ rw (a, b, fit_all (depth - 1) xs all) refl

-- bytes pass the test for bytes
pub bytes_all : (t : Listed ℕ) → IsBytes t → is_bytes t ≡ true
bytes_all [] h = refl
bytes_all (b ∷ t) h = let a : nat_lt b 256 ≡ true = less b h.0 in rw (a, bytes_all t h.1) refl
  where
    less : (b : ℕ) → b < 256 → nat_lt b 256 ≡ true
    less b lt = grind (arith, nat_tests)

-- and what passes it is bytes
pub all_bytes : (t : Listed ℕ) → is_bytes t ≡ true → IsBytes t
all_bytes [] h = tt
all_bytes (b ∷ t) h = (less b (front (nat_lt b 256) _ h), all_bytes t (back (nat_lt b 256) _ h))
  where
    less : (b : ℕ) → nat_lt b 256 ≡ true → b < 256
    less b lt = grind (arith, nat_tests)

    front : (a b : Bool) → (a && b) ≡ true → a ≡ true
    front true b e = refl
    front false b e = absurd cc

    back : (a b : Bool) → (a && b) ≡ true → b ≡ true
    back true b e = e
    back false b e = absurd cc
