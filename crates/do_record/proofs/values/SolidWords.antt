-- Words of bytes that end no value, and begin neither a text nor a list.
use Rattle.std.proofs.Common.{◌≡◌, ℕ, suc, ◌<◌, ◌≤◌, ◌^◌, Bool, true, false, List as Listed, []}
use Rattle.std.proofs.Common.{◌∷◌, ◌++◌, length, refl, arith}
use Rattle.std.specs.Prelude.{ℤ, pos, negsuc, ◌==◌, ◌&&◌, ◌||◌, not, is_some, codes}
use Rattle.std.specs.{Int.Signed.mag, Fmt.{decimal, signed_decimal}, List.list_all, Str.bytes_eq}
use Rattle.std.proofs.lemmas.{Bool.ne_eqb, Fmt.decimal_nonempty}
use Rattle.do_base.specs.names.Names.{ObjectName}
use Rattle.do_grammar.specs.Dec.{AllDecimal, int_in}
use Rattle.do_grammar.proofs.texts.{DecExact.all_decimal, IntExact.int_again}
use Rattle.do_sched.specs.Value.{object_name}
use Rattle.do_record.specs.{GoodShown.IsObject, Value.{is_leaf, is_object}}
use Rattle.do_record.proofs.values.ObjectsExact.{object_again}

-- a byte that ends no word, and begins neither a text nor a list
abbrev pub solid : ℕ → Bool
solid b = not (b == 32) && not (b == 34) && not (b == 91) && not (b == 93)

-- a digit is one
solid_digit : (b : ℕ) → 48 ≤ b → b ≤ 57 → solid b ≡ true
solid_digit b low high =
    rw (
      ne_eqb b 32 (λ (e : b ≡ 32). omega arith),
      ne_eqb b 34 (λ (e : b ≡ 34). omega arith),
      ne_eqb b 91 (λ (e : b ≡ 91). omega arith),
      ne_eqb b 93 (λ (e : b ≡ 93). omega arith),
    ) refl

-- all digits are
solid_digits : (ds : Listed ℕ) → AllDecimal ds → list_all solid ds ≡ true
solid_digits [] h = refl
solid_digits (b ∷ ds) h = rw (solid_digit b h.0 h.1) (solid_digits ds h.2)

-- so are those behind others
solid_append : (xs ys : Listed ℕ) → list_all solid xs ≡ true → list_all solid ys ≡ true
    → list_all solid (xs ++ ys) ≡ true
solid_append [] ys h k = k
solid_append (x ∷ xs) ys h k = go (solid x) refl h (λ q. solid_append xs ys q k)
  where
    go : (t : Bool) → solid x ≡ t → (t && list_all solid xs) ≡ true
        → (list_all solid xs ≡ true → list_all solid (xs ++ ys) ≡ true)
        → (solid x && list_all solid (xs ++ ys)) ≡ true
    go true p q later = rw p (later q)
    go false p q later = absurd cc

-- a word with a first byte, of solid bytes alone, that is a value
pub record IsWord (w : Listed ℕ) : Type 0 where
  pub first : ℕ
  pub others : Listed ℕ
  pub parts : w ≡ first ∷ others
  pub solid_all : list_all solid w ≡ true
  pub leaf : is_leaf w ≡ true

-- bytes, if there are any, have a first
first_of : (w : Listed ℕ) → 0 < length w → (b : ℕ) × (bs : Listed ℕ) × (w ≡ b ∷ bs)
first_of [] h = absurd (omega arith)
first_of (b ∷ bs) h = (b, bs, refl)

-- a number's digits are solid, and there are some
signed_word : (n : ℤ) → mag n < 2 ^ 63
    → (list_all solid (signed_decimal n) ≡ true) × (0 < length (signed_decimal n))
signed_word (pos n) h = (
  solid_digits (decimal n) (all_decimal n (omega arith)),
  decimal_nonempty n (omega arith),
)
signed_word (negsuc n) h = (
  solid_digits (decimal (suc n)) (all_decimal (suc n) (omega arith)),
  omega arith,
)

-- the three kinds of words
pub nil_word : IsWord (codes "nil")
nil_word = record {
  first = 110;
  others = codes "il";
  parts = refl;
  solid_all = refl;
  leaf = refl;
}

pub number_word : (n : ℤ) → mag n < 2 ^ 63 → IsWord (signed_decimal n)
number_word n h =
    let s = signed_word n h in
    let f = first_of (signed_decimal n) s.1 in
    record {
      first = f.0;
      others = f.1;
      parts = f.2;
      solid_all = s.0;
      leaf = leaf_if (bytes_eq (signed_decimal n) (codes "nil"));
    }
  where
    leaf_if : (t : Bool)
        → (t || is_some (int_in (signed_decimal n)) || is_object (signed_decimal n)) ≡ true
    leaf_if true = refl
    leaf_if false = rw (int_again n h) refl

pub object_word : (o : ObjectName) → IsObject o → IsWord (object_name o)
object_word o h =
    let home = h.home.1 in
    let most = h.most in
    record {
      first = 35;
      others = decimal o.node ++ 46 ∷ decimal o.serial;
      parts = refl;
      solid_all = solid_append (decimal o.node) (46 ∷ decimal o.serial)
          (solid_digits (decimal o.node) (all_decimal o.node (omega arith)))
          (solid_digits (decimal o.serial) (all_decimal o.serial (omega arith)));
      leaf = leaf_if (bytes_eq (object_name o) (codes "nil")) (is_some (int_in (object_name o)));
    }
  where
    leaf_if : (s t : Bool) → (s || t || is_object (object_name o)) ≡ true
    leaf_if true t = refl
    leaf_if false true = refl
    leaf_if false false = object_again o h
