-- The values of packets: the one spelling of each, and how they are read.
use Rattle.std.specs.Prelude.{◌≡◌, ◌==◌, ◌&&◌, ◌||◌, ℕ, zero, suc, ◌-◌, ◌^◌, Bool, true}
use Rattle.std.specs.Prelude.{List as Listed, [], ◌∷◌, ◌++◌, length, nat_lt, nat_le}
use Rattle.std.specs.List.{flat_map, list_all}
use Rattle.do_class.specs.declared.packet.Part.{Part, List, fold-Part, TheVariants.{Nil, Num, Text}}
use Rattle.do_class.specs.declared.packet.Part.{TheVariants.{Copy, Named}, TheOpen.Part-F}
use Rattle.do_grammar.specs.Reader.{Reader, no_kind, done, mapped, times}
use Rattle.do_grammar.specs.Num.{num, num_at, counted, counted_at, signed_at, zigzag}
use Rattle.do_grammar.specs.OneSpelling.{tagged, list_at}

-- ---- one spelling

-- one level of a value, where the values inside are spelled already
abbrev pub spelling_step : Part-F (Listed ℕ) → Listed ℕ
spelling_step Part-F.Nil = 0 ∷ []
spelling_step (Part-F.Num z) = 1 ∷ num (zigzag z)
spelling_step (Part-F.Text t) = 2 ∷ counted t
spelling_step (Part-F.Copy k) = 3 ∷ num k
spelling_step (Part-F.Named k) = 4 ∷ num k
spelling_step (Part-F.List texts) = 5 ∷ num (length texts) ++ flat_map (λ text. text) texts

abbrev pub part_spelling : Part → Listed ℕ
part_spelling = fold-Part (Listed ℕ) spelling_step

abbrev pub is_bytes : Listed ℕ → Bool
is_bytes bytes = list_all (λ b. nat_lt b 256) bytes

-- one level of a value, where it is known of the values inside whether they fit
abbrev pub fits_step : ℕ → ℕ → Part-F (ℕ → Bool) → ℕ → Bool
fits_step copies names Part-F.Nil depth = true
fits_step copies names (Part-F.Num z) depth = nat_lt (zigzag z) (2 ^ 64)
fits_step copies names (Part-F.Text t) depth = nat_le (length t) 1048575 && is_bytes t
fits_step copies names (Part-F.Copy k) depth = nat_lt k copies
fits_step copies names (Part-F.Named k) depth = nat_lt k names
fits_step copies names (Part-F.List fit) depth =
    nat_lt 0 depth && (nat_le (length fit) 1024 && list_all (λ f. f (depth - 1)) fit)

-- a value speaks of so many copies and names, and nests so many lists
abbrev pub part_fits : ℕ → ℕ → Part → ℕ → Bool
part_fits copies names = fold-Part (ℕ → Bool) (fits_step copies names)

abbrev pub IsPart : ℕ → ℕ → ℕ → Part → Type 0
IsPart copies names depth x = part_fits copies names x depth ≡ true

-- ---- reading

-- the bytes that may stand in front of a value
abbrev pub begins_part : ℕ → ℕ → ℕ → ℕ → Bool
begins_part copies names depth b =
    nat_le b 2
    || ((b == 3 && nat_lt 0 copies) || ((b == 4 && nat_lt 0 names) || (b == 5 && nat_lt 0 depth)))

-- what follows such a byte, given how the items of a list are read
abbrev pub part_body_at : ℕ → ℕ → Reader (Unit {0}) (Listed Part) → ℕ → Reader (Unit {0}) Part
part_body_at copies names items zero = done Nil
part_body_at copies names items (suc zero) = mapped (λ z. Num z) (signed_at no_kind)
part_body_at copies names items (suc (suc zero)) = mapped (λ t. Text t) (counted_at no_kind 1048575)
part_body_at copies names items (suc (suc (suc zero))) =
    mapped (λ k. Copy k) (num_at no_kind 0 (copies - 1))
part_body_at copies names items (suc (suc (suc (suc zero)))) =
    mapped (λ k. Named k) (num_at no_kind 0 (names - 1))
part_body_at copies names items (suc (suc (suc (suc (suc b))))) = mapped (λ xs. List xs) items

abbrev pub layer_at : ℕ → ℕ → ℕ → Reader (Unit {0}) (Listed Part) → Reader (Unit {0}) Part
layer_at copies names depth items =
    tagged (begins_part copies names depth) (part_body_at copies names items)

-- a value in which so many lists may be nested
unfoldable pub part_at : ℕ → ℕ → ℕ → Reader (Unit {0}) Part
part_at copies names zero = layer_at copies names 0 (done [])
part_at copies names (suc depth) =
    layer_at copies names (suc depth) (list_at 0 1024 (times (part_at copies names depth)))
