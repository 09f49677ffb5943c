-- Which bytes are an object's name, a text in quotes, or a value.
use Rattle.std.specs.Prelude.{Bool, false, true, ◌&&◌, ◌||◌, ℕ, zero, suc, ◌+◌, ◌==◌, nat_lt, drop}
use Rattle.std.specs.Prelude.{List as Listed, [], ◌∷◌, Option, Some, None, if◌then◌else◌, codes}
use Rattle.std.specs.{Prelude.{is_some, length, not, option_map}, Borrow.Bor, Str.bytes_eq}
use Rattle.do_base.specs.values.Texts.{longest_text}
use Rattle.do_grammar.specs.{Dec.{dec_in, int_in}, Quoted.quoted_at, Words.{◌>>?◌, word, part}}
use Rattle.do_sched.specs.Reading.{port_at}

-- a home and a serial with a dot between
abbrev pub is_home_and_serial : Listed ℕ → Bool
is_home_and_serial bytes = is_some (word 46 bytes >>? λ w. port_at w.0 >>? λ p.
    dec_in 1 9223372036854775807 w.1)

-- an object's name
abbrev pub is_object : Listed ℕ → Bool
is_object [] = false
is_object (b ∷ bytes) = if b == 35 then is_home_and_serial bytes else false

-- nothing is behind a text
abbrev pub ends_text : Option (Listed ℕ × Listed ℕ) → Bool
ends_text None = false
ends_text (Some x) = bytes_eq x.1 []

-- a text in quotes and nothing behind it
abbrev pub is_quoted : Listed ℕ → Bool
is_quoted bytes = ends_text (quoted_at longest_text bytes)

-- nil, a number or an object's name
abbrev pub is_leaf : Listed ℕ → Bool
is_leaf t = bytes_eq t (codes "nil") || is_some (int_in t) || is_object t

-- the bytes up to the next space or bracket that ends a list
abbrev pub leaf_at : Listed ℕ → Listed ℕ
leaf_at bytes = (part 93 (part 32 bytes).0).0

-- how many lists may nest
abbrev pub deepest : ℕ
deepest = 8

-- How far a value is walked: whether a value comes next, how many lists are open, and what is left.
abbrev pub Walked : Type 0
Walked = Bool × ℕ × Listed ℕ

-- all is walked
abbrev pub is_walked : Bool → ℕ → Listed ℕ → Bool
is_walked want depth rest = not want && (depth == 0) && bytes_eq rest []

-- a list that is open is over, or has one more
abbrev pub behind_value : ℕ → Listed ℕ → Option Walked
behind_value zero rest = None
behind_value (suc depth) [] = None
behind_value (suc depth) (b ∷ rest) =
    if b == 32 then Some (true, suc depth, rest)
    else (if b == 93 then Some (false, depth, rest) else None)

-- a list that begins, which may have no item
abbrev pub in_list : ℕ → Listed ℕ → Option Walked
in_list depth [] = None
in_list depth (b ∷ rest) =
    if b == 93 then Some (false, depth, rest) else Some (true, depth + 1, b ∷ rest)

-- a text in quotes is over
abbrev pub behind_quote : ℕ → Option (Listed ℕ) → Option Walked
behind_quote depth None = None
behind_quote depth (Some rest) = Some (false, depth, rest)

-- a value of one word is over
abbrev pub behind_leaf : ℕ → Listed ℕ → Option Walked
behind_leaf depth bytes =
    if is_leaf (leaf_at bytes) then Some (false, depth, drop (length (leaf_at bytes)) bytes)
    else None

-- a value begins
abbrev pub at_value : ℕ → Listed ℕ → Option Walked
at_value depth [] = None
at_value depth (b ∷ rest) =
    if b == 34 then behind_quote depth (option_map (λ x. x.1) (quoted_at longest_text (b ∷ rest)))
    else (if b == 91 then (if nat_lt depth deepest then in_list depth rest else None)
    else behind_leaf depth (b ∷ rest))

-- one token more
abbrev pub walk_one : Bool → ℕ → Listed ℕ → Option Walked
walk_one want depth rest = if want then at_value depth rest else behind_value depth rest

-- at most so many tokens, and then all is walked
abbrev pub walks : ℕ → Bool → ℕ → Listed ℕ → Bool
walks zero want depth rest = is_walked want depth rest
walks (suc n) want depth rest =
    if is_walked want depth rest then true
    else elim (walk_one want depth rest) [
      | None ↦ false
      | Some s ↦ walks n s.0 s.1 s.2
    ]

-- the bytes are one value
abbrev pub is_value : Listed ℕ → Bool
is_value bytes = walks (length bytes) true 0 bytes

-- how far a value is walked, with what is left behind a reference
abbrev pub walked_view : Option (Bool × ℕ × Bor (Listed ℕ)) → Option Walked
walked_view None = None
walked_view (Some w) = Some (w.0, w.1, w.2.now)
