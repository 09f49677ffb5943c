-- What is read of pasteboards of texts of bytes is such a pasteboard.
use Rattle.std.proofs.Common.{◌≡◌, ◌<◌, ◌&&◌, ℕ, Bool, true, false, cond, List as Listed, [], ◌∷◌}
use Rattle.std.{proofs.Common.arith, specs.Prelude.{None, Option, Some, nat_lt}}
use Rattle.std.specs.{List.AllByRecursion, Option.IfSome, Str.bytes_eq}
use Rattle.std.proofs.lemmas.Bool.{and_parts, Decides.nat_tests}
use Rattle.do_base.specs.{names.Names.ObjectName, values.Kinds.{object, text}}
use Rattle.do_base.specs.declared.values.value.Value.{Value}
use Rattle.do_grammar.specs.Words.{◌>>?◌}
use Rattle.do_native_acts.specs.{Owners.owner_in, Rows.rows_in, Types.are_types}
use Rattle.do_pboard.specs.Core.{Content, Declared, NamedBoard, Pasteboard, are_boards}
use Rattle.do_pboard.specs.Core.{begins_empty, board_in, boards_read, content_in, count_in}
use Rattle.do_pboard.specs.Core.{from_slots, in_front, merged, of_parts, types_read}
use Rattle.do_limits.specs.Sendable.{AreSendable, IsSendable}
use Rattle.do_kept.proofs.ReadValues.{AreOfBytes, IsOfBytes, if_any, if_passed, if_then, pair_is}
use Rattle.do_kept.proofs.ReadValues.{rows_are, text_is}

-- a type of bytes, with data of bytes if there is any
abbrev pub IsDeclared : Declared → Type 0
IsDeclared t = IsOfBytes t.0 × IfSome t.1 IsOfBytes

-- a name of bytes
abbrev pub IsNamed : NamedBoard → Type 0
IsNamed p = IsOfBytes p.0

-- types with data
abbrev pub AreDeclared : Listed Declared → Type 0
AreDeclared ts = AllByRecursion IsDeclared ts

-- a pasteboard of such types and names, whose count has 63 bits
abbrev pub IsBoard : Pasteboard → Type 0
IsBoard b =
    (b.count < 9223372036854775808) × (AreDeclared b.types × AllByRecursion IsNamed b.boards)

-- a type and its data, of bytes
abbrev pub IsContent : Content → Type 0
IsContent d = IsOfBytes d.0 × IsOfBytes d.1

-- what passes the test is below the limit
pub below : (n : ℕ) → nat_lt n 9223372036854775808 ≡ true → n < 9223372036854775808
below n e = grind (arith, nat_tests, e)

-- a type in front of others
front : (t : Declared) (o : Option (Listed Declared)) → IsDeclared t → IfSome o AreDeclared →
    IfSome (in_front t o) AreDeclared
front t None h k = tt
front t (Some ts) h k = (h, k)

-- types with their data
merged_are : (ts : Listed (Listed ℕ)) (ds : Listed Content) → AreOfBytes ts →
    AllByRecursion IsContent ds → IfSome (merged ts ds) AreDeclared
merged_are [] [] h k = tt
merged_are [] (d ∷ ds) h k = tt
merged_are (t ∷ ts) [] h k = front t_none (merged ts []) (h.0, tt) (merged_are ts [] h.1 tt)
  where
    t_none : Declared
    t_none = (t, None)
merged_are (t ∷ ts) (d ∷ ds) h k =
    go (bytes_eq t d.0) (merged_are ts ds h.1 k.1) (merged_are ts (d ∷ ds) h.1 k)
  where
    go : (b : Bool) → IfSome (merged ts ds) AreDeclared →
        IfSome (merged ts (d ∷ ds)) AreDeclared →
        IfSome (cond b (in_front (t, Some d.1) (merged ts ds))
        (in_front (t, None) (merged ts (d ∷ ds)))) AreDeclared
    go true p q = front (t, Some d.1) (merged ts ds) (h.0, k.0.1) p
    go false p q = front (t, None) (merged ts (d ∷ ds)) (h.0, tt) q

-- the data of types that a slot holds
contents_are : (v : Value) → IsSendable v →
    IfSome (rows_in content_in v) (λ ds. AllByRecursion IsContent ds)
contents_are =
    rows_are IsContent content_in (pair_is IsOfBytes IsOfBytes text text text_is text_is)

-- the declared types that two slots hold
types_of : (v w : Value) → IsSendable v → IsSendable w → IfSome (types_read v w) AreDeclared
types_of v w h k =
    if_then AreOfBytes AreDeclared (rows_in text v)
    (λ kinds. rows_in content_in w >>? λ ds. merged kinds ds >>? λ ts.
    cond (are_types kinds) (Some ts) None) (rows_are IsOfBytes text text_is v h)
    (λ kinds p. if_then (λ ds. AllByRecursion IsContent ds) AreDeclared (rows_in content_in w)
    (λ ds. merged kinds ds >>? λ ts. cond (are_types kinds) (Some ts) None) (contents_are w k)
    (λ ds q. if_then AreDeclared AreDeclared (merged kinds ds)
    (λ ts. cond (are_types kinds) (Some ts) None) (merged_are kinds ds p q)
    (λ ts r. if_passed AreDeclared (are_types kinds) ts (λ e. r))))

-- the named pasteboards that a slot holds
boards_of : (v : Value) → IsSendable v →
    IfSome (boards_read v) (λ bs. AllByRecursion IsNamed bs)
boards_of v h =
    if_then Named Named (rows_in board_in v) (λ bs. cond (are_boards bs) (Some bs) None)
    (rows_are IsNamed board_in row v h) (λ bs k. if_passed Named (are_boards bs) bs (λ e. k))
  where
    Named : Listed NamedBoard → Type 0
    Named bs = AllByRecursion IsNamed bs

    any : (v : Value) → IsSendable v → IfSome (object v) (λ o. Unit {0})
    any v h = go (object v)
      where
        go : (o : Option ObjectName) → IfSome o (λ p. Unit {0})
        go None = tt
        go (Some p) = tt

    row : (v : Value) → IsSendable v → IfSome (board_in v) IsNamed
    row v h = go (board_in v) (pair_is IsOfBytes (λ o. Unit {0}) text object text_is any v h)
      where
        go : (o : Option NamedBoard) → IfSome o (λ p. IsOfBytes p.0 × Unit {0}) → IfSome o IsNamed
        go None k = tt
        go (Some p) k = k.0

-- the pasteboard that is read from slots
pub core_is : (slots : Listed Value) → AreSendable slots → IfSome (from_slots slots) IsBoard
core_is [] h = tt
core_is (a ∷ []) h = tt
core_is (a ∷ b ∷ []) h = tt
core_is (a ∷ b ∷ c ∷ []) h = tt
core_is (a ∷ b ∷ c ∷ d ∷ []) h = tt
core_is (a ∷ b ∷ c ∷ d ∷ e ∷ []) h =
    if_any IsBoard (count_in a) (λ n. owner_in b >>? λ o. types_read c d >>? λ ts.
    boards_read e >>? λ bs. of_parts (made n o ts bs))
    (λ n. if_any IsBoard (owner_in b) (λ o. types_read c d >>? λ ts.
    boards_read e >>? λ bs. of_parts (made n o ts bs))
    (λ o. if_then AreDeclared IsBoard (types_read c d)
    (λ ts. boards_read e >>? λ bs. of_parts (made n o ts bs)) (types_of c d h.1.1.0 h.1.1.1.0)
    (λ ts p. if_then (λ bs. AllByRecursion IsNamed bs) IsBoard (boards_read e)
    (λ bs. of_parts (made n o ts bs)) (boards_of e h.1.1.1.1.0)
    (λ bs q. if_passed IsBoard (nat_lt n 9223372036854775808 && begins_empty (made n o ts bs))
    (made n o ts bs) (λ t. (
      below n ((and_parts (nat_lt n 9223372036854775808) (begins_empty (made n o ts bs)) t).0),
      (p, q),
    ))))))
  where
    made : ℕ → Option ObjectName → Listed Declared → Listed NamedBoard → Pasteboard
    made n o ts bs = record { count = n; owner = o; types = ts; boards = bs }
core_is (a ∷ b ∷ c ∷ d ∷ e ∷ f ∷ vs) h = tt
