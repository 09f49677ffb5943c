-- How long a selector is.
use Rattle.std.proofs.Common.{◌≡◌, ◌≤◌, ℕ, Bool, true, false, List, arith, length, refl}
use Rattle.std.specs.{Prelude.{nat_le, ◌&&◌, ◌==◌, ◌||◌}, Io.BufRead.ends_with_byte, List.list_all}
use Rattle.std.proofs.lemmas.Bool.Decides.{nat_tests}
use Rattle.do_grammar.specs.Names.{begins_name, colons, goes_in_selector, is_selector}
use Rattle.do_frames.specs.Selectors.{IsSelector}

-- of two tests that pass together each passes
both : (a b : Bool) → (a && b) ≡ true → (a ≡ true) × (b ≡ true)
both true true h = (refl, refl)
both true false h = cc
both false b h = cc

-- a selector has at most 255 bytes
pub selector_short : (bytes : List ℕ) → IsSelector bytes → length bytes ≤ 255
unfolding is_selector
selector_short bytes is =
    let first = begins_name bytes && list_all goes_in_selector bytes in
    let few = first && nat_le (length bytes) 255 in
    let counted = few && nat_le (colons bytes) 8 in
    let a = both counted (colons bytes == 0 || ends_with_byte 58 bytes) is in
    let b = both few (nat_le (colons bytes) 8) a.0 in
    let c = both first (nat_le (length bytes) 255) b.0 in
    grind (arith, nat_tests, c.1)
