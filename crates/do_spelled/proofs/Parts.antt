-- Texts and lists that have a spelling as values of a message.
use Rattle.std.proofs.Common.{◌≡◌, ◌↔◌, ℕ, ◌-◌, ◌<◌, ◌≤◌, List as Listed, length, true, sym, ◌∙◌}
use Rattle.std.{proofs.Common.{refl, arith}, specs.Prelude.{nat_le, ◌&&◌, Bool, false}}
use Rattle.std.{specs.List.AllByRecursion, proofs.lemmas.Bool.Decides.nat_tests}
use Rattle.do_class.specs.declared.packet.Part.{Part, List, TheVariants.Text}
use Rattle.do_grammar.specs.Grammar.{IsBytes}
use Rattle.do_coder.specs.Parts.{IsPart, is_bytes}
use Rattle.do_coder.proofs.values.PartFacts.{fits-Text, bytes_all, list_fits, fits_list}

module _ (copies names depth : ℕ) where
  -- a text of bytes has a spelling just where it is not too long
  pub text_fits : (t : Listed ℕ) → IsBytes t
      → (length t ≤ 1048575) ↔ IsPart copies names depth (Text t)
  text_fits t small =
      (λ few. there (more few), λ fits. less (sym (fits-Text copies names depth t) ∙ fits))
    where
      more : length t ≤ 1048575 → nat_le (length t) 1048575 ≡ true
      more few = grind (arith, nat_tests)

      there : nat_le (length t) 1048575 ≡ true → IsPart copies names depth (Text t)
      there few = fits-Text copies names depth t ∙ rw (few, bytes_all t small) refl

      first : (a b : Bool) → (a && b) ≡ true → a ≡ true
      first true b e = refl
      first false b e = absurd cc

      at_most : nat_le (length t) 1048575 ≡ true → length t ≤ 1048575
      at_most e = grind (arith, nat_tests)

      less : (nat_le (length t) 1048575 && is_bytes t) ≡ true → length t ≤ 1048575
      less e = at_most (first (nat_le (length t) 1048575) (is_bytes t) e)

  -- a list has a spelling just where it is not too deep or too long, and its items have one
  pub list_fits_iff : (xs : Listed Part) → ((0 < depth) × ((length xs ≤ 1024)
      × AllByRecursion (IsPart copies names (depth - 1)) xs)) ↔ IsPart copies names depth (List xs)
  list_fits_iff xs = (
    λ h. fits_list copies names depth xs h.0 h.1.0 h.1.1,
    λ fits. list_fits copies names depth xs fits,
  )
