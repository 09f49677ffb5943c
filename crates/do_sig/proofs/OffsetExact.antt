-- A size or offset, and what may stand behind it, are read exactly.
use Rattle.std.proofs.Common.{◌≡◌, ℕ, suc, List, [], ◌∷◌, length, Ok, Err, refl, arith}
use Rattle.do_grammar.specs.Reader.{bad, Step, goes, leaves, fails, by_step, by_result, automaton}
use Rattle.do_grammar.specs.{Reader.◌>>=◌, Grammar.Begins, Forms.Accepts}
use Rattle.do_grammar.proofs.reads.WholeExact.{ReadsWhole, Whole-as, Reads-automaton}
use Rattle.do_sig.specs.declared.fault.Kind.{Kind}
use Rattle.do_sig.specs.Offsets.{Offset, fresh, signed, digits, offset_step, offset_ends, last_step}
use Rattle.do_sig.specs.reading.Offsets.{skip, after_offset, nothing_left}

module _ {A : Type 0} (why : ℕ → Kind) (x : A) where
  -- running to the end is passing over the offset and finding nothing left
  run-skip : (bytes : List ℕ) (s : Offset)
      → automaton (last_step why) (offset_ends x) s bytes ≡ (skip s bytes >>= nothing_left why x)
  run-skip [] fresh = refl
  run-skip [] signed = refl
  run-skip [] digits = refl
  run-skip (b ∷ bytes) s = on (λ t. run-skip bytes t) (offset_step s b)
    where
      on : ((t : Offset)
          → automaton (last_step why) (offset_ends x) t bytes ≡
          (skip t bytes >>= nothing_left why x))
          → (t : Step Offset Kind)
          → by_result (by_step t (λ t. Ok t) (Err (why b)) (λ k. Err k))
          (λ t. automaton (last_step why) (offset_ends x) t bytes)
          (λ k. Err (bad k (suc (length bytes))))
          ≡ (by_step t (λ t. skip t bytes) (Ok (b ∷ bytes)) (λ k. Err (bad k (suc (length bytes))))
          >>= nothing_left why x)
      on again (goes t) = again t
      on again leaves = refl
      on again (fails k) = refl

  -- the value can be spelled to its end from each state
  ends_live : (s : Offset) → Begins (Accepts (last_step why) (offset_ends x) s) []
  ends_live fresh = record { more = []; value = x; spelled = refl }
  ends_live signed = record { more = 48 ∷ []; value = x; spelled = (omega arith, refl) }
  ends_live digits = record { more = []; value = x; spelled = refl }

  -- an offset to the end is read exactly
  pub Reads-last : ReadsWhole (Accepts (last_step why) (offset_ends x) fresh)
      (after_offset (nothing_left why x))
  Reads-last =
      Whole-as (Accepts (last_step why) (offset_ends x) fresh)
      (Accepts (last_step why) (offset_ends x) fresh)
      (automaton (last_step why) (offset_ends x) fresh) (after_offset (nothing_left why x))
      (λ text y g. g) (λ text y g. g) (λ bytes. run-skip bytes fresh)
      (Reads-automaton (last_step why) (offset_ends x) (λ s. Unit {0}) (λ s b t u e. tt)
      (λ s u. ends_live s) fresh tt)
