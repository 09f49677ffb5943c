-- The byte with which no payload goes on is one.
use Rattle.std.proofs.Common.{◌≡◌, ℕ, ◌+◌, ◌<◌, List, ◌++◌, ◌∷◌, take, drop, sym, ap, ◌∙◌}
use Rattle.std.{proofs.Common.{append_assoc, arith, inl, inr, subst}, specs.Prelude.{Some, ◌-◌}}
use Rattle.std.proofs.{lemmas.{Bool.cases_order, List.take-append-drop}, Math.Seq.take-add}
use Rattle.do_frames.specs.{declared.{frame.Frame.Frame, kind.Kind.Kind}, Payloads.IsBadPayload}
use Rattle.do_grammar.specs.Grammar.{IsFirstBadWhole, IsProperFront}

module _ (G : List ℕ → Frame → Type 0) (bytes : List ℕ) where
  -- no byte behind the first with which none goes on is another such
  none_behind : (i j : ℕ) → i < j → IsFirstBadWhole G bytes i → IsFirstBadWhole G bytes j → ⊥
  none_behind i j less a b =
      let reach : j ≡ (i + 1) + (j - (i + 1)) = omega (arith, less) in
      let parts : take j bytes ≡ take (i + 1) bytes ++ take (j - (i + 1)) (drop (i + 1) bytes) =
      ap (λ n. take n bytes) reach ∙ take-add (i + 1) (j - (i + 1)) bytes in
      let more = take (j - (i + 1)) (drop (i + 1) bytes) ++ b.before.more in
      a.dead more b.before.value
      (subst (λ text. G text b.before.value)
      (ap (λ text. text ++ b.before.more) parts
      ∙ append_assoc (take (i + 1) bytes) (take (j - (i + 1)) (drop (i + 1) bytes))
      b.before.more) b.before.spelled)

  -- where nothing goes on with a byte, the bytes are no front
  no_front : (i : ℕ) → IsFirstBadWhole G bytes i → IsProperFront G bytes → ⊥
  no_front i a b =
      let more = drop (i + 1) bytes ++ b.next ∷ b.more in
      a.dead more b.value
      (subst (λ text. G text b.value)
      (ap (λ text. text ++ b.next ∷ b.more) (sym (take-append-drop (i + 1) bytes))
      ∙ append_assoc (take (i + 1) bytes) (drop (i + 1) bytes) (b.next ∷ b.more)) b.spelled)

  -- the first byte with which nothing goes on is one
  one_first : (i j : ℕ) → IsFirstBadWhole G bytes i → IsFirstBadWhole G bytes j → i ≡ j
  one_first i j a b = elim (cases_order i j) [
    | inl same ↦ same
    | inr (inl less) ↦ absurd (none_behind i j less a b)
    | inr (inr more) ↦ absurd (none_behind j i more b a)
  ]

  -- the place of a fault is one
  pub one_place : (kind : Kind) (i j : ℕ) → IsBadPayload (Some kind) G bytes i →
      IsBadPayload (Some kind) G bytes j → i ≡ j
  one_place kind i j (inl a) (inl b) = one_first i j a b
  one_place kind i j (inl a) (inr b) = absurd (no_front i a b.1)
  one_place kind i j (inr a) (inl b) = absurd (no_front j b a.1)
  one_place kind i j (inr a) (inr b) = a.0 ∙ sym b.0
