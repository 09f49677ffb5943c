-- A value in a place that is not bycopy is a message of its own, if it is light.
use Rattle.std.proofs.Common.{◌≡◌, ◌==◌, ◌++◌, ◌≤◌, ℕ, Bool, true, false, cond, List, [], ◌∷◌, Ok}
use Rattle.std.proofs.Common.{ap, arith, filter, length, refl, subst, sym, ◌∙◌}
use Rattle.std.specs.Prelude.{is_some, nat_lt}
use Rattle.std.proofs.lemmas.{Bool.Decides.nat_tests, List.Sums.sum_by-cons}
use Rattle.do_base.specs.{names.Names.ObjectName, values.Values.{objects_of, weight_of}}
use Rattle.do_base.specs.declared.values.value.Value.{Value}
use Rattle.do_packet.specs.Copies.{Placed, copies_of, grown, most_copies, names_with, rounds}
use Rattle.do_packet.specs.Met.{copied_in, is_copied, met, role_of}
use Rattle.do_packet.specs.Packing.{message_weight, most_weight, packed, packed_with, packet_with}
use Rattle.do_packet.specs.{Seen.Sender, declared.role.Role.TheVariants.{Absent, Named}}

-- none passes a test that each fails
none_pass : (test : ObjectName → Bool) → ((o : ObjectName) → test o ≡ false) →
    (os : List ObjectName) → filter test os ≡ []
none_pass test fails [] = refl
none_pass test fails (o ∷ os) = rw (fails o) (none_pass test fails os)

module _ (s : Sender) where
  -- no object is copied there
  not_copied : (o : ObjectName) → is_copied (role_of s.seen s.node false o) ≡ false
  not_copied o = go (is_some (s.seen.class_of o)) (o.node == s.node) (s.seen.usable o)
    where
      go : (a b c : Bool) →
          is_copied (cond a (cond b Named (cond c Named Absent)) Absent) ≡ false
      go false b c = refl
      go true true c = refl
      go true false true = refl
      go true false false = refl

  -- so the message copies none
  none_copied : (v : Value) → copies_of s ((false, v) ∷ []) ≡ []
  unfolding rounds
  none_copied v =
      let values : List Placed = (false, v) ∷ [] in
      let none : copied_in s.seen s.node false v ≡ [] =
      none_pass (λ o. is_copied (role_of s.seen s.node false o)) not_copied (objects_of v) in
      let first : grown s values [] ≡ [] = ap (λ os. met [] (os ++ [])) none in
      subst
      (λ more. elim (length more == 0)
      [ true ↦ [] | false ↦ rounds most_copies (grown s values) more ] ≡ [])
      (sym first) refl

  -- the message is packed
  pub light_packed : (to token : ℕ) (v : Value) → weight_of v ≤ 48 →
      packed s to token ((false, v) ∷ [])
      ≡ Ok (packet_with s to token ((false, v) ∷ []) [] (names_with s ((false, v) ∷ []) []))
  unfolding packed
  light_packed to token v light =
      let values : List Placed = (false, v) ∷ [] in
      let weighs = sum_by-cons (λ (x : Placed). weight_of x.1) (false, v) [] in
      let fits : nat_lt most_weight (message_weight s values []) ≡ false =
      within (message_weight s values []) (omega (arith, light, weighs)) in
      ap (packed_with s to token values) (none_copied v) ∙ rw fits refl
    where
      within : (w : ℕ) → w ≤ 2097152 → nat_lt 2097152 w ≡ false
      within w h = grind (arith, nat_tests)
