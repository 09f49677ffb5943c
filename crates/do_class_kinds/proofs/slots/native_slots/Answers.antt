use Rattle.do_class_kinds.proofs.slots.native_slots.Goals as goal
use Rattle.std.proofs.Common.{◌≡◌, ◌≤◌, ◌∙◌, Bor, List, ℕ, ap, false, length, map, subst, sym}
use Rattle.std.{specs.{List.IsDistinct, Str.bytes_eq}, proofs.lemmas.List.take_all}
use Rattle.do_class.specs.declared.ids.Slot.{Slot}
use Rattle.do_class_kinds.{specs.Native.native_slots, proofs.NativeSound.native_distinct}

pub returns-clause-distinct : goal.returns-clause-distinct
returns-clause-distinct c =
    let past : length c.slot_names-names.result.now ≤ c.loop-name.name-index =
    c.loop-name-test.false in
    let same : c.loop-name.slots ≡ native_slots c.args.kind =
    c.loop-name.invariant
    ∙ ap (λ (ns : List (Bor (List ℕ))). map (λ (name : List ℕ). record {
      name = name;
      copy = false;
    }) (map (λ (n : Bor (List ℕ)). n.now) ns))
    (take_all c.loop-name.name-index c.slot_names-names.result.now past)
    ∙ ap (map (λ (name : List ℕ). record { name = name; copy = false }))
    c.slot_names-names.ensures in
    subst (λ (ss : List Slot). IsDistinct bytes_eq (map (λ (s : Slot). s.name) ss)) (sym same)
    (native_distinct c.args.kind)
