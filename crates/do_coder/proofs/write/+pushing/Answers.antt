use Rattle.do_coder.proofs.write.+pushing.Goals as goal
use Rattle.std.proofs.Common.{◌++◌, ◌∷◌, [], List, ℕ, ap, sym, ◌∙◌, append_assoc}
use Rattle.std.{specs.List.flat_map, proofs.lemmas.Result.on_ok_weaker}
use Rattle.do_class.specs.declared.packet.Part.{Part}
use Rattle.do_grammar.specs.OneSpelling.{list_spelling}
use Rattle.do_coder.{specs.Parts.part_spelling, proofs.values.PartFacts.spelling-List}

pub push_part-returns-in_ok-push-in-List : goal.push_part-returns-in_ok-push-in-List
push_part-returns-in_ok-push-in-List t c =
    let a = c.args.out.now in
    let items = list_spelling (flat_map part_spelling) in
    let slice = c.as_slice-in-List.result.now in
    on_ok_weaker c.push_list.result
    (λ d. d ∙ ap (λ (w : List ℕ). w ++ items slice) c.in_ok-push-in-List.ensures.ok
    ∙ append_assoc a (5 ∷ []) (items slice)
    ∙ ap (λ (w : List Part). a ++ 5 ∷ items w) c.as_slice-in-List.ensures
    ∙ ap (λ (w : List ℕ). a ++ w) (sym (spelling-List c.in-List.parts))
    ∙ ap (λ (w : Part). a ++ part_spelling w) (sym c.in-List.is))
    c.push_list.ensures
