-- An input of a site comes to what its effect is.
use Rattle.std.proofs.Common.{◌≡◌, Bool, Option, subst, sym}
use Rattle.std.specs.{Prelude.{Result, IfOk, OnErr, option_map}, Result.result_map_both}
use Rattle.do_machine.specs.{declared.state.Effect.Effect, run.Run.Acting}
use Rattle.do_network.specs.{Site.{Handled, enabled_input, moves}, declared.input.Done.Done}
use Rattle.do_network.specs.declared.input.Input.{Input}
use Rattle.do_effects.specs.declared.changing.Core.{Core}
use Rattle.do_site.specs.{Sited.Sited, Steps.{Does, Handles, IsSame, done_told, part_of, seen_of}}
use Rattle.do_site.proofs.EffectsTold.{told_handled}

-- what an input of this kind comes to, by what a site has inside and by what is seen of it
pub input_handled : {B E : Type 0} (act : B → Acting) (inside now : Sited B) → inside ≡ now →
    (b : Core) (input kind : Input) → input ≡ kind → (e : Option Effect) →
    enabled_input inside.table (act inside.acts) (part_of inside.work.core) kind
    ≡ option_map (moves (part_of inside.work.core)) e →
    (r : Result Bool E) (d : Result Done E) → d ≡ result_map_both done_told (λ x. x) r →
    IfOk r (λ told. Does inside.work.core b told e) → OnErr r (IsSame inside.work.core b) →
    Handles (seen_of now.table (act now.acts) now.work.core)
    (seen_of inside.table (act inside.acts) b) d
    (enabled_input now.table (act now.acts) (part_of now.work.core) input)
input_handled {B = B} {E = E} act inside now same b input kind is e enabled r d told done err =
    let table = inside.table in
    let acting = act inside.acts in
    let a = inside.work.core in
    let by_effect = told_handled table acting a b r e done err in
    let by_kind = subst (λ (h : Option Handled). Handles (seen_of table acting a)
    (seen_of table acting b) (result_map_both done_told (λ x. x) r) h) (sym enabled) by_effect in
    let by_answer = subst (λ (x : Result Done E). Handles (seen_of table acting a)
    (seen_of table acting b) x (enabled_input table acting (part_of a) kind)) (sym told) by_kind in
    let by_input = subst (λ (i : Input). Handles (seen_of table acting a)
    (seen_of table acting b) d (enabled_input table acting (part_of a) i)) (sym is) by_answer in
    subst (λ (s : Sited B). Handles (seen_of s.table (act s.acts) s.work.core)
    (seen_of table acting b) d (enabled_input s.table (act s.acts) (part_of s.work.core) input))
    same by_input
