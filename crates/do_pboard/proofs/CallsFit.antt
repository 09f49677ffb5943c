-- A call that a selector and the arguments make is one that a core takes.
use Rattle.std.proofs.Common.{ℕ, List as Listed, Some}
use Rattle.std.specs.{Prelude.codes, Option.IfSome, Str.bytes_eq}
use Rattle.do_base.specs.values.Kinds.{text, number}
use Rattle.do_grammar.specs.Words.{◌>>?◌}
use Rattle.do_behave.specs.{Steps.local, declared.invocation.Invocation.Invocation}
use Rattle.do_native_acts.specs.{Owners.owner_in, Rows.list_in, Types.types_in}
use Rattle.do_native_acts.specs.laws.{FoundLaws.{if_chosen, if_found, if_room}, KindLaws.found_of}
use Rattle.do_native_acts.specs.laws.TypeLaws.{types_back}
use Rattle.do_pboard.specs.Calls.{IsCall, adds_types, asks_available, call_in, sets_data}
use Rattle.do_pboard.specs.declared.calls.Call.TheVariants.{AddTypes, SetData, Available, Types}
use Rattle.do_pboard.specs.declared.calls.Call.TheVariants.{ChangeCount}

module _ (inv : Invocation) where
  -- the types that are added are those of a pasteboard
  adds_fit : IfSome (adds_types inv) IsCall
  adds_fit =
      if_found IsCall (local inv 0 >>? types_in) _ (λ types read.
      let v = found_of (local inv 0) types_in types read in
      if_found IsCall (local inv 1 >>? owner_in) (λ owner. Some (AddTypes types owner))
      (λ owner _. (types_back v.0 types v.2).1))

  -- whatever data is set
  sets_fit : IfSome (sets_data inv) IsCall
  sets_fit =
      if_found IsCall (local inv 0 >>? text) _ (λ content _.
      if_found IsCall (local inv 1 >>? text) _ (λ kind _.
      if_found IsCall (local inv 2 >>? number) (λ count. Some (SetData content kind count))
      (λ count _. tt)))

  -- whatever type is asked for
  available_fits : IfSome (asks_available inv) IsCall
  available_fits =
      if_found IsCall (local inv 0 >>? list_in text) (λ texts. Some (Available texts))
      (λ texts _. tt)

  -- a call that a selector makes is one that a core takes
  pub calls_fit : (selector : Listed ℕ) → IfSome (call_in selector inv) IsCall
  calls_fit selector =
      if_chosen IsCall (bytes_eq selector (codes "addTypes:owner:")) (adds_types inv) _ adds_fit
      (if_chosen IsCall (bytes_eq selector (codes "setData:forType:count:")) (sets_data inv) _
      sets_fit
      (if_chosen IsCall (bytes_eq selector (codes "availableTypeFromArray:"))
      (asks_available inv) _ available_fits
      (if_chosen IsCall (bytes_eq selector (codes "types")) (Some Types) _ tt
      (if_room IsCall (bytes_eq selector (codes "changeCount")) ChangeCount tt))))
