use Rattle.do_class_kinds.proofs.methods.native_methods.Goals as goal
use Rattle.std.proofs.{Common.{◌∙◌, ap, length, subst, sym}, lemmas.List.Elements.All-nil}
use Rattle.do_class.specs.{Class.AreMethods, declared.method.Method.Method}
use Rattle.do_sig.specs.MethodTypes.{IsMethodType}
use Rattle.do_class_kinds.{specs.Methods.AreTyped, proofs.NativeSound.native_are_methods}
use Rattle.do_class_kinds.proofs.NativeSound.{native_found, native_none_lost, spelled_more}

-- before the first selector there are no methods
pub loop-selector-init : goal.loop-selector-init
loop-selector-init c = record {
  made = c.new-methods.ensures;
  typed = subst AreTyped (sym c.new-methods.ensures)
      (All-nil (λ (m : Method). IsMethodType m.signature));
}

-- one more selector adds the method that it and its types say
pub loop-selector-preserved : goal.loop-selector-preserved
loop-selector-preserved c = record {
  made = spelled_more _ _ _ _ _ c.loop-selector-test.true c.loop-selector.invariant.made
      c.in_ok-push_method.ensures.value;
  typed = c.in_ok-push_method.ensures.typed c.loop-selector.invariant.typed;
}

-- behind the last selector there are all methods of the kind
pub returns-clause-value : goal.returns-clause-value
returns-clause-value c =
    native_found c.args.kind c.spellings-spelled.result.now c.loop-selector.selector-index
    c.loop-selector.methods c.loop-selector-test.false c.loop-selector.invariant.made
    c.spellings-spelled.ensures

-- so there is one for each selector
pub returns-clause-all : goal.returns-clause-all
returns-clause-all c =
    let same =
    native_found c.args.kind c.spellings-spelled.result.now c.loop-selector.selector-index
    c.loop-selector.methods c.loop-selector-test.false c.loop-selector.invariant.made
    c.spellings-spelled.ensures in
    ap length same ∙ native_none_lost c.args.kind

-- so a class may have them
pub returns-clause-limits : goal.returns-clause-limits
returns-clause-limits c =
    let same =
    native_found c.args.kind c.spellings-spelled.result.now c.loop-selector.selector-index
    c.loop-selector.methods c.loop-selector-test.false c.loop-selector.invariant.made
    c.spellings-spelled.ensures in
    subst AreMethods (sym same) (native_are_methods c.args.kind)

-- their signatures are those that were read
pub returns-clause-typed : goal.returns-clause-typed
returns-clause-typed c = c.loop-selector.invariant.typed
