-- What is read from the arguments is within the limits.
use Rattle.do_center.specs.declared.methods.Method.TheVariants as method
use Rattle.std.proofs.Common.{◌≡◌, ℕ, Bool, true, ◌&&◌, List as Listed, Option, Some, None, refl}
use Rattle.std.{proofs.Common.{sym, ◌∙◌, ap, subst, rules, ℤ, false}, specs.Prelude.if◌then◌else◌}
use Rattle.std.proofs.lemmas.Bool.{and_from}
use Rattle.do_base.specs.values.{Induction.value_induction, Kinds.{text, object}}
use Rattle.do_base.specs.{names.Names.ObjectName, declared.values.value.Value.{Value, List}}
use Rattle.do_base.specs.declared.values.value.Value.{the_lemmas, TheVariants.{Nil, Num, Text, Obj}}
use Rattle.do_grammar.specs.Words.{◌>>?◌}
use Rattle.do_behave.specs.{Steps.local, declared.invocation.Invocation.Invocation}
use Rattle.do_native_acts.specs.laws.KindLaws.{found_of, passed, some_same}
use Rattle.do_center.specs.{Acts.{call_in, truth_in}, Calls.IsCall, Notes.{info_in, info_within}}
use Rattle.do_center.specs.Notes.{is_label, is_note, is_short, label_in, note_in, posted_name}
use Rattle.do_center.specs.Registrations.{behaviour_in, is_registration, registration_from}
use Rattle.do_center.specs.{Registrations.{selector_in, takes_three}, declared.calls.Call.Call}
use Rattle.do_center.specs.declared.{methods.Method.Method, notes.Note.Note}
use Rattle.do_center.specs.declared.registrations.Registration.{Registration}

-- nil is no label
pub label_of_Nil : label_in Nil ≡ Some None
label_of_Nil = search (rules, the_lemmas)

-- a text is read as a label where it is short
pub label_of_Text : (s : Listed ℕ)
    → label_in (Text s) ≡ (if is_short s then Some (Some s) else None)
label_of_Text s = search (rules, the_lemmas)

-- a number is no label
label_of_Num : (z : ℤ) → label_in (Num z) ≡ None
label_of_Num z = search (rules, the_lemmas)

-- nor is an object
label_of_Obj : (o : ObjectName) → label_in (Obj o) ≡ None
label_of_Obj o = search (rules, the_lemmas)

-- nor a list
label_of_List : (vs : Listed Value) → label_in (List vs) ≡ None
label_of_List vs = search (rules, the_lemmas)

-- a text that is read as a label is short
short_label : (s : Listed ℕ) (l : Option (Listed ℕ)) (b : Bool) → is_short s ≡ b
    → (if b then Some (Some s) else None) ≡ Some l → is_label l ≡ true
short_label s l true is e = ap is_label (sym (some_same e)) ∙ is
short_label s l false is e = cc

-- what is read as a label is one
label_read : (v : Value) (l : Option (Listed ℕ)) → label_in v ≡ Some l → is_label l ≡ true
label_read =
    value_induction (λ v. (l : Option (Listed ℕ)) → label_in v ≡ Some l → is_label l ≡ true)
    (λ l e. ap is_label (sym (some_same (sym label_of_Nil ∙ e))))
    (λ z l e. cc (e, label_of_Num z))
    (λ s l e. short_label s l (is_short s) refl (sym (label_of_Text s) ∙ e))
    (λ o l e. cc (e, label_of_Obj o))
    (λ vs _ l e. cc (e, label_of_List vs))

-- a text that passes a test is read from a value where it passes
text_passed : (test : Listed ℕ → Bool) (v : Value) (s : Listed ℕ)
    → (text v >>? λ t. if test t then Some t else None) ≡ Some s → test s ≡ true
text_passed test v s e =
    let t = found_of (text v) (λ t. if test t then Some t else None) s e in
    (passed t.0 s test (test t.0) refl t.2).1

-- a selector that is read has three colons
pub selector_read : (v : Value) (s : Listed ℕ) → selector_in v ≡ Some s → takes_three s ≡ true
selector_read v s e = text_passed takes_three v s e

-- a registration that is read is the observer's that is told, and is within the limits
pub registration_read : (observer selector name about behaviour : Value) (r : Registration)
    → registration_from observer selector name about behaviour ≡ Some r
    → (object observer ≡ Some r.observer) × (is_registration r ≡ true)
registration_read observer selector name about behaviour r is =
    let o = found_of (object observer) _ r is in
    let s = found_of (selector_in selector) _ r o.2 in
    let n = found_of (label_in name) _ r s.2 in
    let a = found_of (label_in about) _ r n.2 in
    let b = found_of (behaviour_in behaviour) _ r a.2 in
    let made : Registration =
    record { observer = o.0; selector = s.0; name = n.0; object = a.0; behaviour = b.0 } in
    let same : made ≡ r = some_same b.2 in (
      subst (λ (x : Registration). object observer ≡ Some x.observer) same o.1,
      subst (λ (x : Registration). is_registration x ≡ true) same
          (and_from (takes_three s.0 && is_label n.0) (is_label a.0)
          (and_from (takes_three s.0) (is_label n.0) (selector_read selector s.0 s.1)
          (label_read name n.0 n.1)) (label_read about a.0 a.1)),
    )

-- a notification that is read has the information that is told, and is within the limits
pub note_read : (name about info : Value) (note : Note) → note_in name about info ≡ Some note
    → (info ≡ note.info) × (is_note note ≡ true)
note_read name about info note is =
    let s = found_of (posted_name name) _ note is in
    let o = found_of (label_in about) _ note s.2 in
    let i = found_of (info_in info) _ note o.2 in
    let within = passed info i.0 (λ v. info_within v 4) (info_within info 4) refl i.1 in
    let made : Note = record { name = s.0; object = o.0; info = i.0 } in
    let same : made ≡ note = some_same i.2 in (
      within.0 ∙ ap (λ (n : Note). n.info) same,
      subst (λ (n : Note). is_note n ≡ true) same
          (and_from (is_short s.0 && is_label o.0) (info_within i.0 4)
          (and_from (is_short s.0) (is_label o.0) (text_passed is_short name s.0 s.1)
          (label_read about o.0 o.1)) within.1),
    )

-- a call that is read is one
pub call_good : (m : Method) (inv : Invocation) (call : Call) → call_in m inv ≡ Some call
    → IsCall call
call_good method.Add inv call is =
    let o = found_of (local inv 0) _ call is in
    let s = found_of (local inv 1) _ call o.2 in
    let n = found_of (local inv 2) _ call s.2 in
    let a = found_of (local inv 3) _ call n.2 in
    let b = found_of (local inv 4) _ call a.2 in
    let r = found_of (registration_from o.0 s.0 n.0 a.0 b.0) _ call b.2 in
    subst IsCall (some_same r.2) ((registration_read o.0 s.0 n.0 a.0 b.0 r.0 r.1).1)
call_good method.Remove inv call is =
    let o = found_of (local inv 0 >>? object) _ call is in
    let n = found_of (local inv 1 >>? label_in) _ call o.2 in
    let a = found_of (local inv 2 >>? label_in) _ call n.2 in
    subst IsCall (some_same a.2) tt
call_good method.Suspend inv call is =
    let on = found_of (local inv 0 >>? truth_in) _ call is in
    let o = found_of (local inv 1 >>? object) _ call on.2 in
    subst IsCall (some_same o.2) tt
call_good method.Post inv call is =
    let n = found_of (local inv 0) _ call is in
    let a = found_of (local inv 1) _ call n.2 in
    let i = found_of (local inv 2) _ call a.2 in
    let t = found_of (local inv 3 >>? truth_in) _ call i.2 in
    let note = found_of (note_in n.0 a.0 i.0) _ call t.2 in
    subst IsCall (some_same note.2) ((note_read n.0 a.0 i.0 note.0 note.1).1)
