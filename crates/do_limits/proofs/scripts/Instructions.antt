-- Each instruction keeps that values can be carried.
use Rattle.do_script.specs.declared.instruction.Instruction.TheVariants as does
use Rattle.std.proofs.Common.{◌≡◌, ◌++◌, ◌+ℤ◌, ◌-ℤ◌, ◌*ℤ◌, ◌≤◌, ◌∙◌, ℕ, ℤ, Bool, true, false, cond}
use Rattle.std.proofs.Common.{List as Listed, [], ◌∷◌, length, refl, arith}
use Rattle.std.specs.Prelude.{None, Option, Some, negsuc, pos, slice_get, slice_set}
use Rattle.std.{specs.Option.IfSome, proofs.lemmas.List.{length-set, Elements.All-from_recursion}}
use Rattle.do_base.specs.values.{Equal.value_eq, Kinds.{counted, items, number, text}}
use Rattle.do_base.specs.declared.events.exception.Exc.{Exc, TheVariants.{Range, TypeFault, User}}
use Rattle.do_base.specs.declared.values.value.Value.{List, Value}
use Rattle.do_base.specs.declared.values.value.Value.TheVariants.{Nil, Num, Obj, Text}
use Rattle.do_class.specs.Class.{Class}
use Rattle.do_grammar.specs.Words.{◌>>?◌}
use Rattle.do_script.specs.Listing.{IsWithin, Listing}
use Rattle.do_script.specs.declared.instruction.Instruction.{Instruction}
use Rattle.do_behave.specs.Lists.{can_be, count, gives_found, gives_list, item_at, picks, pushes}
use Rattle.do_behave.specs.Numbers.{calculates, checked, gives_number, is_i64, is_zero, less, truth}
use Rattle.do_behave.specs.Script.{code_of, does_next, is_ready, performs, runs, script, sends}
use Rattle.do_behave.specs.Steps.{gives, goes_to, local, local_values, next, or_fault, writes}
use Rattle.do_behave.specs.declared.act.Act.{Act, TheVariants.{Raise, Return, Root, Say, Send}}
use Rattle.do_behave.specs.declared.{act.Act.TheVariants.Vend, invocation.Invocation.Invocation}
use Rattle.do_behave.specs.laws.{CodeSuits.{at-place, ready-parts}, ValueKinds.by_items}
use Rattle.do_limits.specs.Sendable.{AreSendable, IsSendable, IsSendableExc}
use Rattle.do_limits.specs.SendableActs.{ActIsSendable, KeepsSendable}
use Rattle.do_limits.specs.SendableCodes.{CodeIsSendable, CodesAreSendable, GivesSendable}
use Rattle.do_facts.proofs.EachOfLists.{each_joined, each_set}
use Rattle.do_limits.proofs.{runs.Verdicts.textless, values.Carried.{carry-Nil, carry-Obj}}
use Rattle.do_limits.proofs.scripts.{Locals.{each_local, value_at}, MadeLists.count_kept}
use Rattle.do_limits.proofs.scripts.MadeLists.{empty_sendable, items_sendable, pushed_sendable}
use Rattle.do_limits.proofs.scripts.MadeNumbers.{i64_sendable, number_kept, text_kept}
use Rattle.do_limits.proofs.scripts.MadeNumbers.{truth_sendable}

-- the one that is chosen
chosen : {A : Type 0} (P : A → Type 0) (b : Bool) (x y : A) → (b ≡ true → P x) → P y →
    P (cond b x y)
chosen P true x y h k = h refl
chosen P false x y h k = k

module _ (table : Listed Class) (inv : Invocation) (slots : Listed Value)
    (all : AreSendable inv.locals) (sixteen : length inv.locals ≡ 16) where
  -- an act with such values
  abbrev Sound : Act → Type 0
  Sound act = ActIsSendable table act

  -- an act, or the fault of type where there is none
  abbrev MaySound : Option Act → Type 0
  MaySound o = Sound (or_fault o)

  -- a fault
  fault : (e : Exc) → IsSendableExc e → Sound (Raise e)
  fault e h = (tt, (tt, (tt, h)))

  -- a fault of type
  type_fault : MaySound None
  type_fault = fault TypeFault (textless TypeFault refl)

  -- what an answer leads to
  then_sound : {A : Type 0} (P : A → Type 0) (o : Option A) (f : A → Option Act) → IfSome o P →
      ((x : A) → P x → MaySound (f x)) → MaySound (o >>? f)
  then_sound P None f q each = type_fault
  then_sound P (Some x) f q each = each x q

  -- what the value in a local leads to
  local_sound : (k : ℕ) (f : Value → Option Act) →
      ((v : Value) → IsSendable v → MaySound (f v)) → MaySound (local inv k >>? f)
  local_sound k f each = then_sound IsSendable (local inv k) f (value_at inv.locals k all) each

  -- what an answer about a local leads to
  local_then : {A : Type 0} (question : Value → Option A) (P : A → Type 0) (k : ℕ)
      (f : A → Option Act) → ((v : Value) → IsSendable v → IfSome (question v) P) →
      ((x : A) → P x → MaySound (f x)) → MaySound (local inv k >>? question >>? f)
  local_then question P k f answer each =
      then_sound P (local inv k >>? question) f
      (asked (local inv k) (value_at inv.locals k all)) each
    where
      asked : (o : Option Value) → IfSome o IsSendable → IfSome (o >>? question) P
      asked None q = tt
      asked (Some v) q = answer v q

  -- nothing need be said of an answer
  any : {A : Type 0} (o : Option A) → IfSome o (λ _. Unit {0})
  any None = tt
  any (Some x) = tt

  -- a value is given
  given : (d : ℕ) (v : Value) → IsSendable v → Sound (gives inv d v)
  given d v q = (
    each_joined IsSendable (slice_set inv.locals d v) [] (each_set IsSendable inv.locals d v q all)
        tt,
    (length-set inv.locals d v ∙ sixteen, (tt, tt)),
  )

  -- a number is given, if there is one
  number_given : (d : ℕ) (o : Option ℤ) → IfSome o (λ z. IsSendable (Num z)) →
      Sound (gives_number inv d o)
  number_given d None h = fault Range (textless Range refl)
  number_given d (Some z) h = given d (Num z) h

  -- a number that was checked
  checked_kept : (z : ℤ) → IfSome (checked z) (λ z. IsSendable (Num z))
  checked_kept z = go (is_i64 z) refl
    where
      go : (b : Bool) → is_i64 z ≡ b → IfSome (cond b (Some z) None) (λ z. IsSendable (Num z))
      go true e = i64_sendable z e
      go false e = tt

  -- arithmetic
  calculated : (f : ℤ → ℤ → Option ℤ) →
      ((x y : ℤ) → IfSome (f x y) (λ z. IsSendable (Num z))) → (d a b : ℕ) →
      MaySound (calculates f inv d a b)
  calculated f h d a b =
      local_then counted (λ _. Unit {0}) a
      (λ x. local inv b >>? counted >>? λ y. Some (gives_number inv d (f x y)))
      (λ v _. any (counted v))
      (λ x _. local_then counted (λ _. Unit {0}) b (λ y. Some (gives_number inv d (f x y)))
      (λ v _. any (counted v)) (λ y _. number_given d (f x y) (h x y)))

  -- what the list in a local leads to
  list_then : (k : ℕ) (f : Listed Value → Option Act) →
      ((vs : Listed Value) → IsSendable (List vs) → MaySound (f vs)) →
      MaySound (local inv k >>? items >>? f)
  list_then k f each =
      local_then items (λ vs. IsSendable (List vs)) k f
      (by_items (λ o v. IsSendable v → IfSome o (λ vs. IsSendable (List vs))) (λ v _. tt)
      (λ vs q. q)) each

  -- a push
  pushed : (list item : ℕ) → MaySound (pushes inv list item)
  pushed list item =
      list_then list (λ vs. local inv item >>? λ v. Some (gives_list inv list (vs ++ v ∷ [])))
      (λ vs of_list. local_sound item (λ v. Some (gives_list inv list (vs ++ v ∷ [])))
      (λ v of_item.
      chosen Sound (can_be (vs ++ v ∷ [])) (gives inv list (List (vs ++ v ∷ []))) (Raise Range)
      (λ fits. given list (List (vs ++ v ∷ [])) (pushed_sendable vs v of_list of_item fits))
      (fault Range (textless Range refl))))

  -- what was found is given
  found_given : (d : ℕ) (o : Option Value) → IfSome o IsSendable → Sound (gives_found inv d o)
  found_given d None q = fault Range (textless Range refl)
  found_given d (Some v) q = given d v q

  -- an item of a list
  item_kept : (vs : Listed Value) (at : ℤ) → IsSendable (List vs) →
      IfSome (item_at vs at) IsSendable
  item_kept vs (pos k) q = value_at vs k (items_sendable vs q)
  item_kept vs (negsuc k) q = tt

  -- an item is given
  picked : (d list index : ℕ) → MaySound (picks inv d list index)
  picked d list index =
      list_then list
      (λ vs. local inv index >>? number >>? λ at. Some (gives_found inv d (item_at vs at)))
      (λ vs q. local_then number (λ _. Unit {0}) index
      (λ at. Some (gives_found inv d (item_at vs at))) (λ v _. any (number v))
      (λ at _. found_given d (item_at vs at) (item_kept vs at q)))

  -- a message is sent
  sent : (d t : ℕ) (selector from : Listed ℕ) → MaySound (sends inv d t selector from)
  sent d t selector from =
      local_sound t
      (λ v. local_values inv from >>? λ args. Some (Send v selector args d from (next inv)))
      (λ v q. then_sound AreSendable (local_values inv from)
      (λ args. Some (Send v selector args d from (next inv))) (each_local inv all from)
      (λ args r. ((q, r), (tt, (tt, tt)))))

  -- the act of an instruction
  performed : AreSendable slots → (code : Listing) → code.classes ≤ length table →
      (i : Instruction) → GivesSendable i → IsWithin code.slots code.classes
      (length code.instructions) i → MaySound (performs inv slots i)
  performed of_slots code few (does.Nil d) t w = given d Nil (carry-Nil 8)
  performed of_slots code few (does.Number d z) t w = given d (Num z) t
  performed of_slots code few (does.Text d s) t w = given d (Text s) t
  performed of_slots code few (does.Own d) t w = given d (Obj inv.object) (carry-Obj 8 inv.object)
  performed of_slots code few (does.Move d s) t w =
      local_sound s (λ v. Some (gives inv d v)) (given d)
  performed of_slots code few (does.Get d k) t w =
      then_sound IsSendable (slice_get slots k) (λ v. Some (gives inv d v))
      (value_at slots k of_slots) (given d)
  performed of_slots code few (does.Set k s) t w =
      local_sound s (λ v. Some (writes inv k v))
      (λ v q. (each_joined IsSendable inv.locals (v ∷ []) all (q, tt), (sixteen, (tt, tt))))
  performed of_slots code few (does.Add d a b) t w =
      calculated (λ x y. checked (x +ℤ y)) (λ x y. checked_kept (x +ℤ y)) d a b
  performed of_slots code few (does.Subtract d a b) t w =
      calculated (λ x y. checked (x -ℤ y)) (λ x y. checked_kept (x -ℤ y)) d a b
  performed of_slots code few (does.Multiply d a b) t w =
      calculated (λ x y. checked (x *ℤ y)) (λ x y. checked_kept (x *ℤ y)) d a b
  performed of_slots code few (does.Less d a b) t w =
      calculated less (λ x y. truth_sendable _) d a b
  performed of_slots code few (does.Same d a b) t w =
      local_sound a (λ v. local inv b >>? λ w. Some (gives inv d (Num (truth (value_eq v w)))))
      (λ v _. local_sound b (λ w. Some (gives inv d (Num (truth (value_eq v w)))))
      (λ w _. given d (Num (truth (value_eq v w))) (truth_sendable (value_eq v w))))
  performed of_slots code few (does.Jump to) t w =
      (each_joined IsSendable inv.locals [] all tt, (sixteen, (tt, tt)))
  performed of_slots code few (does.IfNot a to) t w =
      local_sound a (λ v. Some (goes_to inv (cond (is_zero v) to (next inv))))
      (λ v _. (each_joined IsSendable inv.locals [] all tt, (sixteen, (tt, tt))))
  performed of_slots code few (does.List d) t w = given d (List []) empty_sendable
  performed of_slots code few (does.Push d s) t w = pushed d s
  performed of_slots code few (does.Item d a i) t w = picked d a i
  performed of_slots code few (does.Count d a) t w =
      local_then count (λ n. IsSendable (Num (pos n))) a (λ n. Some (gives inv d (Num (pos n))))
      count_kept (λ n q. given d (Num (pos n)) q)
  performed of_slots code few (does.New d k) t w = (tt, (tt, (omega (arith, w.1, few), tt)))
  performed of_slots code few (does.Send d t selector from) u w = sent d t selector from
  performed of_slots code few (does.Root d p) t w =
      local_then number (λ z. IsSendable (Num z)) p (λ z. Some (Root (Num z) d (next inv)))
      number_kept (λ z q. ((q, tt), (tt, (tt, tt))))
  performed of_slots code few (does.Vend s) t w =
      local_sound s (λ v. Some (Vend v (next inv))) (λ v q. ((q, tt), (tt, (tt, tt))))
  performed of_slots code few (does.Say s) t w =
      local_sound s (λ v. Some (Say v (next inv))) (λ v q. ((q, tt), (tt, (tt, tt))))
  performed of_slots code few (does.Return s) t w =
      local_sound s (λ v. Some (Return v)) (λ v q. ((q, tt), (tt, (tt, tt))))
  performed of_slots code few (does.Raise s) t w =
      local_then text (λ s. IsSendableExc (User s)) s (λ s. Some (Raise (User s))) text_kept
      (λ s q. fault (User s) q)
  performed of_slots code few (does.Catch d to) t w =
      (each_joined IsSendable inv.locals [] all tt, (sixteen, (tt, tt)))
  performed of_slots code few does.EndCatch t w =
      (each_joined IsSendable inv.locals [] all tt, (sixteen, (tt, tt)))

  -- the act of code
  ran : AreSendable slots → (code : Listing) → CodeIsSendable code →
      MaySound (runs table inv slots code)
  ran of_slots code ok =
      chosen MaySound (is_ready table inv slots code)
      (does_next inv slots (slice_get code.instructions inv.pc)) None
      (λ ready.
      at_place (ready-parts table inv slots code ready).2 (slice_get code.instructions inv.pc)
      refl) type_fault
    where
      at_place : code.classes ≤ length table → (o : Option Instruction) →
          slice_get code.instructions inv.pc ≡ o → MaySound (does_next inv slots o)
      at_place few None e = ((carry-Nil 8, tt), (tt, (tt, tt)))
      at_place few (Some i) e =
          let gives =
          at-place GivesSendable code.instructions inv.pc i
          (All-from_recursion GivesSendable code.instructions ok.gives) e in
          let within =
          at-place (IsWithin code.slots code.classes (length code.instructions)) code.instructions
          inv.pc i ok.valid.within e in
          performed of_slots code few i gives.0 within.0

  -- the act of a script
  pub scripted : AreSendable slots → (codes : Listed (Listed Listing)) → CodesAreSendable codes →
      Sound (script codes table inv slots)
  scripted of_slots codes ok = go (code_of codes inv.method) refl
    where
      go : (o : Option Listing) → code_of codes inv.method ≡ o →
          MaySound (o >>? runs table inv slots)
      go None e = type_fault
      go (Some code) e = ran of_slots code (ok inv.method code e)

-- scripts keep what can be carried
pub scripts_keep : (codes : Listed (Listed Listing)) → CodesAreSendable codes →
    (table : Listed Class) → KeepsSendable table (script codes)
scripts_keep codes ok table inv slots locals sixteen of_slots =
    scripted table inv slots locals sixteen of_slots codes ok
