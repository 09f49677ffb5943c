-- What the acts of scripts keep: what holds of the values that they see and make holds of the
-- values in their acts.
use Rattle.do_script.specs.declared.instruction.Instruction.TheVariants as does
use Rattle.std.proofs.Common.{◌≡◌, ℕ, suc, ◌<◌, true, List as Listed, [], ◌∷◌, ◌++◌, length, Option}
use Rattle.std.{proofs.Common.{Some, None, ℤ, pos, negsuc, refl, ap, ◌∙◌}, specs.Prelude.slice_set}
use Rattle.std.specs.{Prelude.{slice_get, if◌then◌else◌, ◌+ℤ◌, ◌-ℤ◌, ◌*ℤ◌}, List.All, Option.IfSome}
use Rattle.std.proofs.lemmas.List.{length-set, Elements.{All-nil, All-cons, All-set, All-append}}
use Rattle.do_base.specs.values.{Equal.value_eq, Kinds.{counted, number, items, text}}
use Rattle.do_base.specs.declared.values.value.Value.{Value, List}
use Rattle.do_base.specs.declared.values.value.Value.TheVariants.{Nil, Num, Text, Obj}
use Rattle.do_base.specs.declared.events.exception.Exc.{Exc, TheVariants.{User, Range, TypeFault}}
use Rattle.do_class.specs.Class.{Class}
use Rattle.do_grammar.specs.Words.{◌>>?◌}
use Rattle.do_script.specs.Listing.{IsMessage, IsWithin}
use Rattle.do_script.specs.declared.instruction.Instruction.{Instruction}
use Rattle.do_behave.specs.Lists.{can_be, gives_list, gives_found, item_at, count, pushes, picks}
use Rattle.do_behave.specs.Lists.{counts}
use Rattle.do_behave.specs.Numbers.{calculates, gives_number, checked, less, truth, is_zero}
use Rattle.do_behave.specs.{Ready.IsHandler, Script.{performs, raises, asks_root, sends, compares}}
use Rattle.do_behave.specs.Steps.{local, local_values, next, gives, goes_to, writes, handles}
use Rattle.do_behave.specs.{Steps.or_fault, declared.invocation.Handler.Handler}
use Rattle.do_behave.specs.declared.{invocation.Invocation.Invocation, act.{Act.Act, Write.Write}}
use Rattle.do_behave.specs.declared.act.Act.TheVariants.{Raise, Root, Return, Say, Send, Vend}
use Rattle.do_behave.specs.laws.Sound.{IsKept, IsSound, HasText, RaisesOnly, choice, fault_sound}
use Rattle.do_behave.specs.laws.{Sound.get_kept, ValueKinds.{by_items, by_text}}

module _ (table : Listed Class) (inv : Invocation) (slots : Listed Value) (Q : Value → Type 0)
    (T L : Listed ℕ → Type 0) (R : Type 0)
    (kept : IsKept inv Q T L) (all : All Q inv.locals) (sixteen : length inv.locals ≡ 16)
    (handler : R → IsHandler inv.handler) where
  abbrev Sound : Act → Type 0
  Sound act = IsSound table slots Q L R act

  -- a fault is sound where its text is kept
  fault : (e : Exc) → RaisesOnly L (Raise e) → Sound (Raise e)
  fault = fault_sound table slots Q L R

  -- an act, or the fault of type where there is none
  abbrev MaySound : Option Act → Type 0
  MaySound o = Sound (or_fault o)

  -- where there is no act the fault of type is sound
  no_act : MaySound None
  no_act = fault TypeFault tt

  -- what each answer leads to is sound
  then_sound : {A : Type 0} (P : A → Type 0) (o : Option A) (f : A → Option Act) → IfSome o P
      → ((x : A) → P x → MaySound (f x)) → MaySound (o >>? f)
  then_sound P None f q each = no_act
  then_sound P (Some x) f q each = each x q

  -- what the value in a local leads to is sound
  local_sound : (k : ℕ) (f : Value → Option Act) → ((v : Value) → Q v → MaySound (f v))
      → MaySound (local inv k >>? f)
  local_sound k f each = then_sound Q (local inv k) f (get_kept Q inv.locals k all) each

  -- the same of an answer about a local
  local_then : {A : Type 0} (question : Value → Option A) (P : A → Type 0) (k : ℕ)
      (f : A → Option Act) → ((v : Value) → Q v → IfSome (question v) P)
      → ((x : A) → P x → MaySound (f x)) → MaySound (local inv k >>? question >>? f)
  local_then question P k f answer each =
      then_sound P (local inv k >>? question) f
      (asked (local inv k) (get_kept Q inv.locals k all)) each
    where
      asked : (o : Option Value) → IfSome o Q → IfSome (o >>? question) P
      asked None q = tt
      asked (Some v) q = answer v q

  -- giving a value that is kept is sound
  pub gives_sound : (d : ℕ) (v : Value) → Q v → Sound (gives inv d v)
  gives_sound d v q = record {
    values =
        All-append Q (slice_set inv.locals d v) [] (All-set Q inv.locals d v q all) (All-nil Q);
    locals = length-set inv.locals d v ∙ sixteen;
    range =
        λ r. (
          length-set inv.locals d v ∙ sixteen,
          handler r,
          All-nil (λ (w : Write). w.slot < length slots),
        );
    raises = tt;
  }

  -- going on at a place is sound
  goes_sound : (place : ℕ) → Sound (goes_to inv place)
  goes_sound place = record {
    values = All-append Q inv.locals [] all (All-nil Q);
    locals = sixteen;
    range = λ r. (sixteen, handler r, All-nil (λ (w : Write). w.slot < length slots));
    raises = tt;
  }

  -- giving a number is sound, and so is a fault of range
  number_sound : (d : ℕ) (o : Option ℤ) → Sound (gives_number inv d o)
  number_sound d None = fault Range tt
  number_sound d (Some z) = gives_sound d (Num z) (kept.number z)

  -- of any answer nothing holds that need be shown
  any : {A : Type 0} (o : Option A) → IfSome o (λ _. Unit {0})
  any None = tt
  any (Some x) = tt

  -- what a number in a local leads to is sound
  number_then : (question : Value → Option ℤ) (k : ℕ) (f : ℤ → Option Act)
      → ((z : ℤ) → MaySound (f z)) → MaySound (local inv k >>? question >>? f)
  number_then question k f each =
      local_then question (λ _. Unit {0}) k f (λ v _. any (question v)) (λ z _. each z)

  -- arithmetic is sound
  calculates_sound : (f : ℤ → ℤ → Option ℤ) (d a b : ℕ) → MaySound (calculates f inv d a b)
  calculates_sound f d a b =
      number_then counted a
      (λ x. local inv b >>? counted >>? λ y. Some (gives_number inv d (f x y)))
      (λ x. number_then counted b (λ y. Some (gives_number inv d (f x y)))
      (λ y. number_sound d (f x y)))

  -- giving a list that keeps the limits is sound where it is kept then
  list_sound : (d : ℕ) (vs : Listed Value) → (can_be vs ≡ true → Q (List vs))
      → Sound (gives_list inv d vs)
  list_sound d vs q =
      choice Sound (can_be vs) (gives inv d (List vs)) (Raise Range)
      (λ fits. gives_sound d (List vs) (q fits)) (fault Range tt)

  -- what the list in a local leads to is sound
  list_then : (k : ℕ) (f : Listed Value → Option Act)
      → ((vs : Listed Value) → Q (List vs) → MaySound (f vs))
      → MaySound (local inv k >>? items >>? f)
  list_then k f each =
      local_then items (λ vs. Q (List vs)) k f
      (by_items (λ o v. Q v → IfSome o (λ vs. Q (List vs))) (λ v _. tt) (λ vs q. q)) each

  -- a push is sound
  pushes_sound : (list item : ℕ) → MaySound (pushes inv list item)
  pushes_sound list item =
      list_then list (λ vs. local inv item >>? λ v. Some (gives_list inv list (vs ++ v ∷ [])))
      (λ vs of_list. local_sound item (λ v. Some (gives_list inv list (vs ++ v ∷ [])))
      (λ v of_item. list_sound list (vs ++ v ∷ [])
      (λ fits. kept.pushed vs v of_list of_item fits)))

  -- giving what was found is sound
  found_sound : (d : ℕ) (o : Option Value) → IfSome o Q → Sound (gives_found inv d o)
  found_sound d None q = fault Range tt
  found_sound d (Some v) q = gives_sound d v q

  -- an item of a list that is kept is kept
  item_kept : (vs : Listed Value) (at : ℤ) → Q (List vs) → IfSome (item_at vs at) Q
  item_kept vs (pos k) q = get_kept Q vs k (kept.items vs q)
  item_kept vs (negsuc k) q = tt

  -- giving an item of a list is sound
  picks_sound : (d list index : ℕ) → MaySound (picks inv d list index)
  picks_sound d list index =
      list_then list
      (λ vs. local inv index >>? number >>? λ at. Some (gives_found inv d (item_at vs at)))
      (λ vs q. number_then number index (λ at. Some (gives_found inv d (item_at vs at)))
      (λ at. found_sound d (item_at vs at) (item_kept vs at q)))

  -- counting is sound
  counts_sound : (d of : ℕ) → MaySound (counts inv d of)
  counts_sound d of =
      local_then count (λ _. Unit {0}) of (λ n. Some (gives inv d (Num (pos n))))
      (λ v _. any (count v)) (λ n _. gives_sound d (Num (pos n)) (kept.number (pos n)))

  -- raising a text is sound
  raises_sound : (k : ℕ) → MaySound (raises inv k)
  raises_sound k =
      local_then text L k (λ s. Some (Raise (User s)))
      (by_text (λ o v. Q v → IfSome o L) (λ v _. tt) kept.raised) (λ s q. fault (User s) q)

  -- a list of one value that is kept is kept
  one_kept : (v : Value) → Q v → All Q (v ∷ [])
  one_kept v q = All-cons Q v [] q (All-nil Q)

  -- asking for a root is sound
  asks_sound : (d port : ℕ) → (R → d < 16) → MaySound (asks_root inv d port)
  asks_sound d port there =
      number_then number port (λ z. Some (Root (Num z) d (next inv)))
      (λ z. record {
        values = one_kept (Num z) (kept.number z);
        locals = tt;
        range = there;
        raises = tt;
      })

  -- what several locals hold is kept, and there is a value for each
  each_kept : (from : Listed ℕ)
      → IfSome (local_values inv from) (λ vs. All Q vs × (length vs ≡ length from))
  each_kept [] = (All-nil Q, refl)
  each_kept (k ∷ ks) =
      one_more (local inv k) (local_values inv ks) (get_kept Q inv.locals k all) (each_kept ks)
    where
      one_more : (o : Option Value) (p : Option (Listed Value)) → IfSome o Q
          → IfSome p (λ vs. All Q vs × (length vs ≡ length ks))
          → IfSome (o >>? λ v. p >>? λ vs. Some (v ∷ vs))
          (λ vs. All Q vs × (length vs ≡ suc (length ks)))
      one_more None p q rest = tt
      one_more (Some v) None q rest = tt
      one_more (Some v) (Some vs) q rest = (All-cons Q v vs q rest.0, ap suc rest.1)

  -- sending a message is sound
  sends_sound : (d t : ℕ) (selector from : Listed ℕ)
      → (R → (d < 16) × (t < 16) × IsMessage selector from)
      → MaySound (sends inv d t selector from)
  sends_sound d t selector from w =
      local_sound t
      (λ v. local_values inv from >>? λ args. Some (Send v selector args d from (next inv)))
      (λ v q. then_sound (λ vs. All Q vs × (length vs ≡ length from)) (local_values inv from)
      (λ args. Some (Send v selector args d from (next inv))) (each_kept from)
      (λ args r. record {
        values = All-cons Q v args q r.0;
        locals = tt;
        range =
            λ h. ((w h).2.name, r.1 ∙ (w h).2.count, (w h).2.count, (w h).0, (w h).2.locals);
        raises = tt;
      }))

  -- comparing is sound
  compares_sound : (d a b : ℕ) → MaySound (compares inv d a b)
  compares_sound d a b =
      local_sound a
      (λ v. local inv b >>? λ w. Some (gives inv d (Num (truth (value_eq v w)))))
      (λ v _. local_sound b (λ w. Some (gives inv d (Num (truth (value_eq v w)))))
      (λ w _. gives_sound d (Num (truth (value_eq v w))) (kept.number (truth (value_eq v w)))))

  -- writing a value that is kept is sound
  writes_sound : (k : ℕ) (v : Value) → Q v → (R → k < length slots) → Sound (writes inv k v)
  writes_sound k v q there = record {
    values = All-append Q inv.locals (v ∷ []) all (one_kept v q);
    locals = sixteen;
    range = λ r. (
      sixteen,
      handler r,
      All-cons (λ (w : Write). w.slot < length slots) (record { slot = k; value = v }) []
          (there r) (All-nil (λ (w : Write). w.slot < length slots)),
    );
    raises = tt;
  }

  -- a change of the handler is sound
  handles_sound : (h : Option Handler) → (R → IsHandler h) → Sound (handles inv h)
  handles_sound h there = record {
    values = All-append Q inv.locals [] all (All-nil Q);
    locals = sixteen;
    range = λ r. (sixteen, there r, All-nil (λ (w : Write). w.slot < length slots));
    raises = tt;
  }

  -- the act of an instruction is sound
  pub performs_sound : All Q slots → (i : Instruction) → HasText T i
      → (R → IsWithin (length slots) (length table) 4096 i) → MaySound (performs inv slots i)
  performs_sound of_slots (does.Nil d) t w = gives_sound d Nil kept.nil
  performs_sound of_slots (does.Number d z) t w = gives_sound d (Num z) (kept.number z)
  performs_sound of_slots (does.Text d s) t w = gives_sound d (Text s) (kept.text s t)
  performs_sound of_slots (does.Own d) t w = gives_sound d (Obj inv.object) kept.own
  performs_sound of_slots (does.Move d s) t w =
      local_sound s (λ v. Some (gives inv d v)) (gives_sound d)
  performs_sound of_slots (does.Get d k) t w =
      then_sound Q (slice_get slots k) (λ v. Some (gives inv d v)) (get_kept Q slots k of_slots)
      (gives_sound d)
  performs_sound of_slots (does.Set k s) t w =
      local_sound s (λ v. Some (writes inv k v)) (λ v q. writes_sound k v q (λ r. (w r).0))
  performs_sound of_slots (does.Add d a b) t w =
      calculates_sound (λ x y. checked (x +ℤ y)) d a b
  performs_sound of_slots (does.Subtract d a b) t w =
      calculates_sound (λ x y. checked (x -ℤ y)) d a b
  performs_sound of_slots (does.Multiply d a b) t w =
      calculates_sound (λ x y. checked (x *ℤ y)) d a b
  performs_sound of_slots (does.Less d a b) t w = calculates_sound less d a b
  performs_sound of_slots (does.Same d a b) t w = compares_sound d a b
  performs_sound of_slots (does.Jump to) t w = goes_sound to
  performs_sound of_slots (does.IfNot a to) t w =
      local_sound a (λ v. Some (goes_to inv (if is_zero v then to else next inv)))
      (λ v _. goes_sound (if is_zero v then to else next inv))
  performs_sound of_slots (does.List d) t w = gives_sound d (List []) kept.empty
  performs_sound of_slots (does.Push d s) t w = pushes_sound d s
  performs_sound of_slots (does.Item d a i) t w = picks_sound d a i
  performs_sound of_slots (does.Count d a) t w = counts_sound d a
  performs_sound of_slots (does.New d k) t w =
      record { values = All-nil Q; locals = tt; range = λ r. ((w r).1, (w r).0); raises = tt }
  performs_sound of_slots (does.Send d t selector from) u w = sends_sound d t selector from w
  performs_sound of_slots (does.Root d p) t w = asks_sound d p (λ r. (w r).0)
  performs_sound of_slots (does.Vend s) t w =
      local_sound s (λ v. Some (Vend v (next inv)))
      (λ v q. record { values = one_kept v q; locals = tt; range = λ _. tt; raises = tt })
  performs_sound of_slots (does.Say s) t w =
      local_sound s (λ v. Some (Say v (next inv)))
      (λ v q. record { values = one_kept v q; locals = tt; range = λ _. tt; raises = tt })
  performs_sound of_slots (does.Return s) t w =
      local_sound s (λ v. Some (Return v))
      (λ v q. record { values = one_kept v q; locals = tt; range = λ _. tt; raises = tt })
  performs_sound of_slots (does.Raise s) t w = raises_sound s
  performs_sound of_slots (does.Catch d to) t w =
      handles_sound (Some (record { into = d; pc = to })) (λ r. (w r).0)
  performs_sound of_slots does.EndCatch t w = handles_sound None (λ _. tt)
