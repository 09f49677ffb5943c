-- What it is for an act to keep whatever the values that scripts see and make keep.
use Rattle.do_script.specs.declared.instruction.Instruction.TheVariants as does
use Rattle.std.proofs.Common.{◌≡◌, ℕ, zero, suc, Bool, true, false, List as Listed, [], ◌∷◌, ◌++◌}
use Rattle.std.{proofs.Common.{ℤ, refl}, specs.{Prelude.{slice_get, if◌then◌else◌}, List.All}}
use Rattle.std.{specs.Option.IfSome, proofs.lemmas.List.Elements.{All-nil, All-head, All-tail}}
use Rattle.do_base.specs.declared.values.value.Value.{Value, List}
use Rattle.do_base.specs.declared.values.value.Value.TheVariants.{Nil, Num, Text, Obj}
use Rattle.do_base.specs.declared.events.exception.Exc.{Exc, TheVariants.User}
use Rattle.do_class.specs.Class.{Class}
use Rattle.do_script.specs.declared.instruction.Instruction.{Instruction}
use Rattle.do_behave.specs.{Answers.{values_of, HasLocals, IsInRange}, Lists.can_be}
use Rattle.do_behave.specs.declared.{invocation.Invocation.Invocation, act.Act.Act}
use Rattle.do_behave.specs.declared.act.Act.TheVariants.{Raise}

-- what holds of the values that scripts make, where T holds of the texts that code has; of the own
-- object, of the items of lists, and of the texts that are raised
pub record IsKept (inv : Invocation) (Q : Value → Type 0) (T L : Listed ℕ → Type 0) : Type 0 where
  pub nil : Q Nil
  pub number : (z : ℤ) → Q (Num z)
  pub text : (s : Listed ℕ) → T s → Q (Text s)
  pub own : Q (Obj inv.object)
  pub empty : Q (List [])
  pub items : (vs : Listed Value) → Q (List vs) → All Q vs
  pub pushed : (vs : Listed Value) (v : Value) → Q (List vs) → Q v → can_be (vs ++ v ∷ []) ≡ true
      → Q (List (vs ++ v ∷ []))
  pub raised : (s : Listed ℕ) → Q (Text s) → L s

-- the text of an exception
abbrev pub RaisesOnly : (Listed ℕ → Type 0) → Act → Type 0
RaisesOnly L (Raise (User s)) = L s
RaisesOnly L _ = Unit {0}

-- the text that an instruction has
abbrev pub HasText : (Listed ℕ → Type 0) → Instruction → Type 0
HasText T (does.Text d s) = T s
HasText T _ = Unit {0}

-- an act whose values and texts are kept, which has the sixteen locals, and is in range where R
-- holds
pub record IsSound (table : Listed Class) (slots : Listed Value) (Q : Value → Type 0)
    (L : Listed ℕ → Type 0) (R : Type 0) (act : Act) : Type 0 where
  pub values : All Q (values_of act)
  pub locals : HasLocals act
  pub range : R → IsInRange table slots act
  pub raises : RaisesOnly L act

-- a fault holds no value
pub fault_sound : (table : Listed Class) (slots : Listed Value) (Q : Value → Type 0)
    (L : Listed ℕ → Type 0) (R : Type 0)
    (e : Exc) → RaisesOnly L (Raise e) → IsSound table slots Q L R (Raise e)
fault_sound table slots Q L R e only =
    record { values = All-nil Q; locals = tt; range = λ _. tt; raises = only }

-- what holds of both holds of the one that is chosen
pub choice : {A : Type 0} (P : A → Type 0) (b : Bool) (one other : A) → (b ≡ true → P one)
    → P other → P (if b then one else other)
choice P true one other first second = first refl
choice P false one other first second = second

-- what holds of each item holds of one that is found
pub get_kept : (Q : Value → Type 0) (vs : Listed Value) (k : ℕ) → All Q vs
    → IfSome (slice_get vs k) Q
get_kept Q [] k all = tt
get_kept Q (v ∷ vs) zero all = All-head Q v vs all
get_kept Q (v ∷ vs) (suc k) all = get_kept Q vs k (All-tail Q v vs all)
