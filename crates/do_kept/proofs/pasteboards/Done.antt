-- A call of texts of bytes leaves such a pasteboard, and answers what can be carried.
use Rattle.std.proofs.Common.{◌+◌, ◌++◌, ℕ, ℤ, Bool, true, false, cond, List as Listed, [], ◌∷◌}
use Rattle.std.proofs.Common.{length, map, arith, ◌∙◌}
use Rattle.std.specs.Prelude.{None, Option, Some, nat_le, nat_lt, option_map, pos, slice_get}
use Rattle.std.specs.{Prelude.{is_some, suc, zero}, List.AllByRecursion, Map.keys_of, Option.IfSome}
use Rattle.std.specs.{Ordering.int_eq, Str.bytes_eq}
use Rattle.do_base.specs.{names.Names.ObjectName, declared.values.value.Value.Value}
use Rattle.do_base.specs.declared.values.value.Value.TheVariants.{Nil, Num, Text}
use Rattle.do_grammar.specs.Words.{◌>>?◌}
use Rattle.do_behave.specs.Numbers.{truth}
use Rattle.do_table.specs.Entries.{added, replaced, value_of}
use Rattle.do_pboard.specs.{Acts.{found_now, if_here}, Calls.{as_number, as_object, does}}
use Rattle.do_pboard.specs.{Calls.{text_or_nil, with_count}, Changes.{available, can_grow}}
use Rattle.do_pboard.specs.Changes.{data_for, declared, found, is_owned, keep_at, keeps, owned}
use Rattle.do_pboard.specs.{Changes.{takes, with_all, with_types}, Core.{Declared, Pasteboard}}
use Rattle.do_pboard.specs.declared.board.BoardData.{BoardData, TheVariants.{Absent, Ask, Here}}
use Rattle.do_pboard.specs.declared.calls.Call.{Call}
use Rattle.do_pboard.specs.declared.calls.Call.TheVariants.{AddTypes, Available, ChangeCount}
use Rattle.do_pboard.specs.declared.calls.Call.TheVariants.{Declare, Keep, SetData, Types}
use Rattle.do_facts.proofs.EachOfLists.{each_joined, each_mapped, each_weaker}
use Rattle.do_kept.proofs.Limited.{HasAtoms, atoms-Nil, atoms-Obj, atoms-Text, count_atoms}
use Rattle.do_kept.proofs.{Limited.{list_atoms, truth_atoms}, ReadValues.{AreOfBytes, IsOfBytes}}
use Rattle.do_kept.proofs.{ReadValues.if_passed, Tables.{texts_atoms, value_is}}
use Rattle.do_kept.proofs.pasteboards.Read.{AreDeclared, IsBoard, IsDeclared, IsNamed, below}
use Rattle.do_kept.proofs.pasteboards.Written.{kinds_are}

-- a call of texts of bytes
abbrev pub IsCallOf : Call → Type 0
IsCallOf (Declare types owner) = AreOfBytes types
IsCallOf (AddTypes types owner) = AreOfBytes types
IsCallOf (SetData content kind count) = IsOfBytes content
IsCallOf (Available texts) = AreOfBytes texts
IsCallOf (Keep name board) = IsOfBytes name
IsCallOf _ = Unit {0}

-- what is done leaves such a pasteboard, and answers what has atoms
abbrev pub IsDone : Pasteboard × Value → Type 0
IsDone done = IsBoard done.0 × HasAtoms done.1

-- declared types with more
with_types_are : (ts : Listed Declared) (more : Listed (Listed ℕ)) → AreDeclared ts →
    AreOfBytes more → AreDeclared (with_types ts more)
with_types_are ts [] h k = h
with_types_are ts (t ∷ more) h k =
    with_types_are (added ts t None) more (go (is_some (value_of ts t))) k.1
  where
    go : (b : Bool) → AreDeclared (cond b ts (ts ++ (t, None) ∷ []))
    go true = h
    go false = each_joined IsDeclared ts ((t, None) ∷ []) h ((k.0, tt), tt)

-- types once the data of one is set
replaced_are : (ts : Listed Declared) (kind content : Listed ℕ) → AreDeclared ts →
    IsOfBytes content → AreDeclared (replaced ts kind (Some content))
replaced_are [] kind content h k = tt
replaced_are (t ∷ ts) kind content h k =
    go (bytes_eq kind t.0) (replaced_are ts kind content h.1 k)
  where
    go : (b : Bool) → AreDeclared (replaced ts kind (Some content)) →
        AreDeclared (cond b ((t.0, Some content) ∷ ts) (t ∷ replaced ts kind (Some content)))
    go true rest = ((h.0.0, k), h.1)
    go false rest = (h.0, rest)

-- what is kept under a name
pub kept_is : (b : Pasteboard) (name : Listed ℕ) (board : ObjectName) → IsBoard b → IsOfBytes name →
    IfSome (keeps b name board) (λ d. IsBoard d.0)
kept_is b name board h k = go (value_of b.boards name)
  where
    go : (o : Option ObjectName) → IfSome (keep_at b name board o) (λ d. IsBoard d.0)
    go (Some had) = h
    go None =
        if_passed (λ (d : Pasteboard × ObjectName). IsBoard d.0) (nat_lt (length b.boards) 256)
        (record b { boards = b.boards ++ (name, board) ∷ [] }, board)
        (λ e. (h.0, (h.1.0, each_joined IsNamed b.boards ((name, board) ∷ []) h.1.1 (k, tt))))

-- what a call does
pub done_is : (b : Pasteboard) (call : Call) → IsBoard b → IsCallOf call →
    IfSome (does b call) IsDone
done_is b (Declare types owner) h k =
    if_passed IsDone (can_grow b.count) (with_count (declared b types owner)) (λ e.
    let less = below (b.count + 1) e in (
      (
        less,
        (
          each_mapped IsDeclared (λ (t : Listed ℕ). (t, None)) types
              (each_weaker IsOfBytes (λ (t : Listed ℕ). IsOfBytes t × Unit {0})
              (λ t q. (q, tt)) types k),
          h.1.1,
        ),
      ),
      count_atoms (b.count + 1) less,
    ))
done_is b (AddTypes types owner) h k =
    go (is_owned b owner) (nat_le (length (with_types b.types types)) 64)
  where
    go : (s t : Bool) → IfSome (option_map as_number (cond s (option_map (with_all b)
        (cond t (Some (with_types b.types types)) None)) (Some (b, pos 0)))) IsDone
    go true true =
        ((h.0, (with_types_are b.types types h.1.0 k, h.1.1)), count_atoms b.count h.0)
    go true false = tt
    go false t = (h, count_atoms 0 (omega arith))
done_is b (SetData content kind count) h k = go (takes b kind count)
  where
    Left : Pasteboard × Bool → Type 0
    Left d = IsDone (d.0, Num (truth d.1))

    go : (t : Bool) → Left
        (cond t (record b { types = replaced b.types kind (Some content) }, true) (b, false))
    go true = ((h.0, (replaced_are b.types kind content h.1.0 k, h.1.1)), truth_atoms true)
    go false = (h, truth_atoms false)
done_is b (Available texts) h k = (h, go (available b texts))
  where
    at : (ts : Listed (Listed ℕ)) (n : ℕ) → AreOfBytes ts → HasAtoms (text_or_nil (slice_get ts n))
    at [] n q = atoms-Nil
    at (t ∷ ts) zero q = atoms-Text t ∙ q.0
    at (t ∷ ts) (suc n) q = at ts n q.1

    go : (o : Option ℕ) → HasAtoms (text_or_nil (o >>? λ n. slice_get texts n))
    go None = atoms-Nil
    go (Some n) = at texts n k
done_is b Types h k = (
  h,
  list_atoms (map Text (keys_of b.types)) (texts_atoms (keys_of b.types) (kinds_are b.types h.1.0)),
)
done_is b ChangeCount h k = (h, count_atoms b.count h.0)
done_is b (Keep name board) h k = go (keeps b name board) (kept_is b name board h k)
  where
    go : (o : Option (Pasteboard × ObjectName)) → IfSome o (λ d. IsBoard d.0) →
        IfSome (option_map as_object o) IsDone
    go None q = tt
    go (Some d) q = (q, atoms-Obj d.1)

-- data of bytes
abbrev pub IsData : BoardData → Type 0
IsData (Here content) = IsOfBytes content
IsData _ = Unit {0}

-- the data of a type
pub data_is : (b : Pasteboard) (kind : Listed ℕ) → IsBoard b → IsData (data_for b kind)
data_is b kind h =
    go (value_of b.types kind)
    (value_is (λ (o : Option (Listed ℕ)). IfSome o IsOfBytes) b.types kind (each b.types h.1.0))
  where
    each : (ts : Listed Declared) → AreDeclared ts →
        AllByRecursion (λ (t : Declared). IfSome t.1 IsOfBytes) ts
    each [] h = tt
    each (t ∷ ts) h = (h.0.1, each ts h.1)

    none : (owner : Option ObjectName) → IsData (owned owner)
    none None = tt
    none (Some o) = tt

    go : (o : Option (Option (Listed ℕ))) → IfSome o (λ c. IfSome c IsOfBytes) →
        IsData (found b.owner o)
    go None k = tt
    go (Some None) k = none b.owner
    go (Some (Some content)) k = k

-- what is found now
pub now_atoms : (b : Pasteboard) (kind : Listed ℕ) (count : ℤ) → IsBoard b →
    HasAtoms (found_now b kind count)
now_atoms b kind count h = one (int_eq count (pos b.count)) (data_for b kind) (data_is b kind h)
  where
    here : (d : BoardData) → IsData d → HasAtoms (if_here d)
    here (Here content) k = atoms-Text content ∙ k
    here (Ask owner) k = atoms-Nil
    here Absent k = atoms-Nil

    one : (t : Bool) (d : BoardData) → IsData d → HasAtoms (cond t (if_here d) Nil)
    one true d k = here d k
    one false d k = atoms-Nil
