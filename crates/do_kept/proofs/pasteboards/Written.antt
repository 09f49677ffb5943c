-- The slots of a pasteboard of texts of bytes can be carried.
use Rattle.std.proofs.Common.{ℕ, Bool, true, false, cond, List as Listed, [], ◌∷◌, map, ◌∙◌}
use Rattle.std.specs.{Prelude.{None, Option, Some, nat_lt, pos}, List.AllByRecursion, Map.keys_of}
use Rattle.std.specs.Option.{IfSome}
use Rattle.do_base.specs.names.Names.{ObjectName}
use Rattle.do_base.specs.declared.values.value.Value.TheVariants.{Nil, Num, Obj, Text}
use Rattle.do_pboard.specs.Core.{Content, Declared, NamedBoard, Pasteboard, board_row, content_row}
use Rattle.do_pboard.specs.Core.{contents, owner_value, to_slots, with_content}
use Rattle.do_facts.proofs.EachOfLists.{each_mapped, each_weaker}
use Rattle.do_kept.proofs.Limited.{AllHaveAtoms, HasAtoms, atoms-Nil, atoms-Obj, atoms-Text}
use Rattle.do_kept.proofs.Limited.{count_atoms, list_atoms, listed_atoms}
use Rattle.do_kept.proofs.{ReadValues.{AreOfBytes, IsOfBytes}, Tables.texts_atoms}
use Rattle.do_kept.proofs.pasteboards.Read.{AreDeclared, IsBoard, IsContent, IsNamed}

-- the names of types
pub kinds_are : (ts : Listed Declared) → AreDeclared ts → AreOfBytes (keys_of ts)
kinds_are [] h = tt
kinds_are (t ∷ ts) h = (h.0.0, kinds_are ts h.1)

-- the data of types
data_are : (ts : Listed Declared) → AreDeclared ts → AllByRecursion IsContent (contents ts)
data_are [] h = tt
data_are (t ∷ ts) h = go t.1 h.0.1 (data_are ts h.1)
  where
    go : (o : Option (Listed ℕ)) → IfSome o IsOfBytes → AllByRecursion IsContent (contents ts) →
        AllByRecursion IsContent (with_content t.0 o (contents ts))
    go None k rest = rest
    go (Some content) k rest = ((h.0.0, k), rest)

-- the slots of a pasteboard have atoms
pub slots_atoms : (b : Pasteboard) → IsBoard b → AllHaveAtoms (to_slots b)
slots_atoms b h = (
  count (nat_lt 0 b.count),
  (
    owner b.owner,
    (
      listed_atoms (map Text (keys_of b.types))
          (texts_atoms (keys_of b.types) (kinds_are b.types h.1.0)),
      (
        listed_atoms (map content_row (contents b.types))
            (each_mapped HasAtoms content_row (contents b.types)
            (each_weaker IsContent (λ d. HasAtoms (content_row d)) content (contents b.types)
            (data_are b.types h.1.0))),
        (
          listed_atoms (map board_row b.boards)
              (each_mapped HasAtoms board_row b.boards
              (each_weaker IsNamed (λ p. HasAtoms (board_row p)) board b.boards h.1.1)),
          tt,
        ),
      ),
    ),
  ),
)
  where
    count : (t : Bool) → HasAtoms (cond t (Num (pos b.count)) Nil)
    count true = count_atoms b.count h.0
    count false = atoms-Nil

    owner : (o : Option ObjectName) → HasAtoms (owner_value o)
    owner None = atoms-Nil
    owner (Some o) = atoms-Obj o

    content : (d : Content) → IsContent d → HasAtoms (content_row d)
    content d k =
        list_atoms (Text d.0 ∷ Text d.1 ∷ []) (atoms-Text d.0 ∙ k.0, (atoms-Text d.1 ∙ k.1, tt))

    board : (p : NamedBoard) → IsNamed p → HasAtoms (board_row p)
    board p k = list_atoms (Text p.0 ∷ Obj p.1 ∷ []) (atoms-Text p.0 ∙ k, (atoms-Obj p.1, tt))
