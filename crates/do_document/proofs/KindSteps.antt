-- What stands at `native`, and the kind that it is.
use Rattle.std.{proofs.Common.{◌≡◌, ℕ, List, Some, None}, specs.Prelude.codes}
use Rattle.toml.specs.Data.{Data, Members, as_str, get_member}
use Rattle.do_class_kinds.specs.{Kinds.kind_named, declared.kind.Kind.{Kind, TheVariants.Script}}
use Rattle.do_document.specs.{Checks.{is_text_with, misfit}, ClassFaults.is_kind, Classes.kind_of}
use Rattle.do_document.specs.{Paths.path, declared.{place.Place.Place, fault.WorldFault.WorldFault}}
use Rattle.do_document.specs.declared.fault.WorldFault.TheVariants.{Wrong}
use Rattle.do_document.proofs.InOrder.{Is, Tells, told}

-- a class that names no kind is of scripts
pub kind_absent : (place : Place) (t : Members) → get_member (codes "native") t ≡ None
    → (misfit place (codes "native") (is_text_with is_kind) t ≡ None) × (kind_of t ≡ Some Script)
unfolding misfit kind_of
kind_absent place t none = (rw none, rw none)

-- what stands there is no text
pub kind_no_text : (place : Place) (t : Members) (d : Data) (e : WorldFault)
    → get_member (codes "native") t ≡ Some d → as_str d ≡ None
    → Is (Wrong (path place (codes "native"))) e
    → Tells (misfit place (codes "native") (is_text_with is_kind) t) e
unfolding misfit
kind_no_text place t d e there none is =
    let same : misfit place (codes "native") (is_text_with is_kind) t
    ≡ Some (Wrong (path place (codes "native"))) = rw (there, none) in
    told (misfit place (codes "native") (is_text_with is_kind) t)
    (Wrong (path place (codes "native"))) e same is

-- a text that names no kind
pub kind_unknown : (place : Place) (t : Members) (d : Data) (s : List ℕ) (e : WorldFault)
    → get_member (codes "native") t ≡ Some d → as_str d ≡ Some s → kind_named s ≡ None
    → Is (Wrong (path place (codes "native"))) e
    → Tells (misfit place (codes "native") (is_text_with is_kind) t) e
unfolding misfit
kind_unknown place t d s e there text none is =
    let same : misfit place (codes "native") (is_text_with is_kind) t
    ≡ Some (Wrong (path place (codes "native"))) = rw (there, text, none) in
    told (misfit place (codes "native") (is_text_with is_kind) t)
    (Wrong (path place (codes "native"))) e same is

-- a text that names a kind
pub kind_there : (place : Place) (t : Members) (d : Data) (s : List ℕ) (kind : Kind)
    → get_member (codes "native") t ≡ Some d → as_str d ≡ Some s → kind_named s ≡ Some kind
    → (misfit place (codes "native") (is_text_with is_kind) t ≡ None) × (kind_of t ≡ Some kind)
unfolding misfit kind_of
kind_there place t d s kind there text named = (rw (there, text, named), rw (there, text, named))
