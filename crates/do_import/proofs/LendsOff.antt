-- What one lend more or less takes off, along the rows of lends.
use Rattle.std.proofs.Common.{◌≡◌, ℕ, ◌+◌, true, false, cond, ◌==◌, List, ◌∷◌, Some, slice_get}
use Rattle.std.{proofs.Common.{drop, ◌∙◌, sym, ap, map as each}, specs.Prelude.filter}
use Rattle.do_base.specs.names.Names.{ObjectName}
use Rattle.do_export.specs.Counts.{Counts}
use Rattle.do_import.specs.{ByObject.taken_off, Imported.{all_off, lent_to}}
use Rattle.do_import.proofs.NextRow.{drop_row}

-- a row of the lends
abbrev Row : Type 0
Row = (ℕ × ℕ) × ObjectName

-- a lend to the borrower is taken off first
pub next_lent : (c : Counts) (b : ℕ) (rows : List Row) (i : ℕ) (row : Row)
    → slice_get rows i ≡ Some row → (row.0.0 == b) ≡ true
    → all_off (taken_off c row.1) (lent_to b (drop (i + 1) rows))
    ≡ all_off c (lent_to b (drop i rows))
next_lent c b rows i row at is =
    sym (ap (λ l. all_off c (lent_to b l)) (drop_row rows i row at)
    ∙ ap (λ t. all_off c (each (λ x. x.1) (cond t
    (row ∷ filter (λ x. x.0.0 == b) (drop (i + 1) rows))
    (filter (λ x. x.0.0 == b) (drop (i + 1) rows))))) is)

-- a lend to another is passed over
pub next_other : (c : Counts) (b : ℕ) (rows : List Row) (i : ℕ) (row : Row)
    → slice_get rows i ≡ Some row → (row.0.0 == b) ≡ false
    → all_off c (lent_to b (drop (i + 1) rows)) ≡ all_off c (lent_to b (drop i rows))
next_other c b rows i row at is =
    sym (ap (λ l. all_off c (lent_to b l)) (drop_row rows i row at)
    ∙ ap (λ t. all_off c (each (λ x. x.1) (cond t
    (row ∷ filter (λ x. x.0.0 == b) (drop (i + 1) rows))
    (filter (λ x. x.0.0 == b) (drop (i + 1) rows))))) is)
