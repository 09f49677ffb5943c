use Rattle.do_coder.proofs.read.name.slow_new.Goals as goal
use Rattle.std.proofs.Common.{◌≡◌, ◌≤◌, List, ℕ, false, ap, sym, subst, ◌∙◌, arith}
use Rattle.do_grammar.specs.BesideHoles.{next_beside, is_hole}
use Rattle.do_coder.specs.Names.{taken_with, taken_whole}
use Rattle.do_coder.proofs.tables.TakenPairs.{some_serial, class_left, free_none}

pub num_beside_of-requires : goal.num_beside_of-requires
num_beside_of-requires c =
    let table = c.args.recent.now.now in
    let holes : c.as_slice.result.now ≡ taken_whole c.args.classes table = c.as_slice.ensures
    ∙ c.in_ok-whole.ensures in
    subst (λ (w : List ℕ). next_beside w 1 ≤ 9223372036854775807) (sym holes)
    (some_serial c.args.classes table c.len-few.ensures.recent.few)

pub num_beside_of-requires-2 : goal.num_beside_of-requires-2
num_beside_of-requires-2 c =
    let table = c.args.recent.now.now in
    let whole : c.as_slice.result.now ≡ taken_whole c.args.classes table = c.as_slice.ensures
    ∙ c.in_ok-whole.ensures in
    let holes : c.as_slice-2.result.now ≡ taken_with c.in_ok-serial.serial table =
    c.as_slice-2.ensures ∙ c.in_ok-taken.ensures
    ∙ ap (taken_with c.in_ok-serial.serial) c.pairs.ensures in
    let free : is_hole (taken_whole c.args.classes table) c.in_ok-serial.serial ≡ false =
    subst (λ (w : List ℕ). is_hole w c.in_ok-serial.serial
    ≡ false) whole c.in_ok-serial.ensures.exact.spelled.fits.beside in
    let left = class_left c.args.classes c.in_ok-serial.serial table free in
    subst (λ (w : List ℕ). next_beside w 0 ≤ c.from.result) (sym holes)
    (omega (arith, left, c.from.ensures))

pub returns-clause-new : goal.returns-clause-new
returns-clause-new c =
    let table = c.args.recent.now.now in
    let holes : c.as_slice-2.result.now ≡ taken_with c.in_ok-serial.serial table =
    c.as_slice-2.ensures ∙ c.in_ok-taken.ensures
    ∙ ap (taken_with c.in_ok-serial.serial) c.pairs.ensures in
    free_none c.in_ok-serial.serial c.in_ok-class.class table
    (subst (λ (w : List ℕ). is_hole w c.in_ok-class.class
    ≡ false) holes c.in_ok-class.ensures.exact.spelled.fits.beside)
