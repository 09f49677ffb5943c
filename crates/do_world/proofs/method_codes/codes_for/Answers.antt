use Rattle.do_world.proofs.method_codes.codes_for.Goals as goal
use Rattle.std.proofs.Common.{◌≡◌, ◌≤◌, ◌∙◌, Some, arith, length, slice_index_or}
use Rattle.std.proofs.lemmas.Result.{err_from_is_err_and}
use Rattle.toml.specs.View.{table_view}
use Rattle.do_behave.specs.Programs.{HasCodes}
use Rattle.do_class.specs.Table.{names_of}
use Rattle.do_class_kinds.specs.declared.kind.Kind.TheVariants.{Script}
use Rattle.do_document.specs.{Classes.kind_of, Sound.{IsClassOf, IsKindOf}}
use Rattle.do_document.proofs.Finding.{turn_end}
use Rattle.do_world.specs.Faults.{codes_fault}
use Rattle.do_world.proofs.CodeLoops.{as_many, codes_all, codes_bad, codes_more, codes_said}
use Rattle.do_world.proofs.CodeLoops.{codes_turn, found_at, found_beside, suit_more}

pub bounds-as_slice-k : goal.bounds-as_slice-k
bounds-as_slice-k c =
    let many =
    as_many IsKindOf (λ t. table_view t.now) c.args.tables.now c.args.kinds.now c.requires.kinds in
    rw c.as_slice.ensures (omega (arith, many, c.loop-k-test.true))

pub codes_at-requires-clause-there : goal.codes_at-requires-clause-there
codes_at-requires-clause-there c =
    let many =
    as_many IsClassOf (λ t. table_view t.now) c.args.tables.now c.args.classes.now
    c.requires.classes in
    omega (arith, many, c.loop-k-test.true)

pub codes_at-requires-clause-class : goal.codes_at-requires-clause-class
codes_at-requires-clause-class c =
    found_beside IsClassOf (λ t. table_view t.now) c.args.tables.now c.args.classes.now c.loop-k.k
    c.index-tables-k.result c.requires.classes c.loop-k-test.true c.index-tables-k.is

pub codes_at-requires-clause-kind : goal.codes_at-requires-clause-kind
codes_at-requires-clause-kind c =
    rw c.as_slice.ensures (found_at IsKindOf (λ t. table_view t.now) c.args.tables.now
    c.args.kinds.now c.loop-k.k c.index-tables-k.result Script c.requires.kinds c.loop-k-test.true
    c.index-tables-k.is)

pub returns-in_err-of_class : goal.returns-in_err-of_class
returns-in_err-of_class c =
    let is : kind_of (table_view c.index-tables-k.result.now)
    ≡ Some (slice_index_or c.as_slice.result.now c.loop-k.k Script) =
    rw c.as_slice.ensures (found_at IsKindOf (λ t. table_view t.now) c.args.tables.now
    c.args.kinds.now c.loop-k.k c.index-tables-k.result Script c.requires.kinds c.loop-k-test.true
    c.index-tables-k.is) in
    let p = err_from_is_err_and c.from_residual-in_err-of_class.result
    c.from_residual-in_err-of_class.ensures.1 in
    rw (p.1, p.2) (codes_bad (λ t. table_view t.now) c.args.tables.now c.loop-k.k
    c.index-tables-k.result c.loop-k-test.true c.index-tables-k.is (names_of c.args.classes.now)
    (slice_index_or c.as_slice.result.now c.loop-k.k Script) is _ c.in_err-of_class.field-0.0
    c.loop-k.invariant.faults (rw c.in_ok-names.ensures.names at c.in_err-of_class.ensures))

pub loop-k-preserved : goal.loop-k-preserved
loop-k-preserved c =
    let many =
    as_many IsClassOf (λ t. table_view t.now) c.args.tables.now c.args.classes.now
    c.requires.classes in
    let is : kind_of (table_view c.index-tables-k.result.now)
    ≡ Some (slice_index_or c.as_slice.result.now c.loop-k.k Script) =
    rw c.as_slice.ensures (found_at IsKindOf (λ t. table_view t.now) c.args.tables.now
    c.args.kinds.now c.loop-k.k c.index-tables-k.result Script c.requires.kinds c.loop-k-test.true
    c.index-tables-k.is) in
    let read = rw c.in_ok-names.ensures.names at c.in_ok-of_class.ensures in
    let said =
    codes_said (λ t. table_view t.now) c.args.tables.now c.loop-k.k c.index-tables-k.result
    c.loop-k-test.true c.index-tables-k.is (names_of c.args.classes.now)
    (slice_index_or c.as_slice.result.now c.loop-k.k Script) is c.in_ok-of_class.of_class
    read.1.0 in
    let grown = c.in_ok-push.ensures.ok in
    record {
      faults = codes_turn (λ t. table_view t.now) c.args.tables.now c.loop-k.k
          c.index-tables-k.result c.loop-k-test.true c.index-tables-k.is
          (names_of c.args.classes.now)
          (slice_index_or c.as_slice.result.now c.loop-k.k Script) is _ c.loop-k.invariant.faults
          read.0;
      made = grown ∙ codes_more (λ t. table_view t.now) c.args.tables.now c.loop-k.k
          c.index-tables-k.result (names_of c.args.classes.now) c.loop-k.codes
          c.in_ok-of_class.of_class c.loop-k-test.true c.loop-k.invariant.made said;
      suit = rw grown (suit_more (HasCodes (length c.args.classes.now)) c.loop-k.codes
          c.args.classes.now c.loop-k.k c.in_ok-of_class.of_class
          (omega (arith, many, c.loop-k-test.true)) c.loop-k.invariant.suit read.1.1);
    }

pub returns : goal.returns
returns c =
    let many =
    as_many IsClassOf (λ t. table_view t.now) c.args.tables.now c.args.classes.now
    c.requires.classes in
    let past : length c.args.tables.now ≤ c.loop-k.k = c.loop-k-test.false in
    let none =
    turn_end (codes_fault (names_of c.args.classes.now)) (λ t. table_view t.now)
    c.args.tables.now c.loop-k.k _ past c.loop-k.invariant.faults in
    let all =
    codes_all (λ t. table_view t.now) c.args.tables.now c.args.classes.now c.loop-k.k
    (names_of c.args.classes.now) c.loop-k.codes (HasCodes (length c.args.classes.now)) past many
    c.loop-k.invariant.made c.loop-k.invariant.suit in
    (none, (all.0, all.1, c.in_ok-names.ensures.table))
