use Rattle.do_frames.proofs.stream.pieces.frames_of.Goals as goal
use Rattle.std.proofs.Common.{◌≡◌, ℕ, ◌+◌, List, ◌++◌, take, get_or, subst, arith}
use Rattle.std.proofs.lemmas.{Grind.common_steps, List.take_all, Result.err_from_is_err_and}
use Rattle.do_frames.specs.Pieces.{joined_pieces, HasRead, FindsNoMore}
use Rattle.do_frames.proofs.streams.PiecesExact.{nothing_read, nothing_front, piece_read, has_split}
use Rattle.do_frames.proofs.streams.PiecesExact.{has_only, next_piece}

pub loop-piece-init : goal.loop-piece-init
loop-piece-init c =
    rw (c.new-reader.ensures, c.new-frames.ensures) (record {
      read = nothing_read;
      partial = nothing_front;
    })

pub loop-piece-preserved : goal.loop-piece-preserved
loop-piece-preserved c =
    let pieces = c.args.pieces.now in
    let fed = joined_pieces (take c.loop-piece.piece-index pieces) in
    let piece = c.as_slice.result.now in
    let before : HasRead (fed ++ piece) c.loop-piece.frames c.feed.new.self =
    rw c.in_ok-feed.ensures.ok
    (piece_read fed piece c.loop-piece.frames c.loop-piece.reader c.loop-piece.invariant.read) in
    let read = c.in_ok-take_all.ensures.read (fed ++ piece) before in
    let here : c.piece-item.result ≡ get_or pieces c.loop-piece.piece-index c.piece-item.result =
    grind (arith, common_steps) in
    let same : fed ++ piece ≡ joined_pieces (take (c.loop-piece.piece-index + 1) pieces) =
    next_piece pieces c.loop-piece.piece-index piece c.piece-item.result c.as_slice.ensures here
    c.loop-piece-test.true in
    record {
      read = subst (λ (w : List ℕ). HasRead w c.take_all.new.frames c.take_all.new.reader) same
          read;
      partial = c.in_ok-take_all.ensures.none;
    }

pub returns-clause-split : goal.returns-clause-split
returns-clause-split c =
    let pieces = c.args.pieces.now in
    let whole = take_all c.loop-piece.piece-index pieces c.loop-piece-test.false in
    let read : HasRead (joined_pieces pieces) c.loop-piece.frames c.loop-piece.reader =
    subst (λ (w : List (List ℕ)). HasRead (joined_pieces w) c.loop-piece.frames c.loop-piece.reader)
    whole c.loop-piece.invariant.read in (
      c.loop-piece.reader.rest,
      has_split (joined_pieces pieces) c.loop-piece.frames c.loop-piece.reader read
          c.loop-piece.invariant.partial,
    )

pub returns-clause-only : goal.returns-clause-only
returns-clause-only c =
    let pieces = c.args.pieces.now in
    let whole = take_all c.loop-piece.piece-index pieces c.loop-piece-test.false in
    let read : HasRead (joined_pieces pieces) c.loop-piece.frames c.loop-piece.reader =
    subst (λ (w : List (List ℕ)). HasRead (joined_pieces w) c.loop-piece.frames c.loop-piece.reader)
    whole c.loop-piece.invariant.read in
    has_only (joined_pieces pieces) c.loop-piece.frames c.loop-piece.reader read
    c.loop-piece.invariant.partial

pub returns-in_err-feed-clause-bad : goal.returns-in_err-feed-clause-bad
returns-in_err-feed-clause-bad c =
    let p = err_from_is_err_and c.from_residual.result c.from_residual.ensures.1 in
    rw (p.1, p.2) (0, tt)

pub returns-in_err-take_all-clause-bad : goal.returns-in_err-take_all-clause-bad
returns-in_err-take_all-clause-bad c =
    let pieces = c.args.pieces.now in
    let fed = joined_pieces (take c.loop-piece.piece-index pieces) in
    let piece = c.as_slice.result.now in
    let before : HasRead (fed ++ piece) c.loop-piece.frames c.feed.new.self =
    rw c.in_ok-feed.ensures.ok
    (piece_read fed piece c.loop-piece.frames c.loop-piece.reader c.loop-piece.invariant.read) in
    let here : c.piece-item.result ≡ get_or pieces c.loop-piece.piece-index c.piece-item.result =
    grind (arith, common_steps) in
    let same : fed ++ piece ≡ joined_pieces (take (c.loop-piece.piece-index + 1) pieces) =
    next_piece pieces c.loop-piece.piece-index piece c.piece-item.result c.as_slice.ensures here
    c.loop-piece-test.true in
    let p = err_from_is_err_and c.from_residual-in_err-take_all.result
    c.from_residual-in_err-take_all.ensures.1 in
    rw (p.1, p.2) (
      c.loop-piece.piece-index + 1,
      subst (λ (w : List ℕ). FindsNoMore w c.in_err-take_all.field-0.0) same
          (c.in_err-take_all.ensures.bad (fed ++ piece) before),
    )
