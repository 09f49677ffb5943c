use Rattle.do_frames.proofs.stream.pieces.frames_of.Given as goal
use Rattle.std.proofs.Common.{take}
use Rattle.do_grammar.specs.Grammar.{IsProperFront}
use Rattle.do_frames.specs.{Pieces.{joined_pieces, HasRead}, Streams.Front}

-- the pieces so far were read, up to less than a whole frame
abbrev pub invariant-loop-piece : goal.invariant-loop-piece
invariant-loop-piece l =
    record {
      read : HasRead (joined_pieces (take l.piece-index l.pieces)) l.frames l.reader;
      partial : IsProperFront (Front l.reader.greeted) l.reader.rest;
    }
