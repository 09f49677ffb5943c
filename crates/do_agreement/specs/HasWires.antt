-- A transcript, and the same with what was sent between its lines.
use Rattle.std.specs.{Prelude.{List, map, ℕ, ◌++◌, ◌≡◌}, List.flat_map}
use Rattle.do_lines.specs.Lines.{joined}
use Rattle.do_network.specs.{declared.wire.Wire.Wire, Wired.wire_line}

-- some lines of a text, and what was sent behind them
pub record Stretch : Type 0 where
  pub lines : List (List ℕ)
  pub wires : List Wire

-- the lines alone
abbrev pub plain_stretch : Stretch → List ℕ
plain_stretch x = joined x.lines

-- the lines, and a line `wire ..` for each that was sent
abbrev pub wired_stretch : Stretch → List ℕ
wired_stretch x = joined x.lines ++ joined (map wire_line x.wires)

-- A text is another with whole lines `wire ..` put between its lines
pub record HasWires (plain text : List ℕ) : Type 0 where
  pub stretches : List Stretch
  pub without : plain ≡ flat_map plain_stretch stretches
  pub whole : text ≡ flat_map wired_stretch stretches
