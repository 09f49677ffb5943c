-- Dropping the lines that say what was sent gives the same, wherever they were put in.
use Rattle.std.proofs.Common.{◌≡◌, ◌≢◌, ◌==◌, ◌/◌, ◌%◌, ◌+◌, ℕ, zero, suc, Bool, true, false, cond}
use Rattle.std.proofs.Common.{List, [], ◌∷◌, ◌++◌, map, refl, sym, ap, ◌∙◌, append_assoc, arith}
use Rattle.std.specs.{Prelude.{codes, filter, nat_lt}, List.flat_map}
use Rattle.std.specs.Fmt.{decimal, digit_glyph, digits, digits_onto}
use Rattle.std.proofs.lemmas.{Grind.flat_map-append, List.{append-nil, Elements.filter-append}}
use Rattle.do_grammar.specs.{Lines.{Line, cut, in_front, line_bytes}, Quoted.hex_digit}
use Rattle.do_grammar.specs.Words.{Without}
use Rattle.do_grammar.proofs.texts.{LinesExact.cut_line, WordBytes.{Without-append, Without-passes}}
use Rattle.do_lines.specs.Lines.{joined}
use Rattle.do_network.specs.{declared.wire.Wire.Wire, Wired.{hex_byte, wire_line}}
use Rattle.do_agreement.specs.HasWires.{HasWires, Stretch, plain_stretch, wired_stretch}
use Rattle.do_agreement.specs.WithoutWires.{is_local, without_wires}

-- ---- lines in a row

-- How a line with its line feed is cut off, whatever stands behind it
record Cuts (line : List ℕ) : Type 0 where
  first : Line
  others : List Line
  is : (rest : List ℕ) → cut (line ++ 10 ∷ rest) ≡ first ∷ (others ++ cut rest)

-- one byte more in front of a line
byte_more : (b : ℕ) (line : List ℕ) → Cuts line → (t : Bool) → (b == 10) ≡ t → Cuts (b ∷ line)
byte_more b line c true e = record {
  first = record { text = []; fed = true };
  others = c.first ∷ c.others;
  is = λ rest.
      ap (λ t. cond t (record { text = []; fed = true } ∷ cut (line ++ 10 ∷ rest))
      (in_front b (cut (line ++ 10 ∷ rest)))) e
      ∙ ap (λ ls. record { text = []; fed = true } ∷ ls) (c.is rest);
}
byte_more b line c false e = record {
  first = record { text = b ∷ c.first.text; fed = c.first.fed };
  others = c.others;
  is = λ rest.
      ap (λ t. cond t (record { text = []; fed = true } ∷ cut (line ++ 10 ∷ rest))
      (in_front b (cut (line ++ 10 ∷ rest)))) e
      ∙ ap (in_front b) (c.is rest);
}

-- each line is cut off so
line_cuts : (line : List ℕ) → Cuts line
line_cuts [] = record { first = record { text = []; fed = true }; others = []; is = λ rest. refl }
line_cuts (b ∷ line) = byte_more b line (line_cuts line) (b == 10) refl

-- the lines of lines in a row and of what stands behind them
joined_cut : (ls : List (List ℕ)) (rest : List ℕ) →
    cut (joined ls ++ rest) ≡ cut (joined ls) ++ cut rest
joined_cut [] rest = refl
joined_cut (l ∷ ls) rest =
    let c = line_cuts l in
    let behind = joined ls in
    let one = λ (more : List ℕ).
    ap cut (append_assoc l (10 ∷ []) more) ∙ c.is more in
    ap cut (append_assoc (l ++ 10 ∷ []) behind rest)
    ∙ one (behind ++ rest)
    ∙ ap (λ t. c.first ∷ (c.others ++ t)) (joined_cut ls rest)
    ∙ ap (λ t. c.first ∷ t) (sym (append_assoc c.others (cut behind) (cut rest)))
    ∙ ap (λ t. t ++ cut rest) (sym (one behind))

-- what is kept of lines in a row and of what stands behind them
joined_kept : (ls : List (List ℕ)) (rest : List ℕ) →
    without_wires (joined ls ++ rest) ≡ without_wires (joined ls) ++ without_wires rest
joined_kept ls rest =
    ap (λ xs. flat_map line_bytes (filter is_local xs)) (joined_cut ls rest)
    ∙ ap (flat_map line_bytes) (filter-append is_local (cut (joined ls)) (cut rest))
    ∙ flat_map-append line_bytes (filter is_local (cut (joined ls))) (filter is_local (cut rest))

-- ---- lines that say what was sent

-- no digit is a line feed
glyph_no_feed : (d : ℕ) → digit_glyph false d ≢ 10
glyph_no_feed d = go (nat_lt d 10)
  where
    go : (t : Bool) → cond t (48 + d) (87 + d) ≢ 10
    go true = λ (e : 48 + d ≡ 10). omega arith
    go false = λ (e : 87 + d ≡ 10). omega arith

-- nor does one stand before what has none
digits_free : (k n : ℕ) (behind : List ℕ) → Without 10 behind →
    Without 10 (digits_onto k 10 false n behind)
digits_free zero n behind free = free
digits_free (suc k) n behind free =
    go (n / 10 == 0) (digits_free k (n / 10) (digit_glyph false (n % 10) ∷ behind)
    (glyph_no_feed (n % 10), free))
  where
    go : (t : Bool) → Without 10 (digits_onto k 10 false (n / 10)
        (digit_glyph false (n % 10) ∷ behind)) →
        Without 10 (cond t (digit_glyph false (n % 10) ∷ behind)
        (digits_onto k 10 false (n / 10) (digit_glyph false (n % 10) ∷ behind)))
    go true more = (glyph_no_feed (n % 10), free)
    go false more = more

-- a number has none
decimal_free : (n : ℕ) → Without 10 (decimal n)
unfolding digits
decimal_free n = digits_free 64 n [] tt

-- nor has a hexadecimal digit
hex_no_feed : (n : ℕ) → hex_digit n ≢ 10
hex_no_feed n = go (nat_lt n 10)
  where
    go : (t : Bool) → cond t (48 + n) (87 + n) ≢ 10
    go true = λ (e : 48 + n ≡ 10). omega arith
    go false = λ (e : 87 + n ≡ 10). omega arith

-- nor have bytes in such digits
hex_free : (bytes : List ℕ) → Without 10 (flat_map hex_byte bytes)
hex_free [] = tt
hex_free (b ∷ bytes) = (hex_no_feed (b / 16), (hex_no_feed (b % 16), hex_free bytes))

-- a line that says what was sent has none
wire_free : (w : Wire) → Without 10 (wire_line w)
wire_free w =
    let blank : ◌≢◌ {A = ℕ} 32 10 = λ e. cc in
    Without-append 10 (codes "wire " ++ decimal w.from)
    (32 ∷ (decimal w.to ++ 32 ∷ flat_map hex_byte w.bytes))
    (Without-append 10 (codes "wire ") (decimal w.from)
    (Without-passes (λ b. nat_lt 10 b) 10 (codes "wire ") refl refl) (decimal_free w.from)) (
      blank,
      Without-append 10 (decimal w.to) (32 ∷ flat_map hex_byte w.bytes) (decimal_free w.to) (
        blank,
        hex_free w.bytes,
      ),
    )

-- so nothing is kept of it
wire_dropped : (w : Wire) → without_wires (wire_line w ++ 10 ∷ []) ≡ []
wire_dropped w =
    ap (λ xs. flat_map line_bytes (filter is_local xs)) (cut_line (wire_line w) [] (wire_free w))

-- nor of others behind it
wires_dropped : (ws : List Wire) → without_wires (joined (map wire_line ws)) ≡ []
wires_dropped [] = refl
wires_dropped (w ∷ ws) =
    let line = wire_line w in
    let one = append-nil (line ++ 10 ∷ []) in
    ap (λ t. without_wires (t ++ joined (map wire_line ws))) (sym one)
    ∙ joined_kept (line ∷ []) (joined (map wire_line ws))
    ∙ ap (λ t. without_wires t ++ without_wires (joined (map wire_line ws))) one
    ∙ ap (λ t. t ++ without_wires (joined (map wire_line ws))) (wire_dropped w)
    ∙ wires_dropped ws

-- ---- texts

-- stretches of lines with what was sent in them, and without
stretches_same : (xs : List Stretch) →
    without_wires (flat_map wired_stretch xs) ≡ without_wires (flat_map plain_stretch xs)
stretches_same [] = refl
stretches_same (x ∷ xs) =
    let here = joined x.lines in
    let sent = joined (map wire_line x.wires) in
    let rest = flat_map wired_stretch xs in
    ap without_wires (append_assoc here sent rest)
    ∙ joined_kept x.lines (sent ++ rest)
    ∙ ap (λ t. without_wires here ++ t)
    (joined_kept (map wire_line x.wires) rest
    ∙ ap (λ t. t ++ without_wires rest) (wires_dropped x.wires)
    ∙ stretches_same xs)
    ∙ sym (joined_kept x.lines (flat_map plain_stretch xs))

-- so both texts have the same lines, but for those that say what was sent
pub wires_fall_out : (plain text : List ℕ) → HasWires plain text →
    without_wires text ≡ without_wires plain
wires_fall_out plain text has =
    ap without_wires has.whole ∙ stretches_same has.stretches ∙ sym (ap without_wires has.without)
