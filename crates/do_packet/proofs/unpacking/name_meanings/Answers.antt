use Rattle.do_packet.proofs.unpacking.name_meanings.Goals as goal
use Rattle.std.proofs.Common.{◌≡◌, Bool, ◌∙◌, take, map, arith, ap, sym, length, false}
use Rattle.std.{proofs.Common.{slice_index_or, ◌<◌, get_or}, specs.List.zip}
use Rattle.std.proofs.lemmas.{Grind.common_steps, Slice.Zip.{length-zip, get_or-zip}}
use Rattle.do_packet.{specs.Unpacking.looked_value, proofs.Following.{zip_next, zip_whole}}

-- equal parts make equal pairs
pair : {a b c d : Bool} → a ≡ b → c ≡ d → ◌≡◌ {A = Bool × Bool} (a, c) (b, d)
pair e f = cc

pub loop-i-preserved : goal.loop-i-preserved
loop-i-preserved c =
    let ns = c.as_slice-items.result.now in
    let es = c.as_slice-entered.result.now in
    let hs = c.as_slice-homes.result.now in
    let i = c.loop-i.i in
    let e = slice_index_or es i false in
    let h = slice_index_or hs i false in
    let le : i < length es = grind (arith, common_steps) in
    let lh : i < length hs = grind (arith, common_steps) in
    let ke : e ≡ get_or es i e = grind (arith, common_steps) in
    let kh : h ≡ get_or hs i h = grind (arith, common_steps) in
    let lz : i < length (zip es hs) = omega (arith, length-zip es hs) in
    let kz : (e, h) ≡ get_or (zip es hs) i (e, h) =
    sym (get_or-zip es hs i (e, h) le lh ∙ pair (sym ke) (sym kh)) in
    let step =
    zip_next ns (zip es hs) i c.index-items-i.result (e, h) (omega arith) lz c.index-items-i.is
    kz in
    rw (c.in_ok-push.ensures.ok, step)
    (grind (arith, common_steps, c.loop-i.invariant, c.name_meaning.ensures))

pub returns : goal.returns
returns c =
    let ns = c.as_slice-items.result.now in
    let es = c.as_slice-entered.result.now in
    let hs = c.as_slice-homes.result.now in
    let e : take c.loop-i.i (zip ns (zip es hs)) ≡ zip ns (zip es hs) =
    zip_whole ns (zip es hs) c.loop-i.i (omega arith) in
    rw (← c.as_slice-items.ensures, ← c.as_slice-entered.ensures, ← c.as_slice-homes.ensures)
    (c.loop-i.invariant ∙ ap (map (looked_value c.args.receipt.now)) e)
