-- What comes over an open end is known.
use Rattle.std.proofs.Common.{◌≡◌, ◌≢◌, ◌<◌, ℕ, Bool, true, false, refl, arith}
use Rattle.std.proofs.lemmas.Bool.Decides.{nat_tests}
use Rattle.do_facts.specs.Net.{Net}
use Rattle.do_facts.specs.links.Facts.{LinksHold, ReportsAreKnown, lends_to, open_in, settled}
use Rattle.do_facts.{specs.links.Links.{Atom, Links}, proofs.links.ListsChanged.lend_there}

-- each report is known
pub reports_known : (net : Net Links Atom) → LinksHold net → ReportsAreKnown net
reports_known net hold = record {
  settled = λ n m t d o h. known n m t d o h (lends_to net n t m) refl;
  answered = λ m h s l t d o k.
      let one = (hold.asks m h s l t).once d o in
      (grind (arith, nat_tests, one, k), grind (arith, nat_tests, one, k));
  lent = λ n m h s t d k. grind (arith, nat_tests, (hold.lends n m h s t).once d, k);
}
  where
    known : (n m t : ℕ) → n ≢ m → open_in net n m ≡ true → 0 < settled net n m t → (b : Bool) →
        lends_to net n t m ≡ b → (settled net n m t ≡ 1) × (lends_to net n t m ≡ true)
    known n m t d o h true e =
        let there = lend_there m t (net.part n).lent e in
        let most = (hold.lends n m there.0 there.1 t).most d o there.2 in
        (omega (arith, h, most), e)
    known n m t d o h false e =
        absurd (omega (arith, h, (hold.lends n m 0 0 t).told d o e))
