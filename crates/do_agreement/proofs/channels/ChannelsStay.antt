-- A channel that stands in another network as it stood.
use Rattle.std.{proofs.Common.{◌≡◌, ℕ, List}, specs.Prelude.Some}
use Rattle.do_class.specs.Class.{Class}
use Rattle.do_network.specs.{Links.Part, Net.{Net, channel}, fits.Notes.Note}
use Rattle.do_agreement.specs.CountsFit.{ChannelCarries}

-- it carries what it carried
pub carries_still : {table : List Class} {N M : Net} {a m : ℕ} {p q : Part} {xs : List Note}
    (old : ChannelCarries table N a m p q xs) → channel M a m ≡ Some old.between →
    ChannelCarries table M a m p q xs
carries_still old stands = record {
  between = old.between;
  stands = stands;
  writer = old.writer;
  writes = old.writes;
  reader = old.reader;
  reads = old.reads;
  carries = old.carries;
  marks = old.marks;
}
