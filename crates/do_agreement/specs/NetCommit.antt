-- A network after an effect of one of its sites.
use Rattle.do_network.specs.declared.input.Done.TheVariants as dones
use Rattle.std.specs.Prelude.{List, if◌then◌else◌, ℕ, ◌++◌, ◌==◌}
use Rattle.do_export.specs.Counts.{Counts}
use Rattle.do_machine.specs.declared.state.{Effect.Effect, Parcel.Parcel}
use Rattle.do_network.specs.{Counting.counted, Frames.all_posted, Links.Part}
use Rattle.do_network.specs.{Net.{Net, change_place}, Site.{Handled, handled}, Step.place_after}
use Rattle.do_network.specs.fits.Notes.{Note}
use Rattle.do_agreement.specs.NotesSent.{notes_to}

-- an effect of a site, with the frames that it sends
abbrev pub effected : Part → Effect → Handled
effected p e =
    handled p dones.Moved (record {
      own = counted p.own e;
      posted = all_posted p.own.received e.sent;
      shown = e.shown;
    })

-- the network after an effect of the site of a port
abbrev pub net_commit : ℕ → Part → Effect → Net → Net
net_commit port p e N = change_place port (place_after (effected p e)) N

-- what is under way once a node sent parcels
abbrev pub with_sent : ℕ → Counts → List Parcel → (ℕ → ℕ → List Note) → ℕ → ℕ → List Note
with_sent port received sent under_way from to =
    if from == port then under_way from to ++ notes_to received to sent else under_way from to
