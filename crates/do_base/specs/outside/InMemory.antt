-- The shelf and the sink in memory.
use Rattle.std.specs.Prelude.{ℕ, List, Contains}
use Rattle.do_base.specs.{outside.Causes.next_count, declared.outside.shelf.NamedFile.NamedFile}

-- a shelf's files, the numbers of the fetches that fail, and the counts of fetches and of faults
pub record ShelfState : Type 0 where
  pub files : List NamedFile
  pub fail : List ℕ
  pub calls : ℕ
  pub faults : ℕ

-- the bytes written to a sink, the numbers of the puts that fail, and the counts of puts and of
-- faults
pub record SinkState : Type 0 where
  pub bytes : List ℕ
  pub fail : List ℕ
  pub calls : ℕ
  pub faults : ℕ

-- the next call is one of those listed to fail
abbrev pub FailsNext : List ℕ → ℕ → Type 0
FailsNext fail calls = Contains fail (next_count calls)

-- a shelf after one more fetch, which left it with this count of faults
abbrev pub after_fetch : ShelfState → ℕ → ShelfState
after_fetch shelf faults = record shelf { calls = next_count shelf.calls; faults = faults }

-- a sink after one more put, which left it with these bytes and this count of faults
abbrev pub after_put : SinkState → List ℕ → ℕ → SinkState
after_put sink bytes faults =
    record sink { bytes = bytes; calls = next_count sink.calls; faults = faults }
