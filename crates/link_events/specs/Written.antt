-- What stands in a buffer after bytes were added at a place.
use Rattle.std.specs.Prelude.{ℕ, ◌+◌, ◌≡◌, List, ◌++◌, length, take}

-- the bytes l stand from place k up to r, those before as they were
pub record BytesWritten (o : List ℕ) (k : ℕ) (l : List ℕ) (o' : List ℕ) (r : ℕ) : Type 0 where
  pub up_to : r ≡ k + length l
  pub bytes : take r o' ≡ take k o ++ l
