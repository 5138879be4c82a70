-- The first 23,595 bytes of a file decide its listing: by the records' law of the same. Assumes nothing.
use mathlib.Core.Path.{◌≡◌, ap}
use mathlib.Core.List.{List}
use Prim.Native.Nat.{ℕ}
use lib.ListN.{take}
use Rattle.definition.specs.Job.{job_listing, listing}
use Rattle.records.proofs.Prefix.{prefix}

pub listing_prefix : (bytes : List ℕ) → listing (take 23595 bytes) ≡ listing bytes
unfolding listing
listing_prefix bytes = ap job_listing (prefix bytes)
