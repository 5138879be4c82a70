-- A text put into a lent output from a place on. What has no room is left out, so there is an answer for every place and every length.
use Rattle.std.specs.Prelude.{◌≡◌, cond, List, ℕ, ◌+◌, ltb, length, set, fold}
use Rattle.listing.specs.declared.Page.{Page as LentPage}

-- a lent output's bytes, and the place of the next byte
pub record Page : Type 0 where
  pub bytes : List ℕ
  pub at : ℕ

abbrev pub page : List ℕ → ℕ → Page
page bytes at = record { bytes = bytes; at = at }

-- the page with one byte more; where the output has no such place, the page as it was
unfoldable pub stored : Page → ℕ → Page
stored p b = cond (ltb p.at (length p.bytes)) (page (set p.bytes p.at b) (p.at + 1)) p

-- the page with a text more, byte after byte
unfoldable pub typed : Page → List ℕ → Page
typed p t = fold stored p t

-- ---- the page as the code holds it

abbrev pub held : LentPage → Page
held p = page p.out.now p.at

-- a text more was put on a page, and the lent output is the same one
pub record Puts (old new : LentPage) (t : List ℕ) : Type 0 where
  pub same : new.out.ghost_name ≡ old.out.ghost_name
  pub text : held new ≡ typed (held old) t
