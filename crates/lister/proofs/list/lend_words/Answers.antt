-- So many words are enough.
use native.Mathlib.Omega.{arith}
use Rattle.lister.proofs.Listing.{widened}
use Rattle.lister.proofs.list.lend_words.Goals as goal

pub list_found-requires : goal.list_found-requires
list_found-requires g c = (widened (omega (arith, c.requires.enough.0)) c.requires.found, omega (arith, c.requires.enough.1))
