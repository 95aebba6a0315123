-- The clauses are the lemmas.
use Rattle.pmp_encoding.proofs.RoundTrip.{cfg_back, address_back, all_ones_back}
use Rattle.pmp_encoding.proofs.laws.round_trip_law.Goals as goal

pub returns : goal.returns
returns c = record { cfg = cfg_back; address = address_back; all_ones = all_ones_back }
