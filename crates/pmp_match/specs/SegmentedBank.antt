-- The bank whose list is cut into segments.
use Rattle.pmp_encoding.specs.declared.bank.Bank.{Bank}
use Rattle.pmp_match.specs.declared.segments.Segments.{Segments}

-- the bank that the segments were made from
abbrev pub bank_of : Segments → Bank
bank_of segments = segments.bank.now
