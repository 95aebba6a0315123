-- A pair has one meaning or one least fault.
use Rattle.pmp_encoding.proofs.Faulty.{entry_decoded, fault_decoded}
use Rattle.pmp_encoding.proofs.register_pair.decode.Goals as goal

pub returns-clause-entry : goal.returns-clause-entry
returns-clause-entry c = entry_decoded c.args.cfg c.args.address c.decoded.result c.decoded.ensures.fault c.decoded.ensures.meaning

pub returns-clause-faulty : goal.returns-clause-faulty
returns-clause-faulty c = fault_decoded c.args.cfg c.args.address c.decoded.result c.decoded.ensures.fault
