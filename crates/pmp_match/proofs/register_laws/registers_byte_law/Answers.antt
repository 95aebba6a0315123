-- The law is the lemma.
use Rattle.pmp_match.proofs.RegistersUncut.{byte_law_proof}
use Rattle.pmp_match.proofs.register_laws.registers_byte_law.Goals as goal

pub returns : goal.returns
returns c = byte_law_proof
