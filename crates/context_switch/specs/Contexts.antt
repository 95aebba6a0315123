-- The saved registers of each host and each enclave.
use Rattle.std.specs.Prelude.{zero, suc, Option, None, slice_get}
use Rattle.sbi_decode.specs.Registers.{RegisterFile}
use Rattle.context_switch.specs.declared.contexts.Contexts.{Contexts}
use Rattle.sbi_decode.specs.Runners.{Runner, HostOf, EnclaveOf}

-- the saved register set of a host or an enclave; enclaves are numbered from 1
abbrev pub saved_of : Contexts → Runner → Option RegisterFile
saved_of contexts (HostOf hart) = slice_get contexts.hosts hart
saved_of contexts (EnclaveOf zero) = None
saved_of contexts (EnclaveOf (suc n)) = slice_get contexts.enclaves n
