-- The register that a CSR number names.
use Rattle.std.specs.Prelude.{ℕ}
use Rattle.pmp_encoding.specs.declared.csr.Csr.{Csr}
use Rattle.pmp_encoding.specs.declared.csr.Csr.TheVariants.{Cfg, Address}
use Rattle.pmp_encoding.specs.declared.limit.Limit.{Limit}
use Rattle.pmp_encoding.specs.Csrs.{IsCfgCsr, IsAddressCsr}

abbrev pub IsNamed : Limit → ℕ → Csr → Type 0
IsNamed limit number (Cfg k) = IsCfgCsr limit number k
IsNamed limit number (Address i) = IsAddressCsr limit number i
