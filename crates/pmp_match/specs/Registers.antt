-- The PMP registers of a hart, entry by entry.
use Rattle.std.specs.Prelude.{ℕ, zero, suc, ◌+◌, List, [], ◌∷◌, slice_index}
use Rattle.pmp_match.specs.declared.registers.Registers.{Registers}
use Rattle.pmp_match.specs.Smepmp.{user_cfg}

-- the configuration byte of an entry
abbrev pub cfg_at : Registers → ℕ → ℕ
cfg_at registers place = slice_index registers.cfgs place

-- the configuration byte that decides for supervisor and user mode, given `mseccfg`
abbrev pub user_cfg_at : Registers → ℕ → ℕ
user_cfg_at registers place = user_cfg registers.security (cfg_at registers place)

-- the address register of an entry
abbrev pub address_at : Registers → ℕ → ℕ
address_at registers place = slice_index registers.addresses place

-- the pairs of `count` entries from `place` on
abbrev pub pairs_from : Registers → ℕ → ℕ → List (ℕ × ℕ)
pairs_from registers place zero = []
pairs_from registers place (suc count) =
    (cfg_at registers place, address_at registers place) ∷ pairs_from registers (place + 1) count

-- the pairs of all entries
abbrev pub pairs_of : Registers → List (ℕ × ℕ)
pairs_of registers = pairs_from registers 0 64
