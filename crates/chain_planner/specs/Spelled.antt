-- Registers that hold a chained list.
use Rattle.std.specs.Prelude.{◌≡◌, ℕ, ◌+◌, ◌*◌, ◌<◌, ◌≤◌, ⊤, List, [], ◌∷◌, ◌++◌, map}
use Rattle.std.specs.Prelude.{Option, None, Some}
use Rattle.pmp_encoding.specs.declared.region.Entry.{Entry}
use Rattle.pmp_encoding.specs.Encoding.{cfg_of, address_of}
use Rattle.pmp_encoding.specs.Perms.{bits_of}
use Rattle.pmp_match.specs.declared.registers.Registers.{Registers}
use Rattle.pmp_match.specs.Registers.{cfg_at, address_at}
use Rattle.chain_planner.specs.declared.tops.Top.{Top}
use Rattle.chain_planner.specs.Chained.{Chained, length_of}

-- the configuration bytes and the address registers of NA4 and NAPOT entries
abbrev pub block_pairs : List Entry → List (ℕ × ℕ)
block_pairs entries = map (λ e. (cfg_of e, address_of e)) entries

-- those of an OFF entry, whose mode is 0
abbrev pub off_pairs : Option ℕ → List (ℕ × ℕ)
off_pairs None = []
off_pairs (Some address) = (0, address) ∷ []

-- those of TOR entries, whose mode is 1
abbrev pub top_pairs : List Top → List (ℕ × ℕ)
top_pairs tops = map (λ top. (1 * 8 + bits_of top.perm, top.address)) tops

-- those of a list
abbrev pub pairs_in : Chained → List (ℕ × ℕ)
pairs_in list = block_pairs list.blocks ++ (off_pairs list.off ++ top_pairs list.tops)

-- the registers of the entries from a place on are these pairs
abbrev pub HoldsFrom : Registers → ℕ → List (ℕ × ℕ) → Type 0
HoldsFrom registers place [] = ⊤
HoldsFrom registers place (pair ∷ pairs) = (cfg_at registers place ≡ pair.0)
    × (address_at registers place ≡ pair.1) × HoldsFrom registers (place + 1) pairs

-- the registers hold the list from entry 0 on, and each entry after it is OFF
pub record Holds (registers : Registers) (list : Chained) : Type 0 where
  pub room : length_of list ≤ 64
  pub entries : HoldsFrom registers 0 (pairs_in list)
  pub rest : (place : ℕ) → length_of list ≤ place → place < 64 → cfg_at registers place ≡ 0
