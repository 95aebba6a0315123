-- Entries over a chain, which is a function from addresses to permissions.
use Rattle.std.specs.Prelude.{◌≡◌, ℕ, zero, suc, ◌+◌, ◌*◌, ◌/◌, ◌^◌, ◌<◌, ◌≤◌, ◌⊎◌, List, [], ◌∷◌}
use Rattle.pmp_encoding.specs.declared.perm.Perm.{Perm}
use Rattle.pmp_encoding.specs.declared.region.Entry.{Entry}
use Rattle.pmp_encoding.specs.Views.{View}
use Rattle.pmp_match.specs.Bytes.{perm_at}
use Rattle.chain_planner.specs.ChainCosts.{change}

-- the number of changes of the function's permission on the n steps from an address on
abbrev pub changes : (ℕ → Perm) → ℕ → ℕ → ℕ
changes f start zero = 0
changes f start (suc n) = changes f start n + change (f (start + n)) (f (start + suc n))

-- the entries over the function give each byte of the 2 ^ k pages from `first` on the view's
-- permission
abbrev pub Paints : View → (ℕ → Perm) → List Entry → ℕ → ℕ → Type 0
Paints view f es first k = (x : ℕ) → first * 4096 ≤ x → x < (first + 2 ^ k) * 4096
    → perm_at (f x) es x ≡ view (x / 4096)

-- some entry has the addresses just below and just above the edge
abbrev pub Hides : ℕ → List Entry → Type 0
Hides edge [] = ⊥
Hides edge (e ∷ es) = ((e.region.base < edge) × (edge < e.region.base + 2 ^ e.region.log2))
    ⊎ Hides edge es
