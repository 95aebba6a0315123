-- Views, which give each page a permission.
use Rattle.std.specs.Prelude.{◌≡◌, ℕ, ◌+◌, ◌^◌, ◌<◌, Bool, ◌&&◌, nat_le, nat_lt, cond}
use Rattle.pmp_encoding.specs.declared.perm.Perm.{Perm}

-- a permission for each page number, which is a byte's address divided by 4096
abbrev pub View : Type 0
View = ℕ → Perm

-- the page is one of the `count` pages from `first` on
abbrev pub in_range : ℕ → ℕ → ℕ → Bool
in_range first count page = nat_le first page && nat_lt page (first + count)

-- the view with the permission in the `count` pages from `first` on, and otherwise unchanged
abbrev pub overwritten : (ℕ → Perm) → ℕ → ℕ → Perm → ℕ → Perm
overwritten view first count perm page = cond (in_range first count page) perm (view page)

-- both views give each page of the space the same permission
abbrev pub SameView : (ℕ → Perm) → (ℕ → Perm) → Type 0
SameView view other = (page : ℕ) → page < 2 ^ 44 → view page ≡ other page

-- each of the 2 ^ log2 pages from `first` on has the permission
abbrev pub IsUniform : (ℕ → Perm) → ℕ → ℕ → Perm → Type 0
IsUniform view log2 first perm = (i : ℕ) → i < 2 ^ log2 → view (first + i) ≡ perm
