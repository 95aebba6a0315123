-- Ranges of pages.
use Rattle.std.specs.Prelude.{◌≡◌, ℕ, true}
use Rattle.pmp_encoding.specs.declared.pages.PageRange.{PageRange}
use Rattle.pmp_encoding.specs.Views.{in_range}

-- two ranges have no page in common
abbrev pub AreApart : PageRange → PageRange → Type 0
AreApart range other = (page : ℕ) → in_range range.first range.count page ≡ true
    → in_range other.first other.count page ≡ true → ⊥
