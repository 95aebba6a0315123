-- The upper half is a block of pages.
use Rattle.std.proofs.Common.{◌≡◌, ◌+◌, ◌-◌, subst, sym, ℕ, arith}
use Rattle.entry_planner.specs.Placement.{ArePages}
use Rattle.entry_planner.proofs.BlockPages.{pages_small}
use Rattle.entry_planner.proofs.Walked.{upper_are_pages}
use Rattle.entry_planner.proofs.placement.PageBlock.upper.Goals as goal

pub pages_of-requires : goal.pages_of-requires
pages_of-requires c = omega (arith, pages_small c.args.self.log2 c.args.self.first c.requires.pages)

pub returns-clause-pages : goal.returns-clause-pages
returns-clause-pages c =
    let height : c.args.self.log2 - 1 + 1 ≡ c.args.self.log2 = omega arith in
    let P : ℕ → Type 0 = λ n. ArePages (c.args.self.log2 - 1) (c.args.self.first + n) in
    subst P (sym c.pages_of.ensures) (upper_are_pages c.args.self.log2 (c.args.self.log2 - 1) c.args.self.first height c.requires.pages)
