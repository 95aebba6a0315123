-- A part lies in the block.
use Rattle.std.proofs.Common.{◌≡◌, ◌+◌, ◌-◌, ◌*◌, ap, subst, sym, ℕ, arith}
use Rattle.entry_planner.specs.Placement.{ArePages}
use Rattle.entry_planner.proofs.BlockPages.{pages_small}
use Rattle.entry_planner.proofs.ChainKept.{inside_pages}
use Rattle.entry_planner.proofs.placement.PageBlock.part.Goals as goal

pub pages_of-requires : goal.pages_of-requires
pages_of-requires c = omega (arith, pages_small c.args.self.log2 c.args.self.first c.requires.pages)

pub overflow_mul-result : goal.overflow_mul-result
overflow_mul-result c =
    let height : c.args.self.log2 - c.args.levels + c.args.levels ≡ c.args.self.log2 = omega (arith, c.requires.levels) in
    let pages = inside_pages _ c.args.levels _ c.args.self.first c.args.place height c.requires.place c.requires.pages in
    omega (arith, pages.inside, ap (λ n. c.args.place * n) c.pages_of.ensures)

pub overflow_add-result : goal.overflow_add-result
overflow_add-result c =
    let height : c.args.self.log2 - c.args.levels + c.args.levels ≡ c.args.self.log2 = omega (arith, c.requires.levels) in
    let pages = inside_pages _ c.args.levels _ c.args.self.first c.args.place height c.requires.place c.requires.pages in
    omega (arith, pages.inside, ap (λ n. c.args.place * n) c.pages_of.ensures)

pub returns-clause-pages : goal.returns-clause-pages
returns-clause-pages c =
    let height : c.args.self.log2 - c.args.levels + c.args.levels ≡ c.args.self.log2 = omega (arith, c.requires.levels) in
    let P : ℕ → Type 0 = λ n. ArePages (c.args.self.log2 - c.args.levels) (c.args.self.first + c.args.place * n) in
    subst P (sym c.pages_of.ensures) (inside_pages _ c.args.levels _ c.args.self.first c.args.place height c.requires.place c.requires.pages)
