-- The lower half is a block of pages.
use Rattle.std.proofs.Common.{◌+◌, ◌-◌, ◌≡◌, arith}
use Rattle.entry_planner.proofs.Walked.{lower_are_pages}
use Rattle.entry_planner.proofs.placement.PageBlock.lower.Goals as goal

pub returns-clause-pages : goal.returns-clause-pages
returns-clause-pages c =
    let height : c.args.self.log2 - 1 + 1 ≡ c.args.self.log2 = omega arith in
    lower_are_pages c.args.self.log2 (c.args.self.log2 - 1) c.args.self.first height c.requires.pages
