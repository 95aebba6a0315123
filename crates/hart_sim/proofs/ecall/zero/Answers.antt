use Rattle.std.proofs.Common.{◌≡◌, refl, subst, sym}
use Rattle.hart_sim.specs.Changes.{zeroing}
use Rattle.hart_sim.specs.Parts.{shown}
use Rattle.hart_sim.proofs.Equal.{equal}
use Rattle.hart_sim.proofs.ecall.zero.Goals as goal

pub returns-in-Some : goal.returns-in-Some
returns-in-Some c = λ core. subst (λ pages. shown core c.forget.new.self ≡ zeroing (shown core c.args.memory.now) pages) (sym c.in-Some.is) (equal (record {
  table = refl;
  worlds = λ hart. refl;
  registers = λ who. refl;
  bytes = c.forget.ensures.bytes;
  written = c.forget.ensures.written;
  marked = λ hart. refl;
}))
