use Rattle.std.proofs.Common.{◌≡◌, ◌∙◌, ◌≤◌, ap, sym, subst, arith, refl}
use Rattle.enclave_table.specs.Enclaves.{Live}
use Rattle.sbi_decode.specs.declared.world.World.TheVariants.{Host, Enclave as InEnclave}
use Rattle.monitor_core.specs.Changes.{is_host}
use Rattle.monitor_core.specs.Parts.{is_current}
use Rattle.monitor_core.proofs.Blank.{at_host, no_mark}
use Rattle.monitor_core.proofs.Currents.{none_live}
use Rattle.monitor_core.proofs.Equal.{equal}
use Rattle.monitor_core.proofs.parts.MonitorParts.boot.Goals as goal

pub returns-clause-state : goal.returns-clause-state
returns-clause-state c = equal (record {
  table = c.in-Ok.ensures.opening;
  worlds = λ hart. at_host 4 hart;
  registers = λ who. refl;
  marked = λ hart. no_mark 4 hart;
})

pub returns-clause-whole : goal.returns-clause-whole
returns-clause-whole c =
    let opening = c.in-Ok.ensures.opening in
    record {
      few = subst (λ t. t.layout.harts ≤ 4) (sym opening) (omega (arith, c.harts-harts.ensures.value, c.harts-harts.ensures.most));
      current = λ hart. ap (is_current c.in-Ok.table.table) (at_host 4 hart);
      alone = λ hart other id at there. let z : Host ≡ InEnclave id = sym (at_host 4 hart) ∙ at in absurd cc;
      held = λ id e live runs. absurd (none_live c.args.platform id e (subst (λ t. Live t id e) opening live));
      idle = λ hart past. ap is_host (at_host 4 hart);
      hosted = λ hart on. ap is_host (at_host 4 hart);
    }
