use Rattle.enclave_table.specs.declared.life.Entering.TheVariants.{Run}
use Rattle.library_tests.proofs.Entered.{entered}
use Rattle.library_tests.proofs.table.life.refused_inside.Goals as goal

pub create-requires : goal.create-requires
create-requires c = entered c.args.table.now.table c.enter.new.self.table c.args.id Run c.in-Ok.ensures.done

pub destroy-requires : goal.destroy-requires
destroy-requires c = entered c.args.table.now.table c.enter.new.self.table c.args.id Run c.in-Ok.ensures.done

pub enter-requires-in-Enter : goal.enter-requires-in-Enter
enter-requires-in-Enter c = entered c.args.table.now.table c.enter.new.self.table c.args.id Run c.in-Ok.ensures.done
