use Rattle.std.proofs.Common.{◌/◌, None}
use Rattle.std.specs.Ordering.{nat_cmp}
use Rattle.std.specs.BTreeMap.{get}
use Rattle.hart_sim.proofs.Stored.{absent_is_none, stores_in}
use Rattle.hart_sim.proofs.memory.Memory.store_in_new_span.Goals as goal

pub returns-clause-bytes : goal.returns-clause-bytes
returns-clause-bytes c =
    let made = c.in_ok-span.ensures in
    let there = absent_is_none (get nat_cmp c.args.self.now.spans (c.args.address / 4096 / 4096)) c.requires.new in
    stores_in c.args.self.now record { spans = c.insert.new.self } None c.in_ok-span.span c.args.address c.args.size c.args.value c.requires.inside there
    c.in_ok-insert.ensures.updates.0 made.bytes made.others
