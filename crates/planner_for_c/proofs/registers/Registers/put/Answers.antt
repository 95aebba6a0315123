use Rattle.planner_for_c.proofs.Held.{holds}
use Rattle.planner_for_c.proofs.registers.Registers.put.Goals as goal

pub returns : goal.returns
returns c = holds c.of_packed-bank.result c.args.entries.now c.put_words.new.cfg c.put_addresses.new.addr c.of_packed-bank.ensures.registers c.requires
    c.put_words.ensures c.put_addresses.ensures
