-- Filled registers are a bank of the entries, decoded beside them.
use Rattle.std.proofs.Common.{◌∙◌, refl, ap, map, arith}
use Rattle.pmp_encoding.specs.Extents.{extent_of}
use Rattle.pmp_encoding.proofs.Filled.{limit_most, filled_off, filled_canonical, filled_registers, filled_list}
use Rattle.pmp_encoding.proofs.Pairs.{one_list}
use Rattle.pmp_encoding.proofs.bank.Bank.load.Goals as goal

pub fill-requires : goal.fill-requires
fill-requires c = omega (arith, limit_most c.args.self.now.limit, c.requires)

pub invariant_of-self : goal.invariant_of-self
invariant_of-self c =
    let words = c.fill.new.words in
    let addresses = c.fill.new.addresses in
    let whole = c.fill.ensures.registers in
    let limit = c.args.self.now.limit in
    record {
      registers = filled_registers c.args.entries.now words addresses whole limit c.requires;
      decoded = record {
        room = omega (arith, limit_most limit, c.requires, c.fill.ensures.room);
        in_order = λ entries list. c.fill.ensures.in_order ∙ ap (map extent_of)
            (one_list _ c.args.entries.now entries (filled_list c.args.entries.now words addresses whole limit c.requires) list);
      };
    }

pub returns-clause-list : goal.returns-clause-list
returns-clause-list c = filled_list c.args.entries.now c.fill.new.words c.fill.new.addresses c.fill.ensures.registers c.args.self.now.limit c.requires

pub returns-clause-registers : goal.returns-clause-registers
returns-clause-registers c = record {
  limit_is = refl;
  canonical = filled_canonical c.args.entries.now c.fill.new.words c.fill.new.addresses c.fill.ensures.registers;
  off = λ i h most. filled_off c.args.entries.now c.fill.new.words c.fill.new.addresses c.fill.ensures.registers i h;
}
