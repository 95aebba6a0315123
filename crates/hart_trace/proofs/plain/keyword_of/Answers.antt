use Rattle.std.proofs.Common.{◌%◌, arith}
use Rattle.hart_trace.proofs.Keywords.{each_tells}
use Rattle.hart_trace.proofs.plain.keyword_of.Goals as goal

pub returns : goal.returns
returns c = each_tells (c.args.first % 8) _ (omega arith)
