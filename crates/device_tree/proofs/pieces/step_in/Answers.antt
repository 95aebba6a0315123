use Rattle.device_tree.proofs.pieces.step_in.Goals as goal

pub returns-in-Err-clause-reason : goal.returns-in-Err-clause-reason
returns-in-Err-clause-reason c = c.in-Err.ensures.reason c.args.strings.now
