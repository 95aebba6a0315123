use Rattle.register_audit.proofs.register_lines.set_by_words.Goals as goal

pub returns-else-is_dirty-clause-inside : goal.returns-else-is_dirty-clause-inside
returns-else-is_dirty-clause-inside c = c.set_by_many.ensures.inside c.args.xlen
