use Rattle.register_audit.proofs.register_settings.plain_setting.Goals as goal

pub returns-clause-inside : goal.returns-clause-inside
returns-clause-inside c = c.other_setting.ensures.inside c.args.xlen
