use Rattle.command_line.proofs.subcommands.subcommand_command.Goals as goal

pub returns : goal.returns
returns c = rw c.row_of-row.ensures at (rw c.name.ensures at c.command.ensures)
