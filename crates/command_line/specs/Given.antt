-- The values given to a subcommand, as `clap` found them.
use Rattle.std.specs.Prelude.{List, Option, bytes_eq, if◌then◌else◌, option_and_then, slice_get}
use Rattle.clap.specs.Words.{Row, Text, all_of, first_of, found_of, one_of, rows_of}
use Rattle.clap.specs.declared.parser.matches.ArgMatches.{ArgMatches}
use Rattle.command_line.specs.Monitors.{base_name, size_name}

-- the second of an argument's values
abbrev pub second_of : Text → List Row → Option Text
second_of id rows = option_and_then (λ values. slice_get values 1) (all_of id rows)

-- the value of a name in rows: the first one of the argument with this name, except that the size
-- of `--monitor` is its second value
abbrev pub value_of : List Row → Text → Option Text
value_of rows name =
    if bytes_eq name size_name then second_of base_name rows else first_of name rows

-- the value of the argument with each name, if it has one
unfoldable pub values_of : ArgMatches → Text → Option Text
values_of given name = value_of (rows_of (found_of given)) name

-- `true` or `false`, for each flag
unfoldable pub flags_of : ArgMatches → Text → Option Text
flags_of given name = one_of name (rows_of (found_of given))
