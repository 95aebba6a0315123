-- A plan that begins at no entry of the hart.
use Rattle.std.proofs.Common.{ℕ, ◌≡◌, ◌≢◌, ◌∙◌, Option, Some, IfSome, codes, sym, inl, inr, true, option_map}
use Rattle.std.specs.Borrow.{Bor}
use Rattle.pmp_encoding.specs.declared.limit.Limit.{Limit}
use Rattle.pmp_encoding.specs.declared.xlen.Xlen.{Xlen}
use Rattle.command_line.specs.declared.fault.Fault.{Fault}
use Rattle.command_line.specs.declared.task.Subcommand.TheVariants as subcommands
use Rattle.command_line.specs.declared.options.Format.{Format}
use Rattle.command_line.specs.Faults.{Breaks, IsFirst, begins_inside, demands_of}
use Rattle.command_line.specs.Subcommands.{Text}
use Rattle.command_line.specs.Tasks.{Counts, format_word, is_identifier, limit_word, width_word}
use Rattle.command_line.proofs.Refused.{given, named_well}

another_file : (mine other map : Option Text) → mine ≡ other → other ≢ map → mine ≢ map
another_file mine other map e differs same = differs (sym e ∙ same)

-- the fault of the last demand of `plan`, where the values meet the others
pub begins_wrongly :
    (value flag : Text → Option Text) (map : Text) (cert : Option (Bor Text)) (limit : Limit) (at_most : Option ℕ) (format : Format) (xlen : Xlen)
    (name : Option (Bor Text)) (fault : Fault)
    → value (codes "MAP") ≡ Some map → value (codes "CERT") ≡ option_map (λ s. s.now) cert → option_map (λ s. s.now) cert ≢ Some map
    → value (codes "entries") ≡ Some (limit_word limit) → Counts (value (codes "at-most")) at_most → value (codes "format") ≡ Some (format_word format)
    → value (codes "xlen") ≡ Some (width_word xlen)
    → value (codes "name") ≡ option_map (λ s. s.now) name → IfSome name (λ s. is_identifier s.now ≡ true)
    → Breaks value flag begins_inside fault → IsFirst value flag (demands_of subcommands.Plan) fault
begins_wrongly value flag map cert limit at_most format xlen name fault m c other l a f w n well broken =
    inr (
      given value (codes "MAP") map m,
      inr (
        λ same. another_file _ _ _ c other (same ∙ m),
        inr (
          given value (codes "entries") _ l,
          inr (
            λ lacks. lacks limit l,
            inr (
              λ lacks. lacks at_most a,
              inr (
                given value (codes "format") _ f,
                inr (
                  λ lacks. lacks format f,
                  inr (
                    given value (codes "xlen") _ w,
                    inr (
                      λ lacks. lacks xlen w,
                      inr (
                        λ lacks. named_well _ name lacks.0 n well lacks.1 lacks.2,
                        inl broken,
                      ),
                    ),
                  ),
                ),
              ),
            ),
          ),
        ),
      ),
    )
