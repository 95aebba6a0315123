-- How runs over lines and plans end.
use Rattle.std.proofs.Common.{ℕ, ◌-◌, ◌≡◌, ◌≤◌, List, Option, Some, None, Result, Ok, Err, arith, refl}
use Rattle.std.specs.Result.{MatchResult}
use Rattle.text_lines.specs.declared.fault.RunFault.{RunFault}
use Rattle.text_lines.specs.declared.fault.RunFault.TheVariants as runs
use Rattle.text_lines.specs.LineLoop.{Meaning, StopsAt, StopsForMemory, StopsReading, StopsTooLong, StopsWriting}
use Rattle.program_files.specs.declared.trouble.Trouble.{Trouble}
use Rattle.pmp_encoding.specs.declared.limit.Limit.{Limit}
use Rattle.pmp_encoding.specs.Limits.{limit_number}
use Rattle.command_line.specs.declared.options.Format.TheVariants as formats
use Rattle.monitor_cli.specs.CertifiedPlan.{IsWithin}
use Rattle.monitor_cli.specs.Plan.{most_entries}
use Rattle.monitor_cli.specs.Stops.{Stops}

pub stops :
    {S : Type 0} (does : Meaning S) (refuses : S → List ℕ → Type 0) (starves : S → List ℕ → S → Type 0) (old new : S)
    (before after held holds : Option (List ℕ)) (fault : RunFault)
    → ((n : ℕ) → fault ≡ runs.Line n → StopsAt n does refuses old new before after held holds)
    → (fault ≡ runs.TooLong → StopsTooLong does old new before after held holds)
    → (fault ≡ runs.Read → StopsReading does old new before after held holds)
    → (fault ≡ runs.Write → StopsWriting does old new before after held holds)
    → (fault ≡ runs.Memory → StopsForMemory does starves old new before after held holds)
    → Stops does refuses starves old new before after held holds fault
stops does refuses starves old new before after held holds (runs.Line n) line long read write memory = line n refl
stops does refuses starves old new before after held holds runs.TooLong line long read write memory = long refl
stops does refuses starves old new before after held holds runs.Read line long read write memory = read refl
stops does refuses starves old new before after held holds runs.Write line long read write memory = write refl
stops does refuses starves old new before after held holds runs.Memory line long read write memory = memory refl

-- a run whose fault is told as a trouble ended well where there is none, and otherwise with the fault
pub went_well : {X : Type 0} (x : X) (end : Result X RunFault)
    → MatchResult end (λ (y : X). ◌≡◌ {A = Result X Trouble} (Ok x) (Ok y)) (λ fault. ⊥) → end ≡ Ok x
went_well x (Ok y) told = cc (told)
went_well x (Err fault) told = absurd told

pub went_wrong : {X : Type 0} (trouble : Trouble) (IsTold : RunFault → Type 0) (end : Result X RunFault)
    → MatchResult end (λ (y : X). ◌≡◌ {A = Result X Trouble} (Err trouble) (Ok y)) IsTold
    → (fault : RunFault) × (end ≡ Err fault) × IsTold fault
went_wrong trouble IsTold (Ok y) told = cc (told)
went_wrong trouble IsTold (Err fault) told = (fault, refl, told)

-- what is within the bound of C and of assembly fits the hart
pub fits_c : (limit : Limit) (first : ℕ) (at_most : Option ℕ) (n : ℕ) → IsWithin (most_entries limit first at_most formats.C) n → n ≤ limit_number limit - first
fits_c limit first None n h = h
fits_c limit first (Some most) n h = omega (arith, h)

pub fits_asm : (limit : Limit) (first : ℕ) (at_most : Option ℕ) (n : ℕ) → IsWithin (most_entries limit first at_most formats.Asm) n
    → n ≤ limit_number limit - first
fits_asm limit first None n h = h
fits_asm limit first (Some most) n h = omega (arith, h)
