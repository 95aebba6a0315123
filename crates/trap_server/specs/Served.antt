-- Traps served between a reader and a writer of the standard library.
use Rattle.std.specs.Prelude.{◌≡◌, ℕ, List, [], Option, Result, IfErr, IfOk}
use Rattle.std.specs.Io.KnownBytes.{IsAtEnd}
use Rattle.trap_server.specs.Ends.{CountsReads, CountsWrites}
use Rattle.trap_server.specs.Runs.{EndsEarly, Ran}
use Rattle.trap_server.specs.declared.fault.ServeFault.{ServeFault}

-- traps were served from a reader to a writer until this end, in terms of the bytes of both; no
-- read and no write had failed before
pub record ServedFrom {R W : Type 0} (remaining : R → Option (List ℕ)) (contents : W
    → Option (List ℕ)) (reader : R) (writer : W) (served : Result (Unit {0}) ServeFault) :
    Type 0 where
  -- the reader and the writer at the end, and how many reads failed, and writes failed or stalled
  pub read : R
  pub written : W
  pub reads_failed : ℕ
  pub writes_failed : ℕ
  pub stalled : ℕ
  pub all : IfOk served (λ _. Ran (remaining reader) (remaining read) (contents writer)
      (contents written) [] [])
  pub at_end : IfOk served (λ _. IsAtEnd (remaining read))
  pub early : IfErr served (λ fault. EndsEarly fault (remaining reader) (remaining read)
      (contents writer) (contents written))
  pub reads : CountsReads served 0 reads_failed
  pub writes : CountsWrites served 0 writes_failed 0 stalled

-- traps were served in this way, and this is the number that tells how the loop ended
abbrev pub EndsWith : {R W N : Type 0} → (R → Option (List ℕ)) → (W → Option (List ℕ)) → R → W
    → (Result (Unit {0}) ServeFault → N) → N → Type 0
EndsWith remaining contents reader writer number_of number = (served : Result (Unit {0}) ServeFault)
    × ServedFrom remaining contents reader writer served × (number ≡ number_of served)
