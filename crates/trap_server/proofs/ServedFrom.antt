-- The traps of a reader and a writer that are counted.
use Rattle.std.proofs.Common.{◌≡◌, ℕ, List, [], Option, Result, IfErr, IfOk, subst}
use Rattle.std.specs.Io.KnownBytes.{IsAtEnd}
use Rattle.text_lines.specs.Streams.{failures_of, inner_of, stalls_of}
use Rattle.text_lines.specs.declared.streams.Counted.{Counted}
use Rattle.trap_server.specs.Ends.{CountsReads, CountsWrites}
use Rattle.trap_server.specs.Runs.{EndsEarly, Ran}
use Rattle.trap_server.specs.Served.{ServedFrom}
use Rattle.trap_server.specs.declared.fault.ServeFault.{ServeFault}

-- what holds of the counted devices holds of the reader and the writer in them
pub served_by :
    {R W : Type 0} (remaining : R → Option (List ℕ)) (contents : W → Option (List ℕ)) (from : R) (to : W) (source source' : Counted R) (sink sink' : Counted W)
    (served : Result (Unit {0}) ServeFault)
    → inner_of source ≡ from → failures_of source ≡ 0 → inner_of sink ≡ to → failures_of sink ≡ 0 → stalls_of sink ≡ 0
    → IfOk served (λ _. Ran (remaining (inner_of source)) (remaining (inner_of source')) (contents (inner_of sink)) (contents (inner_of sink')) [] [])
    → IfOk served (λ _. IsAtEnd (remaining (inner_of source')))
    → IfErr served (λ fault. EndsEarly fault (remaining (inner_of source)) (remaining (inner_of source')) (contents (inner_of sink))
    (contents (inner_of sink')))
    → CountsReads served (failures_of source) (failures_of source') → CountsWrites served (failures_of sink) (failures_of sink') (stalls_of sink)
    (stalls_of sink')
    → ServedFrom remaining contents from to served
served_by remaining contents from to source source' sink sink' served reader no_read writer no_write no_stall all at_end early reads writes =
    let read = inner_of source' in
    let written = inner_of sink' in
    record {
      read = read;
      written = written;
      reads_failed = failures_of source';
      writes_failed = failures_of sink';
      stalled = stalls_of sink';
      all = subst (λ r. IfOk served (λ _. Ran (remaining r) (remaining read) (contents to) (contents written) [] [])) reader
          (subst (λ w. IfOk served (λ _. Ran (remaining (inner_of source)) (remaining read) (contents w) (contents written) [] [])) writer all);
      at_end = at_end;
      early = subst (λ r. IfErr served (λ fault. EndsEarly fault (remaining r) (remaining read) (contents to) (contents written))) reader
          (subst (λ w. IfErr served (λ fault. EndsEarly fault (remaining (inner_of source)) (remaining read) (contents w) (contents written))) writer early);
      reads = subst (λ n. CountsReads served n (failures_of source')) no_read reads;
      writes = subst (λ n. CountsWrites served n (failures_of sink') 0 (stalls_of sink')) no_write
          (subst (λ n. CountsWrites served (failures_of sink) (failures_of sink') n (stalls_of sink')) no_stall writes);
    }
