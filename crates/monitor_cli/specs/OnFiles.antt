-- A task that is performed on its files and on the standard streams.
use Rattle.std.specs.Prelude.{◌≡◌, ℕ, ◌<◌, ◌≤◌, List, [], true, Option, None}
use Rattle.std.specs.Io.KnownBytes.{append_known, Keeps}
use Rattle.text_lines.specs.declared.held_sink.HeldSink.{HeldSink}
use Rattle.text_lines.specs.HeldSink.{contents_of, failed_writes, held_in, stalled_writes}
use Rattle.text_lines.specs.HeldSink.{writer_of, TakesFront}
use Rattle.text_lines.specs.Streams.{failures_of}
use Rattle.text_lines.specs.Writings.{writing}
use Rattle.program_files.specs.declared.certificate_file.CertificateFile.{CertificateFile}
use Rattle.program_files.specs.declared.devices.RetryInterrupted.{RetryInterrupted}
use Rattle.program_files.specs.declared.reason.Explained.{Explained}
use Rattle.program_files.specs.Inputs.{remaining_of}
use Rattle.program_files.specs.Reading.{reading, Reading}
use Rattle.command_line.specs.declared.request.Request.{Request}
use Rattle.monitor_cli.specs.CertifiedPlan.{placing, Placing}
use Rattle.monitor_cli.specs.Programs.{Performs}
use Rattle.monitor_cli.specs.TaskInputs.{reader_in, AreInputs, Input}

-- the end of a task with this status: the stream received all of the held output; or a prefix of
-- it, because the rest failed, which is status 3. If a failure was reported before, the stream
-- received a prefix, which may be all of it
pub data IsClosed (held : List ℕ) (before has : Option (List ℕ)) (status : ℕ) : ℕ → Type 0 where
  whole : Keeps (append_known before held) has → IsClosed held before has status status
  refused : status < 2 → TakesFront held before has → IsClosed held before has status 3
  stopped : 2 ≤ status → TakesFront held before has → IsClosed held before has status status

-- an input of a task before and after a call: its bytes, as far as its file or stream reveals them,
-- and its failures
abbrev pub input_over : {R S F D : Type 0} → (F → Option (List ℕ)) → (S → Option (List ℕ))
    → Input R S F D → Input R S F D → Reading (Input R S F D)
input_over file_bytes stream_bytes old new =
    reading (λ input. remaining_of file_bytes stream_bytes (reader_in input)) failures_of old new

-- the file of a certificate before and after a call: its bytes are unknown
abbrev pub certificate_over : {R F D : Type 0} → CertificateFile R F D → CertificateFile R F D
    → Placing (CertificateFile R F D)
certificate_over old new = placing (λ file. None) (λ file. file.part.failures)
    (λ file. file.part.stalls) (λ file. None) true old new

-- the output of a task: held in part until its end, with the reason of the last failure
abbrev pub Output : Type 0 → Type 0
Output O = HeldSink (Explained (RetryInterrupted O))

-- an output goes to a stream, holds no bytes for it yet, and has not failed
pub record IsOpened {O : Type 0} (stream : O) (out : Output O) : Type 0 where
  pub over : (writer_of out).inner.inner ≡ stream
  pub empty : held_in out ≡ []
  pub fresh : failed_writes out ≡ 0

-- a task ended on its files with this status. It was performed on its inputs and on an output that
-- held nothing yet; then the held output was flushed
pub record EndsOnFiles (R D P : Type 0) {S F O : Type 0} (stdin : S) (source : Input R S F D
    → Input R S F D → Reading (Input R S F D)) (stdout : O)
    (contents : Explained (RetryInterrupted O) → Option (List ℕ)) (request : Request) (status : ℕ) :
    Type 0 where
  pub first : Input R S F D
  pub first_end : Input R S F D
  pub second : Input R S F D
  pub second_end : Input R S F D
  pub cert : CertificateFile P F D
  pub cert_end : CertificateFile P F D
  pub out : Output O
  pub held : Output O
  pub stream : Explained (RetryInterrupted O)
  pub ended : ℕ
  pub inputs : AreInputs stdin request.task first second
  pub fresh : cert.part.failures ≡ 0
  pub opened : IsOpened stdout out
  pub performs : Performs request (source first first_end) (source second second_end)
      (certificate_over cert cert_end)
      (writing (contents_of contents) failed_writes stalled_writes out held) ended
  pub closed : IsClosed (held_in held) (contents (writer_of held)) (contents stream) ended status
