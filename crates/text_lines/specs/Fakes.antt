-- The contents of the devices for tests, and the results of their calls.
use Rattle.std.specs.Prelude.{ℕ, ◌+◌, ◌-◌, ◌^◌, ◌==◌, min, Bool, false, if◌then◌else◌, List, length}
use Rattle.std.specs.Prelude.{Option, Some, None, Result, Ok, Err}
use Rattle.text_lines.specs.declared.fakes.PieceSink.{PieceSink}
use Rattle.text_lines.specs.declared.fakes.PieceSource.{PieceSource}
use Rattle.text_lines.specs.declared.streams.DeviceFault.{DeviceFault}

-- the number of the next call, saturating at 64 bits
abbrev pub next_call : ℕ → ℕ
next_call n = min (n + 1) (2 ^ 64 - 1)

-- the call is the one that fails
abbrev pub is_failing : Option ℕ → ℕ → Bool
is_failing None n = false
is_failing (Some k) n = k == n

-- the result of call n, which transfers `count` bytes unless it fails
abbrev pub answered : Option ℕ → ℕ → ℕ → Result ℕ DeviceFault
answered failing n count = if is_failing failing n then Err (record {}) else Ok count

-- the bytes not read yet
abbrev pub rest_of : PieceSource → List ℕ
rest_of source = source.bytes.now

-- the maximal number of bytes that one read returns
abbrev pub piece_of : PieceSource → ℕ
piece_of source = source.piece

-- the number of the read that fails, if one does
abbrev pub failing_read : PieceSource → Option ℕ
failing_read source = source.failing

-- the number of reads so far
abbrev pub reads_of : PieceSource → ℕ
reads_of source = source.reads

-- the number of bytes read into a buffer of this size
abbrev pub given_by : PieceSource → ℕ → ℕ
given_by source room = min (min (piece_of source) room) (length (rest_of source))

-- the bytes that were accepted
abbrev pub written_of : PieceSink → List ℕ
written_of sink = sink.taken.items

-- the maximal number of bytes that one write accepts
abbrev pub width_of : PieceSink → ℕ
width_of sink = sink.piece

-- the number of the write that fails, if one does
abbrev pub failing_write : PieceSink → Option ℕ
failing_write sink = sink.failing

-- the number of writes so far
abbrev pub writes_of : PieceSink → ℕ
writes_of sink = sink.writes

-- the number of bytes accepted of those offered, with room for 4096 in total
abbrev pub taken_by : PieceSink → ℕ → ℕ
taken_by sink offered = min (min (width_of sink) offered) (4096 - length (written_of sink))
