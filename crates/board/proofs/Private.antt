-- The private pages of an enclave are memory of the board.
use Rattle.std.proofs.Common.{◌≡◌, ◌/◌, ◌||◌, ℕ, true, ap}
use Rattle.measurement.specs.Requests.{is_part, is_private, is_shared}
use Rattle.measurement.specs.declared.request.Create.{Create}
use Rattle.enclave_table.specs.Enclaves.{EnclaveTable, Live}
use Rattle.enclave_table.specs.Tables.{IsTable}
use Rattle.enclave_table.specs.declared.enclave.Enclave.{Enclave}
use Rattle.board.specs.Board.{IsMemoryByte}

-- a page that is private is a part
pub as_part : (parts : Create) (page : ℕ) → is_private parts page ≡ true → is_part parts page ≡ true
as_part parts page is = ap (λ b. b || is_shared parts page) is

pub private_memory : (table : EnclaveTable) (id byte : ℕ) (e : Enclave) → IsTable table → Live table id e → is_private e.parts (byte / 4096) ≡ true
    → IsMemoryByte table.layout byte
private_memory table id byte e right live own =
    let sound = right.sound id e live in
    let part = as_part e.parts (byte / 4096) own in
    record { in_ram = sound.in_ram (byte / 4096) part; not_monitor = sound.not_monitor (byte / 4096) part }
