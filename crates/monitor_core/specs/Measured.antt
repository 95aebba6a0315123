-- Created enclaves, whose pages must be measured.
use Rattle.std.specs.Prelude.{◌≡◌, Option, None, Some, pos}
use Rattle.measurement.specs.Requests.{parts_of}
use Rattle.measurement.specs.declared.request.Create.{Create}
use Rattle.monitor_core.specs.declared.answer.Answer.{Answer}
use Rattle.sbi_decode.specs.declared.calls.Call.{Call}
use Rattle.sbi_decode.specs.declared.calls.Call.TheVariants as calls

-- the parameters of a call, if it is a creation
abbrev pub asked_in : Option Call → Option Create
asked_in (Some (calls.Create base text_pages data_pages shared_base shared_count entry_offset)) =
    Some (record {
      base = base;
      text_pages = text_pages;
      data_pages = data_pages;
      shared_base = shared_base;
      shared_count = shared_count;
      entry_offset = entry_offset;
    })
asked_in _ = None

-- the call created an enclave with these stored parts: it was a creation and succeeded
abbrev pub IsMade : Option Create → Answer → Create → Type 0
IsMade None answer parts = ⊥
IsMade (Some asked) answer parts = (parts ≡ parts_of asked) × (answer.status ≡ pos 0)
