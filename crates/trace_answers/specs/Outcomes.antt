-- The outcome of a call, by its reply and the table after it.
use Rattle.std.specs.Prelude.{◌≡◌, ◌⊎◌, ℕ, ◌+◌, ◌<◌, ◌≤◌, ℤ, pos, negsuc, Option, Some, None}
use Rattle.pmp_encoding.specs.Limits.{limit_number}
use Rattle.pmp_match.specs.Meaning.{Needs}
use Rattle.sbi_decode.specs.declared.calls.Call.TheVariants as calls
use Rattle.measurement.specs.declared.request.Create.{Create}
use Rattle.enclave_table.specs.Enclaves.{EnclaveTable, with_enclave}
use Rattle.enclave_table.specs.Needs.{NeedsWithCreated}
use Rattle.measurement.specs.Requests.{parts_of}
use Rattle.enclave_table.specs.Views.{enclave_view, host_view}
use Rattle.hart_trace.specs.declared.reply.Reply.{Reply}
use Rattle.hart_trace.specs.declared.reply.Reply.TheVariants as replies
use Rattle.trace_answers.specs.declared.asked.Deed.{Deed}
use Rattle.trace_answers.specs.declared.asked.Deed.TheVariants as deeds
use Rattle.trace_answers.specs.declared.outcome.Outcome.{Outcome}
use Rattle.trace_answers.specs.declared.outcome.Outcome.TheVariants.{Done, Refused, HostNeeds}
use Rattle.trace_answers.specs.declared.outcome.Outcome.TheVariants.{EnclaveNeeds}

-- the absolute value of a negative status
abbrev pub below_zero : ℤ → Option ℕ
below_zero (pos n) = None
below_zero (negsuc n) = Some (n + 1)

-- the outcome by a status and a value: success with the value, or refused with a number
abbrev pub told_by : Option ℕ → ℕ → Outcome
told_by None value = Done value
told_by (Some number) value = Refused number

-- the outcome of a call by its reply alone
abbrev pub outcome_in : Reply → Outcome
outcome_in (replies.Call status value world used) = told_by (below_zero status) value
outcome_in _ = Done 0

-- the view that would need too many entries after a creation, and how many: the host's, or, if that
-- fits, that of the new enclave
abbrev pub OutgrownByCreate : EnclaveTable → Create → Outcome → Type 0
OutgrownByCreate table asked (HostNeeds n) = NeedsWithCreated table asked n
    × (limit_number table.layout.limit < n)
OutgrownByCreate table asked (EnclaveNeeds n) = Needs (enclave_view (parts_of asked)) n
    × (limit_number table.layout.limit < n)
    × ((m : ℕ) × NeedsWithCreated table asked m × (m ≤ limit_number table.layout.limit))
OutgrownByCreate table asked _ = ⊥

-- as above after a destruction, where only the host's view matters
abbrev pub OutgrownByDestroy : EnclaveTable → ℕ → Outcome → Type 0
OutgrownByDestroy table id (HostNeeds n) = Needs (host_view (with_enclave table id None)) n
    × (limit_number table.layout.limit < n)
OutgrownByDestroy table id _ = ⊥

-- as above after a call
abbrev pub OutgrownBy : EnclaveTable → Deed → Outcome → Type 0
OutgrownBy table (deeds.Call (Some
    (calls.Create base text_pages data_pages shared_base shared_count entry_offset))) outcome =
    OutgrownByCreate table (record {
      base = base;
      text_pages = text_pages;
      data_pages = data_pages;
      shared_base = shared_base;
      shared_count = shared_count;
      entry_offset = entry_offset;
    })
    outcome
OutgrownBy table (deeds.Call (Some (calls.Destroy id))) outcome = OutgrownByDestroy table id outcome
OutgrownBy table _ outcome = ⊥

-- the outcome of an event: that of its reply; or, if the reply reports too few entries, which
-- leaves the table unchanged, the view that needs too many. If an allocation fails while that view
-- is searched, it is that of the reply
abbrev pub IsOutcome : EnclaveTable → Deed → Reply → Outcome → Type 0
IsOutcome table deed reply outcome = (outcome ≡ outcome_in reply)
    ⊎ ((outcome_in reply ≡ Refused 108) × OutgrownBy table deed outcome)
