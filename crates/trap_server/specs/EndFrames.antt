-- The last frame.
use Rattle.std.specs.Prelude.{ℕ, List, [], ◌∷◌}
use Rattle.platforms.specs.Platform.{platform_fault_number}
use Rattle.trap_server.specs.Words.{bytes_of, end_tag}
use Rattle.trap_server.specs.declared.end.EndReason.{EndReason}
use Rattle.trap_server.specs.declared.end.EndReason.TheVariants.{NotUnderstood, Platform}
use Rattle.trap_server.specs.declared.end.EndReason.TheVariants.{NeedsEntries, Memory}

-- the number of a reason
abbrev pub reason_of : EndReason → ℕ
reason_of NotUnderstood = 1
reason_of (Platform fault) = 2
reason_of (NeedsEntries count) = 3
reason_of Memory = 4

-- the detail of a reason: the rule that a platform breaks, or the number of entries needed
abbrev pub detail_of : EndReason → ℕ
detail_of NotUnderstood = 0
detail_of (Platform fault) = platform_fault_number fault
detail_of (NeedsEntries count) = count
detail_of Memory = 0

-- the bytes of the last frame
abbrev pub end_bytes : EndReason → List ℕ
end_bytes refusal = bytes_of (end_tag ∷ (reason_of refusal ∷ (detail_of refusal ∷ [])))
