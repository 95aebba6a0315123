use Rattle.std.proofs.Common.{◌≡◌, ◌∙◌, ℕ, List, Option, length, inl, ap, refl, subst}
use Rattle.std.proofs.KnownBytes.{Appends-nil}
use Rattle.sbi_decode.specs.Registers.{zeros}
use Rattle.monitor_core.specs.States.{opening_monitor}
use Rattle.enclave_table.specs.Boot.{IsBootFault}
use Rattle.platforms.specs.declared.boot_fault.BootFault.TheVariants.{NeedsMoreEntries}
use Rattle.trap_server.specs.Platforms.{IsPlatformFrame}
use Rattle.trap_server.specs.declared.end.EndReason.TheVariants as refusals
use Rattle.trap_server.specs.Boot.{MayOpen, StopsAtFirst}
use Rattle.trap_server.proofs.Served.{refuse_why}
use Rattle.trap_server.proofs.trap_loop.boot_on.Goals as goal

pub returns-in-Ok-clause-boots : goal.returns-in-Ok-clause-boots
returns-in-Ok-clause-boots g c = (
  c.in-Ok.ensures.state (λ who. zeros) ∙ ap opening_monitor c.into_inner.ensures,
  Appends-nil _,
  subst MayOpen c.into_inner.ensures (c.in-Ok.ensures.rules, c.in-Ok.ensures.fits),
)

pub returns-in-Err-NeedsMoreEntries-clause-boots : goal.returns-in-Err-NeedsMoreEntries-clause-boots
returns-in-Err-NeedsMoreEntries-clause-boots g c =
    let layout = c.args.platform.value in
    let count = c.in-Err-NeedsMoreEntries.count in
    let told = subst (λ f. IsBootFault c.into_inner.result f) c.in-Err-NeedsMoreEntries.field-0-is c.in-Err-NeedsMoreEntries.ensures.fault in
    let why = subst (λ l. IsBootFault l (NeedsMoreEntries count)) c.into_inner.ensures told in
    refuse_why c.refuse.result (refusals.NeedsEntries count) _ _
    (λ f rest. (read : List ℕ) (after : Option (List ℕ)) → length read ≡ 1336 → IsPlatformFrame read layout → StopsAtFirst f read rest after)
    c.refuse.ensures.last (λ read after size is. ((size, layout, is, why), refl))
    (λ part off read after size is. inl (refusals.NeedsEntries count, (size, layout, is, why), off))

pub returns-in-Err-Memory-clause-boots : goal.returns-in-Err-Memory-clause-boots
returns-in-Err-Memory-clause-boots g c =
    let layout = c.args.platform.value in
    refuse_why c.refuse-in-Err-Memory.result refusals.Memory _ _
    (λ f rest. (read : List ℕ) (after : Option (List ℕ)) → length read ≡ 1336 → IsPlatformFrame read layout → StopsAtFirst f read rest after)
    c.refuse-in-Err-Memory.ensures.last (λ read after size is. ((size, layout, is), refl))
    (λ part off read after size is. inl (refusals.Memory, (size, layout, is), off))
