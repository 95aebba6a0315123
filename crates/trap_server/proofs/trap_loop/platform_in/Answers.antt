use Rattle.std.proofs.Common.{Ok, Result, refl, subst, sym}
use Rattle.trap_server.specs.Platforms.{IsPlatformFrame, ReadsPlatform}
use Rattle.trap_server.proofs.Looped.{first_refused, first_stops, refuses_first}
use Rattle.trap_server.proofs.Served.{first_writes, frame_reads, read_at}
use Rattle.platforms.specs.Platform.{PlatformLayout}
use Rattle.trap_server.specs.declared.end.EndReason.{EndReason}
use Rattle.trap_server.specs.declared.end.EndReason.TheVariants as refusals
use Rattle.trap_server.proofs.trap_loop.platform_in.Goals as goal

pub returns-in-Err-clause-first : goal.returns-in-Err-clause-first
returns-in-Err-clause-first g c = first_stops c.end.result c.in-Err.fault _ _ _ _ c.in-Err.ensures.platform c.end.ensures.last

pub returns-in-Ok-Err-clause-first : goal.returns-in-Ok-Err-clause-first
returns-in-Ok-Err-clause-first g c =
    let after = g.R.Source.remaining c.read_platform.new.source in
    let read = subst (λ r. ReadsPlatform (Ok r) (g.R.Source.remaining c.args.source.now) after) c.in-Ok-Err.field-0-is c.in-Ok-Err.ensures.platform in
    first_refused c.refuse-in-Ok-Err.result c.in-Ok-Err.refusal read.0 _ after _ _
    (refuses_first c.in-Ok-Err.refusal read.0 after read.1 read.2) read.3 c.refuse-in-Ok-Err.ensures.last

pub returns-in-Err-new-clause-first : goal.returns-in-Err-new-clause-first
returns-in-Err-new-clause-first g c =
    let after = g.R.Source.remaining c.read_platform.new.source in
    let read = subst (λ r. ReadsPlatform (Ok r) (g.R.Source.remaining c.args.source.now) after) c.in-Ok-Ok.field-0-is c.in-Ok-Ok.ensures.platform in
    first_refused c.refuse.result refusals.Memory read.0 _ after _ _ (read.1, c.in-Ok-Ok.platform, read.2) read.3 c.refuse.ensures.last

pub returns-in-Ok-clause-first : goal.returns-in-Ok-clause-first
returns-in-Ok-clause-first g c =
    let after = g.R.Source.remaining c.read_platform.new.source in
    let read = subst (λ r. ReadsPlatform (Ok r) (g.R.Source.remaining c.args.source.now) after) c.in-Ok-Ok.field-0-is c.in-Ok-Ok.ensures.platform in
    ((read.0, read.1, subst (λ layout. IsPlatformFrame read.0 layout) (sym c.in-Ok.ensures.ok) read.2, read.3), refl)

pub returns-in-Err-clause-reads : goal.returns-in-Err-clause-reads
returns-in-Err-clause-reads g c = c.end.ensures.reads _ _ (frame_reads (Result PlatformLayout EndReason) c.in-Err.fault _ _ c.in-Err.ensures.failures)

pub returns-in-Err-clause-writes : goal.returns-in-Err-clause-writes
returns-in-Err-clause-writes g c = c.end.ensures.writes _ _ (first_writes c.in-Err.fault _ _ _ _ c.in-Err.ensures.platform)

pub returns-in-Ok-Err-clause-reads : goal.returns-in-Ok-Err-clause-reads
returns-in-Ok-Err-clause-reads g c = read_at c.refuse-in-Ok-Err.result _ _ c.in-Ok-Err.ensures.failures (c.refuse-in-Ok-Err.ensures.reads _)
