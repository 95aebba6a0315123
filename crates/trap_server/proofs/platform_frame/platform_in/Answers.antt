use Rattle.std.proofs.Common.{inl, inr, rules}
use Rattle.platforms.specs.Platform.{platform_rules}
use Rattle.trap_server.specs.Platforms.{shape_rules}
use Rattle.trap_server.proofs.Read.{fails_after}
use Rattle.trap_server.proofs.platform_frame.platform_in.Goals as goal

pub returns-in-Err-with_entries-clause-none : goal.returns-in-Err-with_entries-clause-none
returns-in-Err-with_entries-clause-none c =
    let bytes = c.args.bytes.now in
    let p = c.in-Ok.platform in
    let harts = c.in-Ok-with_harts.ensures.value in
    let entries = c.in-Err-with_entries.ensures.fault in (
      search rules,
      inr (
        c.in-Ok.ensures.few,
        p,
        c.in-Ok.ensures.ranges,
        fails_after (platform_rules p.monitor p.ram p.devices) (shape_rules bytes) c.in-Err-with_entries.fault c.in-Ok.ensures.rules
            (inr ((rw c.word-2.ensures at harts.0, rw c.word-2.ensures at harts.1), inl (entries.0, rw c.word-3.ensures at entries.1))),
      ),
    )
