use Rattle.std.proofs.Common.{◌∙◌, ap, sym}
use Rattle.permission_map.specs.Runs.{view_of_runs}
use Rattle.platforms.specs.Platform.{PlatformLayout}
use Rattle.platforms.proofs.Mapped.{platform_view}
use Rattle.platforms.proofs.platform.Platform.permissions.Goals as goal

pub returns-clause-view : goal.returns-clause-view
returns-clause-view c =
    platform_view c.args.self.now c.as_slice.result.now c.as_slice-2.result.now c.monitor_pages.result (view_of_runs c.put_devices.new.perms)
    (view_of_runs c.put_memory.new.perms)
    (view_of_runs c.set_pages.new.map) (sym (ap (λ (l : PlatformLayout). l.devices) c.self.view_is) ∙ sym c.as_slice.ensures.value)
    (sym (ap (λ (l : PlatformLayout). l.ram) c.self.view_is) ∙ sym c.as_slice-2.ensures.value) c.monitor_pages.ensures.value c.in_ok-put_devices.ensures.view
    c.in_ok-put_memory.ensures.view c.in_ok-set_pages.ensures.view
