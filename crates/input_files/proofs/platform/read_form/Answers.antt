use Rattle.std.proofs.Common.{◌∷◌, [], inl, inr}
use Rattle.std.specs.Prelude.{codes}
use Rattle.std.proofs.lemmas.Result.{err_from_is_err_and}
use Rattle.toml.specs.Data.{get_member}
use Rattle.toml.specs.View.{table_view}
use Rattle.input_files.specs.declared.breach.Key.TheVariants as keys
use Rattle.input_files.specs.declared.breach.TomlPath.TheVariants.{File}
use Rattle.input_files.specs.Document.{known}
use Rattle.input_files.specs.Breaches.{HasNoNumber, device_list_checks, form_checks, monitor_checks, ram_checks}
use Rattle.input_files.proofs.Checked.{clear_count, clear_devices, clear_monitor, clear_ram, fault_onward, first_before, first_behind, none_unknown}
use Rattle.input_files.proofs.platform.read_form.Goals as goal

pub returns-in_err-monitor-clause-first : goal.returns-in_err-monitor-clause-first
returns-in_err-monitor-clause-first c =
    let p = err_from_is_err_and c.from_residual.result c.from_residual.ensures.1 in
    let document = table_view c.args.document.now in
    rw (p.1, p.2) (inr (
      none_unknown known File document (c.unknown_key.ensures.none c.in_default.is),
      first_before (monitor_checks (get_member (codes "monitor") document)) _ _ c.in_err-monitor.ensures.first,
    ))

pub returns-in_err-ram-clause-first : goal.returns-in_err-ram-clause-first
returns-in_err-ram-clause-first c =
    let p = err_from_is_err_and c.from_residual-in_err-ram.result c.from_residual-in_err-ram.ensures.1 in
    let document = table_view c.args.document.now in
    let rams = ram_checks (get_member (codes "ram") document) in
    rw (p.1, p.2) (fault_onward rams (form_checks document) _ (λ b first. inr (
      none_unknown known File document (c.unknown_key.ensures.none c.in_default.is),
      first_behind (monitor_checks (get_member (codes "monitor") document)) _ b (clear_monitor _ _ c.in_ok-monitor.ensures.ok.0 c.in_ok-monitor.ensures.ok.1)
          (first_before rams _ b first),
    )) c.in_err-ram.ensures.first)

pub returns-in_err-devices-clause-first : goal.returns-in_err-devices-clause-first
returns-in_err-devices-clause-first c =
    let p = err_from_is_err_and c.from_residual-in_err-devices.result c.from_residual-in_err-devices.ensures.1 in
    let document = table_view c.args.document.now in
    let lists = device_list_checks (get_member (codes "device") document) in
    rw (p.1, p.2) (fault_onward lists (form_checks document) _ (λ b first. inr (
      none_unknown known File document (c.unknown_key.ensures.none c.in_default.is),
      first_behind (monitor_checks (get_member (codes "monitor") document)) _ b (clear_monitor _ _ c.in_ok-monitor.ensures.ok.0 c.in_ok-monitor.ensures.ok.1)
          (first_behind (ram_checks (get_member (codes "ram") document)) _ b (clear_ram _ _ c.in_ok-ram.ensures.ok.0 c.in_ok-ram.ensures.ok.1)
          (first_before lists _ b first)),
    )) c.in_err-devices.ensures.first)

pub returns-in_err-harts-clause-first : goal.returns-in_err-harts-clause-first
returns-in_err-harts-clause-first c =
    let p = err_from_is_err_and c.from_residual-in_err-harts.result c.from_residual-in_err-harts.ensures.1 in
    let document = table_view c.args.document.now in
    rw (p.1, p.2) (inr (
      none_unknown known File document (c.unknown_key.ensures.none c.in_default.is),
      first_behind (monitor_checks (get_member (codes "monitor") document)) _ _ (clear_monitor _ _ c.in_ok-monitor.ensures.ok.0 c.in_ok-monitor.ensures.ok.1)
          (first_behind (ram_checks (get_member (codes "ram") document)) _ _ (clear_ram _ _ c.in_ok-ram.ensures.ok.0 c.in_ok-ram.ensures.ok.1)
          (first_behind (device_list_checks (get_member (codes "device") document))
          (HasNoNumber File keys.Harts document ∷ HasNoNumber File keys.Entries document ∷ [])
          _ (clear_devices _ _ c.in_ok-devices.ensures.ok.0 c.in_ok-devices.ensures.ok.1) (inl c.in_err-harts.ensures.first))),
    ))

pub returns-in_err-entries-clause-first : goal.returns-in_err-entries-clause-first
returns-in_err-entries-clause-first c =
    let p = err_from_is_err_and c.from_residual-in_err-entries.result c.from_residual-in_err-entries.ensures.1 in
    let document = table_view c.args.document.now in
    rw (p.1, p.2) (inr (
      none_unknown known File document (c.unknown_key.ensures.none c.in_default.is),
      first_behind (monitor_checks (get_member (codes "monitor") document)) _ _ (clear_monitor _ _ c.in_ok-monitor.ensures.ok.0 c.in_ok-monitor.ensures.ok.1)
          (first_behind (ram_checks (get_member (codes "ram") document)) _ _ (clear_ram _ _ c.in_ok-ram.ensures.ok.0 c.in_ok-ram.ensures.ok.1)
          (first_behind (device_list_checks (get_member (codes "device") document))
          (HasNoNumber File keys.Harts document ∷ HasNoNumber File keys.Entries document ∷ [])
          _ (clear_devices _ _ c.in_ok-devices.ensures.ok.0 c.in_ok-devices.ensures.ok.1)
          (inr (clear_count 1 keys.Harts document _ c.in_ok-harts.ensures.ok, inl c.in_err-entries.ensures.first)))),
    ))
