-- Who runs on a hart of the platform runs on no other.
use Rattle.std.proofs.Common.{◌≡◌, ◌≢◌, ◌∙◌, ℕ, ◌<◌, true, refl, ap, sym}
use Rattle.std.proofs.lemmas.Bool.{eqb-true}
use Rattle.sbi_decode.specs.Runners.{Runner, HostOf, EnclaveOf, runner_of}
use Rattle.sbi_decode.specs.declared.world.World.{World}
use Rattle.sbi_decode.specs.declared.world.World.TheVariants.{Host, Enclave as InEnclave}
use Rattle.monitor_core.specs.Changes.{is_same}
use Rattle.monitor_core.specs.States.{MonitorState}
use Rattle.monitor_core.specs.Switches.{runner_on}
use Rattle.monitor_core.specs.Worlds.{ArePlaced}

abbrev number : Runner → ℕ
number (HostOf hart) = hart
number (EnclaveOf id) = id

pub alone : (s : MonitorState) (hart other : ℕ) → ArePlaced s → hart < s.table.layout.harts → other < s.table.layout.harts → other ≢ hart
    → runner_on s hart ≢ runner_on s other
alone s hart other placed known low differ is = by_worlds (s.worlds hart) (s.worlds other) refl refl is
  where
    by_worlds : (w v : World) → s.worlds hart ≡ w → s.worlds other ≡ v → runner_of hart w ≡ runner_of other v → ⊥
    by_worlds Host Host here there is = differ (sym (ap number is))
    by_worlds Host (InEnclave k) here there is = cc
    by_worlds (InEnclave id) Host here there is = cc
    by_worlds (InEnclave id) (InEnclave k) here there is =
        let same : id ≡ k = ap number is in
        differ (sym (placed.alone hart other id known low here (there ∙ ap InEnclave (sym same))))

pub same_is : (a b : Runner) → is_same a b ≡ true → a ≡ b
same_is (HostOf h) (HostOf k) is = ap HostOf (eqb-true h k is)
same_is (HostOf h) (EnclaveOf k) is = cc
same_is (EnclaveOf h) (HostOf k) is = cc
same_is (EnclaveOf h) (EnclaveOf k) is = ap EnclaveOf (eqb-true h k is)
