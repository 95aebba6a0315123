-- Contexts whose sets all hold one register file.
use Rattle.std.proofs.Common.{ℕ, zero, suc, ◌≡◌, ◌<◌, ◌≤◌, ◌∙◌, ap, sym, arith, None, Some, slice_get, replicate}
use Rattle.std.proofs.lemmas.Option.{slice_get_read, same_Some}
use Rattle.std.proofs.lemmas.List.{get_or-replicate, length-replicate}
use Rattle.sbi_decode.specs.declared.world.World.{World}
use Rattle.sbi_decode.specs.declared.world.World.TheVariants.{Host, Enclave}
use Rattle.sbi_decode.specs.Registers.{RegisterFile}
use Rattle.context_switch.specs.declared.contexts.Contexts.{Contexts}
use Rattle.sbi_decode.specs.Runners.{Runner, HostOf, EnclaveOf, runner_of, IsWorld}
use Rattle.context_switch.specs.Contexts.{saved_of}

-- each place of a list of copies has the copy
copy_at : (n : ℕ) (file : RegisterFile) (i : ℕ) → i < n → slice_get (replicate n file) i ≡ Some file
copy_at n file i below = slice_get_read (replicate n file) n i file (sym (length-replicate n file)) below (sym (get_or-replicate n i file file below))

-- so has each set of such contexts
pub saved_everywhere : (contexts : Contexts) (file : RegisterFile) → contexts.hosts ≡ replicate 4 file → contexts.enclaves ≡ replicate 64 file
    → (hart : ℕ) (world : World) → hart ≤ 3 → IsWorld world → saved_of contexts (runner_of hart world) ≡ Some file
saved_everywhere contexts file hosts enclaves hart Host below known = ap (λ sets. slice_get sets hart) hosts ∙ copy_at 4 file hart (omega (arith, below))
saved_everywhere contexts file hosts enclaves hart (Enclave zero) below known = absurd (omega (arith, known.0))
saved_everywhere contexts file hosts enclaves hart (Enclave (suc n)) below known = ap (λ sets. slice_get sets n) enclaves
    ∙ copy_at 64 file n (omega (arith, known.1))

-- what a list of copies has is the copy
copy_only : (n : ℕ) (file x : RegisterFile) (i : ℕ) → slice_get (replicate n file) i ≡ Some x → x ≡ file
copy_only zero file x i at = absurd (let h : None ≡ Some x = at in cc)
copy_only (suc n) file x zero at = sym (same_Some file x at)
copy_only (suc n) file x (suc i) at = copy_only n file x i at

-- such contexts have no other set
pub saved_only : (contexts : Contexts) (file : RegisterFile) → contexts.hosts ≡ replicate 4 file → contexts.enclaves ≡ replicate 64 file
    → (who : Runner) (x : RegisterFile) → saved_of contexts who ≡ Some x → x ≡ file
saved_only contexts file hosts enclaves (HostOf hart) x at = copy_only 4 file x hart (ap (λ sets. slice_get sets hart) (sym hosts) ∙ at)
saved_only contexts file hosts enclaves (EnclaveOf zero) x at = absurd (let h : None ≡ Some x = at in cc)
saved_only contexts file hosts enclaves (EnclaveOf (suc n)) x at = copy_only 64 file x n (ap (λ sets. slice_get sets n) (sym enclaves) ∙ at)
