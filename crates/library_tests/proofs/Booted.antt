-- The list of the boot means its view.
use Rattle.std.proofs.Common.{◌≡◌, ℕ, ◌*◌, ◌^◌, ◌<◌, ◌≤◌, arith, lit≤}
use Rattle.std.proofs.lemmas.Bool.Decides.{nat_tests}
use Rattle.std.proofs.lemmas.List.Elements.{All-from_recursion}
use Rattle.pmp_encoding.specs.declared.perm.Perm.TheVariants.{NoAccess}
use Rattle.pmp_match.specs.Bytes.{perm_at}
use Rattle.pmp_match.specs.Meaning.{Means}
use Rattle.library_tests.specs.BootList.{boot_list, boot_view}
use Rattle.pmp_match.proofs.Pages.{page_law_proof}

boot_at : (n : ℕ) → n < 2 ^ 44 → perm_at NoAccess boot_list (n * 4096) ≡ boot_view n
boot_at n h = grind (arith, nat_tests)

pub boot_means : Means boot_list boot_view
boot_means = (page_law_proof boot_list boot_view (All-from_recursion (λ e. 12 ≤ e.region.log2) boot_list (lit≤ tt, (lit≤ tt, (lit≤ tt, tt))))).1 boot_at
