use Rattle.std.proofs.Common.{refl}
use Rattle.library_tests.proofs.harts.qemu_confines.Goals as goal

pub returns : goal.returns
returns c = record {
  can = record { mode = refl; satp = refl; exceptions = refl; monitors = refl; hosts = refl; others = refl; guests = refl };
  mideleg = refl;
  hstatus = refl;
}
