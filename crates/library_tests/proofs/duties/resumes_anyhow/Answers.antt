use Rattle.std.proofs.Common.{if◌then◌else◌, ap, refl, sym}
use Rattle.std.proofs.lemmas.Bool.{eq-eqb}
use Rattle.library_tests.specs.Duties.{with_file}
use Rattle.library_tests.proofs.duties.resumes_anyhow.Goals as goal

-- it resumes with the registers that the enclave had
pub returns : goal.returns
returns c = λ layout opened events old trap frame read question answered done id run x enclave host.
    let hart = trap.hart in
    let file = old.running hart in
    let here = ap (λ b. if b then file else done.running hart) (eq-eqb hart hart refl) in
    (with_file done hart file, (done, x, ap (with_file done hart) (sym here)), host, here)
