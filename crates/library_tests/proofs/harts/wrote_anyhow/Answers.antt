use Rattle.std.proofs.Common.{◌∙◌, sym}
use Rattle.library_tests.proofs.harts.wrote_anyhow.Goals as goal

-- what is written to the hart is not what was kept
pub returns : goal.returns
returns c = λ layout opened events old trap frame read question answered new run x none differ cannot is.
    cannot (sym (x.duties.control.comes_back none differ) ∙ is)
