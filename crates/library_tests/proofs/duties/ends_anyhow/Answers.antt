use Rattle.std.proofs.Common.{◌≡◌, if◌then◌else◌, ap, sym}
use Rattle.sbi_decode.specs.Runners.{EnclaveOf}
use Rattle.monitor_core.proofs.Put.{same_self}
use Rattle.monitor_core.specs.Changes.{is_same}
use Rattle.board.specs.Board.{Board, Floats}
use Rattle.library_tests.proofs.duties.ends_anyhow.Goals as goal

-- what the enclave had is kept
pub returns : goal.returns
returns c = λ layout opened events old trap frame read question answered done id run x enclave ended.
    let who = EnclaveOf id in
    let keeping : Floats → Board = λ floats. record done { kept = λ r. if is_same r who then floats else done.kept r } in
    let has = old.floats trap.hart in
    let here : (keeping has).kept who ≡ has = ap (λ b. if b then has else done.kept who) (same_self who) in
    (keeping has, (done, x, ended, ap keeping (sym here)), here)
