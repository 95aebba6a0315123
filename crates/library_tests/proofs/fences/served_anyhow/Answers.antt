use Rattle.std.proofs.Common.{◌≡◌, ◌≢◌, ◌∙◌, suc, ◌==◌, if◌then◌else◌, ap, refl, sym, arith}
use Rattle.std.proofs.lemmas.Bool.{eq-eqb}
use Rattle.sbi_decode.specs.Registers.{RegisterFile}
use Rattle.board.specs.Board.{Board, gone_on, handled}
use Rattle.library_tests.proofs.fences.served_anyhow.Goals as goal

-- the registers with another program counter are others
moved : (file : RegisterFile) → gone_on (handled (suc file.pc)) file ≢ file
moved file is =
    let same : suc file.pc ≡ file.pc = ap (λ (f : RegisterFile). f.pc) is in
    omega (arith, same)

-- the enclave goes on an instruction later
pub returns : goal.returns
returns c = λ old hart id up enclave.
    let on = handled (suc (old.running hart).pc) in
    let new : Board = record old { running = λ h. if h == hart then gone_on on (old.running h) else old.running h } in (
      on,
      new,
      record { up = up; state = refl },
      λ is. moved (old.running hart)
          (sym (ap (λ b. if b then gone_on on (old.running hart) else old.running hart) (eq-eqb hart hart refl)) ∙ is),
    )
