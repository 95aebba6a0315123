use Rattle.std.proofs.Common.{◌∙◌, ◌-◌, ◌*◌, ◌++◌, length, take, ap, sym, arith}
use Rattle.trap_server.proofs.Filling.{joined}
use Rattle.trap_server.proofs.frame.put_word.Goals as goal

pub returns-clause-front : goal.returns-clause-front
returns-clause-front c =
    let old = c.args.bytes.now in
    let at = 8 * c.args.k in
    let came = c.write_u64.new.buf in
    sym (joined at (length old - at) 8 old came (omega (arith, c.requires)) (omega (arith, c.requires, c.write_u64.auto.buf)))
    ∙ ap (λ xs. take at old ++ take 8 xs) c.write_u64.ensures
