use Rattle.std.proofs.Common.{◌∙◌, ℕ, List, [], length, replicate, ap, subst, refl, append-nil, arith}
use Rattle.std.proofs.lemmas.List.{length-replicate}
use Rattle.std.proofs.lemmas.Result.{err_from_is_err_and}
use Rattle.device_tree.specs.Words.{word_at}
use Rattle.device_tree.specs.Nodes.{parts_of_tree}
use Rattle.host_tree.specs.Written.{SpellsFront}
use Rattle.host_tree.proofs.WriteFaults.{finish_empty, finish_large, finish_no_memory}
use Rattle.host_tree.proofs.Laid.{free_left, header_at, length-laid, whole}
use Rattle.host_tree.proofs.Chains.{chained, sizes}
use Rattle.host_tree.proofs.writer.TreeWriter.finish.Goals as goal

pub returns-clause-spelt : goal.returns-clause-spelt
returns-clause-spelt c = λ tree has_written.
    let h = c.in_ok-header.header in
    let e = c.in_ok-header.ensures in
    let r = c.in_ok-put_reservations.ensures.put in
    let b = c.args.self.now.block.items in
    let n = c.args.self.now.names.items in
    let z = replicate {A = ℕ} c.args.ends.now.free 0 in
    let is = chained h c.in-Ok.out.items c.put_header.new.out.items c.put_reservations.new.out.items c.put_bytes.new.out.items c.put_word.new.out.items
    c.put_bytes-2.new.out.items c.put_zeros.new.out.items r.0 b n z c.as_slice-3.result.now c.as_slice-4.result.now c.in-Ok.ensures.items
    c.in_ok-put_header.ensures.put r.1 c.in_ok-put_bytes.ensures.put c.as_slice-3.ensures.value c.in_ok-put_word.ensures.put c.in_ok-put_bytes-2.ensures.put
    c.as_slice-4.ensures.value c.in_ok-put_zeros.ensures.put in
    let are = sizes h r.0 b n c.as_slice.result.now c.as_slice-2.result.now (length c.args.ends.now.reservations.now) c.args.ends.now.free e.block r.2
    e.block_size c.as_slice.ensures.value e.names e.names_size c.as_slice-2.ensures.value e.size e.fits in
    let front : SpellsFront n b (parts_of_tree tree) = subst (λ (x : List ℕ). SpellsFront x b (parts_of_tree tree)) (append-nil n) (has_written.spelt []) in
    whole h r.0 b n z c.put_zeros.new.out.items tree c.args.ends.now.reservations.now is are r.3 front

pub returns-clause-boot_hart : goal.returns-clause-boot_hart
returns-clause-boot_hart c =
    let h = c.in_ok-header.header in
    let e = c.in_ok-header.ensures in
    let r = c.in_ok-put_reservations.ensures.put in
    let b = c.args.self.now.block.items in
    let n = c.args.self.now.names.items in
    let z = replicate {A = ℕ} c.args.ends.now.free 0 in
    let is = chained h c.in-Ok.out.items c.put_header.new.out.items c.put_reservations.new.out.items c.put_bytes.new.out.items c.put_word.new.out.items
    c.put_bytes-2.new.out.items c.put_zeros.new.out.items r.0 b n z c.as_slice-3.result.now c.as_slice-4.result.now c.in-Ok.ensures.items
    c.in_ok-put_header.ensures.put r.1 c.in_ok-put_bytes.ensures.put c.as_slice-3.ensures.value c.in_ok-put_word.ensures.put c.in_ok-put_bytes-2.ensures.put
    c.as_slice-4.ensures.value c.in_ok-put_zeros.ensures.put in
    ap (λ (x : List ℕ). word_at x 28) is ∙ header_at h r.0 b n z 7 h.boot_hart (omega arith) (omega arith) refl ∙ e.boot_hart

pub returns-clause-size : goal.returns-clause-size
returns-clause-size c =
    let h = c.in_ok-header.header in
    let e = c.in_ok-header.ensures in
    let r = c.in_ok-put_reservations.ensures.put in
    let b = c.args.self.now.block.items in
    let n = c.args.self.now.names.items in
    let z = replicate {A = ℕ} c.args.ends.now.free 0 in
    let is = chained h c.in-Ok.out.items c.put_header.new.out.items c.put_reservations.new.out.items c.put_bytes.new.out.items c.put_word.new.out.items
    c.put_bytes-2.new.out.items c.put_zeros.new.out.items r.0 b n z c.as_slice-3.result.now c.as_slice-4.result.now c.in-Ok.ensures.items
    c.in_ok-put_header.ensures.put r.1 c.in_ok-put_bytes.ensures.put c.as_slice-3.ensures.value c.in_ok-put_word.ensures.put c.in_ok-put_bytes-2.ensures.put
    c.as_slice-4.ensures.value c.in_ok-put_zeros.ensures.put in
    let are = sizes h r.0 b n c.as_slice.result.now c.as_slice-2.result.now (length c.args.ends.now.reservations.now) c.args.ends.now.free e.block r.2
    e.block_size c.as_slice.ensures.value e.names e.names_size c.as_slice-2.ensures.value e.size e.fits in
    let long = ap length is ∙ length-laid h r.0 b n z are in
    let zeros = length-replicate {A = ℕ} c.args.ends.now.free 0 in
    omega (arith, long, are.size, are.names, are.names_size, are.block_size, are.block, r.2, zeros)

pub returns-clause-free : goal.returns-clause-free
returns-clause-free c =
    let h = c.in_ok-header.header in
    let e = c.in_ok-header.ensures in
    let r = c.in_ok-put_reservations.ensures.put in
    let b = c.args.self.now.block.items in
    let n = c.args.self.now.names.items in
    let z = replicate {A = ℕ} c.args.ends.now.free 0 in
    let is = chained h c.in-Ok.out.items c.put_header.new.out.items c.put_reservations.new.out.items c.put_bytes.new.out.items c.put_word.new.out.items
    c.put_bytes-2.new.out.items c.put_zeros.new.out.items r.0 b n z c.as_slice-3.result.now c.as_slice-4.result.now c.in-Ok.ensures.items
    c.in_ok-put_header.ensures.put r.1 c.in_ok-put_bytes.ensures.put c.as_slice-3.ensures.value c.in_ok-put_word.ensures.put c.in_ok-put_bytes-2.ensures.put
    c.as_slice-4.ensures.value c.in_ok-put_zeros.ensures.put in
    let are = sizes h r.0 b n c.as_slice.result.now c.as_slice-2.result.now (length c.args.ends.now.reservations.now) c.args.ends.now.free e.block r.2
    e.block_size c.as_slice.ensures.value e.names e.names_size c.as_slice-2.ensures.value e.size e.fits in
    free_left h r.0 b n z c.put_zeros.new.out.items c.args.ends.now.free is are (length-replicate {A = ℕ} c.args.ends.now.free 0)

pub returns-in_err-header-clause-refused : goal.returns-in_err-header-clause-refused
returns-in_err-header-clause-refused c =
    let p = err_from_is_err_and c.from_residual.result c.from_residual.ensures.1 in
    rw (p.1, p.2) (finish_large c.args.self.now c.args.ends.now.reservations.now c.args.ends.now.free _ _ _ _ refl
    (ap length c.as_slice.ensures.value) (ap length c.as_slice-2.ensures.value) c.in_err-header.ensures.refused)

pub returns-in_err-put_header-clause-refused : goal.returns-in_err-put_header-clause-refused
returns-in_err-put_header-clause-refused c =
    let p = err_from_is_err_and c.from_residual-in_err-put_header.result c.from_residual-in_err-put_header.ensures.1 in
    rw (p.1, p.2) (finish_no_memory c.args.self.now c.args.ends.now.reservations.now c.args.ends.now.free _ c.in_err-put_header.ensures.refused)

pub returns-in_err-put_reservations-clause-refused : goal.returns-in_err-put_reservations-clause-refused
returns-in_err-put_reservations-clause-refused c =
    let p = err_from_is_err_and c.from_residual-in_err-put_reservations.result c.from_residual-in_err-put_reservations.ensures.1 in
    rw (p.1, p.2) (finish_empty c.args.self.now c.args.ends.now.reservations.now c.args.ends.now.free _ c.in_err-put_reservations.ensures.refused)

pub returns-in_err-put_bytes-clause-refused : goal.returns-in_err-put_bytes-clause-refused
returns-in_err-put_bytes-clause-refused c =
    let p = err_from_is_err_and c.from_residual-in_err-put_bytes.result c.from_residual-in_err-put_bytes.ensures.1 in
    rw (p.1, p.2) (finish_no_memory c.args.self.now c.args.ends.now.reservations.now c.args.ends.now.free _ c.in_err-put_bytes.ensures.refused)

pub returns-in_err-put_word-clause-refused : goal.returns-in_err-put_word-clause-refused
returns-in_err-put_word-clause-refused c =
    let p = err_from_is_err_and c.from_residual-in_err-put_word.result c.from_residual-in_err-put_word.ensures.1 in
    rw (p.1, p.2) (finish_no_memory c.args.self.now c.args.ends.now.reservations.now c.args.ends.now.free _ c.in_err-put_word.ensures.refused)

pub returns-in_err-put_bytes-2-clause-refused : goal.returns-in_err-put_bytes-2-clause-refused
returns-in_err-put_bytes-2-clause-refused c =
    let p = err_from_is_err_and c.from_residual-in_err-put_bytes-2.result c.from_residual-in_err-put_bytes-2.ensures.1 in
    rw (p.1, p.2) (finish_no_memory c.args.self.now c.args.ends.now.reservations.now c.args.ends.now.free _ c.in_err-put_bytes-2.ensures.refused)

pub returns-in_err-put_zeros-clause-refused : goal.returns-in_err-put_zeros-clause-refused
returns-in_err-put_zeros-clause-refused c =
    let p = err_from_is_err_and c.from_residual-in_err-put_zeros.result c.from_residual-in_err-put_zeros.ensures.1 in
    rw (p.1, p.2) (finish_no_memory c.args.self.now c.args.ends.now.reservations.now c.args.ends.now.free _ c.in_err-put_zeros.ensures.refused)
