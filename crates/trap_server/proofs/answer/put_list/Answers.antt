use Rattle.std.proofs.Common.{◌≡◌, ◌∙◌, ◌+◌, ◌*◌, ◌++◌, ap, arith, length, sym, take}
use Rattle.byteorder.specs.Endian.{little_bytes}
use Rattle.trap_server.specs.Answers.{address_bytes, cfg_bytes}
use Rattle.trap_server.proofs.Appended.{two_parts}
use Rattle.trap_server.proofs.answer.put_list.Goals as goal

pub returns : goal.returns
returns c =
    let entries = c.args.entries.now in
    let from = c.args.from in
    let number = little_bytes 8 (length entries) in
    let first = take (8 * from) c.args.frame.now in
    let second = take (8 * from + 8) c.put_word.new.bytes in
    let third = take (8 * (from + 9)) c.put_configuration.new.frame in
    let all = take (8 * from + 584) c.put_addresses.new.frame in
    let middle : (8 * from + 8) + 64 ≡ 8 * (from + 9) = omega arith in
    let last : 8 * (from + 9) + 512 ≡ 8 * from + 584 = omega arith in
    let configuration = ap (λ n. take n c.put_configuration.new.frame) (sym middle) ∙ c.put_configuration.ensures in
    let addresses = ap (λ n. take n c.put_addresses.new.frame) (sym last) ∙ c.put_addresses.ensures in
    two_parts first second all number (cfg_bytes entries 64 ++ address_bytes entries 64) c.put_word.ensures.front
    (two_parts second third all (cfg_bytes entries 64) (address_bytes entries 64) configuration addresses)
