use Rattle.std.proofs.Common.{◌∙◌, inr, ap, rules, arith}
use Rattle.pmp_encoding.specs.declared.limit.Limit.TheVariants.{Sixteen}
use Rattle.trap_server.specs.Platforms.{device_words, ram_in, words_of}
use Rattle.trap_server.proofs.platform_frame.ranges_in.Goals as goal

pub returns-in-Err-clause-none : goal.returns-in-Err-clause-none
returns-in-Err-clause-none c =
    let bytes = c.args.bytes.now in
    inr (
      (omega (arith, c.if-ram_count-gt-MOST.false, c.word-ram_count.ensures), omega (arith, c.if-device_count-gt-MOST.false, c.word-device_count.ensures)),
      record { monitor = (c.word.result, c.word-2.result); ram = c.as_slice.result.now; devices = c.as_slice-2.result.now; harts = 1; limit = Sixteen },
      record {
        monitor = search rules;
        ram = c.as_slice.ensures.value ∙ c.ram_in-ram.ensures ∙ ap (ram_in bytes) c.word-ram_count.ensures;
        devices = ap words_of c.as_slice-2.ensures.value ∙ c.in-Some.ensures.some ∙ ap (device_words bytes) c.word-device_count.ensures;
      },
      c.in-Err.ensures.fault,
    )
