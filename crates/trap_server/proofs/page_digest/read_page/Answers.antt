use Rattle.std.proofs.Common.{◌∙◌, inr, rules, arith, drop, take, take_all, length-drop, length-take}
use Rattle.trap_server.proofs.Read.{other_frame, whole}
use Rattle.trap_server.proofs.page_digest.read_page.Goals as goal

pub returns-clause-page : goal.returns-clause-page
returns-clause-page g c =
    let size = c.in-Ok.ensures.bytes.0 in (
      c.read_whole.new.buffer,
      record {
        size = size;
        tag = search rules;
        number = search rules;
        bytes_are = c.copy_from_slice.ensures.after
            ∙ take_all 4096 (drop 16 c.read_whole.new.buffer) (omega (arith, length-drop 16 c.read_whole.new.buffer, size));
      },
      whole c.in-Ok.n c.read_whole.new.buffer _ _ (omega (arith, size, c.if-n-lt-PAGE_BYTES.false)) c.in-Ok.ensures.bytes.1,
    )

pub returns-then-n-lt-PAGE_BYTES-clause-page : goal.returns-then-n-lt-PAGE_BYTES-clause-page
returns-then-n-lt-PAGE_BYTES-clause-page g c =
    let bytes = c.read_whole.new.buffer in
    let filled = c.in-Ok.ensures.bytes.1 in
    let few = c.if-n-lt-PAGE_BYTES.true in
    (take c.in-Ok.n bytes, inr (omega (arith, few, length-take c.in-Ok.n bytes), filled.at_end (omega (arith, few, c.in-Ok.ensures.bytes.0))), filled.consumed)

pub returns-then-word-ne-TAG_PAGE-clause-page : goal.returns-then-word-ne-TAG_PAGE-clause-page
returns-then-word-ne-TAG_PAGE-clause-page g c =
    other_frame c.in-Ok.n c.args.page c.read_whole.new.buffer _ _ c.in-Ok.ensures.bytes.0 (omega (arith, c.if-n-lt-PAGE_BYTES.false)) c.in-Ok.ensures.bytes.1
    (λ bytes is. c.if-word-ne-TAG_PAGE.true (c.word.ensures ∙ is.tag))

pub returns-then-word-page-clause-page : goal.returns-then-word-page-clause-page
returns-then-word-page-clause-page g c =
    other_frame c.in-Ok.n c.args.page c.read_whole.new.buffer _ _ c.in-Ok.ensures.bytes.0 (omega (arith, c.if-n-lt-PAGE_BYTES.false)) c.in-Ok.ensures.bytes.1
    (λ bytes is. c.if-word-page.true (c.word-2.ensures ∙ is.number))
