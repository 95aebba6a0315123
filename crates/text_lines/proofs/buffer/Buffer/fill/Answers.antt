use Rattle.std.proofs.Common.{◌≡◌, ◌-◌, ◌<◌, ◌≤◌, ◌∙◌, ◌++◌, length, take, ap, sym, arith, length-take-le, length-drop}
use Rattle.std.proofs.lemmas.Slice.{take-put_mid_below}
use Rattle.text_lines.proofs.Buffered.{take-filled, take-moved, length-part}
use Rattle.text_lines.proofs.buffer.Buffer.fill.Goals as goal

pub returns-clause-read : goal.returns-clause-read
returns-clause-read g c =
    let all = c.self.inside.bytes in
    let start = c.self.inside.start in
    let end = c.self.inside.end in
    let size : length c.args.self.now ≡ end - start = ap length (sym c.self.view_is) ∙ length-drop start (take end all)
    ∙ ap (λ n. n - start) (length-take-le end all (omega arith)) in
    let copied : length c.copy_within.new.self ≡ length all = c.copy_within.ensures.len in
    let room : length c.read.new.buf ≡ c.min-room.result = c.read.auto.buf
    ∙ length-part c.copy_within.new.self (end - start) c.min-room.result (omega (arith, copied, c.min-room.ensures)) in
    let few : c.in-Ok.n ≤ c.args.most = omega (arith, c.in-Ok.ensures.bound, room, c.min-room.ensures) in
    let some : 0 < length c.read.new.buf = omega (arith, size, room, c.min-room.ensures, c.requires.room, c.requires.some) in
    let whole = take-filled all c.copy_within.new.self c.read.new.buf _ start end c.in-Ok.n c.self.invariant.0
    (omega arith) c.copy_within.ensures.after copied c.in-Ok.ensures.bound ∙ ap (λ xs. xs ++ take c.in-Ok.n c.read.new.buf) c.self.view_is in (
      few,
      (take c.in-Ok.n c.read.new.buf, length-take-le c.in-Ok.n c.read.new.buf c.in-Ok.ensures.bound, c.in-Ok.ensures.bytes.0, whole),
      λ none.
          c.in-Ok.ensures.bytes.1 none some,
    )

pub returns-in_default-clause-read : goal.returns-in_default-clause-read
returns-in_default-clause-read g c =
    let all = c.self.inside.bytes in
    let start = c.self.inside.start in
    let end = c.self.inside.end in
    let copied : length c.copy_within.new.self ≡ length all = c.copy_within.ensures.len in
    let kept = take-put_mid_below (end - start) _ c.copy_within.new.self c.read.new.buf (end - start) (omega arith) (omega (arith, copied)) in (
      c.in_default.ensures.bytes,
      kept ∙ ap (take (end - start)) c.copy_within.ensures.after ∙ take-moved all start end c.self.invariant.0 (omega arith)
          ∙ c.self.view_is,
    )
