use Rattle.std.proofs.Common.{◌+◌, ◌≡◌, ◌∙◌, ◌++◌, length, map, take, ap, sym, append_assoc, arith}
use Rattle.std.proofs.lemmas.Result.{err_from_is_err_and}
use Rattle.text_lines.proofs.Writings.{breaks_within, takes_then}
use Rattle.map_text.specs.Plans.{entries_text}
use Rattle.map_text.proofs.EntryLines.{entries_text-append}
use Rattle.map_text.proofs.plan.print_entries.Goals as goal

pub loop-left-preserved : goal.loop-left-preserved
loop-left-preserved g c =
    let listed = g.E.ListedEntry.listed in
    let xlen = c.args.xlen in
    let k = c.loop-left.number in
    let these = c.split_at.result.0.now in
    let others = c.split_at.result.1.now in
    let text = entries_text xlen k (map listed these) in
    let rest = entries_text xlen (k + length these) (map listed others) in
    let w = c.loop-left.invariant.taken in
    let lines : take c.put_entries-end.result c.put_entries-end.new.buffer ≡ text = c.put_entries-end.ensures.text in
    record {
      room = c.put_entries-end.ensures.room ∙ ap length c.as_mut_slice.ensures.value ∙ c.loop-left.invariant.room;
      counted = omega (arith, c.split_at.ensures.front_len, c.split_at.ensures.back_len, c.loop-left.invariant.counted);
      taken = (
        w.0 ++ text,
        append_assoc w.0 text rest ∙ ap (λ x. w.0 ++ x) (sym (entries_text-append listed xlen k these others)
            ∙ ap (λ es. entries_text xlen k (map listed es)) (sym c.split_at.ensures.by_index.0)) ∙ w.1,
        takes_then g.W.Sink.contents g.W.Sink.failures g.W.Sink.stalls w.2 (rw lines at c.in_ok-write_whole.ensures),
      );
    }

pub returns-in_err-write_whole : goal.returns-in_err-write_whole
returns-in_err-write_whole g c =
    let listed = g.E.ListedEntry.listed in
    let xlen = c.args.xlen in
    let k = c.loop-left.number in
    let these = c.split_at.result.0.now in
    let others = c.split_at.result.1.now in
    let text = entries_text xlen k (map listed these) in
    let rest = entries_text xlen (k + length these) (map listed others) in
    let w = c.loop-left.invariant.taken in
    let lines : take c.put_entries-end.result c.put_entries-end.new.buffer ≡ text = c.put_entries-end.ensures.text in
    let whole = ap (λ x. w.0 ++ x) (sym (entries_text-append listed xlen k these others)
    ∙ ap (λ es. entries_text xlen k (map listed es)) (sym c.split_at.ensures.by_index.0)) ∙ w.1 in
    rw (err_from_is_err_and c.from_residual.result c.from_residual.ensures.1).1
    (breaks_within g.W.Sink.contents g.W.Sink.failures g.W.Sink.stalls rest whole w.2 (rw lines at c.in_err-write_whole.ensures))
