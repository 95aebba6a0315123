use Rattle.std.proofs.Common.{◌≡◌, ◌∙◌, true, ap, sym}
use Rattle.std.proofs.lemmas.Result.{err_from_is_err_and}
use Rattle.text_lines.specs.Lines.{has_no_end}
use Rattle.text_lines.proofs.LinesRead.{gathers_more, has_no_end-whole, refuses_long, hands_ended, hands_last, refuses_read}
use Rattle.text_lines.proofs.lines.LineReader.next_line.Goals as goal

pub returns-then-len-gt-LONGEST-clause-line : goal.returns-then-len-gt-LONGEST-clause-line
returns-then-len-gt-LONGEST-clause-line g c =
    refuses_long _ c.reads.self _ _ c.reads.invariant.gathered.0 c.as_slice-bytes.result.now c.len_before-len.result c.reads.invariant.gathered.1
    c.reads.invariant.taken c.reads.invariant.number
    c.as_slice-bytes.ensures.value c.len_before-len.ensures.len c.len_before-len.ensures.within c.if-len-gt-LONGEST.true

pub returns-then-len-held-clause-line : goal.returns-then-len-held-clause-line
returns-then-len-held-clause-line g c =
    hands_ended _ c.reads.self c.hand_out.new.self _ _ c.reads.invariant.gathered.0 c.as_slice-bytes.result.now c.len_before-len.result
    c.reads.invariant.gathered.1 c.reads.invariant.number
    c.as_slice-bytes.ensures.value c.len_before-len.ensures.len c.if-len-held.true c.if-len-gt-LONGEST.false c.hand_out.ensures.line c.hand_out.ensures.pending
    c.hand_out.ensures.number c.hand_out.ensures.came (c.hand_out.ensures.ended ∙ c.reads.invariant.ended)

pub returns-in_err-more-clause-line : goal.returns-in_err-more-clause-line
returns-in_err-more-clause-line g c =
    let p = err_from_is_err_and c.from_residual.result c.from_residual.ensures.1 in
    let read = c.in_err-more.ensures.read in
    let number = c.read_more.ensures.number ∙ c.reads.invariant.number in
    rw (p.1, p.2)
    (refuses_read _ c.reads.self c.read_more.new.self _ _ _ c.reads.invariant.gathered.0 read.0 c.as_slice-bytes.result.now c.len_before-len.result
    c.in_err-more.field-0.0 c.reads.invariant.gathered.1 c.reads.invariant.limit
    c.read_more.ensures.taken number c.as_slice-bytes.ensures.value c.len_before-len.ensures.len c.if-len-held.false c.if-len-gt-LONGEST.false read.1)

pub returns-then-not-more-clause-line : goal.returns-then-not-more-clause-line
returns-then-not-more-clause-line g c =
    let read = rw c.if-not-more.true at c.in_ok-more.ensures.read in
    let number = c.read_more.ensures.number ∙ c.reads.invariant.number in
    hands_last _ c.reads.self c.read_more.new.self c.hand_out-then-not-more.new.self _ _ _ c.reads.invariant.gathered.0 read.0 c.as_slice-bytes.result.now
    c.len_before-len.result c.reads.invariant.gathered.1
    number c.as_slice-bytes.ensures.value c.len_before-len.ensures.len c.if-len-held.false c.if-len-gt-LONGEST.false c.if-held-eq0.false read.1
    c.hand_out-then-not-more.ensures.line c.hand_out-then-not-more.ensures.pending c.hand_out-then-not-more.ensures.number c.hand_out-then-not-more.ensures.came
    c.hand_out-then-not-more.ensures.ended

pub reads-preserved : goal.reads-preserved
reads-preserved g c =
    let read = c.in_ok-more.ensures.read in
    let unended : has_no_end c.reads.self.buffer ≡ true = ap has_no_end (sym c.as_slice-bytes.ensures.value)
    ∙ has_no_end-whole c.as_slice-bytes.result.now c.len_before-len.result c.len_before-len.ensures.len c.if-len-held.false in
    record {
      taken = c.read_more.ensures.taken;
      number = c.read_more.ensures.number ∙ c.reads.invariant.number;
      limit = c.read_more.ensures.limit ∙ c.reads.invariant.limit;
      ended = c.read_more.ensures.ended ∙ c.reads.invariant.ended;
      failures = c.in_ok-more.ensures.failures ∙ c.reads.invariant.failures;
      gathered = (
        _,
        gathers_more _ c.reads.self c.read_more.new.self _ _ _ c.reads.invariant.gathered.0 read.0 c.reads.invariant.gathered.1 unended read.1.0
            read.1.1 read.1.2,
      );
    }
