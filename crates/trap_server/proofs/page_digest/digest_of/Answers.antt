use Rattle.std.proofs.Common.{◌≡◌, ◌+◌, [], ◌∷◌, ◌++◌, rules, arith, refl}
use Rattle.std.proofs.KnownBytes.{Consumes-nil, Consumes-trans}
use Rattle.measurement.specs.Digests.{layout_of}
use Rattle.trap_server.specs.PageDigest.{no_page, next_page}
use Rattle.trap_server.proofs.Read.{page_asked, page_stops, page_writes}
use Rattle.trap_server.proofs.page_digest.digest_of.Goals as goal

pub loop-i-init : goal.loop-i-init
loop-i-init g c = record {
  pages = ([], [], no_page, Consumes-nil _, rw c.layout.ensures at c.begin-measure.ensures);
  written = rw c.question.ensures at c.in-Ok.ensures.whole;
  well = c.in-Ok.ensures.well;
  failures = refl;
}

pub loop-i-preserved : goal.loop-i-preserved
loop-i-preserved g c =
    let old = c.loop-i.invariant.pages in
    let new = c.in-Ok-read_page.ensures.page in
    record {
      pages = (
        old.0 ++ new.0,
        old.1 ++ (c.read_page.new.bytes ∷ []),
        next_page old.2 new.0 c.read_page.new.bytes new.1,
        Consumes-trans _ _ _ _ _ old.3 new.2,
        c.page.ensures (layout_of c.args.parts.now) old.1 old.4,
      );
      written = c.loop-i.invariant.written;
      well = c.loop-i.invariant.well;
      failures = search rules;
    }

pub returns-in-Err-clause-read : goal.returns-in-Err-clause-read
returns-in-Err-clause-read g c =
    let old = c.loop-i.invariant.pages in
    page_stops c.in-Err.fault c.args.parts.now c.loop-i.i _ old.0 old.1 _ _ _ (omega (arith, c.loop-i-test.true)) old.2 old.3 c.in-Err.ensures.page

pub returns-in-Err-clause-writes : goal.returns-in-Err-clause-writes
returns-in-Err-clause-writes g c = page_writes c.in-Err.fault _ _ _ _ _ _ _ _ c.in-Err.ensures.page c.loop-i.invariant.well

pub returns-clause-read : goal.returns-clause-read
returns-clause-read g c =
    let old = c.loop-i.invariant.pages in
    let last : c.loop-i.i ≡ c.args.parts.now.text_pages + c.args.parts.now.data_pages = omega (arith, c.loop-i-test.false, c.loop-i.auto.i-end) in
    (old.0, old.1, rw last at old.2, old.3, c.finish.ensures (layout_of c.args.parts.now) old.1 old.4)

pub returns-in-Err-clause-asked : goal.returns-in-Err-clause-asked
returns-in-Err-clause-asked g c = page_asked c.in-Err.fault c.args.parts.now _ _ _ _ _ _ c.in-Err.ensures.page c.loop-i.invariant.written
