-- Where the root is refused its fault stands behind the entries, and otherwise the first of what is left to look at.
use Rattle.std.proofs.Common.{arith}
use Rattle.pmp_encoding.specs.declared.perm.Perm.TheVariants.{NoAccess}
use Rattle.permission_map.specs.Runs.{view_of_runs}
use Rattle.certificate_check.specs.Certificates.{IsRight, RefusalStands, in_root, too_many, another_meaning, trailing}
use Rattle.certificate_check.proofs.Judged.{whole_read, right_from_whole}
use Rattle.certificate_check.proofs.Windows.{reads_as, reads_then, refused_again_match}
use Rattle.certificate_check.proofs.certificate.rest_is_right.Goals as goal

pub returns-in_err-root : goal.returns-in_err-root
returns-in_err-root g c =
    reads_as _ _ _ _ c.in_err-root.ensures.read (λ left rest fault bytes entries begun.
    refused_again_match c.from_residual.result c.in_err-root.field-0.0 (λ _. IsRight (view_of_runs c.args.map.now) bytes c.args.header.now.count)
    (RefusalStands (view_of_runs c.args.map.now) bytes) c.from_residual.ensures.1
    (in_root c.args.header.now entries begun.behind left c.in_err-root.field-0.0 begun.headed begun.small begun.listed begun.counted fault))

pub returns-then-header-root : goal.returns-then-header-root
returns-then-header-root g c =
    reads_as _ _ _ _ c.in_ok-root.ensures.read (λ left rest root bytes entries begun.
    let whole = whole_read (view_of_runs c.args.map.now) bytes begun.behind left rest c.args.header.now entries root.tree begun.headed begun.small begun.counted
    begun.listed root.right root.spelled in
    too_many entries root.tree rest whole (let number = root.numbers_of NoAccess in let over = c.if-header-root.true in let n = begun.counted in omega
    (arith, number, over, n)))

pub returns-then-not-means : goal.returns-then-not-means
returns-then-not-means g c =
    reads_as _ _ _ _ c.in_ok-root.ensures.read (λ left rest root bytes entries begun.
    let whole = whole_read (view_of_runs c.args.map.now) bytes begun.behind left rest c.args.header.now entries root.tree begun.headed begun.small begun.counted
    begun.listed root.right root.spelled in
    let says = c.means.ensures entries begun.spelled begun.listed.pages in
    another_meaning entries root.tree rest whole (let number = root.numbers_of NoAccess in let over = c.if-header-root.false in let n = begun.counted in omega
    (arith, number, over, n))
    (λ m. let t = says.1 m in let no = c.if-not-means.true in cc (t, no)))

pub returns-then-not-is_done : goal.returns-then-not-is_done
returns-then-not-is_done g c =
    reads_then _ _ _ _ _ _ c.in_ok-root.ensures.read c.is_done.ensures (λ left mid rest root done bytes entries begun.
    let whole = whole_read (view_of_runs c.args.map.now) bytes begun.behind left mid c.args.header.now entries root.tree begun.headed begun.small begun.counted
    begun.listed root.right root.spelled in
    let says = c.means.ensures entries begun.spelled begun.listed.pages in
    trailing entries root.tree mid whole (let number = root.numbers_of NoAccess in let over = c.if-header-root.false in let n = begun.counted in omega
    (arith, number, over, n))
    (says.0 c.if-not-means.false) (λ none. let t = done.1.1 none in let no = c.if-not-is_done.true in cc (t, no)))

pub returns : goal.returns
returns g c =
    reads_then _ _ _ _ _ _ c.in_ok-root.ensures.read c.is_done.ensures (λ left mid rest root done bytes entries begun.
    let whole = whole_read (view_of_runs c.args.map.now) bytes begun.behind left mid c.args.header.now entries root.tree begun.headed begun.small begun.counted
    begun.listed root.right root.spelled in
    let says = c.means.ensures entries begun.spelled begun.listed.pages in
    right_from_whole (view_of_runs c.args.map.now) bytes mid entries root.tree c.args.header.now.count whole (done.1.0 c.if-not-is_done.false) begun.counted
    (let number = root.numbers_of NoAccess in let over = c.if-header-root.false in let n = begun.counted in omega (arith, number, over, n))
    (says.0 c.if-not-means.false))
