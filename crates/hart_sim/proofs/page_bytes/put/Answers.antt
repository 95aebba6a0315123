use Rattle.std.proofs.Common.{◌∙◌, ap, slice_index, nat_lt, if◌then◌else◌}
use Rattle.pmp_encoding.specs.Registers.{byte_of}
use Rattle.hart_sim.proofs.Lowest.{put_lowest}
use Rattle.hart_sim.proofs.page_bytes.put.Goals as goal

pub returns-then-at-le4096 : goal.returns-then-at-le4096
returns-then-at-le4096 c =
    put_lowest (slice_index c.args.page.now) (slice_index c.put_bytes-then-at-le4096.new.page) c.args.at c.args.size c.with_lowest-number.result c.args.value
    c.requires.size c.fits-page
    (λ k. c.with_lowest-number.ensures k ∙ ap (λ n. if nat_lt k c.args.size then byte_of c.args.value k else byte_of n k) c.number_of.ensures)
    c.put_bytes-then-at-le4096.ensures
