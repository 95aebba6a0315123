-- Pages of the same bytes are measured alike, wherever they are.
use Rattle.std.proofs.Common.{◌≡◌, ◌∙◌, ◌+◌, ◌/◌, ap, arith}
use Rattle.measurement.specs.Digests.{layout_of}
use Rattle.measurement.specs.Measured.{digest_of}
use Rattle.measurement.proofs.BlankPages.{same_pages}
use Rattle.monitor_cli.specs.Measure.{page_of}
use Rattle.monitor_cli.proofs.laws.place_law.Goals as goal

pub returns : goal.returns
returns c = λ bytes memory parts same.
    ap (digest_of (layout_of parts))
    (same_pages memory (page_of bytes) (parts.base / 4096) 0 (parts.text_pages + parts.data_pages) (λ i less.
    let here : i ≡ 0 + i = omega arith in
    same i less ∙ ap (page_of bytes) here))
