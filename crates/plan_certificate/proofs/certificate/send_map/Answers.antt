use Rattle.std.proofs.Common.{List, subst}
use Rattle.std.proofs.lemmas.List.{map-id}
use Rattle.text_lines.specs.Writings.{Breaks, TakesAll, writing}
use Rattle.pmp_encoding.specs.declared.region.Entry.{Entry}
use Rattle.prefix_tree.specs.Trees.{PermTree}
use Rattle.plan_certificate.specs.Written.{certificate_for}
use Rattle.plan_certificate.proofs.certificate.send_map.Goals as goal

pub returns-in_default : goal.returns-in_default
returns-in_default g c =
    let entries = c.args.plan.now.entries in
    let bytes = λ (es : List Entry). certificate_for c.args.limit (record { entries = es; costs = c.args.plan.now.costs }) in
    let sink = writing g.W.Sink.contents g.W.Sink.failures g.W.Sink.stalls c.args.sink.now c.send.new.sink in
    subst (λ (t : PermTree). Breaks (bytes entries t) sink) c.of.ensures.tree
    (subst (λ (es : List Entry). Breaks (bytes es c.of.result) sink) (map-id entries) c.in_default.ensures.prints)

pub returns : goal.returns
returns g c =
    let entries = c.args.plan.now.entries in
    let bytes = λ (es : List Entry). certificate_for c.args.limit (record { entries = es; costs = c.args.plan.now.costs }) in
    let sink = writing g.W.Sink.contents g.W.Sink.failures g.W.Sink.stalls c.args.sink.now c.send.new.sink in
    subst (λ (t : PermTree). TakesAll (bytes entries t) sink) c.of.ensures.tree
    (subst (λ (es : List Entry). TakesAll (bytes es c.of.result) sink) (map-id entries) c.in-Ok.ensures.prints)
