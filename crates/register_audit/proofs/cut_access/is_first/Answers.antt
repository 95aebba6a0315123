-- No entry before has one of the bytes, and this one has.
use Rattle.std.proofs.Common.{sym, subst}
use Rattle.std.proofs.lemmas.Option.{get_or_from_slice_get}
use Rattle.pmp_match.specs.RegisterDecision.{Meets}
use Rattle.pmp_match.specs.Tor.{nowhere}
use Rattle.register_audit.specs.Findings.{load_of_eight}
use Rattle.register_audit.proofs.cut_access.is_first.Goals as goal

pub returns-then-all_miss : goal.returns-then-all_miss
returns-then-all_miss c = λ x is.
    let same = get_or_from_slice_get c.args.extents.now c.args.i x nowhere is in (
      (λ yes. record {
        number = is;
        missed = c.all_miss.ensures.0 c.if-all_miss.true;
        met = subst (λ y. Meets y (load_of_eight c.args.at)) same (c.has_some.ensures.0 yes);
      }),
      (λ first. c.has_some.ensures.1 (subst (λ y. Meets y (load_of_eight c.args.at)) (sym same) first.met)),
    )
