use Rattle.std.proofs.Common.{◌≡◌, ◌∙◌, ◌+◌, ap, false, sym}
use Rattle.register_audit.specs.RegisterListings.{end, is_whole}
use Rattle.register_audit.proofs.listing.listing_of.Goals as goal

pub returns-else-is_whole-clause-unknown : goal.returns-else-is_whole-clause-unknown
returns-else-is_whole-clause-unknown c =
    let cut : is_whole c.in_ok-left.left.listing ≡ false = sym c.is_whole.ensures ∙ c.if-is_whole.false in
    end c.in_ok-left.left.listing c.in_ok-left.ensures.listing cut (ap (λ n. n + 1) (sym c.in_ok-left.ensures.lines))
