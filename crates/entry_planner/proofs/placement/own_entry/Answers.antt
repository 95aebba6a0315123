-- The entry is of the whole block, or there is none.
use Rattle.std.proofs.Common.{◌≡◌, ℕ, Bool, true, inl, inr, refl, ap, sym, ◌∙◌, if◌then◌else◌, rules}
use Rattle.pmp_encoding.specs.Perms.{perm_eq}
use Rattle.entry_planner.proofs.SamePerm.{not_other, perm_eq-other, perm_eq-same}
use Rattle.entry_planner.proofs.placement.own_entry.Goals as goal

abbrev unless : Bool → ℕ
unless t = if t then 0 else 1

pub returns-then-ne-clause-some : goal.returns-then-ne-clause-some
returns-then-ne-clause-some c = (
  inr (c.new.result, (rw (sym c.new.ensures) at c.entry_of.ensures), refl),
  sym
      (ap unless (perm_eq-other c.args.perm c.args.inherited c.ne.result c.ne.ensures c.if-ne.true)),
)

pub returns-clause-none : goal.returns-clause-none
returns-clause-none c =
    let same : c.args.perm ≡ c.args.inherited = not_other c.args.perm c.args.inherited c.ne.result c.ne.ensures (search rules) in
    let none : perm_eq c.args.perm c.args.inherited ≡ true = ap (perm_eq c.args.perm) (sym same) ∙ perm_eq-same c.args.perm in
    (inl (same, refl), sym (ap unless none))
