-- The address that is read is that of the entry which the nine bytes mean.
use Rattle.std.proofs.Common.{◌≡◌, ◌<◌, ◌+◌, ◌*◌, List, ℕ, drop, arith, ap, sym, subst, ◌∙◌}
use Rattle.byteorder.specs.Endian.{little_number}
use Rattle.certificate_check.specs.Spans.{IsSpanAt, count_in}
use Rattle.certificate_check.proofs.Spanned.{bounded, rest_from, span_inside}
use Rattle.certificate_check.proofs.entries.Entries.bounds.Goals as goal

pub overflow_mul-at : goal.overflow_mul-at
overflow_mul-at c = let less : c.args.i < count_in c.self.inside.bytes.now = subst (λ (xs : List ℕ). c.args.i < count_in xs)
    (sym c.self.view_is) c.requires in let told = c.self.told.0 in omega (arith, less, told)

pub returns-clause-some : goal.returns-clause-some
returns-clause-some c =
    let bytes : List ℕ = c.self.inside.bytes.now in
    let at = c.self.invariant c.args.i (subst (λ (xs : List ℕ). c.args.i < count_in xs) (sym c.self.view_is) c.requires) in
    let address : c.read_u64.result ≡ little_number 8 (drop (9 * c.args.i + 1) bytes) =
    c.read_u64.ensures ∙ ap (λ xs. little_number 8 xs) (rest_from (9 * c.args.i + 1) bytes) in
    let same = bounded bytes c.args.i c.read_u64.result at.0 c.bounds_of.result address at.1 c.bounds_of.ensures in
    omega (arith, same, (span_inside bytes c.args.i at.0 at.1).0)

pub returns-clause-inside : goal.returns-clause-inside
returns-clause-inside c =
    let bytes : List ℕ = c.self.inside.bytes.now in
    let at = c.self.invariant c.args.i (subst (λ (xs : List ℕ). c.args.i < count_in xs) (sym c.self.view_is) c.requires) in
    let address : c.read_u64.result ≡ little_number 8 (drop (9 * c.args.i + 1) bytes) =
    c.read_u64.ensures ∙ ap (λ xs. little_number 8 xs) (rest_from (9 * c.args.i + 1) bytes) in
    let same = bounded bytes c.args.i c.read_u64.result at.0 c.bounds_of.result address at.1 c.bounds_of.ensures in
    omega (arith, same, (span_inside bytes c.args.i at.0 at.1).1)

pub returns-clause-first : goal.returns-clause-first
returns-clause-first c =
    λ s there.
    let bytes : List ℕ = c.self.inside.bytes.now in
    let address : c.read_u64.result ≡ little_number 8 (drop (9 * c.args.i + 1) bytes) =
    c.read_u64.ensures ∙ ap (λ xs. little_number 8 xs) (rest_from (9 * c.args.i + 1) bytes) in
    (bounded bytes c.args.i c.read_u64.result s c.bounds_of.result address
    (subst (λ (xs : List ℕ). IsSpanAt xs c.args.i s) (sym c.self.view_is) there) c.bounds_of.ensures).0

pub returns-clause-end : goal.returns-clause-end
returns-clause-end c =
    λ s there.
    let bytes : List ℕ = c.self.inside.bytes.now in
    let address : c.read_u64.result ≡ little_number 8 (drop (9 * c.args.i + 1) bytes) =
    c.read_u64.ensures ∙ ap (λ xs. little_number 8 xs) (rest_from (9 * c.args.i + 1) bytes) in
    (bounded bytes c.args.i c.read_u64.result s c.bounds_of.result address
    (subst (λ (xs : List ℕ). IsSpanAt xs c.args.i s) (sym c.self.view_is) there) c.bounds_of.ensures).1
