-- Entries and their spans of pages.
use Rattle.std.proofs.Common.{◌≡◌, ℕ, zero, suc, ◌+◌, ◌-◌, ◌*◌, ◌/◌, ◌%◌, ◌^◌, ◌<◌, ◌≤◌, inl, inr, ⊎_elim, min, List, length, take, drop, slice_index, arith}
use Rattle.std.proofs.Common.{refl, sym, ap, ap₂, ◌∙◌, pow_pos, pow-add, mul_assoc, suc-mul}
use Rattle.std.proofs.Math.Nat.{pow-le-pow_right}
use Rattle.std.proofs.lemmas.Bool.{cases_lt}
use Rattle.std.proofs.lemmas.Grind.{common_steps}
use Rattle.std.proofs.lemmas.Nat.{and_block}
use Rattle.std.proofs.lemmas.Nat.Bits.{and_pow, bit_at_above, bit_at_and, bit_at-pow_other, bit_at-trailing_zeros, same_from_bits}
use Rattle.std.proofs.Math.Pow.{pow-lt}
use Rattle.std.specs.Int.{bit_at, trailing_zeros, w64}
use Rattle.std.specs.Int.Bits.{or_add_and}
use lib.Bits.{bit_and, bit_or}
use Rattle.byteorder.specs.Endian.{little_number}
use Rattle.pmp_encoding.specs.declared.region.Entry.{Entry}
use Rattle.pmp_encoding.specs.Encoding.{MeansEntry}
use Rattle.pmp_encoding.specs.Perms.{bits_of}
use Rattle.pmp_encoding.proofs.Multiples.{IsMultiple, multiple_from_mod, multiple_trans, next_multiple, power_multiple}
use Rattle.pmp_encoding.proofs.Pairs.{bits_below}
use Rattle.certificate_check.specs.declared.entries.Bounds.{Bounds}
use Rattle.certificate_check.specs.declared.entries.Span.{Span}
use Rattle.certificate_check.specs.Spans.{AreBoundsOf, IsSpanAt}

-- `&bytes[at..]` is read as `take (length bytes - at) (drop at bytes)`
pub rest_from : (i : ℕ) (xs : List ℕ) → take (length xs - i) (drop i xs) ≡ drop i xs
rest_from i xs = grind (arith, common_steps)

-- pages are whole in a block of at least a page
pub page_multiple : (e : Entry) → 12 ≤ e.region.log2 → IsMultiple 4096 e.region.base × IsMultiple 4096 (2 ^ e.region.log2)
page_multiple e h = (
  multiple_trans 4096 (2 ^ e.region.log2) e.region.base (power_multiple 12 e.region.log2 h)
      (multiple_from_mod (2 ^ e.region.log2) e.region.base e.region.block.aligned),
  power_multiple 12 e.region.log2 h,
)

-- ---- the pages by the address alone

none_above : (n p : ℕ) → n * p < p → n ≡ 0
none_above zero p h = refl
none_above (suc n) p h = absurd (omega (arith, suc-mul n p, h))

no_times : (n p : ℕ) → n ≡ 0 → n * p ≡ 0
no_times zero p none = omega arith
no_times (suc n) p none = absurd (omega (arith, none))

and_itself : (n : ℕ) → bit_and n n ≡ n
and_itself n = same_from_bits (bit_and n n) n (λ i. bit_at_and n n i ∙ min_itself (bit_at n i))
  where
    min_itself : (m : ℕ) → min m m ≡ m
    min_itself m = omega arith

-- a number and the next one share what stands above the trailing ones
shared : (number ones above : ℕ) → number + 1 ≡ above * 2 ^ (ones + 1) + 2 ^ ones → bit_and number (number + 1) ≡ above * 2 ^ (ones + 1)
shared number ones above split =
    let double : 2 ^ (ones + 1) ≡ 2 ^ ones * 2 = pow-add 2 ones 1 in
    let some : 0 < 2 ^ ones = pow_pos ones in
    let low : number ≡ above * 2 ^ (ones + 1) + (2 ^ ones - 1) = omega (arith, split, some) in
    let apart : bit_and (2 ^ ones - 1) (2 ^ ones) ≡ 0 = and_pow (2 ^ ones - 1) ones
    ∙ no_times (bit_at (2 ^ ones - 1) ones) (2 ^ ones) (bit_at_above (2 ^ ones - 1) ones ones (omega (arith, some)) (omega arith)) in
    let parts : bit_and (above * 2 ^ (ones + 1) + (2 ^ ones - 1)) (above * 2 ^ (ones + 1) + 2 ^ ones) ≡ bit_and above above * 2 ^ (ones + 1) + bit_and
    (2 ^ ones - 1) (2 ^ ones) =
    and_block (ones + 1) above above (2 ^ ones - 1) (2 ^ ones) (omega (arith, double, some)) (omega (arith, double, some)) in
    let itself : bit_and above above * 2 ^ (ones + 1) ≡ above * 2 ^ (ones + 1) = ap (λ n. n * 2 ^ (ones + 1)) (and_itself above) in
    ap₂ bit_and low split ∙ parts ∙ omega (arith, itself, apart)

-- the block of 2 ^ long bytes that holds a byte is the only one
one_block : (base other byte p : ℕ) → IsMultiple p base → IsMultiple p other → base ≤ byte → byte < base + p → other ≤ byte → byte < other + p → base ≡ other
one_block base other byte p a b low high under over =
    ⊎_elim (λ less. absurd (omega (arith, next_multiple p base other a b less, high, under)))
    (λ more. ⊎_elim (λ less. absurd (omega (arith, next_multiple p other base b a less, over, low))) (λ upto. omega (arith, more, upto)) (cases_lt other base))
    (cases_lt base other)

-- the first page and the end by what the address and the next one have in common, and by what either has
by_both : (cfg address : ℕ) (e : Entry) → MeansEntry cfg address e → 12 ≤ e.region.log2
    → (bit_and address (address + 1) / 1024 * 4096 ≡ e.region.base) × (min (bit_or address (address + 1) / 1024 + 1)
    (2 ^ 44) * 4096 ≡ e.region.base + 2 ^ e.region.log2)
by_both cfg address e (inl four) page = absurd (let two = four.size in omega (arith, two, page))
by_both cfg address e (inr block) page =
    let ones : ℕ = block.ones in
    let above : ℕ = block.above in
    let split : address + 1 ≡ above * 2 ^ (ones + 1) + 2 ^ ones = block.trailing in
    let both : bit_and address (address + 1) ≡ above * 2 ^ (ones + 1) = shared address ones above split in
    let either = or_add_and address (address + 1) in
    let double : 2 ^ (ones + 1) ≡ 2 ^ ones * 2 = pow-add 2 ones 1 in
    let some : 0 < 2 ^ ones = pow_pos ones in
    let small : address < 2 ^ 54 = block.small in
    let size : e.region.log2 ≡ min 56 (ones + 3) = block.size in
    let inside = e.region.block.inside in
    ⊎_elim
    (λ near.
    let long : e.region.log2 ≡ ones + 1 + 2 = omega (arith, size, near) in
    let whole : 2 ^ e.region.log2 ≡ 2 ^ (ones + 1) * 4 = ap (λ k. 2 ^ k) long ∙ pow-add 2 (ones + 1) 2 in
    let place : above * 2 ^ e.region.log2 ≡ above * 2 ^ (ones + 1) * 4 = ap (λ n. above * n) whole ∙ sym (mul_assoc above (2 ^ (ones + 1)) 4) in
    let base : e.region.base ≡ above * 2 ^ e.region.log2 =
    one_block e.region.base (above * 2 ^ e.region.log2) (4 * address) (2 ^ e.region.log2)
    (multiple_from_mod (2 ^ e.region.log2) e.region.base e.region.block.aligned) (above, refl)
    block.place.0 block.place.1 (omega (arith, place, split, double)) (omega (arith, place, split, double, whole, some)) in
    let pages = power_multiple 10 (ones + 1) (omega (arith, page, long)) in
    let before = multiple_trans 1024 (2 ^ (ones + 1)) (above * 2 ^ (ones + 1)) pages (above, refl) in
    let last : bit_or address (address + 1) / 1024 + 1 ≡ before.0 + pages.0 = omega (arith, either, both, split, double, before.1, pages.1, some) in
    (omega (arith, both, base, place, before.1), omega (arith, last, base, place, whole, before.1, pages.1, inside)))
    (λ far.
    let most : 2 ^ 54 ≤ 2 ^ ones = pow-le-pow_right (omega arith) far in
    let none : above ≡ 0 = none_above above (2 ^ (ones + 1)) (omega (arith, split, double, most, small)) in
    let all : above * 2 ^ (ones + 1) ≡ 0 = no_times above (2 ^ (ones + 1)) none in
    let long : e.region.log2 ≡ 56 = omega (arith, size, far) in
    let whole : 2 ^ e.region.log2 ≡ 2 ^ 56 = ap (λ k. 2 ^ k) long in
    let last : 2 ^ 55 ≤ bit_or address (address + 1) + 1 = omega (arith, either, both, all, split, most) in
    (omega (arith, both, all, whole, inside), omega (arith, last, whole, inside)))
    (cases_lt ones 54)

pub pages_by_address :
    (cfg address end : ℕ) (e : Entry) → end ≡ min (bit_or address ((address + 1) % 2 ^ 64) / 1024 + 1) (2 ^ 44) → MeansEntry cfg address e → 12 ≤ e.region.log2
    → AreBoundsOf e (record { first = bit_and address ((address + 1) % 2 ^ 64) / 1024; end = end })
pages_by_address cfg address end e is means page =
    let small : address < 2 ^ 54 = elim means [ inl four ↦ four.small | inr block ↦ block.small ] in
    let next : (address + 1) % 2 ^ 64 ≡ address + 1 = omega (arith, small) in
    let are = by_both cfg address e means page in
    record {
      first = ap (λ n. bit_and address n / 1024 * 4096) next ∙ are.0;
      end = ap (λ n. n * 4096) is ∙ ap (λ n. min (bit_or address n / 1024 + 1) (2 ^ 44) * 4096) next ∙ are.1;
    }

-- the pages of an entry that nine bytes mean are those of the span of its number
pub bounded :
    (bytes : List ℕ) (i address : ℕ) (s : Span) (b : Bounds) → address ≡ little_number 8 (drop (9 * i + 1) bytes) → IsSpanAt bytes i s
    → ((cfg : ℕ) (e : Entry) → MeansEntry cfg address e → 12 ≤ e.region.log2 → AreBoundsOf e b) → (b.first ≡ s.first) × (b.end ≡ s.end)
bounded bytes i address s b is at of =
    let means : MeansEntry (slice_index bytes (9 * i)) address at.entry = rw (is) at.means in
    let are = of (slice_index bytes (9 * i)) at.entry means at.page in
    (omega (arith, are.first, at.span.first), omega (arith, are.end, at.span.last))

pub span_inside : (bytes : List ℕ) (i : ℕ) (s : Span) → IsSpanAt bytes i s → (s.first < s.end) × (s.end ≤ 2 ^ 44) × (s.size < 45)
span_inside bytes i s at =
    let block = at.entry.region.block in
    let some : 0 < 2 ^ at.entry.region.log2 = pow_pos at.entry.region.log2 in
    (omega (arith, some, at.span.first, at.span.last), omega (arith, block.inside, at.span.last), omega (arith, block.short, at.span.size))

-- ---- the size by the number of pages

trailing_of_power : (k : ℕ) → k < 45 → trailing_zeros w64 (2 ^ k) ≡ k
trailing_of_power k small =
    let some : 0 < 2 ^ k = pow_pos k in
    let few : 2 ^ k < 2 ^ 45 = pow-lt small in
    let zeros : ℕ = trailing_zeros w64 (2 ^ k) in
    let on = (bit_at-trailing_zeros w64 (2 ^ k) some (omega (arith, few))).1 in
    ⊎_elim (λ less. absurd (let off = bit_at-pow_other k zeros (λ e. omega (arith, less, e)) in omega (arith, on, off)))
    (λ upto.
    ⊎_elim (λ less. absurd (let off = bit_at-pow_other k zeros (λ e. omega (arith, less, e)) in omega (arith, on, off))) (λ under. omega (arith, upto, under))
    (cases_lt k zeros))
    (cases_lt zeros k)

pub size_by_pages : (bytes : List ℕ) (i pages : ℕ) (s : Span) → IsSpanAt bytes i s → pages ≡ s.end - s.first → trailing_zeros w64 pages ≡ s.size
size_by_pages bytes i pages s at is =
    let power : 2 ^ at.entry.region.log2 ≡ 2 ^ s.size * 4096 = ap (λ k. 2 ^ k) (sym at.span.size) ∙ pow-add 2 s.size 12 in
    let all : pages ≡ 2 ^ s.size = omega (arith, is, power, at.span.first, at.span.last) in
    ap (λ n. trailing_zeros w64 n) all ∙ trailing_of_power s.size (span_inside bytes i s at).2

-- ---- the permission by the last three bits of the configuration byte

pub perm_by_bits : (bytes : List ℕ) (i : ℕ) (s : Span) → IsSpanAt bytes i s → bits_of s.perm ≡ slice_index bytes (9 * i) % 8
perm_by_bits bytes i s at =
    let own : bits_of s.perm ≡ bits_of at.entry.perm = ap bits_of at.span.perm in
    let small = bits_below at.entry.perm in
    elim at.means [
      | inl four ↦ omega (arith, own, small, four.bits)
      | inr block ↦ omega (arith, own, small, block.bits)
    ]

pub same_span : (s t : Span) → s.first ≡ t.first → s.end ≡ t.end → s.size ≡ t.size → s.perm ≡ t.perm → s ≡ t
same_span s t first end size perm = λ k. record { first = first k; end = end k; size = size k; perm = perm k }
