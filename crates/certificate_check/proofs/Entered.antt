-- The spans of a list of entries, and what they decide.
use Rattle.std.proofs.Common.{◌≡◌, ℕ, zero, suc, ◌+◌, ◌*◌, ◌/◌, ◌-◌, ◌^◌, ◌<◌, ◌≤◌, ◌↔◌, Bool, true, false, cond, nat_le, nat_lt, List, [], ◌∷◌, ◌++◌, length}
use Rattle.std.proofs.Common.{take, drop, length-append, IsTrue, arith, sym, subst, ap, refl, ◌∙◌}
use Rattle.std.specs.Prelude.{slice_index}
use Rattle.std.specs.List.{All}
use Rattle.std.proofs.Math.Seq.{drop-append-add}
use Rattle.std.proofs.lemmas.List.{get_or-append-add}
use Rattle.std.proofs.lemmas.Bool.{ltb-true, leb-true, lt-ltb, le-leb, and_from, and_parts}
use Rattle.std.proofs.lemmas.Grind.{common_steps}
use Rattle.byteorder.specs.Endian.{little_number}
use Rattle.pmp_encoding.specs.declared.perm.Perm.{Perm}
use Rattle.pmp_encoding.specs.declared.perm.Perm.TheVariants.{NoAccess}
use Rattle.pmp_encoding.specs.declared.region.Entry.{Entry}
use Rattle.pmp_encoding.specs.Encoding.{MeansEntry}
use Rattle.pmp_match.specs.Bytes.{holds_byte, perm_at}
use Rattle.pmp_match.specs.Meaning.{View, Means}
use Rattle.pmp_match.proofs.Meant.{Means_at}
use Rattle.pmp_match.proofs.Pages.{page_law_proof}
use Rattle.certificate_format.specs.Spelling.{u64_bytes, pair_bytes, SpellsEntry, SpellsEntries, AreNoSubPages}
use Rattle.certificate_format.proofs.Numbers.{number-u64_bytes}
use Rattle.certificate_format.proofs.CostBytes.{length-pair_bytes}
use Rattle.certificate_check.specs.declared.entries.Span.{Span}
use Rattle.certificate_check.specs.Spans.{IsSpanOf, IsSpanAt, ReadsAs, Covers, Decides, first, none, count_in}
use Rattle.certificate_check.proofs.Spanned.{page_multiple}
use Rattle.certificate_check.proofs.InTurn.{means_small}
use Rattle.certificate_check.proofs.Swept.{one_decided}

-- the pages of an entry
abbrev pub span_for : Entry → Span
span_for e = record { first = e.region.base / 4096; end = (e.region.base + 2 ^ e.region.log2) / 4096; size = e.region.log2 - 12; perm = e.perm }

span_for_is : (e : Entry) → 12 ≤ e.region.log2 → IsSpanOf e (span_for e)
span_for_is e h =
    let whole = page_multiple e h in
    let base : e.region.base ≡ whole.0.0 * 4096 = whole.0.1 in
    let more : 2 ^ e.region.log2 ≡ whole.1.0 * 4096 = whole.1.1 in
    record { first = omega (arith, base); last = omega (arith, base, more); size = omega arith; perm = refl }

-- those of a list by their numbers
abbrev pub spans_of : List Entry → ℕ → Span
spans_of [] i = record { first = 0; end = 0; size = 0; perm = NoAccess }
spans_of (e ∷ es) zero = span_for e
spans_of (e ∷ es) (suc i) = spans_of es i

-- ---- the bytes read as the spans

here_at : (before rest : List ℕ) (e : Entry) → SpellsEntry before e → 12 ≤ e.region.log2 → IsSpanAt (before ++ rest) 0 (span_for e)
here_at before rest e spells page =
    let number : little_number 8 (u64_bytes spells.pair.1 ++ rest) ≡ spells.pair.1 = number-u64_bytes spells.pair.1 rest (means_small _ _ e spells.means) in
    let front : IsSpanAt (pair_bytes spells.pair ++ rest) 0 (span_for e) = record {
      entry = e;
      means = subst (λ (n : ℕ). MeansEntry spells.pair.0 n e) (sym number) spells.means;
      page = page;
      span = span_for_is e page;
    } in
    subst (λ (xs : List ℕ). IsSpanAt (xs ++ rest) 0 (span_for e)) (sym spells.spelled) front

later_at : (before rest : List ℕ) (j : ℕ) (s : Span) → length before ≡ 9 → IsSpanAt rest j s → IsSpanAt (before ++ rest) (suc j) s
later_at before rest j s nine at =
    let index : 9 * suc j ≡ length before + 9 * j = omega (arith, nine) in
    let behind : 9 * suc j + 1 ≡ length before + (9 * j + 1) = omega (arith, nine) in
    let cfg : slice_index (before ++ rest) (9 * suc j) ≡ slice_index rest (9 * j) = ap (λ n. slice_index (before ++ rest) n) index
    ∙ get_or-append-add before rest (9 * j) 0 in
    let tail : drop (9 * suc j + 1) (before ++ rest) ≡ drop (9 * j + 1) rest = ap (λ n. drop n (before ++ rest)) behind
    ∙ drop-append-add before rest (9 * j + 1) in
    record {
      entry = at.entry;
      means = subst (λ (n : ℕ). MeansEntry n (little_number 8 (drop (9 * suc j + 1) (before ++ rest))) at.entry) (sym cfg)
          (subst (λ (xs : List ℕ). MeansEntry (slice_index rest (9 * j)) (little_number 8 xs) at.entry) (sym tail) at.means);
      page = at.page;
      span = at.span;
    }

entry_long : (before : List ℕ) (e : Entry) → SpellsEntry before e → length before ≡ 9
entry_long before e spells = ap length spells.spelled ∙ length-pair_bytes spells.pair

pub listed_long : (listed : List ℕ) (es : List Entry) → SpellsEntries listed es → length listed ≡ 9 * length es
listed_long listed [] h = ap length h
listed_long listed (e ∷ es) (before, rest, split, here, later) =
    let a : length before ≡ 9 = entry_long before e here in
    let b : length rest ≡ 9 * length es = listed_long rest es later in
    ap length split ∙ length-append before rest ∙ omega (arith, a, b)

span_at_each : (listed : List ℕ) (es : List Entry) → SpellsEntries listed es → AreNoSubPages es → (i : ℕ) → i < length es → IsSpanAt listed i (spans_of es i)
span_at_each listed [] h pages i less = absurd (omega arith)
span_at_each listed (e ∷ es) (before, rest, split, here, later) pages zero less =
    subst (λ (xs : List ℕ). IsSpanAt xs 0 (span_for e)) (sym split) (here_at before rest e here pages.0)
span_at_each listed (e ∷ es) (before, rest, split, here, later) pages (suc i) less =
    subst (λ (xs : List ℕ). IsSpanAt xs (suc i) (spans_of es i)) (sym split)
    (later_at before rest i (spans_of es i) (entry_long before e here) (span_at_each rest es later pages.1 i (omega arith)))

pub count_listed : (listed : List ℕ) (es : List Entry) → SpellsEntries listed es → count_in listed ≡ length es
count_listed listed es h = omega (arith, listed_long listed es h)

pub reads_listed : (listed : List ℕ) (es : List Entry) → SpellsEntries listed es → AreNoSubPages es → ReadsAs listed (spans_of es)
reads_listed listed es h pages i less = span_at_each listed es h pages i (omega (arith, count_listed listed es h))

-- ---- what the spans decide is what the entries give at the first byte of the page

covers_from : (e : Entry) (page : ℕ) → 12 ≤ e.region.log2 → holds_byte e.region (page * 4096) ≡ true → Covers (span_for e) page
covers_from e page h held =
    let is = span_for_is e h in
    let f = is.first in
    let l = is.last in
    let both : (nat_le e.region.base (page * 4096) ≡ true) × (nat_lt (page * 4096) (e.region.base + 2 ^ e.region.log2) ≡ true) = and_parts _ _ held in
    let low : e.region.base ≤ page * 4096 = leb-true _ _ both.0 in
    let high : page * 4096 < e.region.base + 2 ^ e.region.log2 = ltb-true _ _ both.1 in
    (omega (arith, f, low), omega (arith, l, high))

covers_to : (e : Entry) (page : ℕ) → 12 ≤ e.region.log2 → Covers (span_for e) page → holds_byte e.region (page * 4096) ≡ true
covers_to e page h covers =
    let is = span_for_is e h in
    let f = is.first in
    let l = is.last in
    let a : e.region.base / 4096 ≤ page = covers.0 in
    let b : page < (e.region.base + 2 ^ e.region.log2) / 4096 = covers.1 in
    let low : e.region.base ≤ page * 4096 = omega (arith, f, a) in
    let high : page * 4096 < e.region.base + 2 ^ e.region.log2 = omega (arith, l, b) in
    and_from _ _ (le-leb _ _ low) (lt-ltb _ _ high)

-- the spans after the first
behind_first :
    (e : Entry) (es : List Entry) (n page : ℕ) (p : Perm) → (Covers (span_for e) page → ⊥) → Decides (spans_of es) n page p
    → Decides (spans_of (e ∷ es)) (suc n) page p
behind_first e es n page p missed (first i below here before) =
    first (suc i) (omega arith) here (λ j less covers. earlier j less covers)
  where
    earlier : (j : ℕ) → j < suc i → Covers (spans_of (e ∷ es) j) page → ⊥
    earlier zero less covers = missed covers
    earlier (suc j) less covers = before j (omega arith) covers
behind_first e es n page p missed (none never) = none all
  where
    all : (j : ℕ) → j < suc n → Covers (spans_of (e ∷ es) j) page → ⊥
    all zero less covers = missed covers
    all (suc j) less covers = never j (omega arith) covers

decided_head : (e : Entry) (es : List Entry) (page : ℕ) → Covers (span_for e) page → Decides (spans_of (e ∷ es)) (suc (length es)) page e.perm
decided_head e es page covers = first zero (omega arith) covers (λ j less. absurd (omega arith))

decided_either :
    (e : Entry) (es : List Entry) (page : ℕ) → 12 ≤ e.region.log2 → (t : Bool) → holds_byte e.region (page * 4096) ≡ t
    → Decides (spans_of es) (length es) page (perm_at NoAccess es (page * 4096))
    → Decides (spans_of (e ∷ es)) (suc (length es)) page (cond t e.perm (perm_at NoAccess es (page * 4096)))
decided_either e es page long true is later = decided_head e es page (covers_from e page long is)
decided_either e es page long false is later =
    behind_first e es (length es) page _ (λ covers. absurd (let x = sym is ∙ covers_to e page long covers in cc)) later

decides_listed : (es : List Entry) (page : ℕ) → AreNoSubPages es → Decides (spans_of es) (length es) page (perm_at NoAccess es (page * 4096))
decides_listed [] page pages = none (λ j less. absurd (omega arith))
decides_listed (e ∷ es) page pages = decided_either e es page pages.0 (holds_byte e.region (page * 4096)) refl (decides_listed es page pages.1)

-- ---- the meaning

all_pages : (es : List Entry) → AreNoSubPages es → All (λ e. 12 ≤ e.region.log2) es
all_pages [] h k d less = absurd (omega arith)
all_pages (e ∷ es) h zero d less = h.0
all_pages (e ∷ es) h (suc k) d less = all_pages es h.1 k d (omega arith)

decides_means :
    (es : List Entry) (view : View) → AreNoSubPages es → ((page : ℕ) → page < 2 ^ 44 → Decides (spans_of es) (length es) page (view page)) → Means es view
decides_means es view pages all = (page_law_proof es view (all_pages es pages)).1
    (λ page small. one_decided (spans_of es) (length es) page _ _ (decides_listed es page pages) (all page small))

means_decides :
    (es : List Entry) (view : View) → AreNoSubPages es → Means es view → (page : ℕ) → page < 2 ^ 44 → Decides (spans_of es) (length es) page (view page)
means_decides es view pages means page small = subst (λ (p : Perm). Decides (spans_of es) (length es) page p) (Means_at es view means page small)
    (decides_listed es page pages)

-- an answer for every way to read the spans is one on the meaning
pub meaning :
    (listed : List ℕ) (es : List Entry) (view : View) (said : Bool) → SpellsEntries listed es → AreNoSubPages es
    → ((spans : ℕ → Span) → ReadsAs listed spans → IsTrue said ↔ ((page : ℕ) → page < 2 ^ 44 → Decides spans (count_in listed) page (view page)))
    → IsTrue said ↔ Means es view
meaning listed es view said spelled pages answer =
    let here = answer (spans_of es) (reads_listed listed es spelled pages) in
    let count : count_in listed ≡ length es = count_listed listed es spelled in (
      (λ t. decides_means es view pages (λ page small. subst (λ (n : ℕ). Decides (spans_of es) n page (view page)) count (here.0 t page small))),
      (λ m. here.1 (λ page small. subst (λ (n : ℕ). Decides (spans_of es) n page (view page)) (sym count) (means_decides es view pages m page small))),
    )

-- the bytes of the entries, cut out
pub cut_listed : (bytes listed rest : List ℕ) → bytes ≡ listed ++ rest → take (length bytes - length rest) bytes ≡ listed
cut_listed bytes listed rest split =
    let n : length bytes - length rest ≡ length listed = (let l = ap length split ∙ length-append listed rest in omega (arith, l)) in
    ap (λ m. take m bytes) n ∙ ap (λ xs. take (length listed) xs) split ∙ take_front listed rest
  where
    take_front : (xs ys : List ℕ) → take (length xs) (xs ++ ys) ≡ xs
    take_front xs ys = grind (arith, common_steps)
