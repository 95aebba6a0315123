use Rattle.std.proofs.Common.{ℕ, List, [], ◌≡◌, ◌++◌, ◌-◌, ◌<◌, ◌≤◌, ◌⊎◌, inl, inr, length, map, sym, refl, append-nil, arith}
use Rattle.std.proofs.lemmas.List.{length-map}
use Rattle.std.proofs.lemmas.Result.{err_from_is_err_and}
use Rattle.text_lines.specs.Writings.{TakesAll, Breaks, writing}
use Rattle.pmp_encoding.specs.declared.limit.Limit.{Limit}
use Rattle.pmp_encoding.specs.Limits.{limit_number}
use Rattle.text_lines.proofs.Writings.{breaks_after, breaks_before, takes_then}
use Rattle.pmp_encoding.specs.declared.xlen.Xlen.{Xlen}
use Rattle.pmp_encoding.specs.Widths.{whole_word, word_count}
use Rattle.map_text.specs.declared.listed_entry.ChainedEntry.{ChainedEntry}
use Rattle.map_text.specs.Plans.{IsListText, list_text, words_text}
use Rattle.map_text.proofs.plan.print_plan.Goals as goal

full : (n m k : ℕ) → m < n → m ≡ k → n ≤ k → ⊥
full n m k h e l = omega arith

room : (n m k : ℕ) → n ≤ m → m ≡ k → k < n → ⊥
room n m k h e l = omega arith

at_most : (n m k : ℕ) → n ≡ m → m ≤ k → n ≤ k
at_most n m k e l = omega (arith, e, l)

-- the words of a list, where the hart has room for it
abbrev words_of : Xlen → Limit → ℕ → List ChainedEntry → List ℕ
words_of xlen limit first entries = words_text xlen first entries (whole_word xlen first) (word_count xlen limit - whole_word xlen first)

-- the text of a list that does not fit
listed : (xlen : Xlen) (limit : Limit) (first : ℕ) (entries : List ChainedEntry) (m : ℕ) → m < length entries → m ≡ limit_number limit - first
    → IsListText xlen limit first entries (list_text xlen first entries)
listed xlen limit first entries m beyond is = record {
  words = [];
  lines = sym (append-nil (list_text xlen first entries));
  fits = λ h. absurd (full _ _ _ beyond is h);
  too_many = λ h. refl;
}

-- the text of a list that fits, with its words
with_words : (xlen : Xlen) (limit : Limit) (first : ℕ) (entries : List ChainedEntry) (m : ℕ) → length entries ≤ m → m ≡ limit_number limit - first
    → IsListText xlen limit first entries (list_text xlen first entries ++ words_of xlen limit first entries)
with_words xlen limit first entries m fits is = record {
  words = words_of xlen limit first entries;
  lines = refl;
  fits = λ h. refl;
  too_many = λ h. absurd (room _ _ _ fits is h);
}

fits_or_not : (n m : ℕ) → (n ≤ m) ⊎ (m < n)
fits_or_not n m = grind arith

-- the text of a list, whether or not it fits
some_text : (xlen : Xlen) (limit : Limit) (first : ℕ) (entries : List ChainedEntry)
    → (words : List ℕ) × IsListText xlen limit first entries (list_text xlen first entries ++ words)
some_text xlen limit first entries = elim (fits_or_not (length entries) (limit_number limit - first)) [
  | inl h ↦ (words_of xlen limit first entries, with_words xlen limit first entries _ h refl)
  | inr h ↦ ([], rw (append-nil (list_text xlen first entries)) (listed xlen limit first entries _ h refl))
]

pub returns-in_err-print_list : goal.returns-in_err-print_list
returns-in_err-print_list g c =
    let entries = map g.E.ListedEntry.listed c.args.entries.now in
    let some = some_text c.args.xlen c.args.limit c.args.first entries in
    rw (err_from_is_err_and c.from_residual.result c.from_residual.ensures.1).1 (
      list_text c.args.xlen c.args.first entries ++ some.0,
      some.1,
      breaks_before g.W.Sink.contents g.W.Sink.failures g.W.Sink.stalls some.0
          c.in_err-print_list.ensures,
    )

pub returns-in_err-print_words : goal.returns-in_err-print_words
returns-in_err-print_words g c =
    let entries = map g.E.ListedEntry.listed c.args.entries.now in
    let words = words_of c.args.xlen c.args.limit c.args.first entries in
    let room = at_most _ _ _ (length-map c.args.entries.now g.E.ListedEntry.listed) c.if-entries-room.false in
    let is_text = with_words c.args.xlen c.args.limit c.args.first entries _ room c.room_from-room.ensures in
    let broken : Breaks words (writing g.W.Sink.contents g.W.Sink.failures g.W.Sink.stalls c.print_list.new.out c.print_words.new.out) = rw
    c.words-count.ensures.value at c.in_err-print_words.ensures in
    rw (err_from_is_err_and c.from_residual-in_err-print_words.result c.from_residual-in_err-print_words.ensures.1).1 (
      list_text c.args.xlen c.args.first entries ++ words,
      is_text,
      breaks_after g.W.Sink.contents g.W.Sink.failures g.W.Sink.stalls
          c.in_ok-print_list.ensures broken,
    )

pub returns : goal.returns
returns g c =
    let entries = map g.E.ListedEntry.listed c.args.entries.now in
    let words = words_of c.args.xlen c.args.limit c.args.first entries in
    let room = at_most _ _ _ (length-map c.args.entries.now g.E.ListedEntry.listed) c.if-entries-room.false in
    let is_text = with_words c.args.xlen c.args.limit c.args.first entries _ room c.room_from-room.ensures in
    let taken : TakesAll words (writing g.W.Sink.contents g.W.Sink.failures g.W.Sink.stalls c.print_list.new.out c.print_words.new.out) = rw
    c.words-count.ensures.value at c.in_ok-print_words.ensures in (
      list_text c.args.xlen c.args.first entries ++ words,
      is_text,
      takes_then g.W.Sink.contents g.W.Sink.failures g.W.Sink.stalls
          c.in_ok-print_list.ensures taken,
    )
