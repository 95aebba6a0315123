-- Rows one after another.
use Rattle.std.proofs.Common.{◌≡◌, ℕ, ◌+◌, ◌*◌, ◌<◌, ◌≤◌, List, [], ◌∷◌, ◌++◌, add-one, drop, drop-cons, get_or, length, append_assoc, ap, refl, suc, sym, subst, ◌∙◌}
use Rattle.std.proofs.lemmas.List.{drop-drop}
use Rattle.device_tree.specs.declared.cells.Cells.{Cells}
use Rattle.device_tree.specs.declared.ways.Window.{Window}
use Rattle.device_tree.specs.declared.rows.Extent.{Extent}
use Rattle.device_tree.specs.Cells.{AreRows, number_of, row_len}
use Rattle.device_tree.specs.Windows.{AreWindows, Path, window_len}
use Rattle.device_tree.specs.declared.kinds.Kind.{Kind}
use Rattle.device_tree.specs.Meaning.{AreRanges, AreRowRanges, Range, is_plain}

pub and_window : (cells : Cells) (outer : ℕ) (bytes : List ℕ) (at : ℕ) (before : List Window) (w : Window)
    → 0 < window_len cells outer → window_len cells outer ≤ length (drop at bytes)
    → w.child ≡ number_of cells.address (drop at bytes)
    → w.parent ≡ number_of outer (drop (4 * cells.address) (drop at bytes))
    → w.size ≡ number_of cells.size (drop (4 * (cells.address + outer)) (drop at bytes))
    → ((later : List Window) → AreWindows cells outer (drop at bytes) later → AreWindows cells outer bytes (before ++ later))
    → (later : List Window) → AreWindows cells outer (drop (at + window_len cells outer) bytes) later
    → AreWindows cells outer bytes ((before ++ w ∷ []) ++ later)
and_window cells outer bytes at before w some long child parent size whole later are =
    let next : AreWindows cells outer (drop (window_len cells outer) (drop at bytes)) later =
    subst (λ (x : List ℕ). AreWindows cells outer x later) (sym (drop-drop (window_len cells outer) at bytes)) are in
    subst (λ (x : List Window). AreWindows cells outer bytes x) (sym (append_assoc before (w ∷ []) later))
    (whole (w ∷ later) (some, long, child, parent, size, next))

pub and_row : (cells : Cells) (bytes : List ℕ) (at : ℕ) (before : List Extent) (w : Extent)
    → 0 < row_len cells → row_len cells ≤ length (drop at bytes)
    → w.base ≡ number_of cells.address (drop at bytes)
    → w.size ≡ number_of cells.size (drop (4 * cells.address) (drop at bytes))
    → ((later : List Extent) → AreRows cells (drop at bytes) later → AreRows cells bytes (before ++ later))
    → (later : List Extent) → AreRows cells (drop (at + row_len cells) bytes) later
    → AreRows cells bytes ((before ++ w ∷ []) ++ later)
and_row cells bytes at before w some long base size whole later are =
    let next : AreRows cells (drop (row_len cells) (drop at bytes)) later =
    subst (λ (x : List ℕ). AreRows cells x later) (sym (drop-drop (row_len cells) at bytes)) are in
    subst (λ (x : List Extent). AreRows cells bytes x) (sym (append_assoc before (w ∷ []) later))
    (whole (w ∷ later) (some, long, base, size, next))

row_at : (rows : List Extent) (i : ℕ) (row d : Extent) → i < length rows → row ≡ get_or rows i d → drop i rows ≡ row ∷ drop (i + 1) rows
row_at rows i row d inside is = rw add-one (drop-cons rows i d inside ∙ ap (λ x. x ∷ drop (suc i) rows) (sym is))

pub and_ranges : (way : Path) (kind : Kind) (name : List ℕ) (rows : List Extent) (i : ℕ) (row d : Extent) → i < length rows → row ≡ get_or rows i d
    → (before first : List Range) → ((later : List Range) → AreRanges way kind name (drop i rows) later → AreRanges way kind name rows (before ++ later))
    → AreRowRanges (is_plain way kind) way kind name row first
    → (later : List Range) → AreRanges way kind name (drop (i + 1) rows) later → AreRanges way kind name rows ((before ++ first) ++ later)
and_ranges way kind name rows i row d inside is before first whole one later are =
    let here : AreRanges way kind name (row ∷ drop (i + 1) rows) (first ++ later) = (first, later, one, are, refl) in
    subst (λ (x : List Range). AreRanges way kind name rows x) (sym (append_assoc before first later))
    (whole (first ++ later) (subst (λ (x : List Extent). AreRanges way kind name x (first ++ later)) (sym (row_at rows i row d inside is)) here))
