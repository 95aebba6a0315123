-- Bytes that went to a sink one after another.
use Rattle.std.proofs.Common.{◌≡◌, ◌∙◌, ℕ, ◌+◌, ◌<◌, List, [], ◌∷◌, ◌++◌, get_or, ap₂, length, take, drop, append_assoc, length-append, arith, ap, sym, subst}
use Rattle.std.proofs.Common.{Option}
use Rattle.std.proofs.KnownBytes.{Appends-trans}
use Rattle.std.proofs.Math.Seq.{take-append_seam}
use Rattle.std.proofs.lemmas.Grind.{flat_map-append}
use Rattle.std.proofs.lemmas.List.{take-append-drop, take_more, flat_map_more, length-drop, append-nil}
use Rattle.std.specs.List.{flat_map}
use Rattle.std.specs.Io.KnownBytes.{Appends}
use Rattle.text_lines.specs.Streams.{WriteFails}
use Rattle.pmp_encoding.specs.declared.region.Entry.{Entry}
use Rattle.prefix_tree.specs.Trees.{PermTree, Split}
use Rattle.prefix_tree.specs.Counts.{splits}
use Rattle.entry_planner.specs.declared.costs.BlockCost.{BlockCost}
use Rattle.entry_planner.specs.Plans.{cost_in, costed}
use Rattle.certificate_format.specs.declared.costs.SixCosts.{SixCosts}
use Rattle.certificate_format.specs.Costs.{cost_of, six_of}
use Rattle.certificate_format.specs.Spelling.{costs_bytes, node_bytes}
use Rattle.text_lines.specs.Writings.{Breaks, writing}
use Rattle.plan_certificate.specs.Pieces.{Taken, IsPut, IsCut, taken}
use Rattle.plan_certificate.specs.Written.{entry_bytes}

-- what goes in turn
joined : (went then held middle holds bytes more : List ℕ) → went ++ middle ≡ held ++ bytes → then ++ holds ≡ middle ++ more
    → (went ++ then) ++ holds ≡ held ++ (bytes ++ more)
joined went then held middle holds bytes more first second =
    append_assoc went then holds
    ∙ ap (λ (xs : List ℕ). went ++ xs) second
    ∙ sym (append_assoc went middle more)
    ∙ ap (λ (xs : List ℕ). xs ++ more) first
    ∙ append_assoc held bytes more

pub put_then :
    (held middle holds : List ℕ) (old mid new : Taken) (bytes more : List ℕ) → IsPut held middle old mid bytes → IsPut middle holds mid new more
    → IsPut held holds old new (bytes ++ more)
put_then held middle holds old mid new bytes more first second = record {
  went = first.went ++ second.went;
  appended = Appends-trans _ _ _ _ _ first.appended second.appended;
  left = joined first.went second.went held middle holds bytes more first.left second.left;
  well = second.well ∙ first.well;
  unstalled = second.unstalled ∙ first.unstalled;
}

-- bytes that are held after others, for which room was made
pub held_put : (held room new : List ℕ) (old mid : Taken) (bytes : List ℕ) → IsPut held room old mid [] → new ≡ room ++ bytes → IsPut held new old mid bytes
held_put held room new old mid bytes put is = record {
  went = put.went;
  appended = put.appended;
  left =
      ap (λ (xs : List ℕ). put.went ++ xs) is
      ∙ sym (append_assoc put.went room bytes)
      ∙ ap (λ (xs : List ℕ). xs ++ bytes) (put.left ∙ append-nil held);
  well = put.well;
  unstalled = put.unstalled;
}

fails_from :
    (failures failures' failed stalls stalls' stalled : ℕ) → failures' ≡ failures → stalls' ≡ stalls → WriteFails failures' failed stalls' stalled
    → WriteFails failures failed stalls stalled
fails_from failures failures' failed stalls stalls' stalled e f fails =
    subst (λ (s : ℕ). WriteFails failures failed s stalled) f (subst (λ (n : ℕ). WriteFails n failed stalls' stalled) e fails)

pub cut_then :
    (held middle : List ℕ) (old mid new : Taken) (bytes more : List ℕ) → IsPut held middle old mid bytes → IsCut middle mid new more
    → IsCut held old new (bytes ++ more)
cut_then held middle old mid new bytes more first second = record {
  went = first.went ++ second.went;
  missing = second.missing;
  appended = Appends-trans _ _ _ _ _ first.appended second.appended;
  short = joined first.went second.went held middle second.missing bytes more first.left second.short;
  some = second.some;
  fails = fails_from old.failures mid.failures new.failures old.stalls mid.stalls new.stalls first.well first.unstalled second.fails;
}

pub cut_more : (held : List ℕ) (old new : Taken) (bytes more : List ℕ) → IsCut held old new bytes → IsCut held old new (bytes ++ more)
cut_more held old new bytes more cut = record {
  went = cut.went;
  missing = cut.missing ++ more;
  appended = cut.appended;
  short = sym (append_assoc cut.went cut.missing more) ∙ ap (λ (xs : List ℕ). xs ++ more) cut.short ∙ append_assoc held bytes more;
  some = omega (arith, cut.some, length-append cut.missing more);
  fails = cut.fails;
}

-- a beginning of what was held went to the sink
pub cut_in_piece :
    (held : List ℕ) (old new : Taken) (bytes : List ℕ) → (n : ℕ) × (n < length held) × Appends old.contents new.contents (take n held)
    → WriteFails old.failures new.failures old.stalls new.stalls → IsCut held old new bytes
cut_in_piece held old new bytes part fails = record {
  went = take part.0 held;
  missing = drop part.0 held ++ bytes;
  appended = part.2;
  short = sym (append_assoc (take part.0 held) (drop part.0 held) bytes) ∙ ap (λ (xs : List ℕ). xs ++ bytes) (take-append-drop part.0 held);
  some = omega (arith, part.1, length-append (drop part.0 held) bytes, length-drop part.0 held);
  fails = fails;
}

-- what was held is of the bytes where nothing was held before
pub cut_whole : (held : List ℕ) (old new : Taken) (bytes : List ℕ) → IsCut held old new bytes → IsCut [] old new (held ++ bytes)
cut_whole held old new bytes cut = record {
  went = cut.went;
  missing = cut.missing;
  appended = cut.appended;
  short = cut.short;
  some = cut.some;
  fails =
      cut.fails;
}

-- a beginning of the bytes, not all of them
pub part_of_cut : (old new : Taken) (bytes : List ℕ) → IsCut [] old new bytes → (n : ℕ) × (n < length bytes) × Appends old.contents new.contents (take n bytes)
part_of_cut old new bytes cut =
    let front : take (length cut.went) bytes ≡ cut.went = ap (take (length cut.went)) (sym cut.short) ∙ take-append_seam cut.went cut.missing in (
      length cut.went,
      omega (arith, cut.some, length-append cut.went cut.missing, ap length cut.short),
      subst (λ (xs : List ℕ). Appends old.contents new.contents xs) (sym front) cut.appended,
    )

-- so that the bytes broke off
pub breaks_of_cut :
    {W : Type 0} (contents : W → Option (List ℕ)) (failures stalls : W → ℕ) {old new : W} (bytes : List ℕ)
    → IsCut [] (taken contents failures stalls old) (taken contents failures stalls new) bytes → Breaks bytes (writing contents failures stalls old new)
breaks_of_cut contents failures stalls {old = old} {new = new} bytes cut = record {
  part = part_of_cut (taken contents failures stalls old) (taken contents failures stalls new) bytes cut;
  fails = cut.fails;
}

-- entries up to one, that one, and those after it
pub entries_more : (es : List Entry) (i : ℕ) (d : Entry) → i < length es → flat_map entry_bytes (take (i + 1) es) ≡ flat_map entry_bytes
    (take i es) ++ entry_bytes (get_or es i d)
entries_more es i d inside = ap (flat_map entry_bytes) (take_more es i d inside) ∙ sym (flat_map_more entry_bytes [] (take i es) (get_or es i d))

pub entries_split : (es : List Entry) (n : ℕ) → flat_map entry_bytes (take n es) ++ flat_map entry_bytes (drop n es) ≡ flat_map entry_bytes es
entries_split es n = sym (flat_map-append entry_bytes (take n es) (drop n es)) ∙ ap (flat_map entry_bytes) (take-append-drop n es)

-- a split block's bytes are its front, its lower half's and its upper half's
pub branch_spelled :
    (costs : List BlockCost) (i middle : ℕ) (shape lower upper : PermTree) (front array : List ℕ) (six : SixCosts) → shape ≡ Split lower upper → front ≡ array
    → array ≡ 1 ∷ costs_bytes (cost_of six) → six ≡ six_of (cost_in costs i) → middle ≡ i + 1 + splits lower
    → (front ++ node_bytes (costed costs (i + 1) lower)) ++ node_bytes (costed costs middle upper) ≡ node_bytes (costed costs i shape)
branch_spelled costs i middle shape lower upper front array six is_split is_front is_array is_six is_middle =
    let e : front ≡ 1 ∷ costs_bytes (cost_in costs i) = is_front ∙ is_array ∙ ap (λ (x : SixCosts). 1 ∷ costs_bytes (cost_of x)) is_six in
    append_assoc front (node_bytes (costed costs (i + 1) lower)) (node_bytes (costed costs middle upper))
    ∙ ap₂ (λ (xs : List ℕ) (m : ℕ). xs ++ (node_bytes (costed costs (i + 1) lower) ++ node_bytes (costed costs m upper))) e is_middle
    ∙ ap (λ (t : PermTree). node_bytes (costed costs i t)) (sym is_split)
