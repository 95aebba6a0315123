-- Each piece of a structure block begins at its offset.
use Rattle.std.proofs.Common.{◌≡◌, ℕ, zero, suc, ◌+◌, ◌-◌, ◌≤◌, List, [], ◌∷◌, ◌++◌, length, drop, append-nil, append_assoc, length-drop, sym, ap, subst, refl, ◌∙◌, arith}
use Rattle.std.specs.Prelude.{⊤}
use Rattle.std.proofs.lemmas.List.{drop-drop, map-append}
use Rattle.device_tree.specs.declared.pieces.PlacedPiece.{PlacedPiece}
use Rattle.device_tree.specs.Words.{BeginsWith, Leaves, padded, word_at}
use Rattle.device_tree.specs.Pieces.{Part, SpellsPart, SpellsParts, begins, has, ends, part_of, parts_of, the_end, skipped, part}
use Rattle.device_tree.specs.Places.{Block, BeginsAt, ArePlaced, block_at, from_offset}
use Rattle.device_tree.specs.Refusals.{offset_of}
use Rattle.device_tree.proofs.TreeParts.{two_words}

-- behind these pieces come some parts, and each of the pieces begins at its offset
abbrev pub PlacedBefore : Block → List PlacedPiece → List Part → Type 0
PlacedBefore block [] later = ⊤
PlacedBefore block (first ∷ more) later = BeginsAt block first.offset (part_of first.piece ∷ (parts_of more ++ later)) × PlacedBefore block more later

pub and_placed : (block : Block) (pieces : List PlacedPiece) (x : PlacedPiece) (later : List Part) → PlacedBefore block pieces (part_of x.piece ∷ later)
    → BeginsAt block x.offset (part_of x.piece ∷ later) → PlacedBefore block (pieces ++ x ∷ []) later
and_placed block [] x later before at = (at, tt)
and_placed block (first ∷ more) x later before at =
    let e : parts_of (more ++ x ∷ []) ++ later ≡ parts_of more ++ (part_of x.piece ∷ later) =
    ap (λ (y : List Part). y ++ later) (map-append (λ (y : PlacedPiece). part_of y.piece) more (x ∷ []))
    ∙ append_assoc (parts_of more) (part_of x.piece ∷ []) later in (
      subst (λ (y : List Part). BeginsAt block first.offset (part_of first.piece ∷ y)) (sym e) before.0,
      and_placed block more x later before.1 at,
    )

pub all_placed : (block : Block) (pieces : List PlacedPiece) → PlacedBefore block pieces [] → ArePlaced block pieces
all_placed block [] before = tt
all_placed block (first ∷ more) before = (
  subst (λ (y : List Part). BeginsAt block first.offset (part_of first.piece ∷ y)) (append-nil (parts_of more)) before.0,
  all_placed block more before.1,
)

-- the first of those that are left behind some begins at its offset
pub placed_at : (block : Block) (pieces : List PlacedPiece) (count end : ℕ) → ArePlaced block pieces → BeginsAt block end []
    → BeginsAt block (offset_of (drop count pieces) end) (parts_of (drop count pieces))
placed_at block [] zero end are at_end = at_end
placed_at block [] (suc n) end are at_end = at_end
placed_at block (first ∷ later) zero end are at_end = are.0
placed_at block (first ∷ later) (suc n) end are at_end = placed_at block later n end are.1 at_end

-- the token of the end is the last of a block
abbrev pub IsEnded : List ℕ → Type 0
IsEnded bytes = (4 ≤ length bytes) × BeginsWith (drop (length bytes - 4) bytes) 9

ended_behind : (bytes rest : List ℕ) (n : ℕ) → Leaves bytes n rest → IsEnded rest → IsEnded bytes
ended_behind bytes rest n leaves end =
    let len : length rest ≡ length bytes - n = ap length leaves.behind ∙ length-drop n bytes in
    let same : drop (length rest - 4) rest ≡ drop (length bytes - 4) bytes =
    ap (λ (x : List ℕ). drop (length rest - 4) x) leaves.behind ∙ drop-drop (length rest - 4) n bytes
    ∙ ap (λ k. drop k bytes) (omega (arith, len, leaves.inside, end.0)) in
    (omega (arith, len, end.0), subst (λ (x : List ℕ). BeginsWith x 9) same end.1)

pub is_ended : (strings bytes : List ℕ) (parts : List Part) → SpellsParts strings bytes parts → IsEnded bytes
is_ended strings bytes parts (the_end h e) =
    let none : 0 ≡ length bytes - 4 = omega (arith, e) in
    (h.long, subst (λ k. BeginsWith (drop k bytes) 9) none h)
is_ended strings bytes parts (skipped h later) =
    ended_behind bytes (drop 4 bytes) 4 (record { inside = h.long; behind = refl }) (is_ended strings (drop 4 bytes) parts later)
is_ended strings bytes parts (part {rest = r} {first = begins n} {parts = p} h later) =
    ended_behind bytes r (4 + padded (length n + 1)) h.2 (is_ended strings r p later)
is_ended strings bytes parts (part {rest = r} {first = has s} {parts = p} h later) =
    ended_behind bytes r (12 + padded (word_at bytes 4)) h.4 (is_ended strings r p later)
is_ended strings bytes parts (part {rest = r} {first = ends} {parts = p} h later) = ended_behind bytes r 4 h.1 (is_ended strings r p later)

-- and begins at its offset
pub end_at : (strings bytes : List ℕ) (parts : List Part) (start end : ℕ) → SpellsParts strings bytes parts → end ≡ start + length bytes - 4
    → BeginsAt (block_at strings bytes start) end []
end_at strings bytes parts start end spelt is_end =
    let last = is_ended strings bytes parts spelt in
    let place : length bytes - 4 ≡ end - start = omega (arith, is_end, last.0) in
    let token : BeginsWith (drop (end - start) bytes) 9 = subst (λ k. BeginsWith (drop k bytes) 9) place last.1 in
    record {
      inside = omega (arith, is_end, last.0);
      spelt = the_end token (omega (arith, length-drop (end - start) bytes, place, last.0));
      no_skip = λ skip. let x = two_words (drop (end - start) bytes) 4 9 skip token in cc;
    }

pub no_skip : (strings bytes : List ℕ) (p : Part) (rest : List ℕ) → SpellsPart strings bytes p rest → BeginsWith bytes 4 → ⊥
no_skip strings bytes (begins n) rest h skip = let x = two_words bytes 4 1 skip h.0 in cc
no_skip strings bytes (has s) rest h skip = let x = two_words bytes 4 3 skip h.0 in cc
no_skip strings bytes ends rest h skip = let x = two_words bytes 4 2 skip h.0 in cc

-- bytes that are the last of a block are those from their offset on
pub from_here : (strings bytes rest : List ℕ) (start offset : ℕ) → rest ≡ drop (length bytes - length rest) bytes
    → offset ≡ start + (length bytes - length rest) → rest ≡ from_offset (block_at strings bytes start) offset
from_here strings bytes rest start offset cut is_offset = cut ∙ ap (λ k. drop k bytes) (omega (arith, is_offset))

-- a part in front of the rest begins at its offset
pub begins_here : (strings bytes rest later : List ℕ) (start offset : ℕ) (p : Part) (parts : List Part)
    → rest ≡ drop (length bytes - length rest) bytes → offset ≡ start + (length bytes - length rest)
    → SpellsPart strings rest p later → SpellsParts strings later parts → BeginsAt (block_at strings bytes start) offset (p ∷ parts)
begins_here strings bytes rest later start offset p parts cut is_offset h spelt =
    let here : rest ≡ drop (offset - start) bytes = from_here strings bytes rest start offset cut is_offset in
    record {
      inside = omega (arith, is_offset);
      spelt = subst (λ (x : List ℕ). SpellsParts strings x (p ∷ parts)) here (part h spelt);
      no_skip = subst (λ (x : List ℕ). BeginsWith x 4 → ⊥) here (no_skip strings rest p later h);
    }

-- what is behind some of the rest is the last of a block
pub cut_behind : (bytes rest later : List ℕ) (n : ℕ) → rest ≡ drop (length bytes - length rest) bytes → length rest ≤ length bytes → Leaves rest n later
    → later ≡ drop (length bytes - length later) bytes
cut_behind bytes rest later n cut inside leaves =
    let len : length later ≡ length rest - n = ap length leaves.behind ∙ length-drop n rest in
    leaves.behind ∙ ap (λ (x : List ℕ). drop n x) cut ∙ drop-drop n (length bytes - length rest) bytes
    ∙ ap (λ k. drop k bytes) (omega (arith, len, leaves.inside, inside))

pub cut_behind_part : (strings bytes rest later : List ℕ) (p : Part) → rest ≡ drop (length bytes - length rest) bytes → length rest ≤ length bytes
    → SpellsPart strings rest p later → later ≡ drop (length bytes - length later) bytes
cut_behind_part strings bytes rest later (begins n) cut inside h = cut_behind bytes rest later (4 + padded (length n + 1)) cut inside h.2
cut_behind_part strings bytes rest later (has s) cut inside h = cut_behind bytes rest later (12 + padded (word_at rest 4)) cut inside h.4
cut_behind_part strings bytes rest later ends cut inside h = cut_behind bytes rest later 4 cut inside h.1
