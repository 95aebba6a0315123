-- Registers that are decoded place by place, and the extents of the entries that they mean.
use Rattle.std.proofs.Common.{add-zero, length-set, ◌≡◌, ℕ, zero, suc, ◌+◌, ◌<◌, ◌≤◌, List, [], ◌∷◌, ◌++◌, length, map, take, slice_index, refl, sym, ap, ◌∙◌}
use Rattle.std.proofs.Common.{subst, arith}
use Rattle.std.specs.Prelude.{slice_set}
use Rattle.std.proofs.lemmas.List.{take_more_set, map-append, append-nil, length-append}
use Rattle.pmp_encoding.specs.declared.extent.Extent.{Extent}
use Rattle.pmp_encoding.specs.declared.region.Entry.{Entry}
use Rattle.pmp_encoding.specs.Encoding.{IsOff, MeansEntry}
use Rattle.pmp_encoding.specs.Extents.{AreExtents, extent_of}
use Rattle.pmp_encoding.specs.Lists.{MeansList, done, skip, keep}
use Rattle.pmp_encoding.specs.Registers.{cfg_byte, pairs_from}
use Rattle.pmp_encoding.proofs.Pairs.{one_list}

-- the places below `count` were decoded: the first `used` of 64 extents are those of their entries
pub record IsDecoded (words addresses : List ℕ) (count : ℕ) (extents : List Extent) (used : ℕ) : Type 0 where
  pub entries : List Entry
  pub list : MeansList (pairs_from words addresses 0 count) entries
  pub used_is : length entries ≡ used
  pub few : used ≤ count
  pub room : length extents ≡ 64
  pub in_order : take used extents ≡ map extent_of entries

-- the pair of the next place comes after the others
pairs_more :
    (words addresses : List ℕ) (first count : ℕ)
    → pairs_from words addresses first (suc count) ≡ pairs_from words addresses first count ++
    (cfg_byte words (first + count), slice_index addresses (first + count)) ∷ []
pairs_more words addresses first zero = ap (λ i. (cfg_byte words i, slice_index addresses i) ∷ []) (sym (add-zero first))
pairs_more words addresses first (suc count) =
    let place : suc first + count ≡ first + suc count = omega arith in
    ap (λ pairs. (cfg_byte words first, slice_index addresses first) ∷ pairs) (pairs_more words addresses (suc first) count)
    ∙ ap (λ i. (cfg_byte words first, slice_index addresses first) ∷ (pairs_from words addresses (suc first) count ++
    (cfg_byte words i, slice_index addresses i) ∷ [])) place

list_behind : (xs ys : List (ℕ × ℕ)) (es fs : List Entry) → MeansList xs es → MeansList ys fs → MeansList (xs ++ ys) (es ++ fs)
list_behind _ ys _ fs done last = last
list_behind _ ys _ fs (skip {pairs = xs} {entries = es} off rest) last = skip off (list_behind xs ys es fs rest last)
list_behind _ ys _ fs (keep {pairs = xs} {entries = es} means rest) last = keep means (list_behind xs ys es fs rest last)

pub decoded_none : (words addresses : List ℕ) (extents : List Extent) → length extents ≡ 64 → IsDecoded words addresses 0 extents 0
decoded_none words addresses extents room = record { entries = []; list = done; used_is = refl; few = omega arith; room = room; in_order = refl }

module _ (words addresses : List ℕ) (n : ℕ) (extents : List Extent) (used : ℕ) (so_far : IsDecoded words addresses n extents used) where
  list_more : (entries : List Entry) → MeansList ((cfg_byte words n, slice_index addresses n) ∷ []) entries
      → MeansList (pairs_from words addresses 0 (n + 1)) (so_far.entries ++ entries)
  list_more entries last =
      let next : suc n ≡ n + 1 = omega arith in
      let place : 0 + n ≡ n = omega arith in
      let more = rw place at (pairs_more words addresses 0 n) in
      let pairs = sym more ∙ ap (λ k. pairs_from words addresses 0 k) next in
      subst (λ ps. MeansList ps (so_far.entries ++ entries)) pairs
      (list_behind (pairs_from words addresses 0 n) ((cfg_byte words n, slice_index addresses n) ∷ []) so_far.entries entries so_far.list last)

  pub decoded_off : IsOff (cfg_byte words n) (slice_index addresses n) → IsDecoded words addresses (n + 1) extents used
  decoded_off off =
      record {
        entries = so_far.entries;
        list = rw (append-nil so_far.entries) at (list_more [] (skip off done));
        used_is = so_far.used_is;
        few = omega (arith, so_far.few);
        room = so_far.room;
        in_order = so_far.in_order;
      }

  pub decoded_entry : n < 64 → (e : Entry) → MeansEntry (cfg_byte words n) (slice_index addresses n) e
      → IsDecoded words addresses (n + 1) (slice_set extents used (extent_of e)) (used + 1)
  decoded_entry inside e means =
      record {
        entries = so_far.entries ++ e ∷ [];
        list = list_more (e ∷ []) (keep means done);
        used_is = length-append so_far.entries (e ∷ []) ∙ ap (λ k. k + 1) so_far.used_is;
        few = omega (arith, so_far.few);
        room = length-set extents used (extent_of e) ∙ so_far.room;
        in_order =
            take_more_set extents used (extent_of e) (omega (arith, so_far.few, so_far.room, inside)) ∙ ap (λ xs. xs ++ extent_of e ∷ []) so_far.in_order
            ∙ sym (map-append extent_of so_far.entries (e ∷ []));
      }

  pub decoded_extents : n ≤ 64 → AreExtents words addresses n extents used
  decoded_extents inside =
      record {
        room = omega (arith, so_far.few, so_far.room, inside);
        in_order = λ entries list. so_far.in_order ∙ ap (map extent_of) (one_list (pairs_from words addresses 0 n) so_far.entries entries so_far.list list);
      }
