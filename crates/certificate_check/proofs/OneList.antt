-- At most one fault stands in the entries, and none where so many right ones stand.
use Rattle.std.proofs.Common.{◌≡◌, ℕ, ◌<◌, ◌≤◌, List, [], ◌∷◌, ◌++◌, length, append_assoc, arith, refl, sym, ap, ap₂, subst, ◌∙◌}
use Rattle.pmp_encoding.specs.declared.region.Entry.{Entry}
use Rattle.pmp_encoding.specs.Encoding.{MeansEntry}
use Rattle.pmp_encoding.proofs.Pairs.{one_entry}
use Rattle.certificate_format.specs.Spelling.{pair_bytes, SpellsEntry}
use Rattle.certificate_format.proofs.CostBytes.{same_pair, short_pair}
use Rattle.certificate_check.specs.declared.refusal.CheckRefusal.{CheckRefusal}
use Rattle.certificate_check.specs.declared.refusal.CheckRefusal.TheVariants.{Truncated, BadEntry, SubPageEntry}
use Rattle.certificate_check.specs.Listed.{IsListed, EntryFault, ListFault}
use Rattle.certificate_check.proofs.InTurn.{means_small}

-- ---- one entry

-- the pair of an entry that stands at the front of the bytes
pair_at : (bytes front rest : List ℕ) (e : Entry) → bytes ≡ front ++ rest → (spells : SpellsEntry front e) → bytes ≡ pair_bytes spells.pair ++ rest
pair_at bytes front rest e split spells = split ∙ ap (λ xs. xs ++ rest) spells.spelled

entry_once : (bytes : List ℕ) (a b : CheckRefusal) → EntryFault bytes a → EntryFault bytes b → a ≡ b
entry_once bytes Truncated Truncated h w = refl
entry_once bytes BadEntry BadEntry h w = refl
entry_once bytes SubPageEntry SubPageEntry h w = refl
entry_once bytes Truncated BadEntry h (pair, rest, e, fits, none) = absurd (short_pair bytes bytes rest pair refl h e)
entry_once bytes Truncated SubPageEntry h (pair, rest, e, entry, means, less) = absurd (short_pair bytes bytes rest pair refl h e)
entry_once bytes BadEntry Truncated (pair, rest, e, fits, none) w = absurd (short_pair bytes bytes rest pair refl w e)
entry_once bytes SubPageEntry Truncated (pair, rest, e, entry, means, less) w = absurd (short_pair bytes bytes rest pair refl w e)
entry_once bytes BadEntry SubPageEntry (pair, rest, e, fits, none) (pair', rest', e', entry, means, less) =
    let same = same_pair pair' pair rest' rest (means_small pair'.0 pair'.1 entry means) fits (sym e' ∙ e) in
    absurd (none entry (subst (λ (p : ℕ × ℕ). MeansEntry p.0 p.1 entry) same.0 means))
entry_once bytes SubPageEntry BadEntry (pair', rest', e', entry, means, less) (pair, rest, e, fits, none) =
    let same = same_pair pair' pair rest' rest (means_small pair'.0 pair'.1 entry means) fits (sym e' ∙ e) in
    absurd (none entry (subst (λ (p : ℕ × ℕ). MeansEntry p.0 p.1 entry) same.0 means))
entry_once bytes Truncated _ h w = absurd w
entry_once bytes BadEntry _ h w = absurd w
entry_once bytes SubPageEntry _ h w = absurd w
entry_once bytes _ b h w = absurd h

-- entries at the front of the same bytes are one
same_spelled :
    (bytes front front' rest rest' : List ℕ) (e e' : Entry) → bytes ≡ front ++ rest → SpellsEntry front e → bytes ≡ front' ++ rest' → SpellsEntry front' e'
    → (e ≡ e') × (rest ≡ rest')
same_spelled bytes front front' rest rest' e e' split spells split' spells' =
    let small = means_small spells.pair.0 spells.pair.1 e spells.means in
    let small' = means_small spells'.pair.0 spells'.pair.1 e' spells'.means in
    let same = same_pair spells.pair spells'.pair rest rest' small small'
    (sym (pair_at bytes front rest e split spells) ∙ pair_at bytes front' rest' e' split' spells') in
    (one_entry spells'.pair.0 spells'.pair.1 e e' (subst (λ (p : ℕ × ℕ). MeansEntry p.0 p.1 e) same.0 spells.means) spells'.means, same.1)

entry_stands : (bytes front rest : List ℕ) (e : Entry) (refusal : CheckRefusal) → bytes ≡ front ++ rest → SpellsEntry front e → 12 ≤ e.region.log2
    → EntryFault bytes refusal → ⊥
entry_stands bytes front rest e Truncated split spells page h = short_pair bytes bytes rest spells.pair refl h (pair_at bytes front rest e split spells)
entry_stands bytes front rest e BadEntry split spells page (pair, rest', at, fits, none) =
    let same = same_pair spells.pair pair rest rest' (means_small spells.pair.0 spells.pair.1 e spells.means) fits
    (sym (pair_at bytes front rest e split spells) ∙ at) in
    none e (subst (λ (p : ℕ × ℕ). MeansEntry p.0 p.1 e) same.0 spells.means)
entry_stands bytes front rest e SubPageEntry split spells page (pair, rest', at, entry, means, less) =
    let same = same_spelled bytes front (pair_bytes pair) rest rest' e entry split spells at (record { pair = pair; means = means; spelled = refl }) in
    let size = ap (λ (x : Entry). x.region.log2) same.0 in
    omega (arith, size, page, less)
entry_stands bytes front rest e _ split spells page h = h

-- ---- entries one after the other

-- the first of the entries, and the others after it
record IsFirst (bytes rest : List ℕ) (e : Entry) (es : List Entry) : Type 0 where
  front : List ℕ
  behind : List ℕ
  split : bytes ≡ front ++ behind
  spells : SpellsEntry front e
  page : 12 ≤ e.region.log2
  listed : IsListed behind rest es

first_of_list : (bytes rest : List ℕ) (e : Entry) (es : List Entry) → IsListed bytes rest (e ∷ es) → IsFirst bytes rest e es
first_of_list bytes rest e es h =
    let parts = h.spelled in
    record {
      front = parts.0;
      behind = parts.1 ++ rest;
      split = h.split ∙ ap (λ xs. xs ++ rest) parts.2 ∙ append_assoc parts.0 parts.1 rest;
      spells = parts.3;
      page = h.pages.0;
      listed = record { listed = parts.1; split = refl; spelled = parts.4; pages = h.pages.1 };
    }

none_of_list : (bytes rest : List ℕ) → IsListed bytes rest [] → bytes ≡ rest
none_of_list bytes rest h = h.split ∙ ap (λ xs. xs ++ rest) h.spelled

-- as many entries at the front of the same bytes are the same, and so is what follows them
pub same_list :
    (bytes rest rest' : List ℕ) (es es' : List Entry) → IsListed bytes rest es → IsListed bytes rest' es' → length es ≡ length es' → (es ≡ es') × (rest ≡ rest')
same_list bytes rest rest' [] [] h w count = (refl, sym (none_of_list bytes rest h) ∙ none_of_list bytes rest' w)
same_list bytes rest rest' [] (e' ∷ es') h w count = absurd (omega (arith, count))
same_list bytes rest rest' (e ∷ es) [] h w count = absurd (omega (arith, count))
same_list bytes rest rest' (e ∷ es) (e' ∷ es') h w count =
    let p = first_of_list bytes rest e es h in
    let q = first_of_list bytes rest' e' es' w in
    let same = same_spelled bytes q.front p.front q.behind p.behind e' e q.split q.spells p.split p.spells in
    let later = same_list p.behind rest rest' es es' p.listed (subst (λ (xs : List ℕ). IsListed xs rest' es') same.1 q.listed) (omega (arith, count)) in
    (ap₂ (λ (x : Entry) (xs : List Entry). x ∷ xs) (sym same.0) later.0, later.1)

behind_once :
    (bytes rest rest' : List ℕ) (es es' : List Entry) (a b : CheckRefusal) → IsListed bytes rest es → EntryFault rest a → IsListed bytes rest' es'
    → EntryFault rest' b → a ≡ b
behind_once bytes rest rest' [] [] a b h f w g =
    entry_once bytes a b (subst (λ (xs : List ℕ). EntryFault xs a) (sym (none_of_list bytes rest h)) f)
    (subst (λ (xs : List ℕ). EntryFault xs b) (sym (none_of_list bytes rest' w)) g)
behind_once bytes rest rest' [] (e' ∷ es') a b h f w g =
    let q = first_of_list bytes rest' e' es' w in
    absurd (entry_stands bytes q.front q.behind e' a q.split q.spells q.page (subst (λ (xs : List ℕ). EntryFault xs a) (sym (none_of_list bytes rest h)) f))
behind_once bytes rest rest' (e ∷ es) [] a b h f w g =
    let p = first_of_list bytes rest e es h in
    absurd (entry_stands bytes p.front p.behind e b p.split p.spells p.page (subst (λ (xs : List ℕ). EntryFault xs b) (sym (none_of_list bytes rest' w)) g))
behind_once bytes rest rest' (e ∷ es) (e' ∷ es') a b h f w g =
    let p = first_of_list bytes rest e es h in
    let q = first_of_list bytes rest' e' es' w in
    let same = same_spelled bytes q.front p.front q.behind p.behind e' e q.split q.spells p.split p.spells in
    behind_once p.behind rest rest' es es' a b p.listed f (subst (λ (xs : List ℕ). IsListed xs rest' es') same.1 q.listed) g

behind_stands : (bytes rest rest' : List ℕ) (es es' : List Entry) (a : CheckRefusal) → IsListed bytes rest es → EntryFault rest a → IsListed bytes rest' es'
    → length es < length es' → ⊥
behind_stands bytes rest rest' es [] a h f w less = omega (arith, less)
behind_stands bytes rest rest' [] (e' ∷ es') a h f w less =
    let q = first_of_list bytes rest' e' es' w in
    entry_stands bytes q.front q.behind e' a q.split q.spells q.page (subst (λ (xs : List ℕ). EntryFault xs a) (sym (none_of_list bytes rest h)) f)
behind_stands bytes rest rest' (e ∷ es) (e' ∷ es') a h f w less =
    let p = first_of_list bytes rest e es h in
    let q = first_of_list bytes rest' e' es' w in
    let same = same_spelled bytes q.front p.front q.behind p.behind e' e q.split q.spells p.split p.spells in
    behind_stands p.behind rest rest' es es' a p.listed f (subst (λ (xs : List ℕ). IsListed xs rest' es') same.1 q.listed) (omega (arith, less))

-- two faults of the same entries are one
pub list_once : (bytes : List ℕ) (count : ℕ) (a b : CheckRefusal) → ListFault bytes count a → ListFault bytes count b → a ≡ b
list_once bytes count a b h w = behind_once bytes h.rest w.rest h.entries w.entries a b h.before h.fault w.before w.fault

-- no fault stands where so many entries stand
pub list_stands : (bytes rest : List ℕ) (es : List Entry) (count : ℕ) (refusal : CheckRefusal) → IsListed bytes rest es → length es ≡ count
    → ListFault bytes count refusal → ⊥
list_stands bytes rest es count refusal h all w = behind_stands bytes w.rest rest w.entries es refusal w.before w.fault h
    (let few = w.fewer in omega (arith, few, all))
