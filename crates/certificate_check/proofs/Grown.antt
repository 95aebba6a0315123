-- A fault at the front of some bytes stands there too where more come after them.
use Rattle.std.proofs.Common.{◌≡◌, ℕ, ◌≤◌, ◌⊎◌, inl, inr, List, [], ◌++◌, length, append_assoc, length-append, arith, sym, ap, subst, ◌∙◌}
use Rattle.std.proofs.lemmas.List.{append-nil, take-append-le}
use Rattle.certificate_format.specs.declared.fault.ReadFault.{ReadFault}
use Rattle.certificate_format.specs.declared.fault.ReadFault.TheVariants.{BadMagic, BadVersion, Truncated, BadTag, BadPerm, BadLimit}
use Rattle.certificate_format.specs.declared.header.Version.{Version}
use Rattle.certificate_format.specs.declared.header.Version.TheVariants.{One, Two}
use Rattle.certificate_format.specs.Faults.{ShortFault, MagicFault, VersionFault, HeaderFault, in_magic, in_version, in_count, TagFault, PermFault}
use Rattle.certificate_format.specs.Spelling.{magic, version_bytes, pair_bytes}
use Rattle.certificate_check.specs.declared.refusal.CheckRefusal.{CheckRefusal}
use Rattle.certificate_check.specs.declared.refusal.CheckRefusal.TheVariants as refusals
use Rattle.certificate_check.specs.Listed.{EntryFault}

-- so many bytes are there, or no more come
abbrev pub AreEnough : ℕ → List ℕ → List ℕ → Type 0
AreEnough need held later = (need ≤ length held) ⊎ (later ≡ [])

pub tag_grows : (held later : List ℕ) (fault : ReadFault) → AreEnough 1 held later → TagFault held fault → TagFault (held ++ later) fault
tag_grows held later Truncated (inl some) h = absurd (omega (arith, ap length h, some))
tag_grows held later Truncated (inr none) h = ap (λ xs. xs ++ later) h ∙ none
tag_grows held later BadTag which (b, rest, same, no_leaf, no_branch) = (b, rest ++ later, ap (λ xs. xs ++ later) same, no_leaf, no_branch)
tag_grows held later BadMagic which h = absurd h
tag_grows held later BadVersion which h = absurd h
tag_grows held later BadPerm which h = absurd h
tag_grows held later BadLimit which h = absurd h

pub perm_grows : (held later : List ℕ) (fault : ReadFault) → AreEnough 1 held later → PermFault held fault → PermFault (held ++ later) fault
perm_grows held later Truncated (inl some) h = absurd (omega (arith, ap length h, some))
perm_grows held later Truncated (inr none) h = ap (λ xs. xs ++ later) h ∙ none
perm_grows held later BadPerm which (b, rest, same, no_perm) = (b, rest ++ later, ap (λ xs. xs ++ later) same, no_perm)
perm_grows held later BadMagic which h = absurd h
perm_grows held later BadVersion which h = absurd h
perm_grows held later BadTag which h = absurd h
perm_grows held later BadLimit which h = absurd h

pub short_grows : (n : ℕ) (held later : List ℕ) (fault : ReadFault) → AreEnough n held later → ShortFault n held fault → ShortFault n (held ++ later) fault
short_grows n held later Truncated (inl enough) h = absurd (omega (arith, enough, h))
short_grows n held later Truncated (inr none) h = omega (arith, h, length-append held later, ap length none)
short_grows n held later BadMagic which h = h
short_grows n held later BadVersion which h = h
short_grows n held later BadTag which h = h
short_grows n held later BadPerm which h = h
short_grows n held later BadLimit which h = h

nothing_more : (P : List ℕ → Type 0) (held later : List ℕ) → later ≡ [] → P held → P (held ++ later)
nothing_more P held later none h = subst P (sym (ap (λ xs. held ++ xs) none ∙ append-nil held)) h

magic_grows : (held later : List ℕ) (fault : ReadFault) → 10 ≤ length held → MagicFault held fault → MagicFault (held ++ later) fault
magic_grows held later Truncated enough h = absurd (omega (arith, enough, h))
magic_grows held later BadMagic enough h = (omega (arith, h.0, length-append held later), λ e. h.1 (sym (take-append-le 4 held later h.0) ∙ e))
magic_grows held later BadVersion enough h = h
magic_grows held later BadTag enough h = h
magic_grows held later BadPerm enough h = h
magic_grows held later BadLimit enough h = h

version_grows : (held rest later : List ℕ) (fault : ReadFault) → 10 ≤ length held → held ≡ magic ++ rest → VersionFault rest fault
    → VersionFault (rest ++ later) fault
version_grows held rest later Truncated enough e (inl h) = absurd (omega (arith, enough, ap length e, ap length h))
version_grows held rest later Truncated enough e (inr h) = absurd (omega (arith, enough, ap length e, ap length h))
version_grows held rest later BadVersion enough e (b, more, same, not_one, not_two) = (b, more ++ later, ap (λ xs. xs ++ later) same, not_one, not_two)
version_grows held rest later BadLimit enough e (b, more, same, not_16, not_64) = (b, more ++ later, ap (λ xs. xs ++ later) same, not_16, not_64)
version_grows held rest later BadMagic enough e h = h
version_grows held rest later BadTag enough e h = h
version_grows held rest later BadPerm enough e h = h

version_long : (version : Version) → length (version_bytes version) ≤ 2
version_long One = omega arith
version_long (Two limit) = omega arith

count_there : (held rest : List ℕ) (version : Version) (fault : ReadFault) (P : Type 0) → 10 ≤ length held → held ≡ magic ++ (version_bytes version ++ rest)
    → ShortFault 4 rest fault → P
count_there held rest version Truncated P enough e h =
    absurd (omega (arith, enough, ap length e, length-append (version_bytes version) rest, version_long version, h))
count_there held rest version BadMagic P enough e h = absurd h
count_there held rest version BadVersion P enough e h = absurd h
count_there held rest version BadTag P enough e h = absurd h
count_there held rest version BadPerm P enough e h = absurd h
count_there held rest version BadLimit P enough e h = absurd h

pub header_grows : (held later : List ℕ) (fault : ReadFault) → AreEnough 10 held later → HeaderFault held fault → HeaderFault (held ++ later) fault
header_grows held later fault (inr none) h = nothing_more (λ xs. HeaderFault xs fault) held later none h
header_grows held later fault (inl enough) (in_magic h) = in_magic (magic_grows held later fault enough h)
header_grows held later fault (inl enough) (in_version rest e h) = in_version (rest ++ later) (ap (λ xs. xs ++ later) e)
    (version_grows held rest later fault enough e h)
header_grows held later fault (inl enough) (in_count version rest e h) = count_there held rest version fault (HeaderFault (held ++ later) fault) enough e h

pub entry_grows : (held later : List ℕ) (refusal : CheckRefusal) → AreEnough 9 held later → EntryFault held refusal → EntryFault (held ++ later) refusal
entry_grows held later refusals.Truncated (inl enough) h = absurd (omega (arith, enough, h))
entry_grows held later refusals.Truncated (inr none) h = omega (arith, h, length-append held later, ap length none)
entry_grows held later refusals.BadEntry which (pair, rest, e, fits, none) =
    (pair, rest ++ later, ap (λ xs. xs ++ later) e ∙ append_assoc (pair_bytes pair) rest later, fits, none)
entry_grows held later refusals.SubPageEntry which (pair, rest, e, entry, means, less) =
    (pair, rest ++ later, ap (λ xs. xs ++ later) e ∙ append_assoc (pair_bytes pair) rest later, entry, means, less)
entry_grows held later _ which h = absurd h
