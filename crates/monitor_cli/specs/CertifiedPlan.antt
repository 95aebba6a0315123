-- The plan of a map, the bank that it is loaded into, and its certificate.
use Rattle.std.specs.Prelude.{◌≡◌, ◌≢◌, ◌⊎◌, ℕ, ◌*◌, ◌^◌, ◌<◌, ◌≤◌, Bool, true, List, Option, Some}
use Rattle.std.specs.Prelude.{None}
use Rattle.std.specs.Prelude.{length}
use Rattle.std.specs.Borrow.{Bor}
use Rattle.std.specs.Io.KnownBytes.{Appends}
use Rattle.text_lines.specs.Streams.{GrowsByOne}
use Rattle.text_lines.specs.Writings.{Breaks, IsUnwritten, TakesAll, Writing, writing}
use Rattle.pmp_encoding.specs.declared.bank.Bank.{Bank}
use Rattle.pmp_encoding.specs.declared.limit.Limit.{Limit}
use Rattle.pmp_encoding.specs.declared.perm.Perm.TheVariants.{NoAccess}
use Rattle.pmp_encoding.specs.declared.region.Entry.{Entry}
use Rattle.pmp_encoding.specs.Banks.{HasList, IsBankOf}
use Rattle.pmp_encoding.specs.Limits.{limit_number}
use Rattle.pmp_match.specs.Meaning.{View, IsFewest}
use Rattle.pmp_match.specs.Bounds.{BoundTree}
use Rattle.prefix_tree.specs.TreeOf.{tree_of}
use Rattle.entry_planner.specs.Choice.{AreChosen}
use Rattle.entry_planner.specs.Order.{AreInOrder}
use Rattle.certificate_check.specs.Certificates.{IsRight}
use Rattle.certificate_format.specs.Spelling.{Spells}
use Rattle.plan_certificate.specs.Written.{version_for}
use Rattle.pmp_encoding.specs.declared.xlen.Xlen.{Xlen}
use Rattle.pmp_encoding.specs.Widths.{AreReached, space_end}
use Rattle.program_files.specs.declared.trouble.Trouble.{Trouble}
use Rattle.program_files.specs.declared.trouble.Trouble.TheVariants.{TooFar, NeedsEntries}
use Rattle.program_files.specs.declared.trouble.Trouble.TheVariants.{CannotWrite, Memory}

-- a sink whose bytes are moved to a place, before and after a call: whether the place is separate
-- from it, and the bytes in the place before and after the call, if they are known
pub record Placing (C : Type 0) : Type 0 where
  pub sink : Writing C
  pub is_apart : Bool
  pub stood : Option (List ℕ)
  pub stands : Option (List ℕ)

-- a certificate's file before and after a call
abbrev pub placing : {C : Type 0} → (C → Option (List ℕ)) → (C → ℕ) → (C → ℕ)
    → (C → Option (List ℕ)) → Bool → C → C → Placing C
placing contents failures stalls stands is_apart old new = record {
  sink = writing contents failures stalls old new;
  is_apart = is_apart;
  stood = stands old;
  stands = stands new;
}

-- nothing was written, and the place is unchanged
abbrev pub WritesNothing : {C : Type 0} → Placing C → Type 0
WritesNothing cert = IsUnwritten cert.sink × (cert.stands ≡ cert.stood)

-- a separate place is unchanged
abbrev pub KeepsOldFile : {C : Type 0} → Placing C → Type 0
KeepsOldFile cert = cert.is_apart ≡ true → cert.stands ≡ cert.stood

-- the bytes are a right certificate of the entries, for a hart with this limit
pub record IsCertificateOf (view : View) (limit : Limit) (entries : List Entry) (bytes : List ℕ) :
    Type 0 where
  pub tree : BoundTree
  pub spells : Spells bytes (version_for limit) entries tree
  pub right : IsRight view bytes (length entries)

-- if a file for them is named, bytes were written and put in their place; otherwise nothing was
-- written
abbrev pub IsPut : {C : Type 0} → List ℕ → Option (Bor (List ℕ)) → Placing C → Type 0
IsPut bytes None cert = WritesNothing cert
IsPut bytes (Some file) cert = TakesAll bytes cert.sink × (cert.stands ≡ cert.sink.after)

-- a certificate of the entries was put in its place
abbrev pub IsCertified : {C : Type 0} → View → Limit → List Entry → Option (Bor (List ℕ))
    → Placing C → Type 0
IsCertified view limit entries file cert = (bytes : List ℕ)
    × IsCertificateOf view limit entries bytes × IsPut bytes file cert

-- bytes were not written whole, or they were not put in their place, which is unchanged
pub data CertificateNotWritten {C : Type 0} (bytes : List ℕ) (cert : Placing C) : Type 0 where
  not_written : Breaks bytes cert.sink → KeepsOldFile cert → CertificateNotWritten bytes cert
  not_moved :
      Appends cert.sink.before cert.sink.after bytes
      → GrowsByOne cert.sink.failures cert.sink.failed
      → cert.sink.stalled ≡ cert.sink.stalls → KeepsOldFile cert
      → CertificateNotWritten bytes cert

-- bytes could not be put in the place with this name
abbrev pub IsNotPut : {C : Type 0} → List ℕ → Option (Bor (List ℕ)) → Placing C → Trouble → Type 0
IsNotPut bytes file cert trouble = (name : Bor (List ℕ)) × (file ≡ Some name)
    × (trouble ≡ CannotWrite name) × CertificateNotWritten bytes cert

-- the number of entries is within the bound
abbrev pub IsWithin : Option ℕ → ℕ → Type 0
IsWithin None n = Unit {0}
IsWithin (Some most) n = n ≤ most

-- the number of entries exceeds the bound
abbrev pub IsBeyond : Option ℕ → ℕ → Type 0
IsBeyond None n = ⊥
IsBeyond (Some most) n = most < n

-- the plan of a map: the chosen one among the minimal lists of entries, in its order, within the
-- bound
pub record IsPlanned (view : View) (most : Option ℕ) (entries : List Entry) : Type 0 where
  pub fewest : IsFewest view entries
  pub chosen : AreChosen (tree_of view) entries
  pub order : AreInOrder entries
  pub within : IsWithin most (length entries)

-- the bank contains the entries that are planned for a view, and the hart's address registers reach
-- them
pub record IsLoaded (view : View) (xlen : Xlen) (limit : Limit) (bank : Bank) : Type 0 where
  pub entries : List Entry
  pub planned : IsPlanned view (Some (limit_number limit)) entries
  pub reached : AreReached xlen entries
  pub list : HasList bank entries
  pub registers : IsBankOf bank limit entries

-- the plan of a map has more entries than the bound
pub record NeedsMore (view : View) (most : Option ℕ) (trouble : Trouble) : Type 0 where
  pub entries : List Entry
  pub fewest : IsFewest view entries
  pub beyond : IsBeyond most (length entries)
  pub told : trouble ≡ NeedsEntries (length entries)

-- a page that the hart's address registers do not reach has a permission
abbrev pub HasPageBeyond : Xlen → View → Type 0
HasPageBeyond xlen view = (page : ℕ) × (space_end xlen ≤ page * 4096) × (page < 2 ^ 44)
    × (view page ≢ NoAccess)

-- the plan of the map with this name has an entry that the hart's address registers do not reach,
-- and the map has such a page
pub record IsTooFar (view : View) (xlen : Xlen) (most : Option ℕ) (map : Bor (List ℕ))
    (trouble : Trouble) : Type 0 where
  pub entries : List Entry
  pub planned : IsPlanned view most entries
  pub far : ¬ AreReached xlen entries
  pub page : HasPageBeyond xlen view
  pub told : trouble ≡ TooFar map

-- the reason why there is no plan: a failed allocation, too many entries, or one out of reach
abbrev pub IsUnplanned : View → Xlen → Option ℕ → Bor (List ℕ) → Trouble → Type 0
IsUnplanned view xlen most map trouble = (trouble ≡ Memory)
    ⊎ (NeedsMore view most trouble ⊎ IsTooFar view xlen most map trouble)
