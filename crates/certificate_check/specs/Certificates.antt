-- Right certificates for a view, and faults in bytes that are not one.
use Rattle.std.specs.Prelude.{◌≡◌, ◌≢◌, ℕ, ◌*◌, ◌^◌, ◌<◌, ◌≤◌, ◌⊎◌, List, [], ◌++◌, length, Result}
use Rattle.std.specs.Prelude.{MatchResult}
use Rattle.pmp_encoding.specs.declared.perm.Perm.TheVariants.{NoAccess}
use Rattle.pmp_encoding.specs.declared.region.Entry.{Entry}
use Rattle.pmp_match.specs.Meaning.{View, IsFewest, Means}
use Rattle.pmp_match.specs.Bounds.{BoundTree, bound_of, IsSoundBound}
use Rattle.certificate_format.specs.declared.fault.ReadFault.{ReadFault}
use Rattle.certificate_format.specs.declared.header.Header.{Header}
use Rattle.certificate_format.specs.declared.header.Version.{Version}
use Rattle.certificate_format.specs.Faults.{HeaderFault}
use Rattle.certificate_format.specs.Spelling.{header_bytes, node_bytes, Spells, SpellsEntries}
use Rattle.certificate_format.specs.Spelling.{IsCertificate}
use Rattle.certificate_check.specs.declared.refusal.CheckRefusal.{CheckRefusal}
use Rattle.certificate_check.specs.declared.refusal.CheckRefusal.TheVariants.{EntriesTooMany}
use Rattle.certificate_check.specs.declared.refusal.CheckRefusal.TheVariants.{WrongMeaning}
use Rattle.certificate_check.specs.declared.refusal.CheckRefusal.TheVariants.{Trailing}
use Rattle.certificate_check.specs.Refusals.{refusal_of}
use Rattle.certificate_check.specs.Listed.{AreListed, IsListed, ListFault}
use Rattle.certificate_check.specs.Nodes.{IsRightNode, NodeFault}

-- the bytes are a certificate of n entries that mean the view, and its table is a sound bound of
-- the view
pub record IsRight (view : View) (bytes : List ℕ) (n : ℕ) : Type 0 where
  pub version : Version
  pub entries : List Entry
  pub tree : BoundTree
  pub certificate : IsCertificate bytes version entries tree
  pub sound : IsSoundBound view tree
  pub means : Means entries view
  pub count : length entries ≡ n

-- the bytes contain n entries, which are the fewest that mean the view
pub record HoldsFewest (view : View) (bytes : List ℕ) (n : ℕ) : Type 0 where
  pub version : Version
  pub entries : List Entry
  pub tree : BoundTree
  pub spells : Spells bytes version entries tree
  pub count : length entries ≡ n
  pub fewest : IsFewest view entries

-- before the rest, the bytes contain a header, entries of at least a page and a right root
pub record IsReadWhole (view : View) (bytes rest : List ℕ) (entries : List Entry)
    (tree : BoundTree) : Type 0 where
  pub header : Header
  pub behind : List ℕ
  pub headed : bytes ≡ header_bytes header ++ behind
  pub counted : header.count ≡ length entries
  pub small : header.count < 2 ^ 32
  pub listed : IsListed behind (node_bytes tree ++ rest) entries
  pub right : IsRightNode view 44 0 tree

-- before the rest, the bytes contain a header and entries of at least a page; `list` contains the
-- bytes of the entries
pub record IsBegun (bytes list rest : List ℕ) (header : Header) (entries : List Entry) :
    Type 0 where
  pub behind : List ℕ
  pub headed : bytes ≡ header_bytes header ++ behind
  pub small : header.count < 2 ^ 32
  pub counted : length entries ≡ header.count
  pub listed : IsListed behind rest entries
  pub spelled : SpellsEntries list entries

-- the bytes contain the fault of a refusal
pub data RefusalStands (view : View) (bytes : List ℕ) : CheckRefusal → Type 0 where
  in_header : (fault : ReadFault) → HeaderFault bytes fault
      → RefusalStands view bytes (refusal_of fault)
  in_entries :
      (header : Header) (rest : List ℕ) (refusal : CheckRefusal)
      → bytes ≡ header_bytes header ++ rest → header.count < 2 ^ 32
      → ListFault rest header.count refusal
      → RefusalStands view bytes refusal
  in_root :
      (header : Header) (entries : List Entry) (behind rest : List ℕ) (refusal : CheckRefusal)
      → bytes ≡ header_bytes header ++ behind → header.count < 2 ^ 32
      → IsListed behind rest entries → length entries ≡ header.count
      → NodeFault view 44 0 rest refusal → RefusalStands view bytes refusal
  too_many :
      (entries : List Entry) (tree : BoundTree) (rest : List ℕ)
      → IsReadWhole view bytes rest entries tree → bound_of tree NoAccess < length entries
      → RefusalStands view bytes EntriesTooMany
  another_meaning :
      (entries : List Entry) (tree : BoundTree) (rest : List ℕ)
      → IsReadWhole view bytes rest entries tree → length entries ≤ bound_of tree NoAccess
      → ¬ Means entries view
      → RefusalStands view bytes WrongMeaning
  trailing :
      (entries : List Entry) (tree : BoundTree) (rest : List ℕ)
      → IsReadWhole view bytes rest entries tree → length entries ≤ bound_of tree NoAccess
      → Means entries view → rest ≢ []
      → RefusalStands view bytes Trailing

-- the bytes begin with the header and are a right certificate
pub record IsRightWith (view : View) (bytes : List ℕ) (header : Header) : Type 0 where
  pub right : IsRight view bytes header.count
  pub behind : List ℕ
  pub headed : bytes ≡ header_bytes header ++ behind
  pub small : header.count < 2 ^ 32

-- the verdict is right: the bytes are a right certificate with that header, or contain the fault of
-- that refusal
abbrev pub IsJudged : View → List ℕ → Result Header CheckRefusal → Type 0
IsJudged view bytes found = MatchResult found (IsRightWith view bytes) (RefusalStands view bytes)

-- the bytes begin with a header whose entries, nine bytes each, do not exceed `most`
pub record ClaimFitsFile (most : ℕ) (bytes : List ℕ) : Type 0 where
  pub header : Header
  pub rest : List ℕ
  pub headed : bytes ≡ header_bytes header ++ rest
  pub few : 9 * header.count ≤ most

-- the entries of the header cannot be stored: either they do not exceed `most`, or all of them have
-- arrived
pub record CertificateNotStored (most : ℕ) (bytes rest : List ℕ) : Type 0 where
  pub header : Header
  pub behind : List ℕ
  pub headed : bytes ≡ header_bytes header ++ behind
  pub why : (9 * header.count ≤ most) ⊎ AreListed header.count behind rest
