-- The parts of a right certificate.
use Rattle.std.proofs.Common.{◌≡◌, ℕ, ◌^◌, ◌<◌, ◌≤◌, List, [], ◌++◌, length, arith, sym, subst, ap, refl, ◌∙◌, Result, Ok, Err}
use Rattle.std.proofs.lemmas.List.{append-nil}
use Rattle.std.specs.Result.{IfOk}
use Rattle.pmp_encoding.specs.declared.perm.Perm.TheVariants.{NoAccess}
use Rattle.pmp_encoding.specs.declared.region.Entry.{Entry}
use Rattle.pmp_match.specs.Meaning.{View, Means}
use Rattle.pmp_match.specs.Bounds.{BoundTree, bound_of}
use Rattle.pmp_match.proofs.Meant.{least}
use Rattle.certificate_format.specs.declared.header.Header.{Header}
use Rattle.certificate_format.specs.Spelling.{header_bytes, node_bytes}
use Rattle.certificate_check.specs.declared.refusal.CheckRefusal.{CheckRefusal}
use Rattle.certificate_check.specs.Listed.{IsListed}
use Rattle.certificate_check.specs.Nodes.{IsRightNode}
use Rattle.certificate_check.specs.Certificates.{IsRight, HoldsFewest, IsReadWhole}

pub record AreParts (view : View) (bytes : List ℕ) (n : ℕ) : Type 0 where
  pub header : Header
  pub behind : List ℕ
  pub entries : List Entry
  pub tree : BoundTree
  pub headed : bytes ≡ header_bytes header ++ behind
  pub small : header.count < 2 ^ 32
  pub number : header.count ≡ n
  pub counted : length entries ≡ header.count
  pub listed : IsListed behind (node_bytes tree) entries
  pub right : IsRightNode view 44 0 tree
  pub few : length entries ≤ bound_of tree NoAccess
  pub means : Means entries view

pub parts_of : (view : View) (bytes : List ℕ) (n : ℕ) → IsRight view bytes n → AreParts view bytes n
parts_of view bytes n h =
    let spells = h.certificate.spells in
    record {
      header = record { version = h.version; count = length h.entries };
      behind = spells.listed ++ node_bytes h.tree;
      entries = h.entries;
      tree = h.tree;
      headed = spells.spelled;
      small = spells.counted;
      number = h.count;
      counted = refl;
      listed = record { listed = spells.listed; split = refl; spelled = spells.in_order; pages = h.certificate.pages };
      right = record { fits = spells.fits; sound = h.sound; sums = h.certificate.sums };
      few = h.certificate.few;
      means = h.means;
    }

pub whole_read :
    (view : View) (bytes behind middle rest : List ℕ) (header : Header) (entries : List Entry) (tree : BoundTree) → bytes ≡ header_bytes header ++ behind
    → header.count < 2 ^ 32 → length entries ≡ header.count → IsListed behind middle entries → IsRightNode view 44 0 tree → middle ≡ node_bytes tree ++ rest
    → IsReadWhole view bytes rest entries tree
whole_read view bytes behind middle rest header entries tree headed small counted listed right spelled = record {
  header = header;
  behind = behind;
  headed = headed;
  counted = sym counted;
  small = small;
  listed = subst (λ (xs : List ℕ). IsListed behind xs entries) spelled listed;
  right = right;
}

pub right_from_whole :
    (view : View) (bytes rest : List ℕ) (entries : List Entry) (tree : BoundTree) (n : ℕ) → IsReadWhole view bytes rest entries tree → rest ≡ []
    → length entries ≡ n
    → length entries ≤ bound_of tree NoAccess → Means entries view → IsRight view bytes n
right_from_whole view bytes rest entries tree n whole end count few means =
    let listed = whole.listed in
    let behind : whole.behind ≡ listed.listed ++ node_bytes tree =
    listed.split ∙ ap (λ xs. listed.listed ++ (node_bytes tree ++ xs)) end ∙ ap (λ xs. listed.listed ++ xs) (append-nil (node_bytes tree)) in
    let header : header_bytes whole.header ≡ header_bytes (record { version = whole.header.version; count = length entries }) =
    ap (λ m. header_bytes (record { version = whole.header.version; count = m })) whole.counted in
    record {
      version = whole.header.version;
      entries = entries;
      tree = tree;
      certificate = record {
        spells = record {
          listed = listed.listed;
          spelled = whole.headed ∙ ap (λ xs. xs ++ whole.behind) header ∙ ap
              (λ xs. header_bytes (record { version = whole.header.version; count = length entries }) ++ xs) behind;
          counted = (let c = whole.counted in let s = whole.small in omega arith);
          in_order = listed.spelled;
          fits = whole.right.fits;
        };
        pages = listed.pages;
        sums = whole.right.sums;
        few = few;
      };
      sound = whole.right.sound;
      means = means;
      count = count;
    }

-- what a right certificate says
pub fewest_of : (view : View) (bytes : List ℕ) (n : ℕ) → IsRight view bytes n → HoldsFewest view bytes n
fewest_of view bytes n h = record {
  version = h.version;
  entries = h.entries;
  tree = h.tree;
  spells = h.certificate.spells;
  count = h.count;
  fewest = record {
    means = h.means;
    least = λ others m. (let most : bound_of h.tree NoAccess ≤ length others = least view h.tree others h.sound m in let few = h.certificate.few in omega
        arith);
  };
}

pub if_fewest : (view : View) (bytes : List ℕ) (result : Result ℕ CheckRefusal) → IfOk result (IsRight view bytes) → IfOk result (HoldsFewest view bytes)
if_fewest view bytes (Ok n) h = fewest_of view bytes n h
if_fewest view bytes (Err r) h = tt

pub if_least :
    (view : View) (bytes : List ℕ) (result : Result ℕ CheckRefusal) → IfOk result (IsRight view bytes)
    → IfOk result (λ n. (others : List Entry) → Means others view → n ≤ length others)
if_least view bytes (Ok n) h = λ others m.
    (let f = fewest_of view bytes n h in
    let most : length f.entries ≤ length others = f.fewest.least others m in
    let count : length f.entries ≡ n = f.count in
    omega arith)
if_least view bytes (Err r) h = tt

pub right_where : (view : View) (bytes : List ℕ) (result : Result ℕ CheckRefusal) (n : ℕ) → IfOk result (IsRight view bytes) → result ≡ Ok n
    → IsRight view bytes n
right_where view bytes (Ok m) n h e = subst (λ (k : ℕ). IsRight view bytes k) (cc) h
right_where view bytes (Err r) n h e = absurd (cc)
